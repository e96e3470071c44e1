use Rattle.std.proofs.Common.{ap, ◌∙◌}
use Rattle.lease.specs.Times.{delete, opens}
use Rattle.history.specs.Model.{held_number, all_pruned, freed}
use Rattle.history.proofs.Refusals.{removed_if}
use Rattle.store.specs.Calls.{Abandons}
use Rattle.store.specs.View.{view}
use Rattle.store.proofs.store.Store.abandon.Goals as goal

pub returns : goal.returns
unfolding Abandons
returns g c =
    let k = g.K.Kind.ops in
    let m = view c.args.self.now in
    let u = c.write_down-w.ensures in
    let G = c.remove-ended.new.self in
    let ls = g.R.Registry.leases c.args.registry.now in (
      c.holds-n.ensures ∙ ap (λ n. held_number n m) u,
      removed_if g.R.Registry.leases c.write_down-w.result c.args.registry.now G c.remove-ended.result c.remove-ended.ensures ∙ ap (λ n. delete n ls) u,
      c.prune_all.ensures ∙ ap (all_pruned k (opens (g.R.Registry.leases G))) (c.free_all.ensures ∙ ap (λ n. freed k n m) u),
    )
