use Rattle.std.proofs.Common.{refl, ap, ◌∙◌}
use Rattle.lease.specs.Times.{delete, opens}
use Rattle.history.specs.declared.call.Outcome.TheVariants.{Abandoned}
use Rattle.history.specs.Model.{freed, held_number, all_pruned}
use Rattle.store.specs.View.{view}
use Rattle.store.specs.Calls.{Abandons}
use Rattle.run.proofs.answers.abandon.Goals as goal

pub returns : goal.returns
unfolding Abandons
returns g c =
    let k = g.K.Kind.ops in
    let m = view c.args.store.now in
    let ls = g.R.Registry.leases c.args.registry.now in
    let e = c.abandon.ensures in
    let u = c.take_up.ensures.0 in
    let after = e.1 ∙ ap (λ w. delete w ls) u in
    record {
      outcome = ap Abandoned (e.0 ∙ ap (λ w. held_number w m) u);
      model = e.2 ∙ (λ j. all_pruned k (opens (after j)) (freed k (u j) m));
      leases = after;
      quiet = refl;
    }
