use Rattle.std.proofs.Common.{◌<◌, Some, None, sym, refl, ap, ◌∙◌, subst}
use Rattle.std.proofs.lemmas.Result.{err_from_is_err_and}
use Rattle.lease.specs.Times.{count, delete}
use Rattle.lease.specs.Card.{none_open}
use Rattle.history.specs.Card.{raised}
use Rattle.history.proofs.Refusals.{not_open, is_open}
use Rattle.store.specs.Calls.{Closes}
use Rattle.store.proofs.store.Store.close.Goals as goal

pub returns-in_err-remove : goal.returns-in_err-remove
unfolding Closes
returns-in_err-remove g c =
    let p = err_from_is_err_and c.from_residual.result c.from_residual.ensures.1 in
    let e = c.in_err-remove.ensures in
    let ls = g.R.Registry.leases c.args.registry.now in
    let t = c.args.lease.time in
    let u = c.write_down.ensures in
    rw (p.1, p.2)
    (not_open ls t None (ap (λ n. count n ls) (sym u) ∙ e.0) ∙ ap (λ n. Some (raised (none_open n))) (sym u) ∙ ap (λ f. Some (raised f)) (sym e.1), refl, e.2)

pub returns : goal.returns
unfolding Closes
returns g c =
    let e = c.in_ok-remove.ensures in
    let ls = g.R.Registry.leases c.args.registry.now in
    let u = c.write_down.ensures in
    (is_open ls c.args.lease.time None (subst (λ n. 0 < count n ls) u e.0), e.1 ∙ ap (λ n. delete n ls) u, c.prune_all.ensures)
