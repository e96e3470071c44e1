use Rattle.std.proofs.Common.{eqb, length, Some, None, sym, ap, ◌∙◌, subst, arith}
use Rattle.std.proofs.lemmas.Result.{err_from_is_err_and}
use Rattle.std.proofs.lemmas.Bool.{eq-eqb, ne_eqb}
use Rattle.lease.specs.Times.{insert}
use Rattle.lease.specs.Tokens.{At}
use Rattle.history.specs.Card.{raised}
use Rattle.history.specs.Model.{leases_used}
use Rattle.history.proofs.Refusals.{comes, passes}
use Rattle.store.specs.Calls.{Opens}
use Rattle.store.proofs.store.Store.open.Goals as goal

pub returns-in_err-add : goal.returns-in_err-add
unfolding Opens
returns-in_err-add g c =
    let p = err_from_is_err_and c.from_residual.result c.from_residual.ensures.1 in
    let e = c.in_err-add.ensures in
    let cap = g.R.Registry.capacity in
    let ls = g.R.Registry.leases c.args.registry.now in
    rw (p.1, p.2) (comes (eqb (length ls) cap) (leases_used cap) None (eq-eqb (length ls) cap e.0) ∙ ap (λ f. Some (raised f)) (sym e.1), e.2)

pub returns : goal.returns
unfolding Opens
returns g c =
    let e = c.in_ok-add.ensures in
    let u = c.clock-t.ensures in
    let cap = g.R.Registry.capacity in
    let ls = g.R.Registry.leases c.args.registry.now in (
      passes (eqb (length ls) cap) (leases_used cap) None (ne_eqb (length ls) cap (λ q. omega (arith, q, e.0))),
      subst (λ t. At t c.take_up.result) u c.take_up.ensures,
      e.1 ∙ ap (λ t. insert t ls) u,
    )
