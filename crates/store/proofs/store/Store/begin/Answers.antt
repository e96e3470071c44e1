use Rattle.std.proofs.Common.{◌+◌, eqb, length, Some, None, sym, refl, ap, ◌∙◌, subst, arith}
use Rattle.std.proofs.lemmas.Result.{err_from_is_err_and}
use Rattle.std.proofs.lemmas.Bool.{eq-eqb, ne_eqb}
use Rattle.lease.specs.Times.{insert}
use Rattle.lease.specs.Tokens.{At}
use Rattle.history.specs.Card.{raised}
use Rattle.history.specs.History.{limit}
use Rattle.history.specs.Model.{leases_used, clock_limit, refused_open}
use Rattle.history.proofs.Refusals.{comes, passes}
use Rattle.store.specs.Calls.{Begins}
use Rattle.store.specs.View.{view}
use Rattle.store.proofs.store.Store.begin.Goals as goal

pub returns-then-now : goal.returns-then-now
unfolding Begins
returns-then-now g c =
    let m = view c.args.self.now in
    let u = c.clock-now.ensures in (
      comes (eqb m.clock limit) (clock_limit m.clock) (refused_open g.R.Registry.capacity (g.R.Registry.leases c.args.registry.now)) (eq-eqb m.clock limit (sym u ∙ c.if-now.true)) ∙ ap (λ t. Some (clock_limit t)) (sym (c.from.ensures ∙ u)) ∙ ap Some (sym c.at.ensures),
      refl,
      refl,
    )

pub returns-in_err-add : goal.returns-in_err-add
unfolding Begins
returns-in_err-add g c =
    let p = err_from_is_err_and c.from_residual.result c.from_residual.ensures.1 in
    let e = c.in_err-add.ensures in
    let m = view c.args.self.now in
    let cap = g.R.Registry.capacity in
    let ls = g.R.Registry.leases c.args.registry.now in
    rw (p.1, p.2) (
      passes (eqb m.clock limit) (clock_limit m.clock) (refused_open cap ls) (ne_eqb m.clock limit (λ q. c.if-now.false (c.clock-now.ensures ∙ q)))
          ∙ comes (eqb (length ls) cap) (leases_used cap) None (eq-eqb (length ls) cap e.0) ∙ ap (λ f. Some (raised f)) (sym e.1),
      refl,
      e.2,
    )

pub tick-requires : goal.tick-requires
tick-requires g c = λ q. c.if-now.false (c.clock-now.ensures ∙ q)

pub returns : goal.returns
unfolding Begins
returns g c =
    let e = c.in_ok-add.ensures in
    let m = view c.args.self.now in
    let u = c.clock-now.ensures in
    let cap = g.R.Registry.capacity in
    let ls = g.R.Registry.leases c.args.registry.now in (
      passes (eqb m.clock limit) (clock_limit m.clock) (refused_open cap ls) (ne_eqb m.clock limit (λ q. c.if-now.false (u ∙ q)))
          ∙ passes (eqb (length ls) cap) (leases_used cap) None (ne_eqb (length ls) cap (λ q. omega (arith, q, e.0))),
      subst (λ t. At (t + 1) c.take_up.result) u c.take_up.ensures,
      c.tick.ensures,
      e.1 ∙ ap (λ t. insert (t + 1) ls) u,
    )
