use Rattle.std.proofs.Common.{◌≡◌, false, ◌&&◌, eqb, ltb, Some, None, sym, refl, ap, ◌∙◌}
use Rattle.std.proofs.lemmas.Result.{err_from_is_err_and}
use Rattle.history.specs.declared.fault.StoreFault.{StoreFault}
use Rattle.history.specs.Card.{raised}
use Rattle.history.specs.History.{limit}
use Rattle.history.specs.Model.{or_else, held_number, clock_limit}
use Rattle.history.proofs.Refusals.{comes, passes, not_open, is_open, at_limit, none_held, below_limit}
use Rattle.store.specs.Calls.{Ends, LeaseOpen}
use Rattle.store.specs.View.{view}
use Rattle.store.proofs.store.Store.end_lease.Goals.{else-n-gt0-via-then-n-gt0+else-now, else-n-gt0-via-else-n-gt0}
use Rattle.store.proofs.store.Store.end_lease.Goals as goal

pub returns-in_err-ask : goal.returns-in_err-ask
unfolding Ends LeaseOpen
returns-in_err-ask g c =
    let p = err_from_is_err_and c.from_residual.result c.from_residual.ensures.1 in
    let e = c.in_err-ask.ensures in
    let m = view c.args.self.now in
    let w = c.args.w in
    let ls = g.R.Registry.leases c.args.registry.now in
    rw (p.1, p.2) (not_open ls w (or_else (ltb 0 (held_number w m) && eqb m.clock limit) (clock_limit m.clock) None) e.0 ∙ ap (λ (z : StoreFault). Some z) (sym e.1), refl)

pub returns-then-now : goal.returns-then-now
unfolding Ends LeaseOpen
returns-then-now g c =
    let m = view c.args.self.now in
    let w = c.args.w in
    let u = c.clock-now.ensures in
    let ls = g.R.Registry.leases c.args.registry.now in
    let b = ltb 0 (held_number w m) && eqb m.clock limit in (
      is_open ls w (or_else b (clock_limit m.clock) None) c.in_ok-ask.ensures
          ∙ comes b (clock_limit m.clock) None (at_limit m c.args.n w c.requires c.if-n-gt0.true (sym u ∙ c.if-now.true)) ∙ ap (λ t. Some (clock_limit t)) (sym (c.from.ensures ∙ u)) ∙ ap Some (sym c.at.ensures),
      refl,
    )

pub returns-in_err-remove : goal.returns-in_err-remove
unfolding Ends
returns-in_err-remove g c =
    let p = err_from_is_err_and c.from_residual-in_err-remove.result c.from_residual-in_err-remove.ensures.1 in
    let e = c.in_err-remove.ensures in
    let m = view c.args.self.now in
    let w = c.args.w in
    let ls = g.R.Registry.leases c.args.registry.now in
    rw (p.1, p.2) (not_open ls w (or_else (ltb 0 (held_number w m) && eqb m.clock limit) (clock_limit m.clock) None) e.0 ∙ ap (λ f. Some (raised f)) (sym e.1), e.2)

pub returns : goal.returns
unfolding Ends
returns g c =
    let e = c.in_ok-remove.ensures in
    let m = view c.args.self.now in
    let w = c.args.w in
    let ls = g.R.Registry.leases c.args.registry.now in
    let b = ltb 0 (held_number w m) && eqb m.clock limit in
    let nb : b ≡ false =
    elim c.else-n-gt0.branch [
      | else-n-gt0-via-then-n-gt0+else-now u ↦ below_limit m c.args.n w c.requires (λ q. u.if-now.false (c.clock-now.ensures ∙ q))
      | else-n-gt0-via-else-n-gt0 u ↦ none_held m c.args.n w c.requires u.if-n-gt0.false
    ] in
    (is_open ls w (or_else b (clock_limit m.clock) None) e.0 ∙ passes b (clock_limit m.clock) None nb, e.1)
