use Rattle.std.proofs.Common.{◌<◌, Some, sym, refl, ap, ◌∙◌, subst, arith}
use Rattle.std.proofs.lemmas.Result.{err_from_is_err_and}
use Rattle.lease.specs.Times.{count}
use Rattle.history.specs.declared.fault.StoreFault.{StoreFault}
use Rattle.history.specs.Model.{changed, refused_lease, refused_own, no_lease}
use Rattle.history.proofs.Refusals.{no_such, such, not_open, is_open}
use Rattle.state.specs.View.{Placed, Owned}
use Rattle.store.specs.Calls.{Changes, LeaseOpen}
use Rattle.store.specs.View.{view}
use Rattle.store.proofs.store.Store.change.Goals as goal

pub returns-in_err-i : goal.returns-in_err-i
unfolding Changes Placed
returns-in_err-i g c =
    let p = err_from_is_err_and c.from_residual.result c.from_residual.ensures.1 in
    let e = c.in_err-i.ensures in
    let m = view c.args.self.now in
    let ls = g.R.Registry.leases c.args.registry.now in
    let w = c.args.writer.now.time in
    rw (p.1, p.2) (no_such m c.args.record (refused_lease ls w (refused_own g.K.Kind.ops m w c.args.record)) e.0 ∙ ap (λ (f : StoreFault). Some f) (sym e.1), refl)

pub returns-in_err-ask : goal.returns-in_err-ask
unfolding Changes Placed LeaseOpen
returns-in_err-ask g c =
    let p = err_from_is_err_and c.from_residual-in_err-ask.result c.from_residual-in_err-ask.ensures.1 in
    let m = view c.args.self.now in
    let ls = g.R.Registry.leases c.args.registry.now in
    let e = c.in_err-ask.ensures in
    let w = c.args.writer.now.time in
    let u = c.number-w.ensures in
    let own = refused_own g.K.Kind.ops m w c.args.record in
    rw (p.1, p.2) (
      such m c.args.record (refused_lease ls w own) c.in_ok-i.ensures.0
          ∙ not_open ls w own (ap (λ n. count n ls) (sym u) ∙ e.0) ∙ ap (λ n. Some (no_lease n)) (sym u) ∙ ap (λ (f : StoreFault). Some f) (sym e.1),
      refl,
    )

pub may_change-requires : goal.may_change-requires
unfolding Placed
may_change-requires g c = omega (arith, c.in_ok-i.ensures.0, c.in_ok-i.ensures.1)

pub returns-in_err-may_change : goal.returns-in_err-may_change
unfolding Changes Placed LeaseOpen Owned
returns-in_err-may_change g c =
    let p = err_from_is_err_and c.from_residual-in_err-may_change.result c.from_residual-in_err-may_change.ensures.1 in
    let k = g.K.Kind.ops in
    let m = view c.args.self.now in
    let ls = g.R.Registry.leases c.args.registry.now in
    let e = c.in_ok-i.ensures in
    let w = c.args.writer.now.time in
    let u = c.number-w.ensures in
    let own = refused_own k m w c.args.record in
    let o : 0 < count w ls = subst (λ n. 0 < count n ls) u c.in_ok-ask.ensures in
    rw (p.1, p.2) (
      such m c.args.record (refused_lease ls w own) e.0 ∙ is_open ls w own o
          ∙ ap (λ i. refused_own k m w i) (sym e.1) ∙ ap (λ n. refused_own k m n c.in_ok-i.i) (sym u) ∙ c.in_err-may_change.ensures,
      refl,
    )

pub put-requires : goal.put-requires
unfolding Placed Owned
put-requires g c = record { within = omega (arith, c.in_ok-i.ensures.0, c.in_ok-i.ensures.1); owned = c.in_ok-may_change.ensures }

pub returns : goal.returns
unfolding Changes Placed LeaseOpen Owned
returns g c =
    let k = g.K.Kind.ops in
    let m = view c.args.self.now in
    let ls = g.R.Registry.leases c.args.registry.now in
    let e = c.in_ok-i.ensures in
    let w = c.args.writer.now.time in
    let u = c.number-w.ensures in
    let own = refused_own k m w c.args.record in
    let o : 0 < count w ls = subst (λ n. 0 < count n ls) u c.in_ok-ask.ensures in (
      such m c.args.record (refused_lease ls w own) e.0 ∙ is_open ls w own o
          ∙ ap (λ i. refused_own k m w i) (sym e.1) ∙ ap (λ n. refused_own k m n c.in_ok-i.i) (sym u) ∙ c.in_ok-may_change.ensures,
      c.put.ensures ∙ ap (λ i. changed k m c.number-w.result i c.args.edit) e.1 ∙ ap (λ n. changed k m n c.args.record c.args.edit) u,
    )
