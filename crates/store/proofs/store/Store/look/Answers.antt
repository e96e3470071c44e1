use Rattle.std.proofs.Common.{◌<◌, Some, None, sym, refl, ap, ◌∙◌, subst, arith}
use Rattle.std.proofs.lemmas.Result.{err_from_is_err_and}
use Rattle.lease.specs.Times.{count}
use Rattle.history.specs.declared.fault.StoreFault.{StoreFault}
use Rattle.history.specs.Model.{refused_lease, looks, record_at, no_lease}
use Rattle.history.proofs.Refusals.{no_such, such, not_open, is_open}
use Rattle.state.specs.View.{Placed}
use Rattle.store.specs.Calls.{Looks, LeaseOpen}
use Rattle.store.specs.View.{view}
use Rattle.store.proofs.store.Store.look.Goals as goal

pub returns-in_err-i : goal.returns-in_err-i
unfolding Looks Placed
returns-in_err-i g c =
    let p = err_from_is_err_and c.from_residual.result c.from_residual.ensures.1 in
    let e = c.in_err-i.ensures in
    let ls = g.R.Registry.leases c.args.registry.now in
    rw (p.1, p.2) (no_such (view c.args.self.now) c.args.record (refused_lease ls c.args.writer.now.time None) e.0 ∙ ap (λ (f : StoreFault). Some f) (sym e.1), refl)

pub returns-in_err-ask : goal.returns-in_err-ask
unfolding Looks Placed LeaseOpen
returns-in_err-ask g c =
    let p = err_from_is_err_and c.from_residual-in_err-ask.result c.from_residual-in_err-ask.ensures.1 in
    let ls = g.R.Registry.leases c.args.registry.now in
    let e = c.in_err-ask.ensures in
    let t = c.args.writer.now.time in
    let u = c.number-w.ensures in
    rw (p.1, p.2) (
      such (view c.args.self.now) c.args.record (refused_lease ls t None) c.in_ok-i.ensures.0
          ∙ not_open ls t None (ap (λ n. count n ls) (sym u) ∙ e.0) ∙ ap (λ n. Some (no_lease n)) (sym u) ∙ ap (λ (f : StoreFault). Some f) (sym e.1),
      refl,
    )

pub looked-requires : goal.looked-requires
unfolding Placed
looked-requires g c = omega (arith, c.in_ok-i.ensures.0, c.in_ok-i.ensures.1)

pub returns : goal.returns
unfolding Looks Placed LeaseOpen
returns g c =
    let k = g.K.Kind.ops in
    let m = view c.args.self.now in
    let ls = g.R.Registry.leases c.args.registry.now in
    let e = c.in_ok-i.ensures in
    let t = c.args.writer.now.time in
    let u = c.number-w.ensures in
    let o : 0 < count t ls = subst (λ n. 0 < count n ls) u c.in_ok-ask.ensures in (
      such m c.args.record (refused_lease ls t None) e.0 ∙ is_open ls t None o,
      c.looked.ensures ∙ ap (λ i. looks k (record_at k m i) c.number-w.result) e.1 ∙ ap (λ n. looks k (record_at k m c.args.record) n) u,
    )
