use Rattle.std.proofs.Common.{ltb, length, Some, None, sym, refl, ap, ◌∙◌, arith}
use Rattle.std.proofs.lemmas.Result.{err_from_is_err_and}
use Rattle.std.proofs.lemmas.Bool.{lt-ltb, le-ltb}
use Rattle.history.specs.declared.fault.StoreFault.{StoreFault}
use Rattle.history.specs.Law.{times}
use Rattle.history.specs.Model.{record_at, or_else, list_short}
use Rattle.history.proofs.Refusals.{no_such, such, comes, passes}
use Rattle.state.specs.View.{Placed}
use Rattle.store.specs.Calls.{Keeps}
use Rattle.store.specs.View.{view}
use Rattle.store.proofs.store.Store.kept.Goals as goal

pub returns-in_err-i : goal.returns-in_err-i
unfolding Keeps Placed
returns-in_err-i g c =
    let p = err_from_is_err_and c.from_residual.result c.from_residual.ensures.1 in
    let e = c.in_err-i.ensures in
    let m = view c.args.self.now in
    let i = c.args.record in
    let v = length (record_at g.K.Kind.ops m i).chain in
    rw (p.1, p.2) (no_such m i (or_else (ltb (length c.args.out.now) v) (list_short v) None) e.0 ∙ ap (λ (f : StoreFault). Some f) (sym e.1), refl)

pub versions-needed-requires : goal.versions-needed-requires
unfolding Placed
versions-needed-requires g c = omega (arith, c.in_ok-i.ensures.0, c.in_ok-i.ensures.1)

pub returns-then-out-needed : goal.returns-then-out-needed
unfolding Keeps Placed
returns-then-out-needed g c =
    let k = g.K.Kind.ops in
    let m = view c.args.self.now in
    let e = c.in_ok-i.ensures in
    let n = c.versions-needed.ensures ∙ ap (λ z. length (record_at k m z).chain) e.1 in
    let v = length (record_at k m c.args.record).chain in
    let given = length c.args.out.now in (
      such m c.args.record (or_else (ltb given v) (list_short v) None) e.0
          ∙ comes (ltb given v) (list_short v) None (lt-ltb given v (omega (arith, n, c.if-out-needed.true))) ∙ ap (λ z. Some (list_short z)) (sym n) ∙ ap Some (sym c.at.ensures),
      refl,
    )

pub write_times-requires : goal.write_times-requires
unfolding Placed
write_times-requires g c =
    record { within = omega (arith, c.in_ok-i.ensures.0, c.in_ok-i.ensures.1); room = omega (arith, c.versions-needed.ensures, c.if-out-needed.false) }

pub returns : goal.returns
unfolding Keeps Placed
returns g c =
    let k = g.K.Kind.ops in
    let m = view c.args.self.now in
    let e = c.in_ok-i.ensures in
    let n = c.versions-needed.ensures ∙ ap (λ z. length (record_at k m z).chain) e.1 in
    let v = length (record_at k m c.args.record).chain in
    let given = length c.args.out.now in
    let w = c.write_times.ensures in (
      such m c.args.record (or_else (ltb given v) (list_short v) None) e.0 ∙ passes (ltb given v) (list_short v) None (le-ltb given v (omega (arith, n, c.if-out-needed.false))),
      w.0 ∙ ap (λ z. length (record_at k m z).chain) e.1,
      w.1 ∙ ap (λ z. times (record_at k m z).chain) e.1,
      w.2,
    )
