use Rattle.std.proofs.Common.{ltb, length, Some, None, sym, refl, ap, ◌∙◌, arith}
use Rattle.std.proofs.lemmas.Bool.{lt-ltb, le-ltb}
use Rattle.history.specs.Model.{held_number, held_from, owners, list_short}
use Rattle.history.proofs.Refusals.{comes, passes}
use Rattle.store.specs.Calls.{Holds}
use Rattle.store.specs.View.{view}
use Rattle.store.proofs.store.Store.held.Goals as goal

pub returns-then-out-needed : goal.returns-then-out-needed
unfolding Holds
returns-then-out-needed g c =
    let m = view c.args.self.now in
    let n = c.holds-needed.ensures ∙ ap (λ z. held_number z m) c.number-w.ensures in
    let v = held_number c.args.writer.now.time m in
    let given = length c.args.out.now in
    (comes (ltb given v) (list_short v) None (lt-ltb given v (omega (arith, n, c.if-out-needed.true))) ∙ ap (λ z. Some (list_short z)) (sym n) ∙ ap Some (sym c.at.ensures), refl)

pub write_held-requires : goal.write_held-requires
write_held-requires g c = omega (arith, c.holds-needed.ensures, c.if-out-needed.false)

pub returns : goal.returns
unfolding Holds
returns g c =
    let m = view c.args.self.now in
    let u = c.number-w.ensures in
    let n = c.holds-needed.ensures ∙ ap (λ z. held_number z m) u in
    let v = held_number c.args.writer.now.time m in
    let given = length c.args.out.now in (
      passes (ltb given v) (list_short v) None (le-ltb given v (omega (arith, n, c.if-out-needed.false))),
      c.write_held.ensures.number ∙ ap (λ z. held_number z m) u,
      c.write_held.ensures.front ∙ ap (λ z. held_from z 0 (owners m.records)) u,
      c.write_held.ensures.rest,
    )
