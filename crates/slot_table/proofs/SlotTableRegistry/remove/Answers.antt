use Rattle.std.proofs.Common.{refl, ◌∙◌, arith}
use Rattle.slot_table.specs.Slots.{taken}
use Rattle.slot_table.proofs.Filling.{count-sorted, times_clear, taken-holds}
use Rattle.slot_table.proofs.SlotTableRegistry.remove.Goals as goal

pub returns-in_default : goal.returns-in_default
returns-in_default c =
    (count-sorted c.args.time (taken c.args.self.now.slots) ∙ c.in_default.ensures, c.not_open.ensures, refl)

pub returns : goal.returns
returns c =
    let xs = c.args.self.now.slots in
    let t = c.args.time in
    let f = c.in-Some.ensures in (
      let l = taken-holds xs c.in-Some.i t f.0 f.1 in let e = count-sorted t (taken xs) in omega arith,
      times_clear xs c.in-Some.i t f.0 f.1,
    )
