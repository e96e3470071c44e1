use Rattle.std.proofs.Common.{refl, ◌∙◌, arith}
use Rattle.slot_table.specs.Slots.{taken}
use Rattle.slot_table.proofs.Filling.{length-sorted, times-set, taken_less}
use Rattle.slot_table.proofs.SlotTableRegistry.add.Goals as goal

pub returns-in_default : goal.returns-in_default
returns-in_default c =
    (length-sorted (taken c.args.self.now.slots) ∙ c.in_default.ensures ∙ omega arith, c.at_capacity.ensures, refl)

pub returns : goal.returns
returns c =
    let xs = c.args.self.now.slots in
    let f = c.in-Some.ensures in (
      let l = taken_less xs c.in-Some.i f.0 f.1 in let e = length-sorted (taken xs) in omega arith,
      times-set xs c.in-Some.i c.args.time f.0 f.1,
    )
