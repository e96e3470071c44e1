use Rattle.std.proofs.Common.{sym, ◌∙◌}
use Rattle.slot_table.specs.Slots.{taken}
use Rattle.slot_table.proofs.Filling.{count-sorted}
use Rattle.slot_table.proofs.SlotTableRegistry.count_at.Goals as goal

pub returns : goal.returns
returns c = c.held_at.ensures ∙ sym (count-sorted c.args.time (taken c.args.self.now.slots))
