use Rattle.std.proofs.Common.{sym, ◌∙◌}
use Rattle.slot_table.specs.Slots.{taken}
use Rattle.slot_table.proofs.Filling.{least-sorted}
use Rattle.slot_table.proofs.SlotTableRegistry.least_from.Goals as goal

pub returns : goal.returns
returns c = c.least_held.ensures ∙ sym (least-sorted c.args.time (taken c.args.self.now.slots))
