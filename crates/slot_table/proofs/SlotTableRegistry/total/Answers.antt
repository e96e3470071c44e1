use Rattle.std.proofs.Common.{sym, ◌∙◌}
use Rattle.slot_table.specs.Slots.{taken}
use Rattle.slot_table.proofs.Filling.{length-sorted}
use Rattle.slot_table.proofs.SlotTableRegistry.total.Goals as goal

pub returns : goal.returns
returns c = c.held.ensures ∙ sym (length-sorted (taken c.args.self.now.slots))
