use Rattle.std.proofs.Common.{◌≡◌, drop}
use Rattle.lease.specs.Times.{least, sooner}
use Rattle.slot_table.specs.Slots.{taken}
use Rattle.slot_table.proofs.scan.least_held.Given as goal

abbrev pub invariant-loop-slot : goal.invariant-loop-slot
invariant-loop-slot l = sooner l.best (least l.time (taken (drop l.slot-index l.slots))) ≡ least l.time (taken l.slots)
