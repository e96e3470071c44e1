use Rattle.std.proofs.Common.{◌≡◌, ◌+◌, ◌≤◌, length, drop}
use Rattle.slot_table.specs.Slots.{taken}
use Rattle.slot_table.proofs.scan.held.Given as goal

abbrev pub invariant-loop-slot : goal.invariant-loop-slot
invariant-loop-slot l = (l.n ≤ l.slot-index) × (l.n + length (taken (drop l.slot-index l.slots)) ≡ length (taken l.slots))
