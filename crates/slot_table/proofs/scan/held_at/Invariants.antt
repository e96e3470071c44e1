use Rattle.std.proofs.Common.{◌≡◌, ◌+◌, ◌≤◌, drop}
use Rattle.lease.specs.Times.{count}
use Rattle.slot_table.specs.Slots.{taken}
use Rattle.slot_table.proofs.scan.held_at.Given as goal

abbrev pub invariant-loop-slot : goal.invariant-loop-slot
invariant-loop-slot l = (l.n ≤ l.slot-index) × (l.n + count l.time (taken (drop l.slot-index l.slots)) ≡ count l.time (taken l.slots))
