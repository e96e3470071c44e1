use Rattle.std.proofs.Common.{◌≡◌}
use Rattle.slot_table.specs.Slots.{slot_times}
use Rattle.account.proofs.counters.more_loads.Given as goal

abbrev pub invariant-loop-yard : goal.invariant-loop-yard
invariant-loop-yard g l = slot_times l.counters.registry.slots ≡ slot_times l.initial.counters.registry.slots
