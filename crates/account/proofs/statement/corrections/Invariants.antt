use Rattle.std.proofs.Common.{◌≡◌}
use Rattle.sorted_list.specs.Entries.{times}
use Rattle.account.proofs.statement.corrections.Given as goal

abbrev pub invariant-loop-kg : goal.invariant-loop-kg
invariant-loop-kg g l = times l.trucks.registry.entries.items ≡ times l.initial.trucks.registry.entries.items
