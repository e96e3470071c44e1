use Rattle.std.proofs.Common.{◌≤◌}
use Rattle.chain_cases.proofs.count_cases.differing.Given as goal

abbrev pub invariant-loop-j : goal.invariant-loop-j
invariant-loop-j l = l.n ≤ l.j
