use Rattle.std.proofs.Common.{◌≡◌, ◌++◌, drop, replicate, None, vec_items}
use Rattle.state.proofs.tables.Tables.start.Given as goal

-- the records below i are blank, and those behind are as they were
abbrev pub invariant-loop-i : goal.invariant-loop-i
invariant-loop-i g l = vec_items l.records ≡ replicate l.i (record { row = g.K.Kind.ops.blank; last = l.start; holder = None }) ++ drop l.i (vec_items l.initial.records)
