use Rattle.std.proofs.Common.{◌≡◌}
use Rattle.chain.specs.Versions.{Falling, reads}
use Rattle.version_table.proofs.walk.lead_back.Given as goal

-- where the times fall: those that are left fall too, and undone from the row at hand they are the whole
abbrev pub invariant-loop-version : goal.invariant-loop-version
invariant-loop-version g l =
    (goal.iterator-loop-version g).can_next l.version-iterator
    × (goal.iterator-loop-version g).is_finite l.version-iterator
    × (Falling l.fn.versions → Falling l.version-iterator × (reads g.K.Kind.ops l.reached l.version-iterator l.t ≡ reads g.K.Kind.ops l.fn.row l.fn.versions l.t))
