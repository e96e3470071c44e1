use Rattle.std.proofs.Common.{◌≡◌, ◌+◌, ◌++◌, map, length, take, drop}
use Rattle.version_table.proofs.walk.write_times.Given as goal

abbrev pub invariant-loop-version : goal.invariant-loop-version
invariant-loop-version g l =
    (goal.iterator-loop-version g).can_next l.version-iterator
    × (goal.iterator-loop-version g).is_finite l.version-iterator
    × (take l.n l.out ++ map (λ v. v.time) l.version-iterator ≡ map (λ v. v.time) l.fn.versions)
    × (drop l.n l.out ≡ drop l.n l.fn.out)
    × (l.n + length l.version-iterator ≡ length l.fn.versions)
