use Rattle.std.proofs.Common.{◌≡◌, length, take, drop, set}
use Rattle.links.specs.Meaning.{Stands}
use Rattle.version_table.specs.Chains.{chains, chain, capacity}
use Rattle.version_table.proofs.table.VersionTable.drop_from.Given as goal

-- the cursor stands where it stood, and the versions before it are as they were
abbrev pub invariant-loop-slot : goal.invariant-loop-slot
invariant-loop-slot g l =
    let r = l.cursor.list in
    let k = l.cursor.place in
    Stands l.self.links l.cursor × (capacity l.self ≡ capacity l.initial.self) × (chains l.self ≡ set (chains l.initial.self) r (chain l.self r)) × (take k (chain l.self r) ≡ take k (chain l.initial.self r))

abbrev pub decreases-loop-slot : goal.decreases-loop-slot
decreases-loop-slot g l = length (drop l.cursor.place (chain l.self l.cursor.list))
