use Rattle.std.proofs.Common.{◌≡◌, ◌++◌, length, take, drop, set}
use Rattle.std.specs.List.{slice_get}
use Rattle.lease.specs.Times.{opens}
use Rattle.chain.specs.Pruning.{prune}
use Rattle.links.specs.Meaning.{Stands}
use Rattle.version_table.specs.Chains.{chains, chain, capacity}
use Rattle.version_table.proofs.prune.prune_from.Given as goal

-- the cursor stands at its place, whose version is at hand; the versions before it, then what pruning makes of the rest, are the whole
abbrev pub invariant-loop-at : goal.invariant-loop-at
invariant-loop-at g l =
    let ops = g.K.Kind.ops in
    let os = opens (g.R.Registry.leases l.registry) in
    let r = l.here.list in
    let k = l.here.place in
    let C = chain l.table r in
    let k₀ = l.initial.here.place in
    let C₀ = chain l.initial.table r in
    (r ≡ l.initial.here.list) × Stands l.table.links l.here × (capacity l.table ≡ capacity l.initial.table) × (chains l.table ≡ set (chains l.initial.table) r C) × (take k C ++ prune ops os l.reached (drop k C) ≡ take k₀ C₀ ++ prune ops os l.initial.reached (drop k₀ C₀)) × (l.at ≡ slice_get C k)

abbrev pub decreases-loop-at : goal.decreases-loop-at
decreases-loop-at g l = length (drop l.here.place (chain l.table l.here.list))
