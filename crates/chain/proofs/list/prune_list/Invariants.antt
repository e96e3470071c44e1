use Rattle.std.proofs.Common.{◌≡◌, ◌<◌, ◌≤◌, length, drop}
use Rattle.lease.specs.Times.{opens}
use Rattle.chain.specs.Pruning.{prune}
use Rattle.chain.proofs.InPlace.{Rest}
use Rattle.chain.proofs.list.prune_list.Given as goal

-- the kept versions, then what pruning makes of the one at hand and those to come, is the whole; the places behind are as they were
abbrev pub invariant-loop-i : goal.invariant-loop-i
invariant-loop-i g l =
    let k = g.K.Kind.ops in
    let os = opens (g.R.Registry.leases l.registry) in
    (l.kept < l.i) × (l.i ≤ l.n) × (l.n ≡ length l.versions) × (Rest k os l.kept l.i l.reached l.hand l.versions ≡ prune k os l.initial.reached l.initial.versions) × (drop l.kept l.versions ≡ drop l.kept l.initial.versions)
