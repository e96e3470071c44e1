use Rattle.std.proofs.Common.{◌≡◌, ◌+◌, ◌≤◌, [], get_or, drop}
use Rattle.chain.specs.Versions.{Falling}
use Rattle.version_table.specs.Chains.{chains}
use Rattle.account.specs.Finishing.{points}
use Rattle.account.proofs.finishing.Tracked.differing.Given as goal

-- where the times fall, the points so far, and those still to come, are all of them
abbrev pub invariant-loop-time : goal.invariant-loop-time
invariant-loop-time g l =
    let k = g.K.Kind.ops in
    let vs = get_or (chains l.self.table) 0 [] in
    (l.n ≤ l.time-index) × (Falling vs → l.n + points k l.self.row vs l.last (drop l.time-index l.times) ≡ points k l.self.row vs l.self.row l.times)
