use Rattle.std.proofs.Common.{◌≡◌, ◌+◌, ◌≤◌, length}
use Rattle.account.proofs.asking.fill.Given as goal

-- n leases more than at first, and no more than turns
abbrev pub invariant-loop-i : goal.invariant-loop-i
invariant-loop-i g l = let leases = g.R.Registry.leases in (l.n ≤ l._i) × (length (leases l.registry) ≡ length (leases l.initial.registry) + l.n)
