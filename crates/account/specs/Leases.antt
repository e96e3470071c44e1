-- What a registry is asked.
--     stands ls t    the number of leases at t and in all, and the least open time
use Rattle.std.specs.Prelude.{ℕ, List, length}
use Rattle.lease.specs.Times.{count, least as lowest}
use Rattle.account.specs.declared.asking.Standing.{Standing}

abbrev pub stands : List ℕ → ℕ → Standing
stands ls t = record { there = count t ls; in_all = length ls; least = lowest 0 ls }
