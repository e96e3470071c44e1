-- A row is known by its four counters.
use Rattle.std.proofs.Common.{◌≡◌, ℕ, ◌<◌, length, get_or, ap}
use Rattle.kind.proofs.Tables.{is_table}
use Rattle.tallies.specs.declared.Counts.{Counts}
use Rattle.tallies.specs.Tallies.{counts, add64, sub64, plus, minus}

module _ (x y r : Counts) (long : length r.values ≡ 4) where
  pub added : ((i : ℕ) → i < 4 → get_or r.values i 0 ≡ add64 (get_or x.values i 0) (get_or y.values i 0)) → r ≡ plus x y
  added at = ap counts (is_table 4 r.values (λ i. add64 (get_or x.values i 0) (get_or y.values i 0)) long at)

  pub taken_off : ((i : ℕ) → i < 4 → get_or r.values i 0 ≡ sub64 (get_or x.values i 0) (get_or y.values i 0)) → r ≡ minus x y
  taken_off at = ap counts (is_table 4 r.values (λ i. sub64 (get_or x.values i 0) (get_or y.values i 0)) long at)
