-- Four counters modulo 2^64.
--     counts xs             a row, an edit or a change of these four numbers
--     add64, sub64          sum and difference modulo 2^64
--     tallies_tells r       the four counters, as numbers of 64 bits
--     plus x y, minus x y   counter by counter
use Rattle.std.specs.Prelude.{List, ℕ, ◌+◌, ◌-◌, ◌%◌, ◌^◌, get_or}
use Rattle.kind.specs.Kinds.{Ops}
use Rattle.kind.specs.Tables.{table}
use Rattle.tallies.specs.declared.Counts.{Counts}

abbrev pub counts : List ℕ → Counts
counts xs = record { values = xs }

abbrev pub add64 : ℕ → ℕ → ℕ
add64 x y = (x + y) % 2 ^ 64

abbrev pub sub64 : ℕ → ℕ → ℕ
sub64 x y = (x + (2 ^ 64 - y % 2 ^ 64)) % 2 ^ 64

abbrev pub tallies_tells : Counts → List ℕ
tallies_tells r = table 4 (λ i. get_or r.values i 0 % 2 ^ 64)

abbrev pub plus : Counts → Counts → Counts
plus x y = counts (table 4 (λ i. add64 (get_or x.values i 0) (get_or y.values i 0)))

abbrev pub minus : Counts → Counts → Counts
minus x y = counts (table 4 (λ i. sub64 (get_or x.values i 0) (get_or y.values i 0)))

abbrev pub tallies_ops : Ops Counts Counts Counts
tallies_ops = record {
  tells = tallies_tells;
  blank = counts (table 4 (λ _. 0));
  edited = plus;
  before = λ r e. e;
  undo = minus;
  join = plus;
  none = counts (table 4 (λ _. 0));
}
