-- Masks of bits over the places of a list.
--     has m i               the mask m has bit i
--     either_at m xs ys i   at the place i: what xs has there if the mask has bit i, else what ys has
use Rattle.std.specs.Prelude.{ℕ, ◌/◌, ◌%◌, ◌^◌, Bool, cond, List, ◌==◌, slice_index}

abbrev pub has : ℕ → ℕ → Bool
has m i = m / 2 ^ i % 2 == 1

abbrev pub either_at : ℕ → List ℕ → List ℕ → ℕ → ℕ
either_at m xs ys i = cond (has m i) (slice_index xs i) (slice_index ys i)
