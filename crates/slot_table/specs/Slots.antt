-- What a table of slots means: a slot is empty, or holds the time of one lease.
--     taken xs         the times in the slots that are not empty, in the order of the slots
--     sorted l         the same times in rising order
--     slot_times xs    the open times, as a registry means them
--     slot_count       how many slots there are, and so the capacity
--     Free, Holding    what a search for an empty slot, or for one that holds a time, answers
use Rattle.std.specs.Prelude.{◌≡◌, ℕ, ◌<◌, List, [], ◌∷◌, length, Some, None, Option, slice_index_or}
use Rattle.lease.specs.Times.{insert, count}

abbrev pub taken : List (Option ℕ) → List ℕ
taken [] = []
taken (None ∷ xs) = taken xs
taken (Some t ∷ xs) = t ∷ taken xs

abbrev pub sorted : List ℕ → List ℕ
sorted [] = []
sorted (t ∷ l) = insert t (sorted l)

abbrev pub slot_times : List (Option ℕ) → List ℕ
slot_times xs = sorted (taken xs)

abbrev pub slot_count : ℕ
slot_count = 8

abbrev pub Free : List (Option ℕ) → Option ℕ → Type 0
Free xs None = length (taken xs) ≡ length xs
Free xs (Some i) = (i < length xs) × (slice_index_or xs i None ≡ None)

abbrev pub Holding : ℕ → List (Option ℕ) → Option ℕ → Type 0
Holding t xs None = count t (taken xs) ≡ 0
Holding t xs (Some i) = (i < length xs) × (slice_index_or xs i None ≡ Some t)
