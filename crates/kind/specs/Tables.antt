-- Rows of a fixed number of places.
--     table n f    the list f 0, f 1, .. of n numbers
use Rattle.std.specs.Prelude.{ℕ, zero, suc, ◌+◌, List, [], ◌∷◌}

-- from the place i on
abbrev pub table_from : ℕ → ℕ → (ℕ → ℕ) → List ℕ
table_from i zero f = []
table_from i (suc n) f = f i ∷ table_from (i + 1) n f

abbrev pub table : ℕ → (ℕ → ℕ) → List ℕ
table n f = table_from 0 n f
