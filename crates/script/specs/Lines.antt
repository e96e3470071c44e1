-- The lines of a script.
--     lines bs             the script's lines: each ends at a line feed or at the script's end; a last line feed begins no line, but an empty script is one line
--     lines_left bs a n    the lines from the place a on, once n lines were read
use Rattle.std.specs.Prelude.{ℕ, cond, List, [], ◌∷◌, drop, ◌==◌}

-- a byte in front of the first of some lines
abbrev pub onto : ℕ → List (List ℕ) → List (List ℕ)
onto c [] = (c ∷ []) ∷ []
onto c (l ∷ ls) = (c ∷ l) ∷ ls

abbrev pub rows : List ℕ → List (List ℕ)
rows [] = []
rows (c ∷ cs) = cond (c == 10) ([] ∷ rows cs) (onto c (rows cs))

abbrev pub lines : List ℕ → List (List ℕ)
lines [] = [] ∷ []
lines (c ∷ cs) = rows (c ∷ cs)

unfoldable pub lines_left : List ℕ → ℕ → ℕ → List (List ℕ)
lines_left bs a n = cond (n == 0) (lines (drop a bs)) (rows (drop a bs))
