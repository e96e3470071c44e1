-- The edits that the account makes. Attribute 1 is the number of axles and attribute 3 the empty weight; counter 0 counts
-- loads and counter 1 tonnage.
use Rattle.std.specs.Prelude.{ℕ, [], ◌∷◌, slice_index}
use Rattle.fields.specs.Fields.{patch, fields_tells}
use Rattle.fields.specs.declared.Attributes.{Attributes}
use Rattle.fields.specs.declared.Patch.{Patch}
use Rattle.tallies.specs.Tallies.{counts}
use Rattle.tallies.specs.declared.Counts.{Counts}

abbrev pub weight_set : ℕ → Patch
weight_set kg = patch 8 (0 ∷ 0 ∷ 0 ∷ kg ∷ 0 ∷ 0 ∷ 0 ∷ 0 ∷ [])

abbrev pub axles_set : ℕ → ℕ → Patch
axles_set n kg = patch 10 (0 ∷ n ∷ 0 ∷ kg ∷ 0 ∷ 0 ∷ 0 ∷ 0 ∷ [])

abbrev pub load_added : ℕ → ℕ → Counts
load_added loads kg = counts (loads ∷ kg ∷ 0 ∷ 0 ∷ [])

-- the empty weight that a truck's row tells
abbrev pub weight_told : Attributes → ℕ
weight_told r = slice_index (fields_tells r) 3
