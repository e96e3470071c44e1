-- Eight figures, as one table: what undoing, joining and pruning give on numbers worked by hand.
--     only i x       a row of fields with x at attribute i and 0 elsewhere
--     sets i x       a change of fields that undoes attribute i to x, written {i: x}
--     version t c    the change c at the time t
--     rows           attribute 0 = 40 with the versions 9 {0: 30}, 6 {0: 20}, 4 {0: 10}
--     returning      attribute 3 = 85 with the versions 9 {3: 87}, 6 {3: 85}
use Rattle.std.specs.Prelude.{◌≡◌, List, [], ◌∷◌, cond, ℕ, ◌-◌, ◌^◌, eqb}
use Rattle.kind.specs.Tables.{table}
use Rattle.fields.specs.declared.Attributes.{Attributes}
use Rattle.fields.specs.declared.Patch.{Patch}
use Rattle.fields.specs.Fields.{row, patch, fields_ops}
use Rattle.tallies.specs.Tallies.{counts, tallies_ops}
use Rattle.lease.specs.Times.{opens}
use Rattle.chain.specs.declared.version.Version.{Version}
use Rattle.chain.specs.Pruning.{prune}

abbrev pub only : ℕ → ℕ → Attributes
only i x = row (table 8 (λ j. cond (eqb i j) x 0))

abbrev pub sets : ℕ → ℕ → Patch
sets i x = patch (2 ^ i) (table 8 (λ j. cond (eqb i j) x 0))

abbrev pub version : ℕ → Patch → Version Patch
version t c = record { time = t; change = c }

-- pruned against these open times
abbrev pub rows : List ℕ → List (Version Patch)
rows ts = prune fields_ops (opens ts) (only 0 40) (version 9 (sets 0 30) ∷ version 6 (sets 0 20) ∷ version 4 (sets 0 10) ∷ [])

abbrev pub returning : List ℕ → List (Version Patch)
returning ts = prune fields_ops (opens ts) (only 3 85) (version 9 (sets 3 87) ∷ version 6 (sets 3 85) ∷ [])

pub record Figures : Type 0 where
  -- undo {3: 8500} at attribute 3 = 8700
  pub undone : fields_ops.undo (only 3 8700) (sets 3 8500) ≡ only 3 8500
  -- join the newer {3: 8700} with the older {1: 7, 3: 8500}: mask 10
  pub joined : fields_ops.join (sets 3 8700) (patch 10 (0 ∷ 7 ∷ 0 ∷ 8500 ∷ 0 ∷ 0 ∷ 0 ∷ 0 ∷ [])) ≡ patch 10 (0 ∷ 7 ∷ 0 ∷ 8500 ∷ 0 ∷ 0 ∷ 0 ∷ 0 ∷ [])
  -- join tallies 5 and 2^64 - 3
  pub wrapped : tallies_ops.join (counts (5 ∷ 0 ∷ 0 ∷ 0 ∷ [])) (counts ((2 ^ 64 - 3) ∷ 0 ∷ 0 ∷ 0 ∷ [])) ≡ counts (2 ∷ 0 ∷ 0 ∷ 0 ∷ [])
  -- open 5; open 4, 6; open 3, 3, 8
  pub at_5 : rows (5 ∷ []) ≡ version 9 (sets 0 20) ∷ []
  pub at_4_6 : rows (4 ∷ 6 ∷ []) ≡ version 9 (sets 0 30) ∷ version 6 (sets 0 20) ∷ []
  pub at_3_3_8 : rows (3 ∷ 3 ∷ 8 ∷ []) ≡ version 9 (sets 0 30) ∷ version 6 (sets 0 10) ∷ []
  -- open 5: a chain that leads back to where it began; open 5, 7: both of its versions
  pub returned : returning (5 ∷ []) ≡ []
  pub apart : returning (5 ∷ 7 ∷ []) ≡ version 9 (sets 3 87) ∷ version 6 (sets 3 85) ∷ []
