-- What a version table means: one list of versions for each record.
--     chains t             the chains, each with its newest version first
--     chain t r            the chain r, empty where there is no such chain
--     capacity t           how many versions there can be
--     Sets t r vs T        T is the table t with the versions vs at the chain r: every other chain, and the capacity, are as before
--     pick vs L            what a table holds at the slots of a list
--     Listed vs out n out' the times of the versions stand at the front of a list, whose rest is as it was; n says how many
use Rattle.std.specs.Prelude.{◌≡◌, ℕ, List, [], ◌∷◌, map, length, take, drop, Some, None, vec_items, Option, slice_index_or, slice_set}
use Rattle.std.specs.List.{slice_get}
use Rattle.version_table.specs.declared.table.VersionTable.{VersionTable}
use Rattle.chain.specs.declared.version.Version.{Version}
use Rattle.links.specs.Meaning.{slots, size}

unfoldable pub onto : {X : Type 0} → Option X → List X → List X
onto None L = L
onto (Some x) L = x ∷ L

-- what a table holds at the slots of a list
unfoldable pub pick : {X : Type 0} → List X → List ℕ → List X
pick vs [] = []
pick vs (s ∷ L) = onto (slice_get vs s) (pick vs L)

-- the chains, each with its newest version first
unfoldable pub chains : {C : Type 0} → VersionTable C → List (List (Version C))
chains k = map (pick (vec_items k.versions)) (slots k.links)

-- the chain r, empty where there is no such chain
abbrev pub chain : {C : Type 0} → VersionTable C → ℕ → List (Version C)
chain k r = slice_index_or (chains k) r []

-- how many versions there can be
unfoldable pub capacity : {C : Type 0} → VersionTable C → ℕ
capacity k = size k.links

-- one chain is another list now, and every other chain, and the capacity, are as before
pub record Sets {C : Type 0} (t : VersionTable C) (r : ℕ) (vs : List (Version C)) (T : VersionTable C) : Type 0 where
  pub room : capacity T ≡ capacity t
  pub lists : chains T ≡ slice_set (chains t) r vs

-- the times of the versions stand at the front of a list, whose rest is as it was; n says how many
abbrev pub Listed : {C : Type 0} → List (Version C) → List ℕ → ℕ → List ℕ → Type 0
Listed vs out n out' = (n ≡ length vs) × (take n out' ≡ map (λ v. v.time) vs) × (drop n out' ≡ drop n out)
