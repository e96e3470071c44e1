-- What a list of versions reads, when it serves a record, and when none that serves is shorter.
--     Finished Row           a finished row and its time
--     Open os s              at the time s a lease is open; os gives the number of leases open at each time
--     AtMost s vs            no version of the list has a time above s
--     Falling vs             the times of the list fall: newest version first
--     reading first hs s     of a record's finished rows, newest first: the newest whose time is at most s (`first` below them all)
--     reads k r vs s         what the list reads at s: from the row r, in list order, every version whose time is above s is undone
--     Serves k os r full vs  at every open time the list reads a row that tells what `full` tells there
--     Least k os r full vs   every list of versions that serves, of any times in any order, is at least as long
use Rattle.std.specs.Prelude.{◌≡◌, ℕ, ◌<◌, ◌≤◌, cond, List, [], ◌∷◌, length, nat_le, nat_lt}
use Rattle.kind.specs.Kinds.{Ops}
use Rattle.chain.specs.declared.version.Version.{Version}

pub record Finished (Row : Type 0) : Type 0 where
  pub time : ℕ
  pub row : Row

abbrev pub Open : (ℕ → ℕ) → ℕ → Type 0
Open os s = 0 < os s

abbrev pub AtMost : {Change : Type 0} → ℕ → List (Version Change) → Type 0
AtMost s [] = Unit {0}
AtMost s (v ∷ vs) = (v.time ≤ s) × AtMost s vs

abbrev pub Falling : {Change : Type 0} → List (Version Change) → Type 0
Falling [] = Unit {0}
Falling (v ∷ vs) = AtMost v.time vs × Falling vs

abbrev pub reading : {Row : Type 0} → Row → List (Finished Row) → ℕ → Row
reading first [] s = first
reading first (h ∷ hs) s = cond (nat_le h.time s) h.row (reading first hs s)

module _ {Row Edit Change : Type 0} (k : Ops Row Edit Change) where
  abbrev pub reads : Row → List (Version Change) → ℕ → Row
  reads r [] s = r
  reads r (v ∷ vs) s = reads (cond (nat_lt s v.time) (k.undo r v.change) r) vs s

  abbrev pub Serves : (ℕ → ℕ) → Row → (ℕ → Row) → List (Version Change) → Type 0
  Serves os r full vs = (s : ℕ) → Open os s → k.tells (reads r vs s) ≡ k.tells (full s)

  abbrev pub Least : (ℕ → ℕ) → Row → (ℕ → Row) → List (Version Change) → Type 0
  Least os r full vs = (other : List (Version Change)) → Serves os r full other → length vs ≤ length other
