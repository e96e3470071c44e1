-- The law of one record's list of versions: pruning keeps what it reads at every open time, and leaves none shorter.
--     Right k os r full vs    the list has falling times and serves, and every list that serves is at least as long
--     RecordLaw k             pruning makes a list right; opening, closing and committing keep it right
use Rattle.std.specs.Prelude.{◌≡◌, ℕ, ◌<◌, ◌⊎◌, List, ◌∷◌}
use Rattle.kind.specs.Kinds.{Ops}
use Rattle.chain.specs.declared.version.Version.{Version}
use Rattle.chain.specs.Versions.{Finished, Open, AtMost, Falling, reading, Serves, Least}
use Rattle.chain.specs.Pruning.{prune}

module _ {Row Edit Change : Type 0} (k : Ops Row Edit Change) where
  pub record Right (os : ℕ → ℕ) (r : Row) (full : ℕ → Row) (vs : List (Version Change)) : Type 0 where
    pub falls : Falling vs
    pub serves : Serves k os r full vs
    pub least : Least k os r full vs

  pub record RecordLaw : Type 0 where
    -- whatever the set of open times: pruning a list with falling times that serves
    pub pruned : (os : ℕ → ℕ) (r : Row) (full : ℕ → Row) (vs : List (Version Change)) →
        Falling vs → Serves k os r full vs → Right os r full (prune k os r vs)
    -- one more time opened, at or above every version, where the history reads the newest finished row
    pub opened : (os more : ℕ → ℕ) (r : Row) (full : ℕ → Row) (vs : List (Version Change)) (s : ℕ) →
        ((t : ℕ) → Open more t → (t ≡ s) ⊎ Open os t) → ((t : ℕ) → Open os t → Open more t) →
        AtMost s vs → k.tells r ≡ k.tells (full s) → Right os r full vs → Right more r full vs
    -- some open times closed, and the list pruned
    pub closed : (os fewer : ℕ → ℕ) (r : Row) (full : ℕ → Row) (vs : List (Version Change)) →
        ((s : ℕ) → Open fewer s → Open os s) → Right os r full vs → Right fewer r full (prune k fewer r vs)
    -- a row finished at a time above every open one, its change put in front of the list, and the list pruned
    pub committed : (os fewer : ℕ → ℕ) (old new first : Row) (hs : List (Finished Row)) (vs : List (Version Change)) (v : Version Change) →
        ((s : ℕ) → Open fewer s → Open os s × (s < v.time)) → AtMost v.time vs →
        k.tells (k.undo new v.change) ≡ k.tells old → Right os old (reading first hs) vs →
        Right fewer new (reading first (record { time = v.time; row = new } ∷ hs)) (prune k fewer new (v ∷ vs))
