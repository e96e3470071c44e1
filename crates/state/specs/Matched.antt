-- When the record table and the chains fit each other.
--     backed o vs                    the change of the holder o is there: the first of the list
--     matched rs cs                  one chain for each record, and each holder's change is there
--     stacked, stamped, taken_back   what a change, a commit and an abandon make of a record's list and row
use Rattle.std.specs.Prelude.{ℕ, ◌<◌, Bool, true, false, ◌&&◌, List, [], ◌∷◌, Some, None, Option}
use Rattle.kind.specs.Kinds.{Ops}
use Rattle.chain.specs.declared.version.Version.{Version}
use Rattle.state.specs.declared.entry.Entry.{Entry}

-- a holder's change is there
abbrev pub backed : {C : Type 0} → Option ℕ → List (Version C) → Bool
backed None vs = true
backed (Some w) [] = false
backed (Some w) (v ∷ vs) = true

-- one chain for each record, and each holder's change is there
abbrev pub matched : {Row C : Type 0} → List (Entry Row) → List (List (Version C)) → Bool
matched [] [] = true
matched [] (c ∷ cs) = false
matched (r ∷ rs) [] = false
matched (r ∷ rs) (c ∷ cs) = backed r.holder c && matched rs cs

-- a free record wants a version, and a held one has one
abbrev pub Room : {C : Type 0} → Option ℕ → List (Version C) → ℕ → ℕ → Type 0
Room None vs used n = used < n
Room (Some w) vs used n = Unit {0}

-- a record's list with one more change of its holder
abbrev pub stacked : {Row Edit C : Type 0} → Ops Row Edit C → Option ℕ → Version C → List (Version C) → List (Version C)
stacked k None v vs = v ∷ vs
stacked k (Some w) v [] = []
stacked k (Some w) v (o ∷ vs) = record { time = v.time; change = k.join v.change o.change } ∷ vs

-- a record's list with its holder's change finished at t
abbrev pub stamped : {C : Type 0} → ℕ → List (Version C) → List (Version C)
stamped t [] = []
stamped t (v ∷ vs) = record { time = t; change = v.change } ∷ vs

-- a row with its holder's change taken back
abbrev pub taken_back : {Row Edit C : Type 0} → Ops Row Edit C → Row → List (Version C) → Row
taken_back k r [] = r
taken_back k r (v ∷ vs) = k.undo r v.change
