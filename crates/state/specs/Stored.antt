-- What a record of the table and its list are, as a record of the model.
--     stored r vs      a record with its list: a held record's list has the holder's change first, and behind it the chain
--     viewed rs cs     all records with their lists
--     falls t vs       the times of a chain fall, from t on
--     all_fall t xs    so do those of all records' chains
use Rattle.std.specs.Prelude.{ℕ, Bool, true, ◌&&◌, List, [], ◌∷◌, drop, Some, None, Option, nat_le}
use Rattle.chain.specs.declared.version.Version.{Version}
use Rattle.history.specs.History.{Hold, free, held}
use Rattle.history.specs.Model.{Stored}
use Rattle.state.specs.declared.entry.Entry.{Entry}

abbrev pub hold_of : {C : Type 0} → Option ℕ → List (Version C) → Hold C
hold_of None vs = free
hold_of (Some w) [] = free
hold_of (Some w) (v ∷ vs) = held w v.change

abbrev pub behind : {C : Type 0} → Option ℕ → List (Version C) → List (Version C)
behind None vs = vs
behind (Some w) vs = drop 1 vs

abbrev pub stored : {Row C : Type 0} → Entry Row → List (Version C) → Stored Row C
stored r vs = record { place = r.row; holder = hold_of r.holder vs; last = r.last; chain = behind r.holder vs }

abbrev pub viewed : {Row C : Type 0} → List (Entry Row) → List (List (Version C)) → List (Stored Row C)
viewed [] cs = []
viewed (r ∷ rs) [] = []
viewed (r ∷ rs) (c ∷ cs) = stored r c ∷ viewed rs cs

abbrev pub falls : {C : Type 0} → ℕ → List (Version C) → Bool
falls t [] = true
falls t (v ∷ vs) = nat_le v.time t && falls v.time vs

abbrev pub all_fall : {Row C : Type 0} → ℕ → List (Stored Row C) → Bool
all_fall t [] = true
all_fall t (x ∷ xs) = falls t x.chain && all_fall t xs
