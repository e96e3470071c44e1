-- A model of which one record, or the first of them, are altered.
use Rattle.std.specs.Prelude.{ℕ, zero, suc, List, [], ◌∷◌}
use Rattle.history.specs.History.{change_at}
use Rattle.history.specs.Model.{Model, Stored}

abbrev pub one_changed : {Row C : Type 0} → (Stored Row C → Stored Row C) → ℕ → Model Row C → Model Row C
one_changed f i m = record { clock = m.clock; room = m.room; records = change_at f m.records i }

-- a function on the first n of a list
abbrev pub map_first : {V : Type 0} → (V → V) → ℕ → List V → List V
map_first f zero xs = xs
map_first f (suc n) [] = []
map_first f (suc n) (x ∷ xs) = f x ∷ map_first f n xs

abbrev pub first_changed : {Row C : Type 0} → (Stored Row C → Stored Row C) → ℕ → Model Row C → Model Row C
first_changed f n m = record { clock = m.clock; room = m.room; records = map_first f n m.records }
