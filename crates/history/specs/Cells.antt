-- A kind of one number, for examples. An edit sets the number, and a change has the number before, or nothing.
use Rattle.std.specs.Prelude.{ℕ, [], ◌∷◌, Some, None, Option}
use Rattle.kind.specs.Kinds.{Ops}

abbrev pub back : ℕ → Option ℕ → ℕ
back r None = r
back r (Some c) = c

abbrev pub joined : Option ℕ → Option ℕ → Option ℕ
joined newer None = newer
joined newer (Some c) = Some c

abbrev pub cell : Ops ℕ ℕ (Option ℕ)
cell = record { blank = 0; tells = λ r. r ∷ []; edited = λ r e. e; before = λ r e. Some r; undo = back; join = joined; none = None }
