-- The wrong stores fall: the model says something else, and the law determines what is said.
use Rattle.std.proofs.Common.{◌≡◌, ℕ, ◌+◌, List, [], ◌∷◌, map, Some, None, Option, refl, ap, arith}
use Rattle.kind.specs.Kinds.{Laws, same}
use Rattle.history.specs.declared.call.Call.{Call}
use Rattle.history.specs.declared.call.Outcome.{Outcome}
use Rattle.history.specs.declared.call.Outcome.TheVariants.{Opened, Shown, Closed, Began, Changed, Committed, Abandoned, Held, Kept, InUse, Refused}
use Rattle.history.specs.Card.{fault_number}
use Rattle.history.specs.History.{new_history, at_or}
use Rattle.history.specs.Law.{Told}
use Rattle.history.specs.Model.{new_model, outcomes}
use Rattle.history.specs.Cells.{cell, back, joined}
use Rattle.history.specs.Determined.{Sense, row, held_counts, other, sense}
use Rattle.history.specs.Wrong.{Wrong, ask, WrongStores, RightRun, right_calls}
use Rattle.history.proofs.Simulation.{model_lawful}
use Rattle.history.proofs.Determining.{determined}

-- one number of what is told, by which two of them differ
abbrev of_row : List ℕ → ℕ
of_row [] = 0
of_row (x ∷ xs) = x

abbrev of_other : Outcome (Unit {0}) → ℕ
of_other (Opened t) = 0
of_other (Shown r) = 0
of_other Closed = 0
of_other (Began w) = 0
of_other Changed = 0
of_other (Committed t n) = 0
of_other (Abandoned n) = 0
of_other (Held n) = 0
of_other (Kept n) = n
of_other (InUse n) = n
of_other (Refused f) = fault_number f.cause + 1

abbrev number : Sense → ℕ
number (row ns) = of_row ns
number (held_counts n f) = n
number (other o) = of_other o

abbrev number_at : ℕ → List Sense → ℕ
number_at i l = number (at_or (Sense.other Closed) l i)

back_joined : (r : ℕ) (newer older : Option ℕ) → ◌≡◌ {A = List ℕ} (back r (joined newer older) ∷ []) (back (back r newer) older ∷ [])
back_joined r newer None = refl
back_joined r newer (Some c) = refl

back_alike : (r q : ℕ) (c : Option ℕ) → ◌≡◌ {A = List ℕ} (r ∷ []) (q ∷ []) → ◌≡◌ {A = List ℕ} (back r c ∷ []) (back q c ∷ [])
back_alike r q None e = e
back_alike r q (Some c) e = refl

cell_laws : Laws cell
cell_laws = record { undone = λ r e. refl; joined = back_joined; alike_edit = λ r q x e. refl; alike_undo = back_alike; idle = λ r. refl }

-- what the model says at the place i is another number
refute : (room i : ℕ) {calls : List (Call ℕ)} {wrong : List (Told ℕ)} → (number_at i (map (sense cell) (outcomes cell 8 (new_model cell 1 room 0) [] (map ask calls))) ≡ number_at i (map (sense cell) wrong) → ⊥) → Wrong room calls wrong
refute room i {calls} {wrong} differs =
    let right = model_lawful cell cell_laws 8 1 room 0 (map ask calls) in
    record { never = λ h r. differs (ap (number_at i) (determined cell 8 room (map ask calls) _ wrong (new_history cell 0 1) right.history h right.run r).0) }

pub wrong_stores : WrongStores
unfolding same
wrong_stores = record {
  drops_nothing = refute 2 3 (λ e. let z : ◌≡◌ {A = ℕ} 0 1 = e in omega arith);
  prunes_at_commit_alone = refute 2 5 (λ e. let z : ◌≡◌ {A = ℕ} 0 1 = e in omega arith);
  invents_the_number = refute 2 4 (λ e. let z : ◌≡◌ {A = ℕ} 1 2 = e in omega arith);
  newest_rows_only = refute 2 4 (λ e. let z : ◌≡◌ {A = ℕ} 0 5 = e in omega arith);
  never_asks_the_registry = refute 2 4 (λ e. let z : ◌≡◌ {A = ℕ} 1 0 = e in omega arith);
  reads_without_a_lease = refute 2 0 (λ e. let z : ◌≡◌ {A = ℕ} 5 0 = e in omega arith);
  seven_too_soon = refute 1 1 (λ e. let z : ◌≡◌ {A = ℕ} 0 8 = e in omega arith);
  seven_too_late = refute 0 1 (λ e. let z : ◌≡◌ {A = ℕ} 8 0 = e in omega arith);
  never_again = refute 1 4 (λ e. let z : ◌≡◌ {A = ℕ} 0 8 = e in omega arith);
  refuses_always = λ f. refute 2 0 (λ e. let z : ◌≡◌ {A = ℕ} 0 (fault_number f.cause + 1) = e in omega arith);
  does_nothing = refute 2 2 (λ e. let z : ◌≡◌ {A = ℕ} 5 0 = e in omega arith);
  one_row_always = refute 2 5 (λ e. let z : ◌≡◌ {A = ℕ} 0 5 = e in omega arith);
  says_less = record { never = λ h r. r.2 };
}

pub right_run : RightRun
unfolding same
right_run = let right = model_lawful cell cell_laws 32 2 2 0 (map ask right_calls) in record { history = right.history; run = right.run }
