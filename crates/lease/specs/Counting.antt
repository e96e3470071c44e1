-- What calls on a registry do to the numbers of open leases. S is the registry's type and m its meaning.
--     OneMore t l l'    from l to l' the number at t rises by one, every other number stays, and the total rises by one
--     OneLess t l l'    the same backwards
--     FirstFrom t l o   o is the least open time at or above t: it is open, and nothing open lies between; none: nothing is open from t on
--     Opened, Ended     what opening and ending one lease answer, and the registry after them
--     Taken             the same of opening one and giving it out as a token
--     GivenUp           the same of ending a writer's lease; refused, the writer is given back
--     Abandoned         the same of ending a writer's lease if one is open: true if one was
use Rattle.std.specs.Prelude.{◌≡◌, ℕ, ◌+◌, ◌<◌, ◌≤◌, Bool, true, false, List, length, Some, None, Ok, Err, Option, Result, ◌≢◌}
use Rattle.lease.specs.declared.fault.RegistryFault.{RegistryFault}
use Rattle.lease.specs.Tokens.{Writer}
use Rattle.lease.specs.Card.{none_open, full}
use Rattle.lease.specs.Times.{count}

pub record OneMore (t : ℕ) (before after : List ℕ) : Type 0 where
  pub there : count t after ≡ count t before + 1
  pub elsewhere : (u : ℕ) → (u ≢ t) → count u after ≡ count u before
  pub in_all : length after ≡ length before + 1

abbrev pub OneLess : ℕ → List ℕ → List ℕ → Type 0
OneLess t before after = OneMore t after before

abbrev pub FirstFrom : ℕ → List ℕ → Option ℕ → Type 0
FirstFrom t l None = (u : ℕ) → t ≤ u → count u l ≡ 0
FirstFrom t l (Some s) = (t ≤ s) × (0 < count s l) × ((u : ℕ) → t ≤ u → u < s → count u l ≡ 0)

abbrev pub Opened : {S U : Type 0} → ℕ → (S → List ℕ) → ℕ → S → Result U RegistryFault → S → Type 0
Opened capacity m t s (Ok u) s' = (length (m s) < capacity) × OneMore t (m s) (m s')
Opened capacity m t s (Err e) s' = (length (m s) ≡ capacity) × (e ≡ full capacity) × (s' ≡ s)

abbrev pub Ended : {S U : Type 0} → (S → List ℕ) → ℕ → S → Result U RegistryFault → S → Type 0
Ended m t s (Ok u) s' = (0 < count t (m s)) × OneLess t (m s) (m s')
Ended m t s (Err e) s' = (count t (m s) ≡ 0) × (e ≡ none_open t) × (s' ≡ s)

-- P says which token is given out
abbrev pub Taken : {S W : Type 0} → (W → Type 0) → ℕ → (S → List ℕ) → ℕ → S → Result W RegistryFault → S → Type 0
Taken P capacity m t s (Ok w) s' = P w × (length (m s) < capacity) × OneMore t (m s) (m s')
Taken P capacity m t s (Err e) s' = (length (m s) ≡ capacity) × (e ≡ full capacity) × (s' ≡ s)

abbrev pub GivenUp : {S U : Type 0} → (S → List ℕ) → Writer → S → Result U (RegistryFault × Writer) → S → Type 0
GivenUp m w s (Ok u) s' = (0 < count w.time (m s)) × OneLess w.time (m s) (m s')
GivenUp m w s (Err p) s' = (count w.time (m s) ≡ 0) × (p.0 ≡ none_open w.time) × (p.1 ≡ w) × (s' ≡ s)

abbrev pub Abandoned : {S : Type 0} → (S → List ℕ) → ℕ → S → Bool → S → Type 0
Abandoned m n s true s' = (0 < count n (m s)) × OneLess n (m s) (m s')
Abandoned m n s false s' = (count n (m s) ≡ 0) × (s' ≡ s)
