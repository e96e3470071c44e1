-- What a registry means: the open times in rising order, each as often as a lease is open at it.
--     insert t l       one lease more at t
--     delete t l       one lease less at t
--     count t l        how many leases are open at t
--     least t l        the least open time at or above t, or none
--     opens l          how many leases are open at each time
--     Added, Removed   what add and remove answer, and the registry after them
use Rattle.std.specs.Prelude.{◌≡◌, ℕ, ◌+◌, ◌<◌, min, cond, List, [], ◌∷◌, length, Some, None, Ok, Err, Option, Result, ◌==◌, nat_le}
use Rattle.lease.specs.declared.fault.RegistryFault.{RegistryFault}
use Rattle.lease.specs.Card.{none_open, full}

abbrev pub insert : ℕ → List ℕ → List ℕ
insert t [] = t ∷ []
insert t (y ∷ l) = cond (nat_le t y) (t ∷ y ∷ l) (y ∷ insert t l)

abbrev pub delete : ℕ → List ℕ → List ℕ
delete t [] = []
delete t (y ∷ l) = cond (t == y) l (y ∷ delete t l)

abbrev pub count : ℕ → List ℕ → ℕ
count t [] = 0
count t (y ∷ l) = cond (t == y) 1 0 + count t l

abbrev pub sooner : Option ℕ → Option ℕ → Option ℕ
sooner None b = b
sooner (Some x) None = Some x
sooner (Some x) (Some y) = Some (min x y)

-- a true minimum: it does not rest on the order of the list
abbrev pub least : ℕ → List ℕ → Option ℕ
least t [] = None
least t (y ∷ l) = cond (nat_le t y) (sooner (Some y) (least t l)) (least t l)

abbrev pub opens : List ℕ → ℕ → ℕ
opens l t = count t l

-- S is the registry's type and m its meaning
abbrev pub Added : {S U : Type 0} → ℕ → (S → List ℕ) → ℕ → S → Result U RegistryFault → S → Type 0
Added capacity m t s (Ok u) s' = (length (m s) < capacity) × (m s' ≡ insert t (m s))
Added capacity m t s (Err e) s' = (length (m s) ≡ capacity) × (e ≡ full capacity) × (s' ≡ s)

abbrev pub Removed : {S U : Type 0} → (S → List ℕ) → ℕ → S → Result U RegistryFault → S → Type 0
Removed m t s (Ok u) s' = (0 < count t (m s)) × (m s' ≡ delete t (m s))
Removed m t s (Err e) s' = (count t (m s) ≡ 0) × (e ≡ none_open t) × (s' ≡ s)
