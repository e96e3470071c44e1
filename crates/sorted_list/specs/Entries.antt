-- What entries mean: an entry is a time with its number of leases.
--     many n t l       n leases more at t
--     times es         the open times, as a registry means them
--     size es          how many leases there are in all
--     rising es        each time stands once, the times rise, and each has at least one lease
--     list_capacity    the most leases, and so the most entries
--     no_entry         what stands for an entry where there is none
--     Searched         what a search for the entry of a time answers
use Rattle.std.specs.Prelude.{◌≡◌, ℕ, zero, suc, ◌+◌, ◌<◌, ◌≤◌, Bool, true, ◌&&◌, List, [], ◌∷◌, length, Ok, Err, Result, nat_lt, slice_index_or}
use Rattle.lease.specs.Times.{insert}
use Rattle.sorted_list.specs.declared.Entry.{Entry}

abbrev pub list_capacity : ℕ
list_capacity = 32

abbrev pub many : ℕ → ℕ → List ℕ → List ℕ
many zero t l = l
many (suc n) t l = insert t (many n t l)

abbrev pub times : List Entry → List ℕ
times [] = []
times (e ∷ es) = many e.count e.time (times es)

abbrev pub size : List Entry → ℕ
size [] = 0
size (e ∷ es) = e.count + size es

-- t is before the first entry
abbrev pub ahead : ℕ → List Entry → Bool
ahead t [] = true
ahead t (f ∷ fs) = nat_lt t f.time

abbrev pub rising : List Entry → Bool
rising [] = true
rising (e ∷ es) = (nat_lt 0 e.count && ahead e.time es) && rising es

abbrev pub no_entry : Entry
no_entry = record { time = 0; count = 0 }

-- the times before the place i are below t, and those from it on above t
pub record Gap (t : ℕ) (es : List Entry) (i : ℕ) : Type 0 where
  pub within : i ≤ length es
  pub before : (j : ℕ) → j < i → (slice_index_or es j no_entry).time < t
  pub after : (j : ℕ) → i ≤ j → j < length es → t < (slice_index_or es j no_entry).time

-- whether an entry has the time t, and its place, or the place before which such an entry would go
abbrev pub Searched : ℕ → List Entry → Result ℕ ℕ → Type 0
Searched t es (Ok i) = (i < length es) × ((slice_index_or es i no_entry).time ≡ t)
Searched t es (Err i) = Gap t es i
