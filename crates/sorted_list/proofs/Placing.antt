-- Putting an entry in where no entry has its time, and taking one out with its last lease.
use Rattle.std.proofs.Common.{◌≡◌, ℕ, zero, suc, ◌+◌, ◌<◌, ◌≤◌, true, List, [], ◌∷◌, length, get_or, sym, refl, ap, ◌∙◌, arith}
use Rattle.std.specs.List.{insert as put_in, remove}
use Rattle.std.proofs.lemmas.Bool.Decides.{nat_tests}
use Rattle.lease.specs.Times.{insert, delete}
use Rattle.lease.proofs.Bags.{delete-insert}
use Rattle.sorted_list.specs.declared.Entry.{Entry}
use Rattle.sorted_list.specs.Entries.{many, times, size, rising, ahead, no_entry, Gap}
use Rattle.sorted_list.proofs.Meaning.{insert-many, many-many, rising_tail, later, positive}

pub times-put : (c : Entry) (es : List Entry) (i : ℕ) → times (put_in es i c) ≡ many c.count c.time (times es)
times-put c [] zero = refl
times-put c [] (suc i) = refl
times-put c (e ∷ es) zero = refl
times-put c (e ∷ es) (suc i) =
    ap (many e.count e.time) (times-put c es i) ∙ many-many e.count e.time c.count c.time (times es)

pub size-put : (c : Entry) (es : List Entry) (i : ℕ) → size (put_in es i c) ≡ c.count + size es
size-put c [] zero = refl
size-put c [] (suc i) = refl
size-put c (e ∷ es) zero = refl
size-put c (e ∷ es) (suc i) = omega (arith, size-put c es i)

-- wherever an entry is put in
pub put_grows : (c : Entry) (es new : List Entry) (i : ℕ) → new ≡ put_in es i c → size new ≡ c.count + size es
put_grows c es new i e = ap size e ∙ size-put c es i

gap_tail : (t : ℕ) (e : Entry) (es : List Entry) (i : ℕ) → Gap t (e ∷ es) (suc i) → Gap t es i
gap_tail t e es i g = record {
  within = omega (arith, g.within);
  before = λ j h. g.before (suc j) (omega arith);
  after = λ j le h. g.after (suc j) (omega arith) (omega arith);
}

pub rising-put : (c : Entry) (es : List Entry) (i : ℕ) → 0 < c.count → rising es ≡ true → Gap c.time es i → rising (put_in es i c) ≡ true
rising-put c [] zero p r g = grind (arith, nat_tests)
rising-put c [] (suc i) p r g = grind (arith, nat_tests)
rising-put c (e ∷ es) zero p r g = let h = g.after 0 (omega arith) (omega arith) in grind (arith, nat_tests)
rising-put c (e ∷ []) (suc zero) p r g = let h = g.before 0 (omega arith) in grind (arith, nat_tests)
rising-put c (e ∷ []) (suc (suc i)) p r g = absurd (omega (arith, g.within))
rising-put c (e ∷ f ∷ es) (suc zero) p r g =
    let h = g.before 0 (omega arith) in
    let ih = rising-put c (f ∷ es) zero p (rising_tail e (f ∷ es) r) (gap_tail c.time e (f ∷ es) zero g) in
    grind (arith, nat_tests)
rising-put c (e ∷ f ∷ es) (suc (suc i)) p r g =
    let ih = rising-put c (f ∷ es) (suc i) p (rising_tail e (f ∷ es) r) (gap_tail c.time e (f ∷ es) (suc i) g) in
    grind (arith, nat_tests)

out_times : (es : List Entry) (i t : ℕ) → i < length es → (get_or es i no_entry).time ≡ t → (get_or es i no_entry).count ≡ 1 → times es ≡ insert t (times (remove es i))
out_times [] i t h e n = absurd (omega arith)
out_times (f ∷ es) zero t h e n = ap (λ k. many k f.time (times es)) n ∙ ap (λ u. insert u (times es)) e
out_times (f ∷ es) (suc i) t h e n =
    ap (many f.count f.time) (out_times es i t (omega arith) e n) ∙ sym (insert-many t f.count f.time (times (remove es i)))

pub out_size : (es : List Entry) (i : ℕ) → size (remove es i) ≤ size es
out_size [] zero = omega arith
out_size [] (suc i) = omega arith
out_size (f ∷ es) zero = omega arith
out_size (f ∷ es) (suc i) = omega (arith, out_size es i)

out_ahead : (u : ℕ) (es : List Entry) (i : ℕ) → ahead u es ≡ true → rising es ≡ true → ahead u (remove es i) ≡ true
out_ahead u [] zero a r = refl
out_ahead u [] (suc i) a r = refl
out_ahead u (f ∷ es) zero a r = later u f es (grind (arith, nat_tests)) r
out_ahead u (f ∷ es) (suc i) a r = a

pub out_rising : (es : List Entry) (i : ℕ) → rising es ≡ true → rising (remove es i) ≡ true
out_rising [] zero r = refl
out_rising [] (suc i) r = refl
out_rising (f ∷ es) zero r = rising_tail f es r
out_rising (f ∷ es) (suc i) r =
    let ih = out_rising es i in
    let x = out_ahead f.time es i in
    grind (arith, nat_tests)

-- whichever entry is taken out
pub out_left : (es new : List Entry) (i : ℕ) → new ≡ remove es i → rising es ≡ true → (size new ≤ size es) × (rising new ≡ true)
out_left es new i e r = (omega (arith, ap size e, out_size es i), ap rising e ∙ out_rising es i r)

pub out_means : (es : List Entry) (i t : ℕ) → i < length es → (get_or es i no_entry).time ≡ t → (get_or es i no_entry).count ≤ 1 → rising es ≡ true → times (remove es i) ≡ delete t (times es)
out_means es i t h e c r =
    let one : (get_or es i no_entry).count ≡ 1 = omega (arith, positive es i h r) in
    sym (delete-insert t (times (remove es i))) ∙ ap (delete t) (sym (out_times es i t h e one))
