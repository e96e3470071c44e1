-- What insert, delete and least say of the numbers of open leases.
use Rattle.std.proofs.Common.{◌≡◌, ℕ, ◌+◌, ◌<◌, ◌≤◌, min, Bool, cond, List, [], ◌∷◌, length, Some, None, Ok, Err, Option, Result, sym, refl, ap, ◌∙◌, subst, ⊎_elim, arith}
use Rattle.std.proofs.lemmas.Bool.{cases_lt, lt-leb, le-leb}
use Rattle.std.proofs.lemmas.Bool.Decides.{nat_tests}
use Rattle.lease.specs.declared.fault.RegistryFault.{RegistryFault}
use Rattle.lease.specs.Times.{delete, count, least, sooner, Added, Removed}
use Rattle.lease.specs.Counting.{Opened, Ended, FirstFrom}
use Rattle.lease.proofs.Bags.{count-insert, length-insert}

pub opened : {S U : Type 0} (capacity : ℕ) (m : S → List ℕ) (t : ℕ) (s s' : S) (r : Result U RegistryFault) → Added capacity m t s r s' → Opened capacity m t s r s'
opened capacity m t s s' (Ok v) (h, e) = (
  h,
  record {
    there = let k = count-insert t t (m s) in let c = ap (count t) e in grind (arith, nat_tests);
    elsewhere = λ u ne. let k = count-insert u t (m s) in let c = ap (count u) e in grind (arith, nat_tests);
    in_all = omega (arith, length-insert t (m s), ap length e);
  },
)
opened capacity m t s s' (Err f) h = h

count-delete : (t : ℕ) (l : List ℕ) → 0 < count t l → count t l ≡ count t (delete t l) + 1
count-delete t [] h = absurd (omega arith)
count-delete t (y ∷ l) h = let ih = count-delete t l in grind (arith, nat_tests)

count_others : (t u : ℕ) (l : List ℕ) → (u ≡ t → ⊥) → count u l ≡ count u (delete t l)
count_others t u [] ne = refl
count_others t u (y ∷ l) ne = let ih = count_others t u l ne in grind (arith, nat_tests)

length-delete : (t : ℕ) (l : List ℕ) → 0 < count t l → length l ≡ length (delete t l) + 1
length-delete t [] h = absurd (omega arith)
length-delete t (y ∷ l) h = let ih = length-delete t l in grind (arith, nat_tests)

pub ended : {S U : Type 0} (m : S → List ℕ) (t : ℕ) (s s' : S) (r : Result U RegistryFault) → Removed m t s r s' → Ended m t s r s'
ended m t s s' (Ok v) (h, e) = (
  h,
  record {
    there = omega (arith, count-delete t (m s) h, ap (count t) e);
    elsewhere = λ u ne. count_others t u (m s) ne ∙ ap (count u) (sym e);
    in_all = omega (arith, length-delete t (m s) h, ap length e);
  },
)
ended m t s s' (Err f) h = h

above : (t y : ℕ) (l : List ℕ) (o : Option ℕ) → t ≤ y → FirstFrom t l o → FirstFrom t (y ∷ l) (sooner (Some y) o)
above t y l None h f = (h, grind (arith, nat_tests), λ u a b. let e = f u a in grind (arith, nat_tests))
above t y l (Some x) h f = (
  omega (arith, f.0),
  ⊎_elim
      (λ lt. let m : min y x ≡ y = omega arith in grind (arith, nat_tests))
      (λ le. let m : min y x ≡ x = omega arith in let c = ap (λ n. count n l) m in omega (arith, f.1))
      (cases_lt y x),
  λ u a b. let e = f.2 u a (omega arith) in grind (arith, nat_tests),
)

below : (t y : ℕ) (l : List ℕ) (o : Option ℕ) → y < t → FirstFrom t l o → FirstFrom t (y ∷ l) o
below t y l None h f = λ u a. let e = f u a in grind (arith, nat_tests)
below t y l (Some x) h f = (f.0, omega (arith, f.1), λ u a b. let e = f.2 u a b in grind (arith, nat_tests))

pub least_first : (t : ℕ) (l : List ℕ) → FirstFrom t l (least t l)
least_first t [] = λ u a. refl
least_first t (y ∷ l) =
    let ih = least_first t l in
    let r : Bool → Type 0 = λ b. FirstFrom t (y ∷ l) (cond b (sooner (Some y) (least t l)) (least t l)) in
    ⊎_elim
    (λ lt. subst r (sym (lt-leb t y lt)) (below t y l (least t l) lt ih))
    (λ le. subst r (sym (le-leb t y le)) (above t y l (least t l) le ih))
    (cases_lt y t)
