-- Leases more and fewer, and the list of held records.
use Rattle.std.proofs.Common.{◌≡◌, ℕ, zero, suc, ◌+◌, ◌<◌, ◌≤◌, Bool, true, false, cond, eqb, ◌⊎◌, List, [], ◌∷◌, length, refl, ap, ◌∙◌, inl, inr, add-zero, arith}
use Rattle.std.proofs.lemmas.Bool.Decides.{nat_tests}
use Rattle.std.proofs.lemmas.Bool.{ne_eqb, cases_eq}
use Rattle.lease.specs.Times.{count, insert, delete, opens}
use Rattle.lease.proofs.Bags.{count-insert}
use Rattle.chain.specs.Versions.{Open}
use Rattle.history.specs.History.{Hold, free, held_by, count_held, at_or}
use Rattle.history.specs.Law.{EachHeld}
use Rattle.history.specs.Model.{held_from}

pub insert_cases : (s : ℕ) (l : List ℕ) (t : ℕ) → Open (opens (insert s l)) t → (t ≡ s) ⊎ Open (opens l) t
insert_cases s l t o = go (cases_eq t s)
  where
    go : (t ≡ s) ⊎ (t ≡ s → ⊥) → (t ≡ s) ⊎ (0 < count t l)
    go (inl e) = inl e
    go (inr n) = inr (omega (arith, o, count-insert t s l, ap {B = ℕ} (λ b. cond b 1 0) (ne_eqb t s n)))

pub insert-keeps : (s : ℕ) (l : List ℕ) (t : ℕ) → Open (opens l) t → Open (opens (insert s l)) t
insert-keeps s l t o = omega (arith, o, count-insert t s l)

delete_fewer : (s : ℕ) (l : List ℕ) (t : ℕ) → count t (delete s l) ≤ count t l
delete_fewer s [] t = omega arith
delete_fewer s (x ∷ xs) t = go (eqb s x) (delete_fewer s xs t)
  where
    go : (b : Bool) → count t (delete s xs) ≤ count t xs → count t (cond b xs (x ∷ delete s xs)) ≤ count t (x ∷ xs)
    go true h = omega arith
    go false h = omega arith

pub delete_sub : (s : ℕ) (l : List ℕ) (t : ℕ) → Open (opens (delete s l)) t → Open (opens l) t
delete_sub s l t o = omega (arith, o, delete_fewer s l t)

pub held_length : (w i : ℕ) (hs : List (Hold (Unit {0}))) → length (held_from w i hs) ≡ count_held w hs
held_length w i [] = refl
held_length w i (x ∷ xs) = go (held_by w x) (held_length w (suc i) xs)
  where
    go : (b : Bool) → length (held_from w (suc i) xs) ≡ count_held w xs → length (cond b (i ∷ held_from w (suc i) xs) (held_from w (suc i) xs)) ≡ cond b 1 0 + count_held w xs
    go true e = omega (arith, e)
    go false e = omega (arith, e)

-- no number below the first
held_above : (w i j : ℕ) (hs : List (Hold (Unit {0}))) → j < i → count j (held_from w i hs) ≡ 0
held_above w i j [] h = refl
held_above w i j (x ∷ xs) h = go (held_by w x) (held_above w (suc i) j xs (omega arith))
  where
    go : (b : Bool) → count j (held_from w (suc i) xs) ≡ 0 → count j (cond b (i ∷ held_from w (suc i) xs) (held_from w (suc i) xs)) ≡ 0
    go true e = omega (arith, e, ap {B = ℕ} (λ b. cond b 1 0) (ne_eqb j i (λ q. omega arith)))
    go false e = e

held_count : (w i j : ℕ) (hs : List (Hold (Unit {0}))) → count (i + j) (held_from w i hs) ≡ cond (held_by w (at_or free hs j)) 1 0
held_count w i j [] = refl
held_count w i zero (x ∷ xs) = ap (λ n. count n (held_from w i (x ∷ xs))) (add-zero i) ∙ go (held_by w x) (held_above w (suc i) i xs (omega arith))
  where
    go : (b : Bool) → count i (held_from w (suc i) xs) ≡ 0 → count i (cond b (i ∷ held_from w (suc i) xs) (held_from w (suc i) xs)) ≡ cond b 1 0
    go true e = grind (arith, nat_tests)
    go false e = e
held_count w i (suc j) (x ∷ xs) =
    ap (λ n. count n (held_from w i (x ∷ xs))) same ∙ go (held_by w x) (held_count w (suc i) j xs)
  where
    same : i + suc j ≡ suc i + j
    same = omega arith

    go : (b : Bool) → count (suc i + j) (held_from w (suc i) xs) ≡ cond (held_by w (at_or free xs j)) 1 0 → count (suc i + j) (cond b (i ∷ held_from w (suc i) xs) (held_from w (suc i) xs)) ≡ cond (held_by w (at_or free xs j)) 1 0
    go true e = ap (λ b. cond b 1 0 + count (suc i + j) (held_from w (suc i) xs)) (ne_eqb (suc i + j) i (λ q. omega arith)) ∙ omega (arith, e)
    go false e = e

pub held_once : (w : ℕ) (hs : List (Hold (Unit {0}))) → EachHeld w hs (held_from w 0 hs)
held_once w hs i = ap (λ n. count n (held_from w 0 hs)) (omega arith) ∙ held_count w 0 i hs
