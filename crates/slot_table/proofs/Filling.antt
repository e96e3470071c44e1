-- What one slot's change does to a table's meaning, and what a search over the slots finds.
use Rattle.std.proofs.Common.{◌≡◌, ℕ, zero, suc, ◌+◌, ◌<◌, ◌≤◌, Bool, not, true, false, cond, eqb, leb, List, [], ◌∷◌, length, get_or, set, is_some, Some, None, Option, sym, refl, ap, ◌∙◌, arith}
use Rattle.std.proofs.lemmas.List.{get_or-set_same, set-set, set-get_or, length-set}
use Rattle.std.proofs.lemmas.Bool.Decides.{nat_tests}
use Rattle.std.specs.List.{position, position_from}
use Rattle.std.proofs.lemmas.List.Quantifiers.{position-Some}
use Rattle.std.proofs.lemmas.Iterator.Adapters.{position_from-zero}
use Rattle.lease.specs.Times.{insert, delete, count, least, sooner}
use Rattle.lease.proofs.Bags.{insert_comm, delete-insert, length-insert, count-insert, least-insert}
use Rattle.slot_table.specs.Slots.{taken, sorted, slot_times, Free, Holding}

-- what the searches ask of a slot
abbrev pub empty : Option ℕ → Bool
empty o = not (is_some o)

abbrev pub holds : ℕ → Option ℕ → Bool
holds t None = false
holds t (Some u) = eqb u t

pub length-sorted : (l : List ℕ) → length (sorted l) ≡ length l
length-sorted [] = refl
length-sorted (t ∷ l) = length-insert t (sorted l) ∙ ap suc (length-sorted l)

pub count-sorted : (t : ℕ) (l : List ℕ) → count t (sorted l) ≡ count t l
count-sorted t [] = refl
count-sorted t (u ∷ l) = count-insert t u (sorted l) ∙ ap (λ n. cond (eqb t u) 1 0 + n) (count-sorted t l)

pub least-sorted : (t : ℕ) (l : List ℕ) → least t (sorted l) ≡ least t l
least-sorted t [] = refl
least-sorted t (u ∷ l) =
    least-insert t u (sorted l) ∙ ap (λ o. cond (leb t u) (sooner (Some u) o) o) (least-sorted t l)

pub times-set : (xs : List (Option ℕ)) (i t : ℕ) → i < length xs → get_or xs i None ≡ None → slot_times (set xs i (Some t)) ≡ insert t (slot_times xs)
times-set [] i t h e = absurd (omega arith)
times-set (None ∷ xs) zero t h e = refl
times-set (Some u ∷ xs) zero t h e = let z : ◌≡◌ {A = ℕ} 0 1 = cc in absurd (omega arith)
times-set (None ∷ xs) (suc i) t h e = times-set xs i t (omega arith) e
times-set (Some u ∷ xs) (suc i) t h e =
    ap (insert u) (times-set xs i t (omega arith) e) ∙ insert_comm u t (slot_times xs)

pub times_clear : (xs : List (Option ℕ)) (i t : ℕ) → i < length xs → get_or xs i None ≡ Some t → slot_times (set xs i None) ≡ delete t (slot_times xs)
times_clear xs i t h e =
    let ys : List (Option ℕ) = set xs i None in
    let n : get_or ys i None ≡ None = get_or-set_same xs i None None h in
    let back : set ys i (Some t) ≡ xs = set-set xs i None (Some t) ∙ ap (set xs i) (sym e) ∙ set-get_or xs i None in
    let l : i < length ys = simp length-set h in
    sym (delete-insert t (slot_times ys)) ∙ ap (delete t) (sym (times-set ys i t l n)) ∙ ap (λ zs. delete t (slot_times zs)) back

-- how many are taken is at most how many there are, and is less where one is empty
pub taken-room : (xs : List (Option ℕ)) → length (taken xs) ≤ length xs
taken-room [] = omega arith
taken-room (None ∷ xs) = omega (arith, taken-room xs)
taken-room (Some t ∷ xs) = omega (arith, taken-room xs)

pub taken_less : (xs : List (Option ℕ)) (i : ℕ) → i < length xs → get_or xs i None ≡ None → length (taken xs) < length xs
taken_less [] i h e = absurd (omega arith)
taken_less (None ∷ xs) zero h e = omega (arith, taken-room xs)
taken_less (Some u ∷ xs) zero h e = let z : ◌≡◌ {A = ℕ} 0 1 = cc in absurd (omega arith)
taken_less (None ∷ xs) (suc i) h e = omega (arith, taken_less xs i (omega arith) e)
taken_less (Some u ∷ xs) (suc i) h e = omega (arith, taken_less xs i (omega arith) e)

pub taken-holds : (xs : List (Option ℕ)) (i t : ℕ) → i < length xs → get_or xs i None ≡ Some t → 0 < count t (taken xs)
taken-holds [] i t h e = absurd (omega arith)
taken-holds (None ∷ xs) zero t h e = let z : ◌≡◌ {A = ℕ} 0 1 = cc in absurd (omega arith)
taken-holds (Some u ∷ xs) zero t h e = let k : u ≡ t = cc in grind (arith, nat_tests)
taken-holds (None ∷ xs) (suc i) t h e = taken-holds xs i t (omega arith) e
taken-holds (Some u ∷ xs) (suc i) t h e = omega (arith, taken-holds xs i t (omega arith) e)

all_taken : (xs : List (Option ℕ)) (n : ℕ) → position_from empty n xs ≡ None → length (taken xs) ≡ length xs
all_taken [] n e = refl
all_taken (None ∷ xs) n e = let z : ◌≡◌ {A = ℕ} 0 1 = cc in absurd (omega arith)
all_taken (Some t ∷ xs) n e = omega (arith, all_taken xs (n + 1) e)

none_taken : (o : Option ℕ) → empty o ≡ true → o ≡ None
none_taken None e = refl
none_taken (Some t) e = let z : ◌≡◌ {A = ℕ} 0 1 = cc in absurd (omega arith)

pub found_free : (xs : List (Option ℕ)) (o : Option ℕ) → o ≡ position empty xs → Free xs o
found_free xs None e = all_taken xs 0 (sym (position_from-zero empty xs) ∙ sym e)
found_free xs (Some i) e = let f = position-Some empty xs i None (sym e) in (f.0, none_taken (get_or xs i None) f.1)

no_holder : (t : ℕ) (xs : List (Option ℕ)) (n : ℕ) → position_from (holds t) n xs ≡ None → count t (taken xs) ≡ 0
no_holder t [] n e = refl
no_holder t (None ∷ xs) n e = no_holder t xs (n + 1) e
no_holder t (Some u ∷ xs) n e = let ih = no_holder t xs (n + 1) in grind (arith, nat_tests)

held_there : (t : ℕ) (o : Option ℕ) → holds t o ≡ true → o ≡ Some t
held_there t None e = let z : ◌≡◌ {A = ℕ} 0 1 = cc in absurd (omega arith)
held_there t (Some u) e = let k : u ≡ t = grind (arith, nat_tests) in ap (λ n. Some n) k

pub found_holder : (t : ℕ) (xs : List (Option ℕ)) (o : Option ℕ) → o ≡ position (holds t) xs → Holding t xs o
found_holder t xs None e = no_holder t xs 0 (sym (position_from-zero (holds t) xs) ∙ sym e)
found_holder t xs (Some i) e = let f = position-Some (holds t) xs i None (sym e) in (f.0, held_there t (get_or xs i None) f.1)
