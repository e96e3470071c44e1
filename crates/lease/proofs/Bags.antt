-- Lists of times under insert and delete: what every registry's proof needs.
--     insert_comm, delete-insert                  the order of inserts is free, and delete undoes an insert
--     length-insert, count-insert, least-insert   an insert answers each question as a time put in front
--     sooner_assoc, sooner_none                   sooner is a minimum with none at its end
use Rattle.std.proofs.Common.{◌≡◌, ℕ, suc, List, [], ◌∷◌, length, Some, None, Option, refl, ap, arith}
use Rattle.std.proofs.lemmas.Bool.Decides.{nat_tests}
use Rattle.lease.specs.Times.{insert, delete, count, least, sooner}

pub insert_comm : (a b : ℕ) (l : List ℕ) → insert a (insert b l) ≡ insert b (insert a l)
insert_comm a b [] = grind (arith, nat_tests)
insert_comm a b (y ∷ l) = let ih = insert_comm a b l in grind (arith, nat_tests)

pub delete-insert : (t : ℕ) (l : List ℕ) → delete t (insert t l) ≡ l
delete-insert t [] = grind (arith, nat_tests)
delete-insert t (y ∷ l) = let ih = delete-insert t l in grind (arith, nat_tests)

pub length-insert : (t : ℕ) (l : List ℕ) → length (insert t l) ≡ suc (length l)
length-insert t [] = refl
length-insert t (y ∷ l) = let ih = length-insert t l in grind (arith, nat_tests)

pub count-insert : (t u : ℕ) (l : List ℕ) → count t (insert u l) ≡ count t (u ∷ l)
count-insert t u [] = refl
count-insert t u (y ∷ l) = let ih = count-insert t u l in grind (arith, nat_tests)

pub sooner_assoc : (a b c : Option ℕ) → sooner a (sooner b c) ≡ sooner (sooner a b) c
sooner_assoc None b c = refl
sooner_assoc (Some x) None c = refl
sooner_assoc (Some x) (Some y) None = refl
sooner_assoc (Some x) (Some y) (Some z) = ap (λ n. Some n) (omega arith)

pub sooner_none : (a : Option ℕ) → sooner a None ≡ a
sooner_none None = refl
sooner_none (Some x) = refl

swap : (x y : ℕ) (b : Option ℕ) → sooner (Some x) (sooner (Some y) b) ≡ sooner (Some y) (sooner (Some x) b)
swap x y None = ap (λ n. Some n) (omega arith)
swap x y (Some z) = ap (λ n. Some n) (omega arith)

pub least-insert : (t u : ℕ) (l : List ℕ) → least t (insert u l) ≡ least t (u ∷ l)
least-insert t u [] = refl
least-insert t u (y ∷ l) = let ih = least-insert t u l in let s = swap y u (least t l) in grind (arith, nat_tests)
