-- A new table: one free list over all slots, and empty lists.
use Rattle.std.proofs.Common.{◌≡◌, ℕ, zero, suc, ◌+◌, ◌-◌, ◌<◌, ◌≤◌, cond, eqb, List, [], ◌∷◌, ◌++◌, length, get_or, replicate, Some, None, sum_by, Option, sym, refl, ap, ◌∙◌, subst, ⊎_elim, add-one, arith}
use Rattle.std.proofs.lemmas.List.{length-replicate, get_or-replicate, length-append, get_or_append_left, get_or_at}
use Rattle.std.proofs.lemmas.List.Sums.{sum_by-cons}
use Rattle.std.proofs.lemmas.Bool.{cases_eq, cond-true, cond-false, eq-eqb, ne_eqb, cases_lt}
use Rattle.links.specs.Walk.{walk, count, walks, Sound, link_below, links_below}
use Rattle.links.proofs.Linked.{Run, Inv, inv_walks, inv_sound}
use Rattle.links.proofs.Steps.{tails}

pub down : ℕ → List ℕ
down zero = []
down (suc i) = i ∷ down i

pub length_down : (i : ℕ) → length (down i) ≡ i
unfolding down
length_down zero = refl
length_down (suc i) = ap suc (length_down i)

pub length_below : (m : ℕ) → length (links_below m) ≡ m
unfolding links_below
length_below zero = refl
length_below (suc m) = omega (arith, length-append (links_below m) (link_below m ∷ []), length_below m)

pub links_below_more : (i : ℕ) → links_below (i + 1) ≡ links_below i ++ (link_below i ∷ [])
unfolding links_below
links_below_more i = rw add-one

pub link_below_more : (i : ℕ) → link_below (i + 1) ≡ Some i
unfolding link_below
link_below_more i = rw add-one

pub link_below_less : (i : ℕ) → 1 ≤ i → link_below i ≡ Some (i - 1)
link_below_less i h = let e : i ≡ (i - 1) + 1 = omega arith in ap link_below e ∙ link_below_more (i - 1)

pub get_or_below : (m i : ℕ) → i < m → get_or (links_below m) i None ≡ link_below i
unfolding links_below
get_or_below zero i h = let f : ⊥ = omega arith in absurd f
get_or_below (suc m) i h =
    ⊎_elim
    (λ (l : i < m). let k : i < length (links_below m) = rw (length_below m) l in get_or_append_left (links_below m) (link_below m ∷ []) None i k ∙ get_or_below m i l)
    (λ (l : m ≤ i). let e : i ≡ m = omega arith in ap (λ n. get_or (links_below m ++ (link_below m ∷ [])) n None) e ∙ get_or_at (links_below m) (link_below m) [] None m (length_below m) ∙ ap link_below (sym e))
    (cases_lt i m)

pub run_below : (m i : ℕ) → i ≤ m → Run (links_below m) (link_below i) (down i)
unfolding link_below down
run_below m zero h = tt
run_below m (suc i) h =
    let l : i < m = omega arith in
    let k : i < length (links_below m) = rw (length_below m) l in
    let P : Option ℕ → Type 0 = λ o. Run (links_below m) o (down i) in
    (refl, k, subst P (sym (get_or_below m i l)) (run_below m i (omega arith)))

pub count_down_past : (x i : ℕ) → i ≤ x → count x (down i) ≡ 0
unfolding down count
count_down_past x zero h = refl
count_down_past x (suc i) h =
    let ne : i ≡ x → ⊥ = λ e. omega arith in
    let c : ◌≡◌ {A = ℕ} (cond (eqb i x) 1 0) 0 = cond-false {A = ℕ} (eqb i x) 1 0 (ne_eqb i x ne) in
    omega (arith, c, count_down_past x i (omega arith))

pub count_down : (x i : ℕ) → count x (down i) ≤ 1
unfolding down count
count_down x zero = omega arith
count_down x (suc i) =
    ⊎_elim
    (λ (e : i ≡ x).
    let c : ◌≡◌ {A = ℕ} (cond (eqb i x) 1 0) 1 = cond-true {A = ℕ} (eqb i x) 1 0 (eq-eqb i x e) in
    let l : i ≤ x = omega arith in
    omega (arith, c, count_down_past x i l))
    (λ (e : i ≡ x → ⊥).
    let c : ◌≡◌ {A = ℕ} (cond (eqb i x) 1 0) 0 = cond-false {A = ℕ} (eqb i x) 1 0 (ne_eqb i x e) in
    omega (arith, c, count_down x i))
    (cases_eq i x)

pub sum_none : (f : List ℕ → ℕ) → f [] ≡ 0 → (n : ℕ) → sum_by f (replicate n []) ≡ 0
sum_none f e zero = refl
sum_none f e (suc n) = omega (arith, sum_by-cons f [] (replicate n []), e, sum_none f e n)

pub fresh_inv : (n m : ℕ) → Inv (links_below m) (link_below m ∷ replicate n None) (down m ∷ replicate n [])
unfolding count
fresh_inv n m =
    record {
      runs = fresh_runs;
      same = ap suc (length-replicate {A = List ℕ} n [] ∙ sym (length-replicate {A = Option ℕ} n None));
      once = λ x. omega (arith, sum_by-cons (count x) (down m) (replicate n []), sum_none (count x) refl n, count_down x m);
      whole = omega (arith, sum_by-cons length (down m) (replicate n []), sum_none length refl n, length_down m, length_below m);
    }
  where
    fresh_runs : (k : ℕ) → k < length (link_below m ∷ replicate n None) → Run (links_below m) (get_or (link_below m ∷ replicate n None) k None) (get_or (down m ∷ replicate n []) k [])
    fresh_runs zero l = run_below m m (omega arith)
    fresh_runs (suc k) l =
        let e : length {A = Option ℕ} (replicate n None) ≡ n = length-replicate {A = Option ℕ} n None in
        let h : k < n = omega arith in
        let P : Option ℕ → Type 0 = λ o. Run (links_below m) o (get_or (replicate n []) k []) in
        let Q : List ℕ → Type 0 = λ w. Run (links_below m) None w in
        subst P (sym (get_or-replicate n k None None h)) (subst Q (sym (get_or-replicate {A = List ℕ} n k [] [] h)) tt)

pub fresh_sound : (n m : ℕ) → Sound (links_below m) (link_below m ∷ replicate n None)
fresh_sound n m = inv_sound _ _ _ (fresh_inv n m)

pub fresh_walks : (n m : ℕ) → walks (links_below m) (replicate n None) ≡ replicate n []
fresh_walks n m = (tails _ _ _ _ (inv_walks _ _ _ (fresh_inv n m))).1

pub fresh_counted : (n m : ℕ) → 0 + length (walk (links_below m) (length (links_below m)) (link_below m)) ≡ length (links_below m)
fresh_counted n m =
    let e = ap length (tails _ _ _ _ (inv_walks _ _ _ (fresh_inv n m))).0 in
    omega (arith, e, length_down m, length_below m)

pub record Made (n m : ℕ) (nx hv : List (Option ℕ)) (o : Option ℕ) : Type 0 where
  pub sound : Sound nx (o ∷ hv)
  pub counted : 0 + length (walk nx (length nx) o) ≡ length nx
  pub empty : walks nx hv ≡ replicate n []
  pub sized : length nx ≡ m

pub made_fresh : (n m : ℕ) (nx hv : List (Option ℕ)) (o : Option ℕ) → nx ≡ links_below m → hv ≡ replicate n None → o ≡ link_below m → Made n m nx hv o
made_fresh n m nx hv o a b e =
    let P : List (Option ℕ) → Type 0 = λ x. Made n m x hv o in
    let Q : List (Option ℕ) → Type 0 = λ x. Made n m (links_below m) x o in
    let R : Option ℕ → Type 0 = λ x. Made n m (links_below m) (replicate n None) x in
    subst P (sym a) (subst Q (sym b) (subst R (sym e) (record { sound = fresh_sound n m; counted = fresh_counted n m; empty = fresh_walks n m; sized = length_below m })))
