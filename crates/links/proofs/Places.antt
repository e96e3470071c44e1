-- The places of a list, by the links that lead to them.
use Rattle.std.proofs.Common.{◌≡◌, ℕ, zero, suc, ◌+◌, ◌-◌, ◌^◌, ◌<◌, ◌≤◌, List, [], ◌∷◌, ◌++◌, length, get_or, take, drop, set, Some, None, sum_by, Option, sym, refl, ap, ◌∙◌, ⊎_elim, arith, MatchOption}
use Rattle.std.specs.List.{slice_get}
use Rattle.std.proofs.lemmas.Bool.{cases_lt}
use Rattle.std.proofs.lemmas.List.{get_or_read, get_or_past, get_or-set_same, length-drop, drop-drop}
use Rattle.std.proofs.lemmas.List.Sums.{get_or-le-sum_by}
use Rattle.links.specs.declared.table.Links.{Links}
use Rattle.links.specs.Meaning.{slots, size, list, from, Onto, before}
use Rattle.links.proofs.Linked.{Run, good_run, inv_from}
use Rattle.links.proofs.Steps.{row_in, used_is}
use Rattle.links.proofs.CutSteps.{place}

pub slice_get_inside : {X : Type 0} (xs : List X) (k : ℕ) (x : X) → slice_get xs k ≡ Some x → k < length xs
slice_get_inside [] k x e = let z : ◌≡◌ {A = ℕ} 0 1 = cc in let f : ⊥ = omega arith in absurd f
slice_get_inside (y ∷ xs) zero x e = omega arith
slice_get_inside (y ∷ xs) (suc k) x e = omega (arith, slice_get_inside xs k x e)

pub slice_get-get_or : {X : Type 0} (xs : List X) (k : ℕ) (x d : X) → slice_get xs k ≡ Some x → get_or xs k d ≡ x
slice_get-get_or [] k x d e = let z : ◌≡◌ {A = ℕ} 0 1 = cc in let f : ⊥ = omega arith in absurd f
slice_get-get_or (y ∷ xs) zero x d e = cc
slice_get-get_or (y ∷ xs) (suc k) x d e = slice_get-get_or xs k x d e

pub slice_get_end : {X : Type 0} (xs : List X) (k : ℕ) → slice_get xs k ≡ None → length xs ≤ k
slice_get_end [] k e = omega arith
slice_get_end (y ∷ xs) zero e = let z : ◌≡◌ {A = ℕ} 0 1 = cc in let f : ⊥ = omega arith in absurd f
slice_get_end (y ∷ xs) (suc k) e = omega (arith, slice_get_end xs k e)

pub slice_get_past : {X : Type 0} (xs : List X) (k : ℕ) → slice_get xs k ≡ None → slice_get xs (suc k) ≡ None
slice_get_past [] k e = refl
slice_get_past (y ∷ xs) zero e = let z : ◌≡◌ {A = ℕ} 0 1 = cc in let f : ⊥ = omega arith in absurd f
slice_get_past (y ∷ xs) (suc k) e = slice_get_past xs k e

pub slice_get_drop : {X : Type 0} (xs : List X) (k : ℕ) → slice_get (drop k xs) 0 ≡ slice_get xs k
slice_get_drop [] zero = refl
slice_get_drop [] (suc k) = refl
slice_get_drop (y ∷ xs) zero = refl
slice_get_drop (y ∷ xs) (suc k) = slice_get_drop xs k

pub before_cut : (L : List ℕ) (k : ℕ) (M : List ℕ) → k ≤ length L → before (take k L ++ M) k ≡ before L k
before_cut L zero M h = refl
before_cut [] (suc k) M h = let f : ⊥ = omega arith in absurd f
before_cut (y ∷ L) (suc zero) M h = refl
before_cut (y ∷ L) (suc (suc k)) M h = before_cut L (suc k) M (omega arith)

-- a way's link is the link to its first slot
pub run_head : (nx : List (Option ℕ)) (o : Option ℕ) (L : List ℕ) → Run nx o L → o ≡ slice_get L 0
run_head nx None [] r = refl
run_head nx None (x ∷ L) r = absurd r
run_head nx (Some s) [] r = absurd r
run_head nx (Some s) (x ∷ L) r = ap (λ y. Some y) r.0

pub onto_head : (l : Links) (o : Option ℕ) (L : List ℕ) → Onto l o → from l o ≡ L → o ≡ slice_get L 0
unfolding Onto from
onto_head l o L h e = run_head l.next.items o _ (good_run l.next.items (length l.next.items) o h) ∙ ap (λ M. slice_get M 0) e

-- the head of a list of the table leads to its first place
pub head_is : (l : Links) (r : ℕ) → r < length (slots l) → get_or l.heads.items r None ≡ slice_get (get_or (slots l) r []) 0
unfolding slots
head_is l r h =
    let lr : suc r < length (l.free ∷ l.heads.items) = omega (arith, row_in l r h) in
    run_head l.next.items _ _ ((inv_from l.next.items (l.free ∷ l.heads.items) l.sound).runs (suc r) lr)

-- only a list of the table has places
pub row_in_range : {X : Type 0} (ls : List (List X)) (r k : ℕ) → k < length (get_or ls r []) → r < length ls
row_in_range [] r k h = let f : ⊥ = omega arith in absurd f
row_in_range (L ∷ ls) zero k h = omega arith
row_in_range (L ∷ ls) (suc r) k h = omega (arith, row_in_range ls r k h)

pub row_of : {X : Type 0} (ls : List (List X)) (r k : ℕ) (x : X) → slice_get (get_or ls r []) k ≡ Some x → r < length ls
row_of ls r k x e = row_in_range ls r k (slice_get_inside (get_or ls r []) k x e)

module _ (l : Links) (r k s : ℕ) (e : slice_get (get_or (slots l) r []) k ≡ Some s) where
  pub place_in : s < length l.next.items
  place_in = (place l r k s (row_of (slots l) r k s e) (slice_get_inside _ k s e) (slice_get-get_or _ k s 0 e)).0

  pub place_next : (o : Option ℕ) → o ≡ get_or l.next.items s o → o ≡ slice_get (get_or (slots l) r []) (k + 1)
  place_next o eo =
      let p = place l r k s (row_of (slots l) r k s e) (slice_get_inside _ k s e) (slice_get-get_or _ k s 0 e) in
      get_or_read l.next.items s o p.0 eo None ∙ run_head l.next.items _ _ p.1 ∙ slice_get_drop (get_or (slots l) r []) (k + 1)

-- a place behind the last slot of a list
pub behind_last : (L : List ℕ) (k : ℕ) (o : Option ℕ) → o ≡ before L k → o ≡ None → (k ≡ 0 → ⊥) → None ≡ slice_get L k
behind_last L zero o e n h = absurd (h refl)
behind_last L (suc k) o e n h = sym (slice_get_past L k (sym e ∙ n))

-- the slot before the place k
pub behind : (L : List ℕ) (k p : ℕ) (o : Option ℕ) → o ≡ before L k → o ≡ Some p → (k ≡ k - 1 + 1) × (slice_get L (k - 1) ≡ Some p)
behind L zero p o e n = let z : ◌≡◌ {A = ℕ} 0 1 = cc in let f : ⊥ = omega arith in absurd f
behind L (suc k) p o e n = let q : k ≡ suc k - 1 = omega arith in (omega arith, ap (slice_get L) (sym q) ∙ sym e ∙ n)

pub later_cut : (S T : List (List ℕ)) (r k j : ℕ) (L : List ℕ) (o : Option ℕ) (n : ℕ) → k ≡ j + 1 → k < length L → MatchOption o ((T ≡ S) × (drop (j + 1) L ≡ [])) (λ s. (T ≡ set S r (take (j + 1) L ++ drop 1 (drop (j + 1) L))) × (drop (j + 1) L ≡ s ∷ drop 1 (drop (j + 1) L)) × (s < n)) → T ≡ set S r (take k L ++ drop (k + 1) L)
later_cut S T r k j L None n z h c = let f : ⊥ = omega (arith, ap length c.1, length-drop (j + 1) L) in absurd f
later_cut S T r k j L (Some s) n z h c = c.0 ∙ ap (λ m. set S r (take m L ++ drop 1 (drop m L))) (sym z) ∙ ap (λ M. set S r (take k L ++ M)) (drop-drop 1 k L)

-- the front of a list of the table
pub record Front (l : Links) (r s : ℕ) : Type 0 where
  pub row : r < length (slots l)
  pub head : get_or l.heads.items r None ≡ Some s

pub front : (l : Links) (r s : ℕ) → Some s ≡ slice_get (get_or (slots l) r []) 0 → Front l r s
front l r s e = let h = row_of (slots l) r 0 s (sym e) in record { row = h; head = head_is l r h ∙ sym e }

-- the cursor before the place k that has left the list
pub cut_stands : (S T : List (List ℕ)) (r k : ℕ) (o : Option ℕ) → k < length (get_or S r []) → o ≡ before (get_or S r []) k → T ≡ set S r (take k (get_or S r []) ++ drop (k + 1) (get_or S r [])) → o ≡ before (get_or T r []) k
cut_stands S T r k o h e c =
    let L = get_or S r [] in
    let inside : k ≤ length L = omega arith in
    let row : get_or T r [] ≡ take k L ++ drop (k + 1) L = ap (λ ls. get_or ls r []) c ∙ get_or-set_same S r _ [] (row_in_range S r k h) in
    e ∙ sym (ap (λ M. before M k) row ∙ before_cut L k (drop (k + 1) L) inside)

-- there are no more slots in lists than there are
pub slots_le : (l : Links) → sum_by length (slots l) ≤ size l
unfolding slots size
slots_le l = omega (arith, used_is l.next.items l.heads.items l.free l.used l.sound l.counted, l.counted)

pub list_small : (l : Links) (r : ℕ) → length (list l r) < 2 ^ 63
unfolding size
list_small l r = ⊎_elim (λ (h : r < length (slots l)). omega (arith, get_or-le-sum_by length (slots l) r [] h, slots_le l, l.next.ok.0, l.next.ok.1, l.next.small)) (λ (h : length (slots l) ≤ r). omega (arith, ap length (get_or_past (slots l) r [] h))) (cases_lt r (length (slots l)))
