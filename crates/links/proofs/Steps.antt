-- Taking a free slot and giving one back: what the table is after it, as the struct has it.
use Rattle.std.proofs.Common.{◌≡◌, ℕ, suc, ◌+◌, ◌-◌, ◌<◌, ◌≤◌, ◌≢◌, List, [], ◌∷◌, length, get_or, drop, set, Some, None, sum_by, Option, sym, ap, ◌∙◌, subst, arith}
use Rattle.std.proofs.lemmas.List.{length-set, length-map, get_or_read}
use Rattle.std.proofs.lemmas.List.Sums.{sum_by-cons, get_or-le-sum_by}
use Rattle.links.specs.Walk.{walk, count, walks, Sound}
use Rattle.links.specs.declared.table.Links.{Links}
use Rattle.links.specs.Meaning.{slots, size}
use Rattle.links.proofs.Linked.{Run, Inv, inv_from, inv_walks, inv_sound, run_some, run_none, shift, count-cons_same}

pub tails : {X : Type 0} (x y : X) (xs ys : List X) → x ∷ xs ≡ y ∷ ys → (x ≡ y) × (xs ≡ ys)
tails x y xs ys e = (cc, cc)

-- the used slots are those of the lists
pub used_is : (nx hv : List (Option ℕ)) (fr : Option ℕ) (used : ℕ) → Sound nx (fr ∷ hv) → used + length (walk nx (length nx) fr) ≡ length nx → used ≡ sum_by length (walks nx hv)
used_is nx hv fr used s c = omega (arith, s.2, sum_by-cons length (walk nx (length nx) fr) (walks nx hv))

pub record Taken (nx hv : List (Option ℕ)) (used r s : ℕ) (t u : Option ℕ) : Type 0 where
  pub inside : s < length nx
  pub sound : Sound (set nx s u) (t ∷ set hv r (Some s))
  pub counted : used + 1 + length (walk (set nx s u) (length (set nx s u)) t) ≡ length (set nx s u)
  pub after : walks (set nx s u) (set hv r (Some s)) ≡ set (walks nx hv) r (s ∷ get_or (walks nx hv) r [])
  pub fresh : sum_by (count s) (walks nx hv) ≡ 0

pub take_step : (nx hv : List (Option ℕ)) (fr : Option ℕ) (used r s : ℕ) → Sound nx (fr ∷ hv) → used + length (walk nx (length nx) fr) ≡ length nx → r < length hv → fr ≡ Some s → Taken nx hv used r s (get_or nx s None) (get_or hv r None)
take_step nx hv fr used r s sd c lr e =
    let ws : List (List ℕ) = walks nx hv in
    let W : List ℕ = walk nx (length nx) fr in
    let v : Inv nx (fr ∷ hv) (W ∷ ws) = inv_from nx (fr ∷ hv) sd in
    let P : Option ℕ → Type 0 = λ o. Run nx o W in
    let z : 0 < length (fr ∷ hv) = omega arith in
    let r0 : Run nx (Some s) W = subst P e (v.runs 0 z) in
    let q = run_some nx s W r0 in
    let R : List ℕ = q.0 in
    let Q : List ℕ → Type 0 = λ w. Run nx (Some s) w in
    let lj : suc r < length (fr ∷ hv) = omega arith in
    let ne : suc r ≢ 0 = λ f. omega arith in
    let i2 : Inv (set nx s (get_or hv r None)) (get_or nx s None ∷ set hv r (Some s)) (R ∷ set ws r (s ∷ get_or ws r [])) =
    shift nx (fr ∷ hv) (W ∷ ws) v 0 (suc r) s z lj ne R q.1 (subst Q q.1 r0) in
    let both = tails _ _ _ _ (inv_walks _ _ _ i2) in
    let lw : length W ≡ suc (length R) = ap length q.1 in
    let ln : length (set nx s (get_or hv r None)) ≡ length nx = length-set nx s (get_or hv r None) in
    let lR = ap length both.0 in
    let cw : count s W ≡ 1 + count s R = ap (count s) q.1 ∙ count-cons_same s R in
    record {
      inside = q.2;
      sound = inv_sound _ _ _ i2;
      counted = omega (arith, lw, ln, lR, c);
      after = both.1;
      fresh = omega (arith, cw, v.once s, sum_by-cons (count s) W ws);
    }

pub record Given (nx hv : List (Option ℕ)) (fr : Option ℕ) (used r s : ℕ) (t : Option ℕ) : Type 0 where
  pub inside : s < length nx
  pub some : 1 ≤ used
  pub sound : Sound (set nx s fr) (Some s ∷ set hv r t)
  pub counted : used - 1 + length (walk (set nx s fr) (length (set nx s fr)) (Some s)) ≡ length (set nx s fr)
  pub after : walks (set nx s fr) (set hv r t) ≡ set (walks nx hv) r (drop 1 (get_or (walks nx hv) r []))
  pub front : get_or (walks nx hv) r [] ≡ s ∷ drop 1 (get_or (walks nx hv) r [])

pub give_step : (nx hv : List (Option ℕ)) (fr : Option ℕ) (used r s : ℕ) → Sound nx (fr ∷ hv) → used + length (walk nx (length nx) fr) ≡ length nx → r < length hv → get_or hv r None ≡ Some s → Given nx hv fr used r s (get_or nx s None)
give_step nx hv fr used r s sd c lr e =
    let ws : List (List ℕ) = walks nx hv in
    let W : List ℕ = walk nx (length nx) fr in
    let v : Inv nx (fr ∷ hv) (W ∷ ws) = inv_from nx (fr ∷ hv) sd in
    let P : Option ℕ → Type 0 = λ o. Run nx o (get_or ws r []) in
    let z : 0 < length (fr ∷ hv) = omega arith in
    let lj : suc r < length (fr ∷ hv) = omega arith in
    let r0 : Run nx (Some s) (get_or ws r []) = subst P e (v.runs (suc r) lj) in
    let q = run_some nx s (get_or ws r []) r0 in
    let R : List ℕ = q.0 in
    let Q : List ℕ → Type 0 = λ w. Run nx (Some s) w in
    let ne : 0 ≢ suc r = λ f. omega arith in
    let i2 : Inv (set nx s fr) (Some s ∷ set hv r (get_or nx s None)) ((s ∷ W) ∷ set ws r R) =
    shift nx (fr ∷ hv) (W ∷ ws) v (suc r) 0 s lj z ne R q.1 (subst Q q.1 r0) in
    let both = tails _ _ _ _ (inv_walks _ _ _ i2) in
    let ln : length (set nx s fr) ≡ length nx = length-set nx s fr in
    let lR = ap length both.0 in
    let lw : length (get_or ws r []) ≡ suc (length R) = ap length q.1 in
    let u = used_is nx hv fr used sd c in
    let lr2 : r < length ws = rw (length-map hv (walk nx (length nx))) lr in
    let b = get_or-le-sum_by length ws r [] lr2 in
    let d : drop 1 (get_or ws r []) ≡ R = ap (drop 1) q.1 in
    record {
      inside = q.2;
      some = omega (arith, u, b, lw);
      sound = inv_sound _ _ _ i2;
      counted = omega (arith, lw, ln, lR, c, u, b);
      after = both.1 ∙ ap (λ x. set ws r x) (sym d);
      front = q.1 ∙ ap (λ x. s ∷ x) (sym d);
    }

-- ---- at a value of the struct
pub row_in : (l : Links) (r : ℕ) → r < length (slots l) → r < length l.heads.items
unfolding slots
row_in l r h = rw (length-map l.heads.items (walk l.next.items (length l.next.items))) at h

pub rows_are : (l : Links) → length (slots l) ≡ length l.heads.items
unfolding slots
rows_are l = length-map l.heads.items (walk l.next.items (length l.next.items))

pub take_in : (l : Links) (r s : ℕ) → r < length (slots l) → l.free ≡ Some s → Taken l.next.items l.heads.items l.used r s (get_or l.next.items s None) (get_or l.heads.items r None)
take_in l r s h e = take_step l.next.items l.heads.items l.free l.used r s l.sound l.counted (row_in l r h) e

-- with what the code has read
pub take_read : (l : Links) (r s : ℕ) (t u : Option ℕ) → r < length (slots l) → l.free ≡ Some s → t ≡ get_or l.next.items s t → u ≡ get_or l.heads.items r u → Taken l.next.items l.heads.items l.used r s t u
take_read l r s t u h e et eu =
    let k = take_in l r s h e in
    let nt : t ≡ get_or l.next.items s None = get_or_read l.next.items s t k.inside et None in
    let nu : u ≡ get_or l.heads.items r None = get_or_read l.heads.items r u (row_in l r h) eu None in
    let P : Option ℕ → Type 0 = λ x. Taken l.next.items l.heads.items l.used r s x u in
    let Q : Option ℕ → Type 0 = λ x. Taken l.next.items l.heads.items l.used r s (get_or l.next.items s None) x in
    subst P (sym nt) (subst Q (sym nu) k)

pub full_is : (l : Links) → l.free ≡ None → sum_by length (slots l) ≡ size l
unfolding slots size
full_is l e =
    let u = used_is l.next.items l.heads.items l.free l.used l.sound l.counted in
    let z : 0 < length (l.free ∷ l.heads.items) = omega arith in
    let P : Option ℕ → Type 0 = λ o. Run l.next.items o (walk l.next.items (length l.next.items) l.free) in
    let w = run_none l.next.items (walk l.next.items (length l.next.items) l.free) (subst P e ((inv_from l.next.items (l.free ∷ l.heads.items) l.sound).runs 0 z)) in
    let n : length (walk l.next.items (length l.next.items) l.free) ≡ 0 = ap length w in
    omega (arith, u, n, l.counted)

pub give_in : (l : Links) (r s : ℕ) → r < length (slots l) → get_or l.heads.items r None ≡ Some s → Given l.next.items l.heads.items l.free l.used r s (get_or l.next.items s None)
give_in l r s h e = give_step l.next.items l.heads.items l.free l.used r s l.sound l.counted (row_in l r h) e

pub give_read : (l : Links) (r s : ℕ) (t : Option ℕ) → r < length (slots l) → get_or l.heads.items r None ≡ Some s → t ≡ get_or l.next.items s t → Given l.next.items l.heads.items l.free l.used r s t
give_read l r s t h e et =
    let k = give_in l r s h e in
    let nt : t ≡ get_or l.next.items s None = get_or_read l.next.items s t k.inside et None in
    let P : Option ℕ → Type 0 = λ x. Given l.next.items l.heads.items l.free l.used r s x in
    subst P (sym nt) k
