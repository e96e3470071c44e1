-- Cutting out the slot after another one: what the table is after it, as the struct has it.
use Rattle.std.proofs.Common.{◌≡◌, ℕ, suc, ◌+◌, ◌-◌, ◌<◌, ◌≤◌, ◌≢◌, List, [], ◌∷◌, ◌++◌, length, get_or, take, drop, set, Some, None, Option, sym, ap, ◌∙◌, subst, arith}
use Rattle.std.proofs.lemmas.List.{length-set, get_or_read, take-append-drop, drop_more, take_more, append_assoc}
use Rattle.std.proofs.lemmas.List.Sums.{get_or-le-sum_by}
use Rattle.links.specs.Walk.{walk, walks, Sound}
use Rattle.links.specs.declared.table.Links.{Links}
use Rattle.links.specs.Meaning.{slots}
use Rattle.links.proofs.Linked.{Run, Inv, inv_from, inv_walks, inv_sound, run_some, run_none}
use Rattle.links.proofs.Steps.{tails, used_is, row_in}
use Rattle.links.proofs.Cutting.{cut}

-- the way from the middle of a list
pub run_at : (nx : List (Option ℕ)) (p : ℕ) (A R : List ℕ) (o : Option ℕ) → Run nx o (A ++ (p ∷ R)) → (p < length nx) × Run nx (get_or nx p None) R
run_at nx p [] R None r = absurd r
run_at nx p [] R (Some q) r = let P : ℕ → Type 0 = λ z. Run nx (get_or nx z None) R in (omega (arith, r.0, r.1), subst P r.0 r.2)
run_at nx p (a ∷ A) R None r = absurd r
run_at nx p (a ∷ A) R (Some q) r = run_at nx p A R (get_or nx q None) r.2

pub split_at : (X : List ℕ) (k p : ℕ) → k < length X → get_or X k 0 ≡ p → X ≡ take k X ++ (p ∷ drop (k + 1) X)
split_at X k p l e = sym (take-append-drop k X) ∙ ap (λ y. take k X ++ y) (drop_more X k 0 l ∙ ap (λ y. y ∷ drop (k + 1) X) e)

module _ (l : Links) (r k p : ℕ) (row : r < length (slots l)) (lk : k < length (get_or (slots l) r [])) (ep : get_or (get_or (slots l) r []) k 0 ≡ p) where
  pub place : (p < length l.next.items) × Run l.next.items (get_or l.next.items p None) (drop (k + 1) (get_or (slots l) r []))
  unfolding slots
  place =
      let nx : List (Option ℕ) = l.next.items in
      let hv : List (Option ℕ) = l.heads.items in
      let lj : suc r < length (l.free ∷ hv) = omega (arith, row_in l r row) in
      let X : List ℕ = get_or (walks nx hv) r [] in
      let Q : List ℕ → Type 0 = λ w. Run nx (get_or hv r None) w in
      run_at nx p (take k X) (drop (k + 1) X) (get_or hv r None) (subst Q (split_at X k p lk ep) ((inv_from nx (l.free ∷ hv) l.sound).runs (suc r) lj))

  pub last : (o : Option ℕ) → o ≡ get_or l.next.items p o → o ≡ None → drop (k + 1) (get_or (slots l) r []) ≡ []
  last o eo e =
      let q : get_or l.next.items p None ≡ None = sym (get_or_read l.next.items p o place.0 eo None) ∙ e in
      let P : Option ℕ → Type 0 = λ x. Run l.next.items x (drop (k + 1) (get_or (slots l) r [])) in
      run_none l.next.items (drop (k + 1) (get_or (slots l) r [])) (subst P q place.1)

pub record CutOut (l : Links) (r k p s : ℕ) (t : Option ℕ) : Type 0 where
  pub inside : s < length l.next.items
  pub some : 1 ≤ l.used
  pub sound : Sound (set (set l.next.items p t) s l.free) (Some s ∷ l.heads.items)
  pub counted : l.used - 1 + length (walk (set (set l.next.items p t) s l.free) (length (set (set l.next.items p t) s l.free)) (Some s)) ≡ length (set (set l.next.items p t) s l.free)
  pub after : walks (set (set l.next.items p t) s l.free) l.heads.items ≡ set (slots l) r (take (k + 1) (get_or (slots l) r []) ++ drop 1 (drop (k + 1) (get_or (slots l) r [])))
  pub front : drop (k + 1) (get_or (slots l) r []) ≡ s ∷ drop 1 (drop (k + 1) (get_or (slots l) r []))

pub cut_in : (l : Links) (r k p s : ℕ) (row : r < length (slots l)) (lk : k < length (get_or (slots l) r [])) (ep : get_or (get_or (slots l) r []) k 0 ≡ p) (o : Option ℕ) → o ≡ get_or l.next.items p o → o ≡ Some s → CutOut l r k p s (get_or l.next.items s None)
unfolding slots
cut_in l r k p s row lk ep o eo es =
    let nx : List (Option ℕ) = l.next.items in
    let hv : List (Option ℕ) = l.heads.items in
    let fr : Option ℕ = l.free in
    let ws : List (List ℕ) = walks nx hv in
    let W : List ℕ = walk nx (length nx) fr in
    let X : List ℕ = get_or ws r [] in
    let v : Inv nx (fr ∷ hv) (W ∷ ws) = inv_from nx (fr ∷ hv) l.sound in
    let z : 0 < length (fr ∷ hv) = omega arith in
    let lr = row_in l r row in
    let lj : suc r < length (fr ∷ hv) = omega arith in
    let ne : 0 ≢ suc r = λ f. omega arith in
    let pl = place l r k p row lk ep in
    let q : get_or nx p None ≡ Some s = sym (get_or_read nx p o pl.0 eo None) ∙ es in
    let P : Option ℕ → Type 0 = λ x. Run nx x (drop (k + 1) X) in
    let m = run_some nx s (drop (k + 1) X) (subst P q pl.1) in
    let B : List ℕ = m.0 in
    let A : List ℕ = take k X in
    let e : X ≡ A ++ (p ∷ (s ∷ B)) = split_at X k p lk ep ∙ ap (λ y. A ++ (p ∷ y)) m.1 in
    let i2 : Inv (set (set nx p (get_or nx s None)) s fr) (Some s ∷ hv) ((s ∷ W) ∷ set ws r (A ++ (p ∷ B))) =
    cut nx (fr ∷ hv) (W ∷ ws) v (suc r) 0 p s lj z ne A B e m.2 in
    let both = tails _ _ _ _ (inv_walks _ _ _ i2) in
    let ln : length (set (set nx p (get_or nx s None)) s fr) ≡ length nx = length-set (set nx p (get_or nx s None)) s fr ∙ length-set nx p (get_or nx s None) in
    let lR = ap length both.0 in
    let u = used_is nx hv fr l.used l.sound l.counted in
    let lr2 : r < length ws = row in
    let b = get_or-le-sum_by length ws r [] lr2 in
    let d : drop 1 (drop (k + 1) X) ≡ B = ap (drop 1) m.1 in
    let tk : take (k + 1) X ≡ A ++ (p ∷ []) = take_more X k 0 lk ∙ ap (λ y. A ++ (y ∷ [])) ep in
    let shape : A ++ (p ∷ B) ≡ take (k + 1) X ++ drop 1 (drop (k + 1) X) = sym (append_assoc A (p ∷ []) B) ∙ ap (λ y. y ++ B) (sym tk) ∙ ap (λ y. take (k + 1) X ++ y) (sym d) in
    let some : 1 ≤ l.used = omega (arith, u, b, lk) in
    record {
      inside = m.2;
      some = some;
      sound = inv_sound _ _ _ i2;
      counted = omega (arith, ln, lR, l.counted, some);
      after = both.1 ∙ ap (λ y. set ws r y) shape;
      front = m.1 ∙ ap (λ y. s ∷ y) (sym d);
    }

pub cut_read : (l : Links) (r k p s : ℕ) (row : r < length (slots l)) (lk : k < length (get_or (slots l) r [])) (ep : get_or (get_or (slots l) r []) k 0 ≡ p) (o t : Option ℕ) → o ≡ get_or l.next.items p o → o ≡ Some s → t ≡ get_or l.next.items s t → CutOut l r k p s t
cut_read l r k p s row lk ep o t eo es et =
    let c = cut_in l r k p s row lk ep o eo es in
    let P : Option ℕ → Type 0 = λ x. CutOut l r k p s x in
    subst P (sym (get_or_read l.next.items s t c.inside et None)) c
