-- A slot leaves the middle of a list: the slot s after p goes to the front of the list 0.
use Rattle.std.proofs.Common.{◌≡◌, ℕ, ◌+◌, ◌<◌, ◌≤◌, cond, eqb, ◌≢◌, List, [], ◌∷◌, ◌++◌, length, get_or, set, Some, None, sum_by, Option, sym, refl, ap, ◌∙◌, subst, ⊎_elim, arith}
use Rattle.std.proofs.lemmas.List.{length-set, length-append, get_or-set_same, get_or-set_other}
use Rattle.std.proofs.lemmas.List.Sums.{sum_by-set, get_or-le-sum_by}
use Rattle.std.proofs.lemmas.Bool.{cases_eq}
use Rattle.links.specs.Walk.{count}
use Rattle.links.proofs.Linked.{Run, Inv, run_frame, count-cons, count-cons_same, count-cons_other, count-nil}

pub count-append : (x : ℕ) (A B : List ℕ) → count x (A ++ B) ≡ count x A + count x B
count-append x [] B = omega (arith, count-nil x)
count-append x (a ∷ A) B = omega (arith, count-cons x a (A ++ B), count-cons x a A, count-append x A B)

pub run_cut : (nx : List (Option ℕ)) (p s : ℕ) (A B : List ℕ) (o : Option ℕ) → count p A ≡ 0 → count p B ≡ 0 → Run nx o (A ++ (p ∷ (s ∷ B))) → Run (set nx p (get_or nx s None)) o (A ++ (p ∷ B))
run_cut nx p s [] B None ca cb r = r
run_cut nx p s [] B (Some q) ca cb r =
    let v = get_or nx s None in
    let n2 = set nx p v in
    let lp : p < length nx = omega (arith, r.0, r.1) in
    let e0 : get_or nx q None ≡ get_or nx p None = ap (λ x. get_or nx x None) r.0 in
    let t : Run nx (get_or nx s None) B = tail_of (get_or nx q None) r.2 in
    let lt : q < length n2 = rw length-set r.1 in
    let e : get_or n2 q None ≡ v = ap (λ x. get_or n2 x None) r.0 ∙ get_or-set_same nx p v None lp in
    let P : Option ℕ → Type 0 = λ x. Run n2 x B in
    (r.0, lt, subst P (sym e) (run_frame nx p v B v cb t))
  where
    tail_of : (x : Option ℕ) → Run nx x (s ∷ B) → Run nx (get_or nx s None) B
    tail_of None f = absurd f
    tail_of (Some y) f = let P : ℕ → Type 0 = λ z. Run nx (get_or nx z None) B in subst P f.0 f.2
run_cut nx p s (a ∷ A) B None ca cb r = r
run_cut nx p s (a ∷ A) B (Some q) ca cb r =
    let v = get_or nx s None in
    let n2 = set nx p v in
    let d = count-cons_other p a A ca in
    let ne : q ≢ p = λ f. d.0 (sym r.0 ∙ f) in
    let lt : q < length n2 = rw length-set r.1 in
    let e : get_or nx q None ≡ get_or n2 q None = sym (get_or-set_other nx p q v None ne) in
    let P : Option ℕ → Type 0 = λ x. Run n2 x (A ++ (p ∷ B)) in
    (r.0, lt, subst P e (run_cut nx p s A B (get_or nx q None) d.1 cb r.2))

pub elsewhere_too : (ls : List (List ℕ)) (s i k : ℕ) → ((x : ℕ) → sum_by (count x) ls ≤ 1) → i < length ls → k < length ls → k ≢ i → 1 ≤ count s (get_or ls i []) → count s (get_or ls k []) ≡ 0
elsewhere_too ls s i k once li lk ne c =
    let a = sum_by-set (count s) ls i [] [] li in
    let lk2 : k < length (set ls i []) = rw length-set lk in
    let b = get_or-le-sum_by (count s) (set ls i []) k [] lk2 in
    let d2 : count s (get_or (set ls i []) k []) ≡ count s (get_or ls k []) = ap (count s) (get_or-set_other ls i k [] [] ne) in
    omega (arith, a, b, c, d2, once s, count-nil s)

pub sum_cut : (f : List ℕ → ℕ) (n : ℕ) (ls : List (List ℕ)) (s i j : ℕ) (L : List ℕ) → f (get_or ls i []) ≡ n + f L → f (s ∷ get_or ls j []) ≡ n + f (get_or ls j []) → i < length ls → j < length ls → j ≢ i → sum_by f (set (set ls i L) j (s ∷ get_or ls j [])) ≡ sum_by f ls
sum_cut f n ls s i j L c e li lj ne =
    let lj2 : j < length (set ls i L) = rw length-set lj in
    let a = sum_by-set f (set ls i L) j (s ∷ get_or ls j []) [] lj2 in
    let b = sum_by-set f ls i L [] li in
    let d2 : f (get_or (set ls i L) j []) ≡ f (get_or ls j []) = ap f (get_or-set_other ls i j L [] ne) in
    omega (arith, a, b, c, d2, e)

module _ (nx hs : List (Option ℕ)) (ls : List (List ℕ)) (v : Inv nx hs ls) (i j p s : ℕ) (li : i < length hs) (lj : j < length hs) (ne : j ≢ i) (A B : List ℕ) (e : get_or ls i [] ≡ A ++ (p ∷ (s ∷ B))) where
  lil : i < length ls
  lil = rw v.same li

  ljl : j < length ls
  ljl = rw v.same lj

  counts : (x : ℕ) → count x (get_or ls i []) ≡ count x A + (cond (eqb p x) 1 0 + (cond (eqb s x) 1 0 + count x B))
  counts x = ap (count x) e ∙ count-append x A (p ∷ (s ∷ B)) ∙ ap (λ y. count x A + y) (count-cons x p (s ∷ B) ∙ ap (λ y. cond (eqb p x) 1 0 + y) (count-cons x s B))

  counts_after : (x : ℕ) → count x (A ++ (p ∷ B)) ≡ count x A + (cond (eqb p x) 1 0 + count x B)
  counts_after x = count-append x A (p ∷ B) ∙ ap (λ y. count x A + y) (count-cons x p B)

  own : (x : ℕ) → count x (get_or ls i []) ≤ 1
  own x = omega (arith, get_or-le-sum_by (count x) ls i [] lil, v.once x)

  at_p : ◌≡◌ {A = ℕ} (cond (eqb p p) 1 0) 1
  at_p = omega (arith, count-cons p p [], count-cons_same p [], count-nil p)

  at_s : ◌≡◌ {A = ℕ} (cond (eqb s s) 1 0) 1
  at_s = omega (arith, count-cons s s [], count-cons_same s [], count-nil s)

  n2 : List (Option ℕ)
  n2 = set nx p (get_or nx s None)

  n3 : List (Option ℕ)
  n3 = set (set nx p (get_or nx s None)) s (get_or hs j None)

  -- a list without p and s stays
  both_frame : (o : Option ℕ) (L : List ℕ) → count p L ≡ 0 → count s L ≡ 0 → Run nx o L → Run n3 o L
  unfolding n3
  both_frame o L cp cs r = run_frame (set nx p (get_or nx s None)) s (get_or hs j None) L o cs (run_frame nx p (get_or nx s None) L o cp r)

  other_frame : (k : ℕ) → k < length hs → k ≢ i → Run n3 (get_or hs k None) (get_or ls k [])
  other_frame k l q =
      let lk : k < length ls = rw v.same l in
      let hp : 1 ≤ count p (get_or ls i []) = omega (arith, counts p, at_p) in
      let hs1 : 1 ≤ count s (get_or ls i []) = omega (arith, counts s, at_s) in
      both_frame (get_or hs k None) (get_or ls k []) (elsewhere_too ls p i k v.once lil lk q hp) (elsewhere_too ls s i k v.once lil lk q hs1) (v.runs k l)

  cut_runs : s < length nx → (k : ℕ) → k < length (set hs j (Some s)) → Run n3 (get_or (set hs j (Some s)) k None) (get_or (set (set ls i (A ++ (p ∷ B))) j (s ∷ get_or ls j [])) k [])
  unfolding n3
  cut_runs ls0 k l =
      let lk : k < length hs = rw length-set at l in
      let m1 : List (List ℕ) = set ls i (A ++ (p ∷ B)) in
      let ljm : j < length m1 = rw length-set ljl in
      let ls2 : s < length (set nx p (get_or nx s None)) = rw length-set ls0 in
      ⊎_elim
      (λ (q : k ≡ j).
      let h : get_or (set hs j (Some s)) k None ≡ Some s = ap (λ n. get_or (set hs j (Some s)) n None) q ∙ get_or-set_same hs j (Some s) None lj in
      let g : get_or (set m1 j (s ∷ get_or ls j [])) k [] ≡ s ∷ get_or ls j [] = ap (λ n. get_or (set m1 j (s ∷ get_or ls j [])) n []) q ∙ get_or-set_same m1 j (s ∷ get_or ls j []) [] ljm in
      let u : get_or n3 s None ≡ get_or hs j None = get_or-set_same (set nx p (get_or nx s None)) s (get_or hs j None) None ls2 in
      let lt : s < length n3 = rw (length-set, length-set) ls0 in
      let P : Option ℕ → Type 0 = λ x. Run n3 x (get_or ls j []) in
      let w : Run n3 (Some s) (s ∷ get_or ls j []) = (refl, lt, subst P (sym u) (other_frame j lj ne)) in
      let P1 : Option ℕ → Type 0 = λ x. Run n3 x (s ∷ get_or ls j []) in
      let P2 : List ℕ → Type 0 = λ x. Run n3 (get_or (set hs j (Some s)) k None) x in
      subst P2 (sym g) (subst P1 (sym h) w))
      (λ (q : k ≡ j → ⊥).
      let h1 : get_or (set hs j (Some s)) k None ≡ get_or hs k None = get_or-set_other hs j k (Some s) None q in
      let g1 : get_or (set m1 j (s ∷ get_or ls j [])) k [] ≡ get_or m1 k [] = get_or-set_other m1 j k (s ∷ get_or ls j []) [] q in
      let P1 : Option ℕ → Type 0 = λ x. Run n3 x (get_or (set m1 j (s ∷ get_or ls j [])) k []) in
      let P2 : List ℕ → Type 0 = λ x. Run n3 (get_or hs k None) x in
      let inner : Run n3 (get_or hs k None) (get_or m1 k []) =
      ⊎_elim
      (λ (w : k ≡ i).
      let g2 : get_or m1 k [] ≡ A ++ (p ∷ B) = ap (λ n. get_or m1 n []) w ∙ get_or-set_same ls i (A ++ (p ∷ B)) [] lil in
      let cpa : count p A ≡ 0 = omega (arith, counts p, own p, at_p) in
      let cpb : count p B ≡ 0 = omega (arith, counts p, own p, at_p) in
      let csa : count s (A ++ (p ∷ B)) ≡ 0 = omega (arith, counts s, own s, at_s, counts_after s) in
      let Q0 : List ℕ → Type 0 = λ x. Run nx (get_or hs i None) x in
      let r0 : Run nx (get_or hs i None) (A ++ (p ∷ (s ∷ B))) = subst Q0 e (v.runs i li) in
      let r1 = run_cut nx p s A B (get_or hs i None) cpa cpb r0 in
      let r2 : Run n3 (get_or hs i None) (A ++ (p ∷ B)) = run_frame (set nx p (get_or nx s None)) s (get_or hs j None) (A ++ (p ∷ B)) (get_or hs i None) csa r1 in
      let Q1 : ℕ → Type 0 = λ x. Run n3 (get_or hs x None) (A ++ (p ∷ B)) in
      let Q2 : List ℕ → Type 0 = λ x. Run n3 (get_or hs k None) x in
      subst Q2 (sym g2) (subst Q1 (sym w) r2))
      (λ (w : k ≡ i → ⊥).
      let g2 : get_or m1 k [] ≡ get_or ls k [] = get_or-set_other ls i k (A ++ (p ∷ B)) [] w in
      let Q2 : List ℕ → Type 0 = λ x. Run n3 (get_or hs k None) x in
      subst Q2 (sym g2) (other_frame k lk w))
      (cases_eq k i) in
      subst P1 (sym h1) (subst P2 (sym g1) inner))
      (cases_eq k j)

  pub cut : s < length nx → Inv (set (set nx p (get_or nx s None)) s (get_or hs j None)) (set hs j (Some s)) (set (set ls i (A ++ (p ∷ B))) j (s ∷ get_or ls j []))
  unfolding n3
  cut l =
      record {
        runs = cut_runs l;
        same = simp length-set v.same;
        once = λ x.
            let c : count x (get_or ls i []) ≡ cond (eqb s x) 1 0 + count x (A ++ (p ∷ B)) = omega (arith, counts x, counts_after x) in
            rw (sum_cut (count x) (cond (eqb s x) 1 0) ls s i j (A ++ (p ∷ B)) c (count-cons x s (get_or ls j [])) lil ljl ne) (v.once x);
        whole =
            let c : length (get_or ls i []) ≡ 1 + length (A ++ (p ∷ B)) = omega (arith, ap length e, length-append A (p ∷ (s ∷ B)), length-append A (p ∷ B)) in
            simp length-set (sum_cut length 1 ls s i j (A ++ (p ∷ B)) c (omega arith) lil ljl ne ∙ v.whole);
      }
