-- The way from a link as a relation, Run, and what it keeps when one slot moves from the front of a list to the front of another.
use Rattle.std.proofs.Common.{◌≡◌, ℕ, zero, suc, ◌+◌, ◌<◌, ◌≤◌, true, cond, eqb, ltb, ◌≢◌, List, [], ◌∷◌, length, get_or, set, Some, None, sum_by, Option, sym, refl, ap, ◌∙◌, subst, ⊎_elim, arith}
use Rattle.std.proofs.lemmas.List.{length-set, get_or-set_same, get_or-set_other, length-map, get_or-map, ext_get_or}
use Rattle.std.proofs.lemmas.List.Sums.{sum_by-set, get_or-le-sum_by}
use Rattle.std.proofs.lemmas.Bool.{and_parts, and_from, ltb-true, lt-ltb, eq-eqb, cases_eq, cond-true}
use Rattle.links.specs.Walk.{walk, good, count, walks, Sound}

-- L is the list of slots on the way from a link
abbrev pub Run : List (Option ℕ) → Option ℕ → List ℕ → Type 0
Run next None [] = Unit {0}
Run next None (x ∷ L) = ⊥
Run next (Some s) [] = ⊥
Run next (Some s) (x ∷ L) = (s ≡ x) × (s < length next) × Run next (get_or next s None) L

pub count-cons_other : (x y : ℕ) (ys : List ℕ) → count x (y ∷ ys) ≡ 0 → (y ≢ x) × (count x ys ≡ 0)
unfolding count
count-cons_other x y ys e =
    ⊎_elim
    (λ (q : y ≡ x). let c : ◌≡◌ {A = ℕ} (cond (eqb y x) 1 0) 1 = cond-true {A = ℕ} (eqb y x) 1 0 (eq-eqb y x q) in let f : ⊥ = omega arith in absurd f)
    (λ (q : y ≡ x → ⊥). (q, omega arith))
    (cases_eq y x)

pub count-cons_same : (x : ℕ) (ys : List ℕ) → count x (x ∷ ys) ≡ 1 + count x ys
unfolding count
count-cons_same x ys = ap (λ n. n + count x ys) (cond-true (eqb x x) 1 0 (eq-eqb x x refl))

pub count-cons : (x y : ℕ) (ys : List ℕ) → count x (y ∷ ys) ≡ cond (eqb y x) 1 0 + count x ys
unfolding count
count-cons x y ys = refl

pub count-nil : (x : ℕ) → count x [] ≡ 0
unfolding count
count-nil x = refl

-- a write to a slot that is not on the way leaves the way
pub run_frame : (next : List (Option ℕ)) (i : ℕ) (v : Option ℕ) (L : List ℕ) (o : Option ℕ) → count i L ≡ 0 → Run next o L → Run (set next i v) o L
run_frame next i v [] None c r = tt
run_frame next i v [] (Some s) c r = r
run_frame next i v (x ∷ L) None c r = r
run_frame next i v (x ∷ L) (Some s) c r =
    let d = count-cons_other i x L c in
    let ne : s ≢ i = λ q. d.0 (sym r.0 ∙ q) in
    let lt : s < length (set next i v) = rw length-set r.1 in
    let e : get_or next s None ≡ get_or (set next i v) s None = sym (get_or-set_other next i s v None ne) in
    let P : Option ℕ → Type 0 = λ p. Run (set next i v) p L in
    (r.0, lt, subst P e (run_frame next i v L (get_or next s None) d.1 r.2))

pub run_walk : (next : List (Option ℕ)) (f : ℕ) (L : List ℕ) (o : Option ℕ) → Run next o L → length L ≤ f → walk next f o ≡ L
unfolding walk
run_walk next zero [] None r l = refl
run_walk next (suc f) [] None r l = refl
run_walk next f [] (Some s) r l = absurd r
run_walk next f (x ∷ L) None r l = absurd r
run_walk next zero (x ∷ L) (Some s) r l = let f : ⊥ = omega arith in absurd f
run_walk next (suc f) (x ∷ L) (Some s) r l =
    let t : walk next f (get_or next s None) ≡ L = run_walk next f L (get_or next s None) r.2 (omega arith) in
    cc (r.0, t)

pub run_good : (next : List (Option ℕ)) (f : ℕ) (L : List ℕ) (o : Option ℕ) → Run next o L → length L ≤ f → good next f o ≡ true
unfolding good
run_good next zero [] None r l = refl
run_good next (suc f) [] None r l = refl
run_good next f [] (Some s) r l = absurd r
run_good next f (x ∷ L) None r l = absurd r
run_good next zero (x ∷ L) (Some s) r l = let f : ⊥ = omega arith in absurd f
run_good next (suc f) (x ∷ L) (Some s) r l =
    and_from _ _ (lt-ltb s (length next) r.1) (run_good next f L (get_or next s None) r.2 (omega arith))

pub good_run : (next : List (Option ℕ)) (f : ℕ) (o : Option ℕ) → good next f o ≡ true → Run next o (walk next f o)
unfolding good walk
good_run next zero None g = tt
good_run next zero (Some s) g = let z : ◌≡◌ {A = ℕ} 0 1 = cc in let f : ⊥ = omega arith in absurd f
good_run next (suc f) None g = tt
good_run next (suc f) (Some s) g =
    let p = and_parts (ltb s (length next)) (good next f (get_or next s None)) g in
    (refl, ltb-true s (length next) p.0, good_run next f (get_or next s None) p.1)

-- the invariant over lists that are given
pub record Inv (next hs : List (Option ℕ)) (ls : List (List ℕ)) : Type 0 where
  pub runs : (k : ℕ) → k < length hs → Run next (get_or hs k None) (get_or ls k [])
  pub same : length ls ≡ length hs
  pub once : (x : ℕ) → sum_by (count x) ls ≤ 1
  pub whole : sum_by length ls ≡ length next

pub inv_from : (next hs : List (Option ℕ)) → Sound next hs → Inv next hs (walks next hs)
inv_from next hs s =
    record {
      runs = λ k l.
          let P : List ℕ → Type 0 = λ w. Run next (get_or hs k None) w in
          subst P (sym (get_or-map (walk next (length next)) hs k None [] l)) (good_run next (length next) (get_or hs k None) (s.0 k l));
      same = length-map hs (walk next (length next));
      once = s.1;
      whole = s.2;
    }

-- each list is as long as the table at most
pub inv_short : (next hs : List (Option ℕ)) (ls : List (List ℕ)) → Inv next hs ls → (k : ℕ) → k < length hs → length (get_or ls k []) ≤ length next
inv_short next hs ls v k l =
    let lt : k < length ls = rw v.same l in
    omega (arith, get_or-le-sum_by length ls k [] lt, v.whole)

pub inv_walks : (next hs : List (Option ℕ)) (ls : List (List ℕ)) → Inv next hs ls → walks next hs ≡ ls
inv_walks next hs ls v =
    ext_get_or [] (walks next hs) ls (length-map hs (walk next (length next)) ∙ sym v.same)
    (λ k l.
    let h : k < length hs = rw (length-map hs (walk next (length next))) at l in
    get_or-map (walk next (length next)) hs k None [] h
    ∙ run_walk next (length next) (get_or ls k []) (get_or hs k None) (v.runs k h) (inv_short next hs ls v k h))

pub inv_sound : (next hs : List (Option ℕ)) (ls : List (List ℕ)) → Inv next hs ls → Sound next hs
inv_sound next hs ls v =
    let e = inv_walks next hs ls v in (
      λ k l. run_good next (length next) (get_or ls k []) (get_or hs k None) (v.runs k l) (inv_short next hs ls v k l),
      λ x. rw e (v.once x),
      rw e v.whole,
    )

-- the list from a link to s begins with s
pub run_some : (next : List (Option ℕ)) (s : ℕ) (L : List ℕ) → Run next (Some s) L → (R : List ℕ) × (L ≡ s ∷ R) × (s < length next) × Run next (get_or next s None) R
run_some next s [] r = absurd r
run_some next s (x ∷ L) r = (L, ap (λ y. y ∷ L) (sym r.0), r.1, r.2)

pub run_none : (next : List (Option ℕ)) (L : List ℕ) → Run next None L → L ≡ []
run_none next [] r = refl
run_none next (x ∷ L) r = absurd r

-- a slot that is on the list i is on no other list
pub elsewhere : (ls : List (List ℕ)) (s i k : ℕ) (L : List ℕ) → ((x : ℕ) → sum_by (count x) ls ≤ 1) → i < length ls → k < length ls → k ≢ i → get_or ls i [] ≡ s ∷ L → count s (get_or ls k []) ≡ 0
elsewhere ls s i k L once li lk ne e =
    let a = sum_by-set (count s) ls i [] [] li in
    let c : count s (get_or ls i []) ≡ 1 + count s L = ap (count s) e ∙ count-cons_same s L in
    let lk2 : k < length (set ls i []) = rw length-set lk in
    let b = get_or-le-sum_by (count s) (set ls i []) k [] lk2 in
    let d : get_or (set ls i []) k [] ≡ get_or ls k [] = get_or-set_other ls i k [] [] ne in
    let d2 : count s (get_or (set ls i []) k []) ≡ count s (get_or ls k []) = ap (count s) d in
    omega (arith, a, b, c, d2, once s, count-nil s)

-- and not twice on its own
pub not_again : (ls : List (List ℕ)) (s i : ℕ) (L : List ℕ) → ((x : ℕ) → sum_by (count x) ls ≤ 1) → i < length ls → get_or ls i [] ≡ s ∷ L → count s L ≡ 0
not_again ls s i L once li e =
    let c : count s (get_or ls i []) ≡ 1 + count s L = ap (count s) e ∙ count-cons_same s L in
    let b = get_or-le-sum_by (count s) ls i [] li in
    omega (arith, b, c, once s)

-- what is summed over the lists stays where one element goes from one to another
pub sum_shift : (f : List ℕ → ℕ) (n : ℕ) (ls : List (List ℕ)) (s i j : ℕ) (L : List ℕ) → ((X : List ℕ) → f (s ∷ X) ≡ n + f X) → i < length ls → j < length ls → j ≢ i → get_or ls i [] ≡ s ∷ L → sum_by f (set (set ls i L) j (s ∷ get_or ls j [])) ≡ sum_by f ls
sum_shift f n ls s i j L cons li lj ne e =
    let lj2 : j < length (set ls i L) = rw length-set lj in
    let a = sum_by-set f (set ls i L) j (s ∷ get_or ls j []) [] lj2 in
    let b = sum_by-set f ls i L [] li in
    let d2 : f (get_or (set ls i L) j []) ≡ f (get_or ls j []) = ap f (get_or-set_other ls i j L [] ne) in
    let c : f (get_or ls i []) ≡ n + f L = ap f e ∙ cons L in
    omega (arith, a, b, c, d2, cons (get_or ls j []))

-- the front slot of the list i goes to the front of the list j
module _ (next hs : List (Option ℕ)) (ls : List (List ℕ)) (v : Inv next hs ls) (i j s : ℕ) (li : i < length hs) (lj : j < length hs) (ne : j ≢ i) (L : List ℕ) (e : get_or ls i [] ≡ s ∷ L) where
  private_runs : (r : Run next (Some s) (s ∷ L)) (k : ℕ) → k < length (set (set hs i (get_or next s None)) j (Some s)) → Run (set next s (get_or hs j None)) (get_or (set (set hs i (get_or next s None)) j (Some s)) k None) (get_or (set (set ls i L) j (s ∷ get_or ls j [])) k [])
  private_runs r k l =
      let next2 : List (Option ℕ) = set next s (get_or hs j None) in
      let lk : k < length hs = rw (length-set, length-set) at l in
      let lil : i < length ls = rw v.same li in
      let ljl : j < length ls = rw v.same lj in
      let lkl : k < length ls = rw v.same lk in
      let hs1 : List (Option ℕ) = set hs i (get_or next s None) in
      let ls1 : List (List ℕ) = set ls i L in
      let lj1 : j < length hs1 = rw length-set lj in
      let ljl1 : j < length ls1 = rw length-set ljl in
      ⊎_elim
      (λ (q : k ≡ j).
      let h : get_or (set hs1 j (Some s)) k None ≡ Some s = ap (λ n. get_or (set hs1 j (Some s)) n None) q ∙ get_or-set_same hs1 j (Some s) None lj1 in
      let g : get_or (set ls1 j (s ∷ get_or ls j [])) k [] ≡ s ∷ get_or ls j [] = ap (λ n. get_or (set ls1 j (s ∷ get_or ls j [])) n []) q ∙ get_or-set_same ls1 j (s ∷ get_or ls j []) [] ljl1 in
      let u : get_or next2 s None ≡ get_or hs j None = get_or-set_same next s (get_or hs j None) None r.1 in
      let f : Run next2 (get_or hs j None) (get_or ls j []) = run_frame next s (get_or hs j None) (get_or ls j []) (get_or hs j None) (elsewhere ls s i j L v.once lil ljl ne e) (v.runs j lj) in
      let lt : s < length next2 = rw length-set r.1 in
      let P : Option ℕ → Type 0 = λ p. Run next2 p (get_or ls j []) in
      let whole : Run next2 (Some s) (s ∷ get_or ls j []) = (refl, lt, subst P (sym u) f) in
      let P1 : Option ℕ → Type 0 = λ p. Run next2 p (s ∷ get_or ls j []) in
      let P2 : List ℕ → Type 0 = λ p. Run next2 (get_or (set hs1 j (Some s)) k None) p in
      subst P2 (sym g) (subst P1 (sym h) whole))
      (λ (q : k ≡ j → ⊥).
      let h1 : get_or (set hs1 j (Some s)) k None ≡ get_or hs1 k None = get_or-set_other hs1 j k (Some s) None q in
      let g1 : get_or (set ls1 j (s ∷ get_or ls j [])) k [] ≡ get_or ls1 k [] = get_or-set_other ls1 j k (s ∷ get_or ls j []) [] q in
      let P1 : Option ℕ → Type 0 = λ p. Run next2 p (get_or (set ls1 j (s ∷ get_or ls j [])) k []) in
      let P2 : List ℕ → Type 0 = λ p. Run next2 (get_or hs1 k None) p in
      let inner : Run next2 (get_or hs1 k None) (get_or ls1 k []) =
      ⊎_elim
      (λ (w : k ≡ i).
      let h2 : get_or hs1 k None ≡ get_or next s None = ap (λ n. get_or hs1 n None) w ∙ get_or-set_same hs i (get_or next s None) None li in
      let g2 : get_or ls1 k [] ≡ L = ap (λ n. get_or ls1 n []) w ∙ get_or-set_same ls i L [] lil in
      let f : Run next2 (get_or next s None) L = run_frame next s (get_or hs j None) L (get_or next s None) (not_again ls s i L v.once lil e) r.2 in
      let Q1 : Option ℕ → Type 0 = λ p. Run next2 p L in
      let Q2 : List ℕ → Type 0 = λ p. Run next2 (get_or hs1 k None) p in
      subst Q2 (sym g2) (subst Q1 (sym h2) f))
      (λ (w : k ≡ i → ⊥).
      let h2 : get_or hs1 k None ≡ get_or hs k None = get_or-set_other hs i k (get_or next s None) None w in
      let g2 : get_or ls1 k [] ≡ get_or ls k [] = get_or-set_other ls i k L [] w in
      let f : Run next2 (get_or hs k None) (get_or ls k []) = run_frame next s (get_or hs j None) (get_or ls k []) (get_or hs k None) (elsewhere ls s i k L v.once lil lkl w e) (v.runs k lk) in
      let Q1 : Option ℕ → Type 0 = λ p. Run next2 p (get_or ls k []) in
      let Q2 : List ℕ → Type 0 = λ p. Run next2 (get_or hs1 k None) p in
      subst Q2 (sym g2) (subst Q1 (sym h2) f))
      (cases_eq k i) in
      subst P1 (sym h1) (subst P2 (sym g1) inner))
      (cases_eq k j)

  pub shift : Run next (Some s) (s ∷ L) → Inv (set next s (get_or hs j None)) (set (set hs i (get_or next s None)) j (Some s)) (set (set ls i L) j (s ∷ get_or ls j []))
  shift r =
      let lil : i < length ls = rw v.same li in
      let ljl : j < length ls = rw v.same lj in
      record {
        runs = private_runs r;
        same = simp length-set v.same;
        once = λ x. rw (sum_shift (count x) (cond (eqb s x) 1 0) ls s i j L (count-cons x s) lil ljl ne e) (v.once x);
        whole = simp length-set (sum_shift length 1 ls s i j L (λ X. omega arith) lil ljl ne e ∙ v.whole);
      }
