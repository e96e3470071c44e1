-- Tests on times, and what the least open time at or above one tells of a gap.
use Rattle.std.proofs.Common.{◌≡◌, ℕ, zero, suc, ◌<◌, ◌≤◌, min, Bool, true, false, cond, not, ◌&&◌, ◌||◌, T, ltb, leb, ◌⊎◌, List, [], ◌∷◌, Some, None, Option, sym, refl, ◌∙◌, subst, inl, inr, true≢false, arith, le→leb, ltb→lt, lt→ltb, leb→le, nltb→le}
use mathlib.Core.Bool.{false≢true}
use lib.Dec.{nleb→lt}
use native.Mathlib.Decide.{ℕ_discrete, dec_lt}
use Rattle.std.proofs.lemmas.Bool.Decides.{nat_tests}
use Rattle.lease.specs.Times.{opens, count, least, sooner}
use Rattle.chain.specs.Versions.{Open}
use Rattle.chain.specs.Pruning.{open_in}

-- what the question for the least open time answers
abbrev pub LeastFrom : (ℕ → ℕ) → ℕ → Option ℕ → Type 0
LeastFrom os t None = (s : ℕ) → t ≤ s → os s ≡ 0
LeastFrom os t (Some m) = (t ≤ m) × (0 < os m) × ((s : ℕ) → t ≤ s → s < m → os s ≡ 0)

pub split : (b : Bool) → (b ≡ true) ⊎ (b ≡ false)
split true = inl refl
split false = inr refl

T_of : {b : Bool} → b ≡ true → T b
T_of e = subst T (sym e) tt

T_not_of : {b : Bool} → b ≡ false → T (not b)
T_not_of e = subst (λ b. T (not b)) (sym e) tt

pub of_T : (b : Bool) → T b → b ≡ true
of_T true h = refl
of_T false h = absurd h

pub of_not_T : (b : Bool) → (T b → ⊥) → b ≡ false
of_not_T true h = absurd (h tt)
of_not_T false h = refl

pub ltb_yes : (m n : ℕ) → m < n → ltb m n ≡ true
ltb_yes m n h = of_T (ltb m n) (lt→ltb m n h)

pub ltb_no : (m n : ℕ) → n ≤ m → ltb m n ≡ false
ltb_no m n h = of_not_T (ltb m n) (λ t. let k : m < n = ltb→lt m n t in omega arith)

pub leb_yes : (m n : ℕ) → m ≤ n → leb m n ≡ true
leb_yes m n h = of_T (leb m n) (le→leb m n h)

pub leb_no : (m n : ℕ) → n < m → leb m n ≡ false
leb_no m n h = of_not_T (leb m n) (λ t. let k : m ≤ n = leb→le m n t in omega arith)

pub is_lt : (m n : ℕ) → ltb m n ≡ true → m < n
is_lt m n e = ltb→lt m n (T_of e)

pub is_ge : (m n : ℕ) → ltb m n ≡ false → n ≤ m
is_ge m n e = nltb→le m n (T_not_of e)

pub is_le : (m n : ℕ) → leb m n ≡ true → m ≤ n
is_le m n e = leb→le m n (T_of e)

pub is_gt : (m n : ℕ) → leb m n ≡ false → n < m
is_gt m n e = nleb→lt m n (T_not_of e)

pub and_both : (a b : Bool) → (a && b) ≡ true → (a ≡ true) × (b ≡ true)
and_both true b e = (refl, e)
and_both false b e = absurd (false≢true e)

-- an open time in the gap
pub open_some : (os : ℕ → ℕ) (a b : ℕ) → open_in os a b ≡ true → (s : ℕ) × Open os s × (a ≤ s) × (s < b)
open_some os a zero e = absurd (false≢true e)
open_some os a (suc b) e = go (leb a b && ltb 0 (os b)) refl e (open_some os a b)
  where
    go : (c : Bool) → (leb a b && ltb 0 (os b)) ≡ c → (c || open_in os a b) ≡ true → (open_in os a b ≡ true → (s : ℕ) × Open os s × (a ≤ s) × (s < b)) → (s : ℕ) × Open os s × (a ≤ s) × (s < suc b)
    go true h e ih = let both = and_both (leb a b) (ltb 0 (os b)) h in (b, is_lt 0 (os b) both.1, is_le a b both.0, omega arith)
    go false h e ih = let r = ih e in (r.0, r.1, r.2, omega (arith, r.3))

-- no open time in the gap
pub open_none : (os : ℕ → ℕ) (a b : ℕ) → open_in os a b ≡ false → (s : ℕ) → Open os s → a ≤ s → s < b → ⊥
open_none os a zero e s h l u = omega arith
open_none os a (suc b) e s h l u = go (leb a b && ltb 0 (os b)) refl e (ℕ_discrete s b) (open_none os a b)
  where
    here : (leb a b && ltb 0 (os b)) ≡ false → s ≡ b → ⊥
    here f q =
        let x : leb a b ≡ true = leb_yes a b (omega arith) in
        let y : ltb 0 (os b) ≡ true = ltb_yes 0 (os b) (subst (λ n. 0 < os n) q h) in
        true≢false (subst (λ n. n ≡ false) y (subst (λ m. (m && ltb 0 (os b)) ≡ false) x f))

    go : (c : Bool) → (leb a b && ltb 0 (os b)) ≡ c → (c || open_in os a b) ≡ false → Dec (s ≡ b) → (open_in os a b ≡ false → (s : ℕ) → Open os s → a ≤ s → s < b → ⊥) → ⊥
    go true f e m ih = true≢false e
    go false f e (yes q) ih = here f q
    go false f e (no n) ih = ih e s h l (omega arith)

-- no time is open at all
pub shut_in : (os : ℕ → ℕ) → ((s : ℕ) → os s ≡ 0) → (a b : ℕ) → open_in os a b ≡ false
shut_in os none a b = go (open_in os a b) refl
  where
    go : (c : Bool) → open_in os a b ≡ c → c ≡ false
    go true e = let w = open_some os a b e in let f : ⊥ = omega (arith, none w.0, w.1) in absurd f
    go false e = refl

-- the least open time from a on tells whether one is open below b
pub least_some : (os : ℕ → ℕ) (a b m : ℕ) → LeastFrom os a (Some m) → ltb m b ≡ open_in os a b
least_some os a b m d = go (open_in os a b) refl
  where
    go : (c : Bool) → open_in os a b ≡ c → ltb m b ≡ c
    go true e =
        let w = open_some os a b e in
        ltb_yes m b (near w.0 w.1 w.2 w.3 (dec_lt w.0 m))
      where
        near : (s : ℕ) → 0 < os s → a ≤ s → s < b → Dec (s < m) → m < b
        near s o l u (yes h) = let z : os s ≡ 0 = d.2 s l h in omega arith
        near s o l u (no n) = omega arith
    go false e = far (dec_lt m b)
      where
        far : Dec (m < b) → ltb m b ≡ false
        far (yes h) = absurd (open_none os a b e m d.1 d.0 h)
        far (no n) = ltb_no m b (omega arith)

pub least_none : (os : ℕ → ℕ) (a b : ℕ) → LeastFrom os a None → false ≡ open_in os a b
least_none os a b d = go (open_in os a b) refl
  where
    go : (c : Bool) → open_in os a b ≡ c → false ≡ c
    go true e = let w = open_some os a b e in let z : os w.0 ≡ 0 = d w.0 w.2 in let f : ⊥ = omega (arith, w.1) in absurd f
    go false e = refl

count_other : (s y : ℕ) (l : List ℕ) → (s ≡ y → ⊥) → count s (y ∷ l) ≡ count s l
count_other s y l n = grind (arith, nat_tests)

count_here : (y : ℕ) (l : List ℕ) → 0 < count y (y ∷ l)
count_here y l = grind (arith, nat_tests)

count_more : (s y : ℕ) (l : List ℕ) → 0 < count s l → 0 < count s (y ∷ l)
count_more s y l h = omega arith

-- the least time of a list is one
pub least_right : (a : ℕ) (ls : List ℕ) → LeastFrom (opens ls) a (least a ls)
least_right a [] = λ s h. refl
least_right a (y ∷ l) = go (leb a y) refl (least a l) (least_right a l)
  where
    go : (b : Bool) → leb a y ≡ b → (o : Option ℕ) → LeastFrom (opens l) a o → LeastFrom (opens (y ∷ l)) a (cond b (sooner (Some y) o) o)
    go true e None d = (is_le a y e, count_here y l, λ s h lt. count_other s y l (λ q. omega arith) ∙ d s h)
    go true e (Some m) d = pick (dec_lt y m)
      where
        pick : Dec (y < m) → LeastFrom (opens (y ∷ l)) a (Some (min y m))
        pick (yes h) = let q : y ≡ min y m = omega arith in subst (λ n. LeastFrom (opens (y ∷ l)) a (Some n)) q (is_le a y e, count_here y l, λ s hs lt. count_other s y l (λ z. omega arith) ∙ d.2 s hs (omega arith))
        pick (no n) = let q : m ≡ min y m = omega arith in subst (λ n. LeastFrom (opens (y ∷ l)) a (Some n)) q (d.0, count_more m y l d.1, λ s hs lt. count_other s y l (λ z. omega arith) ∙ d.2 s hs lt)
    go false e None d = λ s h. let g = is_gt a y e in count_other s y l (λ q. omega arith) ∙ d s h
    go false e (Some m) d = let g = is_gt a y e in (d.0, count_more m y l d.1, λ s h lt. count_other s y l (λ q. omega arith) ∙ d.2 s h lt)

pub gap_some : (ls : List ℕ) (a b m : ℕ) → Some m ≡ least a ls → ltb m b ≡ open_in (opens ls) a b
gap_some ls a b m e = least_some (opens ls) a b m (subst (LeastFrom (opens ls) a) (sym e) (least_right a ls))

pub gap_none : (ls : List ℕ) (a b : ℕ) → None ≡ least a ls → false ≡ open_in (opens ls) a b
gap_none ls a b e = least_none (opens ls) a b (subst (LeastFrom (opens ls) a) (sym e) (least_right a ls))

pub none_open : (ls : List ℕ) → None ≡ least 0 ls → (s : ℕ) → opens ls s ≡ 0
none_open ls e s = subst (LeastFrom (opens ls) 0) (sym e) (least_right 0 ls) s (omega arith)
