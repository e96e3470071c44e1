-- Entries in rising order: what they mean, and how the questions are answered from the place that a search finds.
use Rattle.std.proofs.Common.{◌≡◌, ℕ, zero, suc, ◌+◌, ◌-◌, ◌<◌, ◌≤◌, Bool, true, cond, leb, List, [], ◌∷◌, length, get_or, Some, None, Option, sym, refl, ap, ◌∙◌, ⊎_elim, arith}
use Rattle.std.specs.List.{find, sum_by}
use Rattle.std.specs.Option.{option_map}
use Rattle.std.proofs.lemmas.Bool.Decides.{nat_tests}
use Rattle.std.proofs.lemmas.Bool.{lt-leb, le-leb, cases_lt}
use Rattle.std.proofs.lemmas.List.Sums.{sum_by-cons}
use Rattle.lease.specs.Times.{insert, count, least, sooner}
use Rattle.lease.proofs.Bags.{insert_comm, length-insert, count-insert, least-insert}
use Rattle.sorted_list.specs.declared.Entry.{Entry}
use Rattle.sorted_list.specs.Entries.{many, times, size, rising, ahead, no_entry, Gap}

-- what the searches ask of an entry: that it is not below a time
abbrev pub reached : ℕ → Entry → Bool
reached t e = leb t e.time

length-many : (n t : ℕ) (l : List ℕ) → length (many n t l) ≡ n + length l
length-many zero t l = omega arith
length-many (suc n) t l = omega (arith, length-insert t (many n t l), length-many n t l)

pub length-times : (es : List Entry) → length (times es) ≡ size es
length-times [] = refl
length-times (e ∷ es) = omega (arith, length-many e.count e.time (times es), length-times es)

pub sum-size : (es : List Entry) → size es ≡ sum_by (λ (e : Entry). e.count) es
sum-size [] = refl
sum-size (e ∷ es) = ap (λ n. e.count + n) (sum-size es) ∙ sym (sum_by-cons (λ (x : Entry). x.count) e es)

pub insert-many : (u n t : ℕ) (l : List ℕ) → insert u (many n t l) ≡ many n t (insert u l)
insert-many u zero t l = refl
insert-many u (suc n) t l = insert_comm u t (many n t l) ∙ ap (insert t) (insert-many u n t l)

pub many-many : (m t n u : ℕ) (l : List ℕ) → many m t (many n u l) ≡ many n u (many m t l)
many-many zero t n u l = refl
many-many (suc m) t n u l = ap (insert t) (many-many m t n u l) ∙ insert-many t n u (many m t l)

-- an entry has at most as many leases as there are in all
pub count_le_size : (es : List Entry) (i : ℕ) → i < length es → (get_or es i no_entry).count ≤ size es
count_le_size [] i h = absurd (omega arith)
count_le_size (e ∷ es) zero h = omega arith
count_le_size (e ∷ es) (suc i) h = omega (arith, count_le_size es i (omega arith))

-- as many places as leases are enough
pub length_le_size : (es : List Entry) → rising es ≡ true → length es ≤ size es
length_le_size [] r = omega arith
length_le_size (e ∷ es) r = let ih = length_le_size es in grind (arith, nat_tests)

pub rising_tail : (e : Entry) (es : List Entry) → rising (e ∷ es) ≡ true → rising es ≡ true
rising_tail e es r = grind (arith, nat_tests)

pub positive : (es : List Entry) (i : ℕ) → i < length es → rising es ≡ true → 0 < (get_or es i no_entry).count
positive [] i h r = absurd (omega arith)
positive (f ∷ es) zero h r = grind (arith, nat_tests)
positive (f ∷ es) (suc i) h r = positive es i (omega arith) (rising_tail f es r)

-- what is before the first entry is before each
ahead_at : (u : ℕ) (es : List Entry) (i : ℕ) → ahead u es ≡ true → rising es ≡ true → i < length es → u < (get_or es i no_entry).time
ahead_at u [] i a r h = absurd (omega arith)
ahead_at u (f ∷ fs) zero a r h = grind (arith, nat_tests)
ahead_at u (f ∷ fs) (suc i) a r h =
    let p : u < f.time = grind (arith, nat_tests) in
    let b : ahead f.time fs ≡ true = grind (arith, nat_tests) in
    omega (arith, p, ahead_at f.time fs i b (rising_tail f fs r) (omega arith))

pub later : (u : ℕ) (f : Entry) (fs : List Entry) → u < f.time → rising (f ∷ fs) ≡ true → ahead u fs ≡ true
later u f [] q r = refl
later u f (g ∷ fs) q r = grind (arith, nat_tests)

first_ahead : (e : Entry) (es : List Entry) (i : ℕ) → rising (e ∷ es) ≡ true → i < length es → e.time < (get_or es i no_entry).time
first_ahead e es i r h =
    let a : ahead e.time es ≡ true = grind (arith, nat_tests) in
    ahead_at e.time es i a (rising_tail e es r) h

pub times_rise : (es : List Entry) (i j : ℕ) → rising es ≡ true → i ≤ j → j < length es → (get_or es i no_entry).time ≤ (get_or es j no_entry).time
times_rise [] i j r le h = absurd (omega arith)
times_rise (f ∷ es) zero zero r le h = omega arith
times_rise (f ∷ es) zero (suc j) r le h = omega (arith, first_ahead f es j r (omega arith))
times_rise (f ∷ es) (suc i) zero r le h = absurd (omega arith)
times_rise (f ∷ es) (suc i) (suc j) r le h = times_rise es i j (rising_tail f es r) (omega arith) (omega arith)

count-many : (t n u : ℕ) (l : List ℕ) → (u ≡ t → ⊥) → count t (many n u l) ≡ count t l
count-many t zero u l ne = refl
count-many t (suc n) u l ne = let a = count-insert t u (many n u l) in let b = count-many t n u l ne in grind (arith, nat_tests)

count_same : (t n : ℕ) (l : List ℕ) → count t (many n t l) ≡ n + count t l
count_same t zero l = omega arith
count_same t (suc n) l = let a = count-insert t t (many n t l) in let b = count_same t n l in grind (arith, nat_tests)

count_none : (t : ℕ) (es : List Entry) → ((j : ℕ) → j < length es → (get_or es j no_entry).time ≡ t → ⊥) → count t (times es) ≡ 0
count_none t [] ne = refl
count_none t (e ∷ es) ne =
    count-many t e.count e.time (times es) (ne 0 (omega arith)) ∙ count_none t es (λ j h. ne (suc j) (omega arith))

pub count_gap : (t : ℕ) (es : List Entry) (i : ℕ) → Gap t es i → count t (times es) ≡ 0
count_gap t es i g = count_none t es (λ j h q. ⊎_elim (λ lt. omega (arith, g.before j lt, q)) (λ le. omega (arith, g.after j le h, q)) (cases_lt j i))

pub count_at : (es : List Entry) (i t : ℕ) → i < length es → (get_or es i no_entry).time ≡ t → rising es ≡ true → count t (times es) ≡ (get_or es i no_entry).count
count_at [] i t h e r = absurd (omega arith)
count_at (f ∷ es) zero t h e r =
    let z = count_none t es (λ j b q. omega (arith, first_ahead f es j r b, q, e)) in
    let s = count_same t f.count (times es) in
    ap (λ u. count t (many f.count u (times es))) e ∙ omega arith
count_at (f ∷ es) (suc i) t h e r =
    count-many t f.count f.time (times es) (λ q. omega (arith, first_ahead f es i r (omega arith), q, e)) ∙ count_at es i t (omega arith) e (rising_tail f es r)

least_skip : (t n u : ℕ) (l : List ℕ) → u < t → least t (many n u l) ≡ least t l
least_skip t zero u l h = refl
least_skip t (suc n) u l h = least-insert t u (many n u l) ∙ ap (λ b. cond b (sooner (Some u) (least t (many n u l))) (least t (many n u l))) (lt-leb t u h) ∙ least_skip t n u l h

nearer : (u v : ℕ) (o : Option ℕ) → u ≤ v → sooner (Some u) (sooner (Some v) o) ≡ sooner (Some u) o
nearer u v None h = ap (λ n. Some n) (omega arith)
nearer u v (Some z) h = ap (λ n. Some n) (omega arith)

least-many : (t n u : ℕ) (l : List ℕ) → t ≤ u → least t (many (suc n) u l) ≡ sooner (Some u) (least t l)
least-many t zero u l h = least-insert t u l ∙ ap (λ b. cond b (sooner (Some u) (least t l)) (least t l)) (le-leb t u h)
least-many t (suc n) u l h =
    least-insert t u (many (suc n) u l)
    ∙ ap (λ b. cond b (sooner (Some u) (least t (many (suc n) u l))) (least t (many (suc n) u l))) (le-leb t u h)
    ∙ ap (sooner (Some u)) (least-many t n u l h) ∙ nearer u u (least t l) (omega arith)

least_entry : (t : ℕ) (e : Entry) (l : List ℕ) → 0 < e.count → t ≤ e.time → least t (many e.count e.time l) ≡ sooner (Some e.time) (least t l)
least_entry t e l p h =
    let n : e.count ≡ suc (e.count - 1) = omega arith in
    ap (λ n. least t (many n e.time l)) n ∙ least-many t (e.count - 1) e.time l h

-- no later entry is nearer
least-behind : (t u : ℕ) (es : List Entry) → ahead u es ≡ true → rising es ≡ true → sooner (Some u) (least t (times es)) ≡ Some u
least-behind t u [] a r = refl
least-behind t u (f ∷ fs) a r =
    let p : 0 < f.count = grind (arith, nat_tests) in
    let q : u < f.time = grind (arith, nat_tests) in
    let b : ahead u fs ≡ true = later u f fs q r in
    let ih = least-behind t u fs b (rising_tail f fs r) in
    ⊎_elim
    (λ lt. ap (sooner (Some u)) (least_skip t f.count f.time (times fs) lt) ∙ ih)
    (λ le. ap (sooner (Some u)) (least_entry t f (times fs) p le) ∙ nearer u f.time (least t (times fs)) (omega arith) ∙ ih)
    (cases_lt f.time t)

-- the first entry that is not below t has the least time at or above it
pub least_found : (t : ℕ) (es : List Entry) → rising es ≡ true → option_map (λ (e : Entry). e.time) (find (reached t) es) ≡ least t (times es)
least_found t [] r = refl
least_found t (e ∷ es) r =
    let p : 0 < e.count = grind (arith, nat_tests) in
    let b : ahead e.time es ≡ true = grind (arith, nat_tests) in
    ⊎_elim
    (λ lt. ap (λ b. option_map (λ (x : Entry). x.time) (cond b (Some e) (find (reached t) es))) (lt-leb t e.time lt) ∙ least_found t es (rising_tail e es r) ∙ sym (least_skip t e.count e.time (times es) lt))
    (λ le. ap (λ b. option_map (λ (x : Entry). x.time) (cond b (Some e) (find (reached t) es))) (le-leb t e.time le) ∙ sym (least_entry t e (times es) p le ∙ least-behind t e.time es b (rising_tail e es r)))
    (cases_lt e.time t)
