-- A new store, and the length of a record's chain.
use Rattle.std.proofs.Common.{◌≡◌, ℕ, zero, suc, ◌+◌, ◌<◌, ◌≤◌, Bool, true, false, cond, List, [], ◌∷◌, ◌++◌, length, get_or, take, drop, set, replicate, is_some, Some, None, vec_items, sum_by, MatchOption, Option, sym, refl, ap, ◌∙◌, append_assoc, append-nil, add-one, arith}
use Rattle.std.proofs.lemmas.List.{at_drop_more, at_drop_all, take_more_set, drop-set-lt, drop-drop, length-append, length-take-le}
use Rattle.std.proofs.lemmas.Bool.{and_parts}
use mathlib.Core.Bool.{false≢true}
use Rattle.chain.specs.declared.version.Version.{Version}
use Rattle.state.specs.declared.entry.Entry.{Entry}
use Rattle.state.specs.Matched.{backed, matched}
use Rattle.history.specs.History.{free}
use Rattle.state.specs.Stored.{viewed, behind}
use Rattle.state.specs.View.{view}
use Rattle.std.proofs.lemmas.List.Sums.{sum_by-cons}
use Rattle.kind.specs.declared.Kind.{Ghosts}
use Rattle.version_table.specs.Chains.{chains}
use Rattle.state.specs.declared.state.State.{State}
use Rattle.history.specs.Model.{held_from, held_number, owners}
use Rattle.history.proofs.Counts.{held_length}
use Rattle.state.proofs.Writes.{owns, owns_who}

module _ {Row : Type 0} (C : Type 0) (r : Row) (t : ℕ) where
  pub fresh_sound : (n : ℕ) → matched {C = C} (replicate n (record { row = r; last = t; holder = None })) (replicate n []) ≡ true
  fresh_sound zero = refl
  fresh_sound (suc n) = fresh_sound n

  pub fresh_view : (n : ℕ) → viewed {C = C} (replicate n (record { row = r; last = t; holder = None })) (replicate n []) ≡ replicate n (record { place = r; holder = free; last = t; chain = [] })
  fresh_view zero = refl
  fresh_view (suc n) = ap (λ z. record { place = r; holder = free; last = t; chain = [] } ∷ z) (fresh_view n)

-- one more place of a list is v
pub blank_more : {V : Type 0} (v : V) (xs : List V) (i : ℕ) → i < length xs → set (replicate i v ++ drop i xs) i v ≡ replicate (suc i) v ++ drop (suc i) xs
blank_more v [] i h = absurd (omega arith)
blank_more v (x ∷ xs) zero h = refl
blank_more v (x ∷ xs) (suc i) h = ap (λ z. v ∷ z) (blank_more v xs i (omega arith))

blank_all : {V : Type 0} (v : V) (xs : List V) → replicate (length xs) v ++ drop (length xs) xs ≡ replicate (length xs) v
blank_all v [] = refl
blank_all v (x ∷ xs) = ap (λ z. v ∷ z) (blank_all v xs)

pub blank_end : {V : Type 0} (v : V) (xs ys : List V) (i : ℕ) → ys ≡ replicate i v ++ drop i xs → i ≡ length xs → ys ≡ replicate (length xs) v
blank_end v xs ys i e h = e ∙ ap (λ n. replicate n v ++ drop n xs) h ∙ blank_all v xs

-- chains of which no version is in use
no_chains : {V : Type 0} (cs : List (List V)) → sum_by length cs ≡ 0 → cs ≡ replicate (length cs) []
no_chains [] e = refl
no_chains ([] ∷ cs) e = ap (λ z. [] ∷ z) (no_chains cs (omega (arith, e, sum_by-cons length [] cs)))
no_chains ((x ∷ c) ∷ cs) e = absurd (omega (arith, e, sum_by-cons length (x ∷ c) cs))

pub all_unused : {V : Type 0} (cs : List (List V)) (n : ℕ) → sum_by length cs ≡ 0 → length cs ≡ n → cs ≡ replicate n []
all_unused cs n e h = no_chains cs e ∙ ap (λ m. replicate m []) h

pub none_used : (V : Type 0) (n : ℕ) → sum_by {X = List V} length (replicate n []) ≡ 0
none_used V zero = refl
none_used V (suc n) = omega (arith, none_used V n, sum_by-cons {X = List V} length [] (replicate n []))

pub behind_none : {C : Type 0} (o : Option ℕ) (c : List (Version C)) → o ≡ None → behind o c ≡ c
behind_none o c e = ap (λ z. behind z c) e

pub behind_some : {C : Type 0} (o : Option ℕ) (w : ℕ) (c : List (Version C)) → o ≡ Some w → behind o c ≡ drop 1 c
behind_some o w c e = ap (λ z. behind z c) e

-- the holder's change taken off a list, if its record is held
pub behind_tested : {C : Type 0} (o : Option ℕ) (c : List (Version C)) (b : Bool) → b ≡ is_some o → b ≡ true → behind o c ≡ drop 1 c
behind_tested None c b e t = absurd (false≢true (sym e ∙ t))
behind_tested (Some w) c b e t = refl

pub behind_untested : {C : Type 0} (o : Option ℕ) (c : List (Version C)) (b : Bool) → b ≡ is_some o → b ≡ false → behind o c ≡ c
behind_untested None c b e t = refl
behind_untested (Some w) c b e t = absurd (false≢true (sym t ∙ e))

-- what is left of a list once its first is taken
pub first_taken : {X : Type 0} (o : Option X) (xs ys : List X) → MatchOption o ((xs ≡ []) × (ys ≡ [])) (λ x. xs ≡ x ∷ ys) → ys ≡ drop 1 xs
first_taken None xs ys e = e.1 ∙ sym (ap (drop 1) e.0)
first_taken (Some x) xs ys e = sym (ap (drop 1) e)

pub one_fewer : {C : Type 0} (o : Option ℕ) (w : ℕ) (c : List (Version C)) → o ≡ Some w → backed o c ≡ true → suc (length (drop 1 c)) ≡ length c
one_fewer o w c e b = go c (ap (λ z. backed z c) (sym e) ∙ b)
  where
    go : {C : Type 0} (c : List (Version C)) → backed (Some w) c ≡ true → suc (length (drop 1 c)) ≡ length c
    go [] b = absurd (false≢true b)
    go (v ∷ vs) b = refl

-- the numbers of the records that a writer holds, as the record table says it
abbrev pub rows_mine : {Row : Type 0} → ℕ → ℕ → List (Entry Row) → List ℕ
rows_mine w i [] = []
rows_mine w i (x ∷ xs) = cond (owns w x.holder) (i ∷ rows_mine w (suc i) xs) (rows_mine w (suc i) xs)

rows_are : {Row C : Type 0} (w i : ℕ) (rs : List (Entry Row)) (cs : List (List (Version C))) → matched rs cs ≡ true → held_from w i (owners (viewed rs cs)) ≡ rows_mine w i rs
rows_are w i [] [] e = refl
rows_are w i [] (c ∷ cs) e = absurd (false≢true e)
rows_are w i (r ∷ rs) [] e = absurd (false≢true e)
rows_are w i (r ∷ rs) (c ∷ cs) e =
    let a = and_parts (backed r.holder c) (matched rs cs) e in
    let rest = rows_are w (suc i) rs cs a.1 in
    λ j. cond (owns_who w r.holder c a.0 j) (i ∷ rest j) (rest j)

-- one turn of the loop that writes them
module _ {Row : Type 0} (w i n : ℕ) (rs : List (Entry Row)) (x : Entry Row) (out : List ℕ) (h : i < length rs) (e : x ≡ get_or rs i x) (inv : take n out ++ rows_mine w i (drop i rs) ≡ rows_mine w 0 rs) where
  abbrev after : List ℕ
  after = rows_mine w (i + 1) (drop (i + 1) rs)

  turn : (b : Bool) → owns w x.holder ≡ b → take n out ++ cond b (i ∷ after) after ≡ rows_mine w 0 rs
  turn b q =
      ap (λ z. take n out ++ z)
      (sym (at_drop_more (rows_mine w i) rs i x h
      ∙ ap (λ (z : Entry Row). cond (owns w z.holder) (i ∷ rows_mine w (suc i) (drop (i + 1) rs)) (rows_mine w (suc i) (drop (i + 1) rs))) (sym e)
      ∙ ap (λ m. cond (owns w x.holder) (i ∷ rows_mine w m (drop (i + 1) rs)) (rows_mine w m (drop (i + 1) rs))) (sym (add-one i))
      ∙ ap (λ z. cond z (i ∷ after) after) q))
      ∙ inv

  pub turn_no : owns w x.holder ≡ false → take n out ++ after ≡ rows_mine w 0 rs
  turn_no q = turn false q

  -- there is room for one more
  pub turn_fits : owns w x.holder ≡ true → n ≤ length out → length (rows_mine w 0 rs) ≤ length out → n < length out
  turn_fits q l all = omega (arith, ap length (turn true q), length-append (take n out) (i ∷ after), length-take-le n out l, all)

  pub turn_yes : owns w x.holder ≡ true → n < length out → take (n + 1) (set out n i) ++ after ≡ rows_mine w 0 rs
  turn_yes q l = ap (λ z. z ++ after) (take_more_set out n i l) ∙ append_assoc (take n out) (i ∷ []) after ∙ turn true q

pub turns_end : {Row : Type 0} (w i n : ℕ) (rs : List (Entry Row)) (out : List ℕ) → length rs ≤ i → take n out ++ rows_mine w i (drop i rs) ≡ rows_mine w 0 rs → take n out ≡ rows_mine w 0 rs
turns_end w i n rs out h inv = sym (append-nil (take n out)) ∙ ap (λ z. take n out ++ z) (sym (at_drop_all (rows_mine w i) rs i h)) ∙ inv

-- what lies behind the place that is written
pub behind_write : (n i : ℕ) (out out₀ : List ℕ) → drop n out ≡ drop n out₀ → drop (n + 1) (set out n i) ≡ drop (n + 1) out₀
behind_write n i out out₀ rest = let s : n < n + 1 = omega arith in drop-set-lt (n + 1) out n i s ∙ sym (drop-drop 1 n out) ∙ ap (drop 1) rest ∙ drop-drop 1 n out₀

module _ {K Row Edit C : Type 0} {G : Ghosts K Row Edit C} (w : ℕ) (s : State K Row Edit C G) where
  pub view_held : held_from w 0 (owners (view s).records) ≡ rows_mine w 0 (vec_items s.records)
  unfolding view
  view_held = rows_are w 0 (vec_items s.records) (chains s.table) s.sound

  pub number_held : length (rows_mine w 0 (vec_items s.records)) ≡ held_number w (view s)
  number_held = sym (ap length view_held) ∙ held_length w 0 (owners (view s).records)
