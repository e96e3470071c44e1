-- Numbers, lines and words: the steps of the loops, and what a cut at a byte gives.
use Rattle.std.proofs.Common.{◌≡◌, ℕ, suc, ◌+◌, ◌-◌, ◌*◌, ◌<◌, ◌≤◌, true, false, cond, eqb, leb, List, [], ◌∷◌, ◌++◌, length, get_or, take, drop, Some, None, Ok, Err, Option, sym, refl, ap, ◌∙◌, ⊎_elim, arith, leb-true}
use Rattle.std.proofs.lemmas.Bool.Decides.{nat_tests}
use Rattle.std.proofs.lemmas.Bool.{ne_eqb, cases_lt}
use Rattle.std.proofs.lemmas.List.{drop_all, drop-drop, take_all, length-drop, take-append-drop, drop_more}
use Rattle.std.specs.Char.{IsAsciiDigit, IsNotAsciiDigit}
use Rattle.script.specs.Lines.{onto, rows, lines, lines_left}
use Rattle.script.specs.Words.{Part, words, digits, read_on, number_of, grown, words_from, words_left, over, bad, within, judged}
use Rattle.script.specs.declared.fault.BadWord.{BadWord}

read_on_ge : (n : ℕ) (xs : List ℕ) → n ≤ read_on n xs
read_on_ge n [] = omega arith
read_on_ge n (c ∷ cs) = omega (arith, read_on_ge (n * 10 + (c - 48)) cs)

pub number_none : (xs : List ℕ) → length xs ≡ 0 → None ≡ number_of xs
unfolding number_of
number_none xs e = grind (arith, nat_tests)

pub number_long : (xs : List ℕ) → 20 < length xs → None ≡ number_of xs
unfolding number_of
number_long xs e = grind (arith, nat_tests)

pub number_bad : (xs : List ℕ) → digits xs ≡ false → None ≡ number_of xs
unfolding number_of
number_bad xs e = grind (arith, nat_tests)

number_big : (xs : List ℕ) → 18446744073709551616 ≤ read_on 0 xs → None ≡ number_of xs
unfolding number_of
number_big xs e = grind (arith, nat_tests)

-- a digit takes the number over its bound, and the digits behind it don't take it back
pub number_over : (xs ys : List ℕ) (n c : ℕ) → read_on n (c ∷ ys) ≡ read_on 0 xs → (n * 10 + (c - 48) < 18446744073709551616 → ⊥) → None ≡ number_of xs
number_over xs ys n c e over =
    let g = read_on_ge (n * 10 + (c - 48)) ys in
    ⊎_elim (λ lt. absurd (over lt)) (λ ge. number_big xs (omega (arith, e, g, ge))) (cases_lt (n * 10 + (c - 48)) 18446744073709551616)

pub number_good : (xs : List ℕ) → 1 ≤ length xs → length xs ≤ 20 → digits xs ≡ true → read_on 0 xs < 18446744073709551616 → Some (read_on 0 xs) ≡ number_of xs
unfolding number_of
number_good xs a b d e = grind (arith, nat_tests)

pub rows_cut : (p ys : List ℕ) → ((k : ℕ) → k < length p → get_or p k 0 ≡ 10 → ⊥) → rows (p ++ 10 ∷ ys) ≡ p ∷ rows ys
rows_cut [] ys none = refl
rows_cut (c ∷ p) ys none =
    let ih = rows_cut p ys (λ k h. none (suc k) (omega arith)) in
    let e = ne_eqb c 10 (none 0 (omega arith)) in
    ap (λ b. cond b ([] ∷ rows (p ++ 10 ∷ ys)) (onto c (rows (p ++ 10 ∷ ys)))) e ∙ ap (onto c) ih

pub rows_last : (c : ℕ) (p : List ℕ) → ((k : ℕ) → k < length (c ∷ p) → get_or (c ∷ p) k 0 ≡ 10 → ⊥) → rows (c ∷ p) ≡ (c ∷ p) ∷ []
rows_last c [] none = ap (λ b. cond b ([] ∷ []) ((c ∷ []) ∷ [])) (ne_eqb c 10 (none 0 (omega arith)))
rows_last c (d ∷ p) none =
    let ih = rows_last d p (λ k h. none (suc k) (omega arith)) in
    let e = ne_eqb c 10 (none 0 (omega arith)) in
    ap (λ b. cond b ([] ∷ rows (d ∷ p)) (onto c (rows (d ∷ p)))) e ∙ ap (onto c) ih

lines-full : (d : List ℕ) (line : ℕ) → 0 < length d → cond (eqb line 0) (lines d) (rows d) ≡ rows d
lines-full [] line h = absurd (omega arith)
lines-full (c ∷ d) line h = grind (arith, nat_tests)

-- text stands at the front of d: up to a byte b, or to the end
cut_at : (b : ℕ) (d text : List ℕ) → text ≡ take (length text) d → length text < length d → get_or d (length text) 0 ≡ b → text ++ b ∷ drop (length text + 1) d ≡ d
cut_at b d text front h e =
    let n = length text in
    ap (λ x. x ++ b ∷ drop (n + 1) d) front ∙ ap (λ x. take n d ++ x ∷ drop (n + 1) d) (sym e) ∙ ap (λ x. take n d ++ x) (sym (drop_more d n 0 h)) ∙ take-append-drop n d

uncut : (d text : List ℕ) → text ≡ take (length text) d → length d ≤ length text → text ≡ d
uncut d text front h = front ∙ take_all (length text) d h

next_cut : (d text : List ℕ) (line : ℕ) → text ≡ take (length text) d → length text < length d → ((k : ℕ) → k < length text → get_or text k 0 ≡ 10 → ⊥) → get_or d (length text) 0 ≡ 10 → cond (eqb line 0) (lines d) (rows d) ≡ text ∷ rows (drop (length text + 1) d)
next_cut d text line front h none e =
    lines-full d line (omega arith) ∙ ap rows (sym (cut_at 10 d text front h e)) ∙ rows_cut text (drop (length text + 1) d) none

next_end : (d : List ℕ) (line : ℕ) → ((k : ℕ) → k < length d → get_or d k 0 ≡ 10 → ⊥) → (length d ≡ 0 → line ≡ 0) → cond (eqb line 0) (lines d) (rows d) ≡ d ∷ []
next_end [] line none z = let e = z refl in grind (arith, nat_tests)
next_end (c ∷ d) line none z = lines-full (c ∷ d) line (omega arith) ∙ rows_last c d none

-- a turn of the loop over digits
pub digits_off : (c : ℕ) (cs : List ℕ) → IsNotAsciiDigit c → digits (c ∷ cs) ≡ false
digits_off c cs h = grind (arith, nat_tests)

pub digits_on : (c : ℕ) (cs : List ℕ) → IsAsciiDigit c → digits (c ∷ cs) ≡ digits cs
digits_on c cs h = grind (arith, nat_tests)

pub none_left : (bs : List ℕ) (a line : ℕ) → length bs ≤ a → 0 < line → lines_left bs a line ≡ []
unfolding lines_left
none_left bs a line h l = ap (λ d. cond (eqb line 0) (lines d) (rows d)) (drop_all a bs h) ∙ grind (arith, nat_tests)

some_read : (line : ℕ) (d : List ℕ) → cond (eqb (line + 1) 0) (lines d) (rows d) ≡ rows d
some_read line d = grind (arith, nat_tests)

-- the next line, up to its line feed or to the end; b is the place behind both
pub line_step : (bs rest text : List ℕ) (a b line : ℕ) → rest ≡ drop a bs → a ≤ length bs → (length bs ≤ a → line ≡ 0) →
    text ≡ take (length text) rest → ((k : ℕ) → k < length text → get_or text k 0 ≡ 10 → ⊥) → (length text < length rest → get_or rest (length text) 0 ≡ 10) →
    (a + length text < length bs → b ≡ a + length text + 1) → (length bs ≤ a + length text → b ≡ length bs) →
    lines_left bs a line ≡ text ∷ lines_left bs b (line + 1)
unfolding lines_left
line_step bs rest text a b line e room fresh front none found behind at_end =
    let l : length rest ≡ length bs - a = ap length e ∙ length-drop a bs in
    let n = length text in
    ap (λ d. cond (eqb line 0) (lines d) (rows d)) (sym e) ∙ ⊎_elim
    (λ (lt : n < length rest).
    next_cut rest text line front lt none (found lt)
    ∙ ap (λ d. text ∷ rows (drop (n + 1) d)) e ∙ ap (λ d. text ∷ rows d) (drop-drop (n + 1) a bs)
    ∙ ap (λ m. text ∷ rows (drop m bs)) (let z : a + (n + 1) ≡ b = let y = behind (omega arith) in omega arith in z)
    ∙ ap (λ ls. text ∷ ls) (sym (some_read line (drop b bs))))
    (λ (ge : length rest ≤ n).
    let all = uncut rest text front ge in
    ap (λ d. cond (eqb line 0) (lines d) (rows d)) (sym all)
    ∙ next_end text line none (λ z. let w = ap length all in fresh (omega arith))
    ∙ ap (λ ls. text ∷ ls) (sym (none_left bs b (line + 1) (let y = at_end (omega arith) in omega arith) (omega arith))))
    (cases_lt n (length rest))

-- words: up to a space, and up to the end
words_cut : (p : ℕ) (pre ys : List ℕ) → ((k : ℕ) → k < length pre → get_or pre k 0 ≡ 32 → ⊥) → words_from p (pre ++ 32 ∷ ys) ≡ record { text = pre; place = p } ∷ words_from (p + length pre + 1) ys
words_cut p [] ys none = ap (λ q. record { text = []; place = p } ∷ words_from q ys) (let z : p + 1 ≡ p + 0 + 1 = omega arith in z)
words_cut p (c ∷ pre) ys none =
    let ih = words_cut (p + 1) pre ys (λ k h. none (suc k) (omega arith)) in
    let e = ne_eqb c 32 (none 0 (omega arith)) in
    ap (λ b. cond b (record { text = []; place = p } ∷ words_from (p + 1) (pre ++ 32 ∷ ys)) (grown c p (words_from (p + 1) (pre ++ 32 ∷ ys)))) e
    ∙ ap (grown c p) ih ∙ ap (λ q. record { text = c ∷ pre; place = p } ∷ words_from q ys) (let z : p + 1 + length pre + 1 ≡ p + suc (length pre) + 1 = omega arith in z)

words_last : (p : ℕ) (pre : List ℕ) → ((k : ℕ) → k < length pre → get_or pre k 0 ≡ 32 → ⊥) → words_from p pre ≡ record { text = pre; place = p } ∷ []
words_last p [] none = refl
words_last p (c ∷ pre) none =
    let ih = words_last (p + 1) pre (λ k h. none (suc k) (omega arith)) in
    let e = ne_eqb c 32 (none 0 (omega arith)) in
    ap (λ b. cond b (record { text = []; place = p } ∷ words_from (p + 1) pre) (grown c p (words_from (p + 1) pre))) e ∙ ap (grown c p) ih

pub past_words : (l : List ℕ) (a : ℕ) → length l < a → words_left l a ≡ []
unfolding words_left
past_words l a h = grind (arith, nat_tests)

on_words : (l : List ℕ) (a : ℕ) → a ≤ length l → words_left l a ≡ words_from a (drop a l)
unfolding words_left
on_words l a h = grind (arith, nat_tests)

-- the next word, up to its space or to the end
pub word_step : (l cut text : List ℕ) (a : ℕ) → cut ≡ drop a l → a ≤ length l →
    text ≡ take (length text) cut → ((k : ℕ) → k < length text → get_or text k 0 ≡ 32 → ⊥) → (length text < length cut → get_or cut (length text) 0 ≡ 32) →
    words_left l a ≡ record { text = text; place = a } ∷ words_left l (a + length text + 1)
word_step l cut text a e inside front none found =
    let r : length cut ≡ length l - a = ap length e ∙ length-drop a l in
    let n = length text in
    let word : Part = record { text = text; place = a } in
    on_words l a inside ∙ ap (words_from a) (sym e) ∙ ⊎_elim
    (λ (lt : n < length cut).
    ap (words_from a) (sym (cut_at 32 cut text front lt (found lt))) ∙ words_cut a text (drop (n + 1) cut) none
    ∙ ap (λ d. word ∷ words_from (a + n + 1) (drop (n + 1) d)) e
    ∙ ap (λ d. word ∷ words_from (a + n + 1) d) (drop-drop (n + 1) a l ∙ ap (λ q. drop q l) (let y : a + (n + 1) ≡ a + n + 1 = omega arith in y))
    ∙ ap (λ ws. word ∷ ws) (sym (on_words l (a + n + 1) (omega arith))))
    (λ (ge : length cut ≤ n).
    ap (words_from a) (sym (uncut cut text front ge)) ∙ words_last a text none
    ∙ ap (λ ws. word ∷ ws) (sym (past_words l (a + n + 1) (omega arith))))
    (cases_lt n (length cut))

-- the first word stands where the words begin
first_place : (p : ℕ) (cs : List ℕ) → over (words_from p cs) ≡ Some p
first_place p [] = refl
first_place p (c ∷ cs) =
    elim (eqb c 32) as (λ b. over (cond b (record { text = []; place = p } ∷ words_from (p + 1) cs) (grown c p (words_from (p + 1) cs))) ≡ Some p) [
      | true ↦ refl
      | false ↦ grown_place c p (words_from (p + 1) cs)
    ]
  where
    grown_place : (c p : ℕ) (ws : List Part) → over (grown c p ws) ≡ Some p
    grown_place c p [] = refl
    grown_place c p (w ∷ ws) = refl

pub next_place : (l : List ℕ) (a : ℕ) → a ≤ length l → over (words_left l a) ≡ Some a
next_place l a h = ap over (on_words l a h) ∙ first_place a (drop a l)

within_bound : (b n : ℕ) (p : BadWord) (o : Option ℕ) → Ok n ≡ within b p o → n ≤ b
within_bound b n p None e = let z : ◌≡◌ {A = ℕ} 0 1 = cc in absurd (omega arith)
within_bound b n p (Some m) e =
    elim (leb m b) as (λ t. leb m b ≡ t → Ok n ≡ cond t (Ok m) (Err p) → n ≤ b) [
      | true ↦ λ t q. let s : n ≡ m = cc in let l = leb-true m b t in omega arith
      | false ↦ λ t q. let z : ◌≡◌ {A = ℕ} 0 1 = cc in absurd (omega arith)
    ] refl e

-- an accepted word's number is within its bound
pub judged_bound : (b n : ℕ) (w : Part) → Ok n ≡ judged b w → n ≤ b
unfolding judged
judged_bound b n w e = within_bound b n (bad w) (number_of w.text) e

pub all_words : (l : List ℕ) → words_left l 0 ≡ words l
all_words l = on_words l 0 (omega arith)
