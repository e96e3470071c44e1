-- Words taken off a line one after the other are those of a command, and a command's call is the line's.
use Rattle.std.proofs.Common.{◌≡◌, ℕ, List, [], ◌∷◌, length, Some, None, Ok, Err, sym, refl, ap, ◌∙◌, arith}
use Rattle.std.proofs.lemmas.Bool.{ne_eqb}
use Rattle.script.specs.Card.{unknown_letter_fault, bad_word_fault}
use Rattle.script.specs.Commands.{Worded, one_taken, two_taken, four_taken, command_of, call_of_words, ended, asked, letter_of_word, known, line_command, line_call}
use Rattle.script.specs.Kinds.{Terms}
use Rattle.script.specs.Openings.{kind_of, sizes_of, with_kind, opening}
use Rattle.script.specs.declared.opening.KindLetter.{KindLetter}
use Rattle.script.specs.Words.{Part, words, first, rest, over, words_left}
use Rattle.script.proofs.Cuts.{all_words}

-- from the place a of the line l, the word p was taken off; what is left stands from the place b of m on
pub record Off (l : List ℕ) (a : ℕ) (p : Part) (m : List ℕ) (b : ℕ) : Type 0 where
  pub same : m ≡ l
  pub word : p ≡ first (length l) (words_left l a)
  pub left : words_left m b ≡ rest (words_left l a)

pub off : {l m : List ℕ} {a b : ℕ} {p : Part} → m ≡ l → p ≡ first (length l) (words_left l a) → words_left m b ≡ rest (words_left l a) → Off l a p m b
off s w r = record { same = s; word = w; left = r }

pub one_off : {l m : List ℕ} {a b : ℕ} {p : Part} (f : Part → Worded) → Off l a p m b → one_taken (length l) f (words_left l a) ≡ Some (record { command = f p; left = words_left m b })
one_off f o = let w = o.word in let r = o.left in cc

pub two_off : {l m k : List ℕ} {a b c : ℕ} {p q : Part} (f : Part → Part → Worded) → Off l a p m b → Off m b q k c → two_taken (length l) f (words_left l a) ≡ Some (record { command = f p q; left = words_left k c })
two_off f o s = let w = o.word in let r = o.left in let e = ap length o.same in let w' = s.word in let r' = s.left in cc

pub four_off : {l m k j i : List ℕ} {a b c d e : ℕ} {p q r s : Part} (f : Part → Part → Part → Part → Worded) → Off l a p m b → Off m b q k c → Off k c r j d → Off j d s i e →
    four_taken (length l) f (words_left l a) ≡ Some (record { command = f p q r s; left = words_left i e })
four_off f o s t u =
    let w = o.word in let x = o.left in let y = ap length o.same in
    let w' = s.word in let x' = s.left in let y' = ap length s.same in
    let w'' = t.word in let x'' = t.left in let y'' = ap length t.same in
    let w''' = u.word in let x''' = u.left in
    cc

-- a letter that is none of the nine
pub none_known : (n c : ℕ) (ws : List Part) → (c ≡ 111 → ⊥) → (c ≡ 114 → ⊥) → (c ≡ 99 → ⊥) → (c ≡ 98 → ⊥) → (c ≡ 103 → ⊥) → (c ≡ 101 → ⊥) → (c ≡ 109 → ⊥) → (c ≡ 97 → ⊥) → (c ≡ 118 → ⊥) → command_of n c ws ≡ None
unfolding command_of
none_known n c ws n1 n2 n3 n4 n5 n6 n7 n8 n9 =
    rw (ne_eqb c 111 n1) (rw (ne_eqb c 114 n2) (rw (ne_eqb c 99 n3) (rw (ne_eqb c 98 n4) (rw (ne_eqb c 103 n5) (rw (ne_eqb c 101 n6) (rw (ne_eqb c 109 n7) (rw (ne_eqb c 97 n8) (rw (ne_eqb c 118 n9) refl))))))))

-- a line's command is that of its first word
pub line_known : {l m : List ℕ} {a b : ℕ} {p : Part} → Off l a p m b → (c : ℕ) → Some c ≡ letter_of_word p.text → line_command (length l) (words_left l a) ≡ command_of (length m) c (words_left m b)
unfolding line_command
line_known {l} {m} {a} {b} {p} o c e =
    let n = length l in
    let ws = words_left l a in
    let k : length m ≡ n = ap length o.same in
    let r = o.left in
    ap (λ (q : Part). known n (rest ws) (letter_of_word q.text)) (sym o.word) ∙ ap (known n (rest ws)) (sym e) ∙ (cc)

pub line_unknown : {l m : List ℕ} {a b : ℕ} {p : Part} → Off l a p m b → None ≡ letter_of_word p.text → line_command (length l) (words_left l a) ≡ None
unfolding line_command
line_unknown {l} {m} {a} {b} {p} o e =
    let n = length l in
    let ws = words_left l a in
    ap (λ (q : Part). known n (rest ws) (letter_of_word q.text)) (sym o.word) ∙ ap (known n (rest ws)) (sym e)

-- a whole line, as the code begins it
pub from_start : (l m : List ℕ) (a : ℕ) → m ≡ l → a ≡ 0 → line_command (length m) (words_left m a) ≡ line_command (length l) (words l)
from_start l m a e z = ap (λ x. line_command (length m) (words_left m x)) z ∙ ap (λ x. line_command (length x) (words_left x 0)) e ∙ ap (line_command (length l)) (all_words l)

-- a word that is left over is bad, and else nothing is
pub ended_more : {X : Type 0} (k : ℕ) (x : X) (ws : List Part) (p : ℕ) → over ws ≡ Some p → ended k (Ok x) ws ≡ Err (bad_word_fault k (record { place = p }))
ended_more k x [] p g = let z : ◌≡◌ {A = ℕ} 0 1 = cc in absurd (omega arith)
ended_more k x (w ∷ ws) p g = let q : w.place ≡ p = cc in ap (λ y. Err (bad_word_fault k (record { place = y }))) q

pub ended_done : {X : Type 0} (k : ℕ) (x : X) (ws : List Part) → over ws ≡ None → ended k (Ok x) ws ≡ Ok x
ended_done k x [] g = refl
ended_done k x (w ∷ ws) g = let z : ◌≡◌ {A = ℕ} 0 1 = cc in absurd (omega arith)

module _ {Edit : Type 0} (t : Terms Edit) (k : ℕ) (l : List ℕ) where
  pub call_none : line_command (length l) (words l) ≡ None → line_call t k l ≡ Err (unknown_letter_fault k)
  unfolding line_call
  call_none e = ap (asked t k) e

  pub call_some : (c : Worded) (ws : List Part) → line_command (length l) (words l) ≡ Some (record { command = c; left = ws }) → line_call t k l ≡ ended k (call_of_words t c) ws
  unfolding line_call
  call_some c ws e = ap (asked t k) e

-- the first line, as the code begins it: l' and a' are the line and place of its words
module _ (l l' : List ℕ) (a' : ℕ) (line : l' ≡ l) (start : a' ≡ 0) {p : Part} {l₁ : List ℕ} {a₁ : ℕ} (off : Off l' a' p l₁ a₁) where
  all : words_left l' a' ≡ words l
  all = ap (λ x. words_left l' x) start ∙ ap (λ x. words_left x 0) line ∙ all_words l

  head : first (length l) (words l) ≡ p
  head = let e = all in let n = ap length line in let w = off.word in cc

  pub opens_unknown : None ≡ kind_of (letter_of_word p.text) → opening l ≡ Err (unknown_letter_fault 1)
  unfolding opening
  opens_unknown e = ap (λ (q : Part). with_kind (kind_of (letter_of_word q.text)) (length l) (rest (words l))) head ∙ ap (λ o. with_kind o (length l) (rest (words l))) (sym e)

  pub opens-known : {q r s t : Part} {l₂ l₃ l₄ l₅ : List ℕ} {a₂ a₃ a₄ a₅ : ℕ} (k : KindLetter) → Some k ≡ kind_of (letter_of_word p.text) → Off l₁ a₁ q l₂ a₂ → Off l₂ a₂ r l₃ a₃ → Off l₃ a₃ s l₄ a₄ → Off l₄ a₄ t l₅ a₅ →
      opening l ≡ ended 1 (sizes_of k q r s t) (words_left l₅ a₅)
  unfolding opening
  opens-known k e o₂ o₃ o₄ o₅ =
      let whole = all in
      let n = ap length line in let n₁ = ap length off.same in let n₂ = ap length o₂.same in let n₃ = ap length o₃.same in let n₄ = ap length o₄.same in
      let x₁ = off.left in let x₂ = o₂.left in let x₃ = o₃.left in let x₄ = o₄.left in let x₅ = o₅.left in
      let w₂ = o₂.word in let w₃ = o₃.word in let w₄ = o₄.word in let w₅ = o₅.word in
      ap (λ (q : Part). with_kind (kind_of (letter_of_word q.text)) (length l) (rest (words l))) head ∙ ap (λ o. with_kind o (length l) (rest (words l))) (sym e) ∙ (cc)
