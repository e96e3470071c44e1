-- A line's words, parted by one space, and the numbers that they write.
--     Part                text and place: a word, and the place of its first byte in its line, counted from 0
--     words l             the words of a line; two spaces in a row, or one at an end, leave an empty word between
--     words_left l a      the words from the place a on
--     first n ws          the next word; where none is left, an empty word at the line's end, which is n
--     rest ws             the words behind it
--     over ws             the place of the next word, if one is left
--     number_of cs        the number that 1 to 20 digits write, if it is below 2^64
--     bad w               the word w, told as a bad one: by its place
--     judged b w          the number of the word w if it is one and at most b; else a bad word
use Rattle.std.specs.Prelude.{ℕ, ◌+◌, ◌-◌, ◌*◌, Bool, true, cond, ◌&&◌, List, [], ◌∷◌, length, drop, Some, None, Ok, Err, Option, Result, ◌==◌, nat_le, nat_lt}
use Rattle.script.specs.declared.fault.BadWord.{BadWord}

pub record Part : Type 0 where
  pub text : List ℕ
  pub place : ℕ

-- a byte in front of the first of some words
abbrev pub grown : ℕ → ℕ → List Part → List Part
grown c p [] = record { text = c ∷ []; place = p } ∷ []
grown c p (w ∷ ws) = record { text = c ∷ w.text; place = p } ∷ ws

abbrev pub words_from : ℕ → List ℕ → List Part
words_from p [] = record { text = []; place = p } ∷ []
words_from p (c ∷ cs) = cond (c == 32) (record { text = []; place = p } ∷ words_from (p + 1) cs) (grown c p (words_from (p + 1) cs))

abbrev pub words : List ℕ → List Part
words l = words_from 0 l

unfoldable pub words_left : List ℕ → ℕ → List Part
words_left l a = cond (nat_le a (length l)) (words_from a (drop a l)) []

abbrev pub first : ℕ → List Part → Part
first n [] = record { text = []; place = n }
first n (w ∷ ws) = w

abbrev pub rest : List Part → List Part
rest [] = []
rest (w ∷ ws) = ws

abbrev pub over : List Part → Option ℕ
over [] = None
over (w ∷ ws) = Some w.place

abbrev pub digits : List ℕ → Bool
digits [] = true
digits (c ∷ cs) = (nat_le 48 c && nat_le c 57) && digits cs

-- the number that digits write, behind those that wrote n
abbrev pub read_on : ℕ → List ℕ → ℕ
read_on n [] = n
read_on n (c ∷ cs) = read_on (n * 10 + (c - 48)) cs

unfoldable pub number_of : List ℕ → Option ℕ
number_of cs = cond (((nat_le 1 (length cs) && nat_le (length cs) 20) && digits cs) && nat_lt (read_on 0 cs) 18446744073709551616) (Some (read_on 0 cs)) None

abbrev pub bad : Part → BadWord
bad w = record { place = w.place }

-- at most b
abbrev pub within : ℕ → BadWord → Option ℕ → Result ℕ BadWord
within b e None = Err e
within b e (Some n) = cond (nat_le n b) (Ok n) (Err e)

unfoldable pub judged : ℕ → Part → Result ℕ BadWord
judged b w = within b (bad w) (number_of w.text)
