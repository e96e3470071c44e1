-- What a line asks for.
--     Worded              a command with its words
--     command_of n c ws   the command of the letter c, its words taken off ws, in a line of n bytes; none for another letter
--     line_command n ws   the same, the letter being the first of the words
--     call_of_words t c   the call that a command makes: its words judged from left to right; else the first bad one
--     line_call t k l     the call that the line l, the k-th, makes; else its refusal
use Rattle.std.specs.Prelude.{ℕ, cond, List, [], ◌∷◌, length, Some, None, Ok, Err, Option, Result, ◌==◌}
use Rattle.history.specs.declared.call.Call.{Call}
use Rattle.history.specs.declared.call.Call.TheVariants.{Open, Read, Close, Begin, Look, Change, Commit, Abandon, Kept}
use Rattle.script.specs.Card.{unknown_letter_fault, bad_word_fault}
use Rattle.script.specs.Kinds.{Terms, top, any}
use Rattle.script.specs.Words.{Part, words, first, rest, bad, judged}
use Rattle.script.specs.declared.fault.BadWord.{BadWord}
use Rattle.script.specs.declared.fault.ScriptFault.{ScriptFault}

pub data Worded : Type 0 where
  w_open : Worded
  w_read : Part → Part → Worded
  w_close : Part → Worded
  w_begin : Worded
  w_look : Part → Part → Worded
  w_change : Part → Part → Part → Part → Worded
  w_commit : Part → Worded
  w_abandon : Part → Worded
  w_kept : Part → Worded

-- a command, and the words left behind it
pub record Taken : Type 0 where
  pub command : Worded
  pub left : List Part

abbrev pub none_taken : Worded → List Part → Option Taken
none_taken c ws = Some (record { command = c; left = ws })

abbrev pub one_taken : ℕ → (Part → Worded) → List Part → Option Taken
one_taken n f ws = none_taken (f (first n ws)) (rest ws)

abbrev pub two_taken : ℕ → (Part → Part → Worded) → List Part → Option Taken
two_taken n f ws = one_taken n (f (first n ws)) (rest ws)

abbrev pub four_taken : ℕ → (Part → Part → Part → Part → Worded) → List Part → Option Taken
four_taken n f ws = two_taken n (f (first n ws) (first n (rest ws))) (rest (rest ws))

-- o, r, c, b, g, e, m, a and v
unfoldable pub command_of : ℕ → ℕ → List Part → Option Taken
command_of n c ws =
    cond (c == 111) (none_taken w_open ws)
    (cond (c == 114) (two_taken n w_read ws)
    (cond (c == 99) (one_taken n w_close ws)
    (cond (c == 98) (none_taken w_begin ws)
    (cond (c == 103) (two_taken n w_look ws)
    (cond (c == 101) (four_taken n w_change ws)
    (cond (c == 109) (one_taken n w_commit ws)
    (cond (c == 97) (one_taken n w_abandon ws)
    (cond (c == 118) (one_taken n w_kept ws) None))))))))

-- what follows from an accepted word
abbrev pub bind : {X : Type 0} → Result ℕ BadWord → (ℕ → Result X BadWord) → Result X BadWord
bind (Ok n) next = next n
bind (Err w) next = Err w

abbrev pub call_of_words : {Edit : Type 0} → Terms Edit → Worded → Result (Call Edit) BadWord
call_of_words t w_open = Ok Open
call_of_words t (w_read time i) = bind (judged top time) (λ x. bind (judged any i) (λ y. Ok (Read x y)))
call_of_words t (w_close time) = bind (judged top time) (λ x. Ok (Close x))
call_of_words t w_begin = Ok Begin
call_of_words t (w_look w i) = bind (judged top w) (λ x. bind (judged any i) (λ y. Ok (Look x y)))
call_of_words t (w_change w i a v) =
    bind (judged top w) (λ x. bind (judged any i) (λ y. bind (judged t.attributes a) (λ z. bind (judged t.values v) (λ u. Ok (Change x y (t.set z u))))))
call_of_words t (w_commit w) = bind (judged top w) (λ x. Ok (Commit x))
call_of_words t (w_abandon w) = bind (judged top w) (λ x. Ok (Abandon x))
call_of_words t (w_kept i) = bind (judged any i) (λ y. Ok (Kept y))

-- a word that is left over is bad too, after all others
abbrev pub ended : {X : Type 0} → ℕ → Result X BadWord → List Part → Result X ScriptFault
ended k (Err w) ws = Err (bad_word_fault k w)
ended k (Ok x) [] = Ok x
ended k (Ok x) (w ∷ ws) = Err (bad_word_fault k (bad w))

abbrev pub asked : {Edit : Type 0} → Terms Edit → ℕ → Option Taken → Result (Call Edit) ScriptFault
asked t k None = Err (unknown_letter_fault k)
asked t k (Some c) = ended k (call_of_words t c.command) c.left

-- a first word of one byte is a letter
abbrev pub letter_of_word : List ℕ → Option ℕ
letter_of_word [] = None
letter_of_word (c ∷ []) = Some c
letter_of_word (c ∷ d ∷ cs) = None

-- the command of a line of n bytes with these words
abbrev pub known : ℕ → List Part → Option ℕ → Option Taken
known n ws None = None
known n ws (Some c) = command_of n c ws

unfoldable pub line_command : ℕ → List Part → Option Taken
line_command n ws = known n (rest ws) (letter_of_word (first n ws).text)

unfoldable pub line_call : {Edit : Type 0} → Terms Edit → ℕ → List ℕ → Result (Call Edit) ScriptFault
line_call t k l = asked t k (line_command (length l) (words l))
