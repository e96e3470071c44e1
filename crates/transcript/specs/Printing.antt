-- What the code prints, line by line, as it goes along: by the model's steps. The law over whole transcripts stands in Runs and Transcripts.
--     Printed               a line's text, and the model and the leases after it
--     print_line n m ls l   the line l, the n-th, on the model m and the open leases ls
--     print_lines n m ls    the same of all lines that are left, and then the end
--     Behind                a line was printed behind a text
--     left r                the lines that a reader has left
use Rattle.std.specs.Prelude.{◌≡◌, ℕ, ◌+◌, List, [], ◌∷◌, ◌++◌, length, Ok, Err, Result}
use Rattle.kind.specs.Kinds.{Ops}
use Rattle.history.specs.declared.call.Call.{Call}
use Rattle.history.specs.Model.{Model, Step, step, in_use}
use Rattle.script.specs.Commands.{line_call}
use Rattle.script.specs.Kinds.{Terms}
use Rattle.script.specs.Lines.{lines_left}
use Rattle.script.specs.declared.reader.Reader.{Reader}
use Rattle.script.specs.declared.fault.ScriptFault.{ScriptFault}
use Rattle.transcript.specs.Runs.{room}
use Rattle.transcript.specs.Texts.{fault_line, outcome_text, end_text}

pub record Printed (Row Change : Type 0) : Type 0 where
  pub text : List ℕ
  pub model : Model Row Change
  pub leases : List ℕ

module _ {Row Edit Change : Type 0} (k : Ops Row Edit Change) (t : Terms Edit) (cap : ℕ) where
  abbrev pub stepped : ℕ → Step Row Change → Printed Row Change
  stepped n st = record { text = outcome_text k.tells n st.told; model = st.model; leases = st.leases }

  abbrev pub by_call : ℕ → Model Row Change → List ℕ → Result (Call Edit) ScriptFault → Printed Row Change
  by_call n m ls (Err f) = record { text = fault_line f; model = m; leases = ls }
  by_call n m ls (Ok c) = stepped n (step k cap m ls room c)

  unfoldable pub print_line : ℕ → Model Row Change → List ℕ → List ℕ → Printed Row Change
  print_line n m ls l = by_call n m ls (line_call t n l)

  unfoldable pub print_lines : ℕ → Model Row Change → List ℕ → List (List ℕ) → List ℕ
  print_lines n m ls [] = end_text (in_use m.records) (length ls)
  print_lines n m ls (l ∷ lines) = (print_line n m ls l).text ++ print_lines (n + 1) (print_line n m ls l).model (print_line n m ls l).leases lines

-- p was printed behind b, and b' is the text then; m and ls are the model and the leases after it
pub record Behind {Row Change : Type 0} (p : Printed Row Change) (b b' : List ℕ) (m : Model Row Change) (ls : List ℕ) : Type 0 where
  pub text : b' ≡ b ++ p.text
  pub model : m ≡ p.model
  pub leases : ls ≡ p.leases

-- the lines that a reader has left
unfoldable pub left : Reader → List (List ℕ)
left r = lines_left r.bytes.now r.at r.line
