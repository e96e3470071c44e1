-- What the lines behind the first print: said of the calls that they make and of those calls' outcomes.
--     room               how many times a Kept can write: no store of a script has more versions
--     calls k ls         the calls that the lines ls make, from the line k on; a refused line makes none
--     told_text k ls os  the text of these lines, where the calls have the outcomes os
--     Ran                the law of any run holds of the calls and their outcomes; the times of Kept are those of the pruning rule;
--                        and the text tells all this, and at its end the versions in use and the open leases
use Rattle.std.specs.Prelude.{◌≡◌, ℕ, ◌+◌, List, [], ◌∷◌, ◌++◌, length, Ok, Err, Result}
use Rattle.kind.specs.Kinds.{Ops}
use Rattle.chain.specs.declared.version.Version.{Version}
use Rattle.history.specs.declared.call.Call.{Call}
use Rattle.history.specs.Law.{Told, Asked, Law}
use Rattle.history.specs.Model.{new_model, outcomes}
use Rattle.script.specs.Commands.{line_call}
use Rattle.script.specs.Kinds.{Terms}
use Rattle.script.specs.declared.fault.ScriptFault.{ScriptFault}
use Rattle.transcript.specs.Texts.{fault_line, outcome_text, end_text}

abbrev pub room : ℕ
room = 256

module _ {Row Edit Change : Type 0} (k : Ops Row Edit Change) (t : Terms Edit) where
  abbrev pub more_calls : Result (Call Edit) ScriptFault → List (Asked Edit) → List (Asked Edit)
  more_calls (Err f) cs = cs
  more_calls (Ok c) cs = record { call = c; given = room } ∷ cs

  abbrev pub calls : ℕ → List (List ℕ) → List (Asked Edit)
  calls n [] = []
  calls n (l ∷ ls) = more_calls (line_call t n l) (calls (n + 1) ls)

  -- the text of one line, and the outcomes left for the lines behind it
  abbrev pub line_text : ℕ → Result (Call Edit) ScriptFault → List (Told Row) → List ℕ
  line_text n (Err f) os = fault_line f
  line_text n (Ok c) [] = []
  line_text n (Ok c) (o ∷ os) = outcome_text k.tells n o

  abbrev pub outcomes_left : Result (Call Edit) ScriptFault → List (Told Row) → List (Told Row)
  outcomes_left (Err f) os = os
  outcomes_left (Ok c) [] = []
  outcomes_left (Ok c) (o ∷ os) = os

  abbrev pub told_text : ℕ → List (List ℕ) → List (Told Row) → List ℕ
  told_text n [] os = []
  told_text n (l ∷ ls) os = line_text n (line_call t n l) os ++ told_text (n + 1) ls (outcomes_left (line_call t n l) os)

  -- a store of this capacity for leases, n records, v versions and a start; the lines begin at the second
  pub record Ran (cap n v start : ℕ) (ls : List (List ℕ)) (text : List ℕ) : Type 0 where
    pub outs : List (Told Row)
    pub clock : ℕ
    pub leases : List ℕ
    pub chains : List (List (Version Change))
    pub used : ℕ
    pub law : Law k cap v n start (calls 2 ls) outs clock leases chains used
    pub ruled : outs ≡ outcomes k cap (new_model k n v start) [] (calls 2 ls)
    pub told : text ≡ told_text 2 ls outs ++ end_text used (length leases)
