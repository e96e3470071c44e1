-- What is printed of an outcome: one line each, ended by a line feed.
--     decimal n                the digits of n (the standard library's word)
--     spaced ns                each number behind a space
--     fault_line f             a refusal, as its text and a line feed
--     outcome_text tells k o   the line of an outcome that came at the line k; a row is told by its numbers
--     end_text u n             the last line: the versions in use and the open leases
use Rattle.std.specs.Prelude.{ℕ, List, [], ◌∷◌, ◌++◌, codes, decimal}
use Rattle.history.specs.Law.{Told}
use Rattle.history.specs.declared.call.Outcome.{Outcome}
use Rattle.history.specs.declared.call.Outcome.TheVariants.{Opened, Shown, Closed, Began, Changed, Committed, Abandoned, Held, Kept, InUse, Refused}
use Rattle.script.specs.Card.{fault_from_store}
use Rattle.script.specs.Shown.{fault_text}
use Rattle.script.specs.declared.fault.ScriptFault.{ScriptFault}

abbrev pub spaced : List ℕ → List ℕ
spaced [] = []
spaced (n ∷ ns) = 32 ∷ (decimal n ++ spaced ns)

abbrev pub fault_line : ScriptFault → List ℕ
fault_line f = fault_text f ++ codes "\n"

-- a script makes no call whose outcome is Held or InUse
abbrev pub outcome_line : {Row : Type 0} → (Row → List ℕ) → ℕ → List ℕ → Outcome Row → List ℕ
outcome_line tells k ts (Opened t) = codes "report " ++ (decimal t ++ codes "\n")
outcome_line tells k ts (Shown r) = codes "row" ++ (spaced (tells r) ++ codes "\n")
outcome_line tells k ts Closed = codes "closed\n"
outcome_line tells k ts (Began w) = codes "writer " ++ (decimal w ++ codes "\n")
outcome_line tells k ts Changed = codes "changed\n"
outcome_line tells k ts (Committed t n) = codes "committed " ++ (decimal t ++ (codes " " ++ (decimal n ++ codes "\n")))
outcome_line tells k ts (Abandoned n) = codes "abandoned " ++ (decimal n ++ codes "\n")
outcome_line tells k ts (Held n) = []
outcome_line tells k ts (Kept n) = codes "kept " ++ (decimal n ++ (spaced ts ++ codes "\n"))
outcome_line tells k ts (InUse n) = []
outcome_line tells k ts (Refused f) = fault_line (fault_from_store k f)

abbrev pub outcome_text : {Row : Type 0} → (Row → List ℕ) → ℕ → Told Row → List ℕ
outcome_text tells k o = outcome_line tells k o.written o.outcome

abbrev pub end_text : ℕ → ℕ → List ℕ
end_text u n = codes "end " ++ (decimal u ++ (codes " " ++ (decimal n ++ codes "\n")))
