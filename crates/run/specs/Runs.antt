-- Runs of a journal, with one list that is used up from the front: each call is given what is left of it.
--     wrote o             how many numbers an outcome wrote
--     asked_from n ts     the calls, each with the length of what was left of a list of n places
--     told_from l ts      the outcomes, each with what it wrote, cut from the front of the list l one after the other
--     used_by ts          how many numbers the turns wrote in all
use Rattle.std.specs.Prelude.{ℕ, ◌+◌, ◌-◌, List, [], ◌∷◌, map, take, drop}
use Rattle.history.specs.declared.call.Call.{Call}
use Rattle.history.specs.declared.call.Outcome.{Outcome}
use Rattle.history.specs.declared.call.Outcome.TheVariants.{Opened, Shown, Closed, Began, Changed, Committed, Abandoned, Held, Kept, InUse, Refused}
use Rattle.history.specs.Law.{Told, Asked}
use Rattle.run.specs.declared.turn.Turn.{Turn}

abbrev pub wrote : {Row : Type 0} → Outcome Row → ℕ
wrote (Opened t) = 0
wrote (Shown r) = 0
wrote Closed = 0
wrote (Began w) = 0
wrote Changed = 0
wrote (Committed t n) = 0
wrote (Abandoned n) = 0
wrote (Held n) = n
wrote (Kept n) = n
wrote (InUse n) = 0
wrote (Refused f) = 0

module _ {Edit Row : Type 0} where
  abbrev pub calls_of : List (Turn Edit Row) → List (Call Edit)
  calls_of ts = map (λ t. t.call) ts

  abbrev pub used_by : List (Turn Edit Row) → ℕ
  used_by [] = 0
  used_by (t ∷ ts) = wrote t.outcome + used_by ts

  abbrev pub asked_from : ℕ → List (Turn Edit Row) → List (Asked Edit)
  asked_from n [] = []
  asked_from n (t ∷ ts) = record { call = t.call; given = n } ∷ asked_from (n - wrote t.outcome) ts

  abbrev pub told_from : List ℕ → List (Turn Edit Row) → List (Told Row)
  told_from l [] = []
  told_from l (t ∷ ts) = record { outcome = t.outcome; written = take (wrote t.outcome) l } ∷ told_from (drop (wrote t.outcome) l) ts
