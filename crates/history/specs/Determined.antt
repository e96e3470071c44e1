-- How far the calls decide the outcomes: but for rows that tell the same, the order in Held and the times in Kept, wholly.
--     Sense             what an outcome tells: of a row its numbers, of Held how often each record stands there, of any other all but the times
--     sense k o         that of one outcome
--     Determined k      two runs of the same calls from one history tell the same, and end in one history
use Rattle.std.specs.Prelude.{◌≡◌, ℕ, List, map}
use Rattle.kind.specs.Kinds.{Ops}
use Rattle.lease.specs.Times.{count}
use Rattle.history.specs.declared.call.Outcome.{Outcome}
use Rattle.history.specs.declared.call.Outcome.TheVariants.{Opened, Shown, Closed, Began, Changed, Committed, Abandoned, Held, Kept, InUse, Refused}
use Rattle.history.specs.History.{History}
use Rattle.history.specs.Law.{Told, Asked, Run}

pub data Sense : Type 0 where
  row : List ℕ → Sense
  held_counts : ℕ → (ℕ → ℕ) → Sense
  other : Outcome (Unit {0}) → Sense

module _ {Row Edit Change : Type 0} (k : Ops Row Edit Change) where
  abbrev pub sense_of : Outcome Row → List ℕ → Sense
  sense_of (Opened t) ws = other (Opened t)
  sense_of (Shown r) ws = row (k.tells r)
  sense_of Closed ws = other Closed
  sense_of (Began w) ws = other (Began w)
  sense_of Changed ws = other Changed
  sense_of (Committed t n) ws = other (Committed t n)
  sense_of (Abandoned n) ws = other (Abandoned n)
  sense_of (Held n) ws = held_counts n (λ i. count i ws)
  sense_of (Kept n) ws = other (Kept n)
  sense_of (InUse n) ws = other (InUse n)
  sense_of (Refused f) ws = other (Refused f)

  abbrev pub sense : Told Row → Sense
  sense o = sense_of o.outcome o.written

  abbrev pub Determined : Type 0
  Determined =
      (cap room : ℕ) (calls : List (Asked Edit)) (os ps : List (Told Row)) (h h₁ h₂ : History Row) →
      Run k cap room h calls os h₁ → Run k cap room h calls ps h₂ → (map sense os ≡ map sense ps) × (h₁ ≡ h₂)
