-- Calls of a store, one after the other.
--     made o m                   a refusal or none, and the model
--     change_each k m ls w es    the writer w makes each change in turn: the first refusal, or none, and the model then
--     refusal_of r               the refusal that a result has
--     ReadAt k m ls t i r        what reading the record i at the time t answers: the row, or the refusal
use Rattle.std.specs.Prelude.{◌≡◌, ℕ, List, [], ◌∷◌, Some, None, Ok, Err, Option, Result}
use Rattle.kind.specs.Kinds.{Ops}
use Rattle.history.specs.declared.fault.StoreFault.{StoreFault}
use Rattle.history.specs.Model.{Model, refused_read, refused_change, changed, record_at, reading}
use Rattle.account.specs.declared.calls.RecordEdit.{RecordEdit}

pub record Made (Row Change : Type 0) : Type 0 where
  pub refusal : Option StoreFault
  pub model : Model Row Change

abbrev pub made : {Row Change : Type 0} → Option StoreFault → Model Row Change → Made Row Change
made o m = record { refusal = o; model = m }

-- a refused change ends it
abbrev pub or_go_on : {Row Change : Type 0} → Option StoreFault → Model Row Change → Made Row Change → Made Row Change
or_go_on None m rest = rest
or_go_on (Some f) m rest = made (Some f) m

abbrev pub refusal_of : {U : Type 0} → Result U StoreFault → Option StoreFault
refusal_of (Ok u) = None
refusal_of (Err f) = Some f

module _ {Row Edit Change : Type 0} (k : Ops Row Edit Change) where
  abbrev pub change_each : Model Row Change → List ℕ → ℕ → List (RecordEdit Edit) → Made Row Change
  change_each m ls w [] = made None m
  change_each m ls w (e ∷ es) = or_go_on (refused_change k m ls w e.«record») m (change_each (changed k m w e.«record» e.edit) ls w es)

  abbrev pub ReadAt : Model Row Change → List ℕ → ℕ → ℕ → Result Row StoreFault → Type 0
  ReadAt m ls t i (Ok row) = (refused_read m ls t i ≡ None) × (row ≡ reading k (record_at k m i) t)
  ReadAt m ls t i (Err f) = refused_read m ls t i ≡ Some f
