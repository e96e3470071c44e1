-- What a state means, and what its checks answer.
--     view s                              the model that the state s is
--     table_records t, table_versions t   how many records and versions empty tables are for
--     Placed, Owned                       what the checks of a record's number and of the right to change it answer
use Rattle.std.specs.Prelude.{◌≡◌, ℕ, ◌<◌, ◌≤◌, length, Some, None, Ok, Err, vec_items, Result}
use Rattle.kind.specs.declared.Kind.{Ghosts}
use Rattle.kind.specs.Kinds.{Ops}
use Rattle.version_table.specs.Chains.{chains, capacity}
use Rattle.history.specs.declared.fault.StoreFault.{StoreFault}
use Rattle.history.specs.Model.{Model, no_record, refused_own}
use Rattle.state.specs.Stored.{viewed}
use Rattle.state.specs.declared.state.State.{State}
use Rattle.state.specs.declared.tables.Tables.{Tables}

-- the four types are the kind, its rows, edits and changes
unfoldable pub view : {K Row Edit C : Type 0} {G : Ghosts K Row Edit C} → State K Row Edit C G → Model Row C
view s = record { clock = s.clock; room = capacity s.table; records = viewed (vec_items s.records) (chains s.table) }

-- whether a record's number is one, and is its place
unfoldable pub Placed : {Row C : Type 0} → Model Row C → ℕ → Result ℕ StoreFault → Type 0
Placed m i (Ok j) = (i < length m.records) × (j ≡ i)
Placed m i (Err f) = (length m.records ≤ i) × (f ≡ no_record i)

-- whether a writer may change a record
unfoldable pub Owned : {Row Edit C U : Type 0} → Ops Row Edit C → Model Row C → ℕ → ℕ → Result U StoreFault → Type 0
Owned k m w i (Ok u) = refused_own k m w i ≡ None
Owned k m w i (Err f) = refused_own k m w i ≡ Some f

-- how many records and versions empty tables are for
abbrev pub table_records : {K Row Edit C : Type 0} {G : Ghosts K Row Edit C} → Tables K Row Edit C G → ℕ
table_records t = length (vec_items t.records)

abbrev pub table_versions : {K Row Edit C : Type 0} {G : Ghosts K Row Edit C} → Tables K Row Edit C G → ℕ
table_versions t = capacity t.table
