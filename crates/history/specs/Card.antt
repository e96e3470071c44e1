-- The refusals of a store: number, layer and place. 4 and 8 are the registry's, and come up whole.
--     1   B  table size not allowed           place: the size
--     2   B  start above 4,294,967,295        place: the start
--     3   B  no such record                   place: the record
--     5   B  record held by another writer    place: the record
--     6   B  last time above the writer's     place: the record
--     7   B  record free, no version left     place: the record
--     9   B  clock at its limit               place: the clock
--     10  B  given list too short             place: the length needed
use Rattle.std.specs.Prelude.{ℕ}
use Rattle.lease.specs.declared.fault.Layer.{Layer}
use Rattle.lease.specs.declared.fault.Layer.TheVariants.{Store}
use Rattle.lease.specs.declared.fault.RegistryFault.{RegistryFault}
use Rattle.lease.specs.Card.{cause_number, cause_layer, none_open, full}
use Rattle.history.specs.declared.fault.StoreCause.{StoreCause}
use Rattle.history.specs.declared.fault.StoreCause.TheVariants.{TableSize, StartHigh, NoRecord, HeldByOther, RowNewer, VersionsUsed, ClockLimit, ListShort, FromRegistry}
use Rattle.history.specs.declared.fault.StoreFault.{StoreFault}

abbrev pub fault_number : StoreCause → ℕ
fault_number TableSize = 1
fault_number StartHigh = 2
fault_number NoRecord = 3
fault_number HeldByOther = 5
fault_number RowNewer = 6
fault_number VersionsUsed = 7
fault_number ClockLimit = 9
fault_number ListShort = 10
fault_number (FromRegistry f) = cause_number f.cause

abbrev pub fault_layer : StoreCause → Layer
fault_layer TableSize = Store
fault_layer StartHigh = Store
fault_layer NoRecord = Store
fault_layer HeldByOther = Store
fault_layer RowNewer = Store
fault_layer VersionsUsed = Store
fault_layer ClockLimit = Store
fault_layer ListShort = Store
fault_layer (FromRegistry f) = cause_layer f.cause

-- a registry's fault comes up whole
abbrev pub raised : RegistryFault → StoreFault
raised f = record { cause = FromRegistry f; place = f.place }

-- each refusal by its words
abbrev pub no_record : ℕ → StoreFault
no_record i = record { cause = NoRecord; place = i }

abbrev pub no_lease : ℕ → StoreFault
no_lease t = raised (none_open t)

abbrev pub held_by_other : ℕ → StoreFault
held_by_other i = record { cause = HeldByOther; place = i }

abbrev pub row_newer : ℕ → StoreFault
row_newer i = record { cause = RowNewer; place = i }

abbrev pub versions_used : ℕ → StoreFault
versions_used i = record { cause = VersionsUsed; place = i }

abbrev pub leases_used : ℕ → StoreFault
leases_used cap = raised (full cap)

abbrev pub clock_limit : ℕ → StoreFault
clock_limit t = record { cause = ClockLimit; place = t }

abbrev pub list_short : ℕ → StoreFault
list_short n = record { cause = ListShort; place = n }
