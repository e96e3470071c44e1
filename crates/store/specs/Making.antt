-- Making a store.
--     refused_sizes n v start             the first check that fails: 1 for the record table, 1 for the version table, 2 for the start
--     Sized n v start r                   what the check of the sizes answers
--     fresh_records f, fresh_versions f   how many records and versions a new store is for
use Rattle.std.specs.Prelude.{◌≡◌, ℕ, ◌||◌, Some, None, Ok, Err, Option, Result, ◌==◌, nat_lt}
use Rattle.kind.specs.declared.Kind.{Ghosts}
use Rattle.history.specs.declared.fault.StoreCause.TheVariants.{TableSize, StartHigh}
use Rattle.history.specs.declared.fault.StoreFault.{StoreFault}
use Rattle.history.specs.History.{limit}
use Rattle.history.specs.Model.{or_else}
use Rattle.state.specs.View.{table_records, table_versions}
use Rattle.store.specs.declared.sizes.Sizes.{Sizes}
use Rattle.store.specs.declared.making.Fresh.{Fresh}

abbrev pub refused_sizes : ℕ → ℕ → ℕ → Option StoreFault
refused_sizes n v start =
    or_else (n == 0 || nat_lt 4096 n) (record { cause = TableSize; place = n })
    (or_else (v == 0 || nat_lt 16384 v) (record { cause = TableSize; place = v })
    (or_else (nat_lt limit start) (record { cause = StartHigh; place = start }) None))

abbrev pub Sized : ℕ → ℕ → ℕ → Result Sizes StoreFault → Type 0
Sized n v start (Ok s) = (refused_sizes n v start ≡ None) × (s.records ≡ n) × (s.versions ≡ v) × (s.start ≡ start)
Sized n v start (Err f) = refused_sizes n v start ≡ Some f

abbrev pub fresh_records : {K Row Edit C : Type 0} {G : Ghosts K Row Edit C} → Fresh K Row Edit C G → ℕ
fresh_records f = table_records f.tables

abbrev pub fresh_versions : {K Row Edit C : Type 0} {G : Ghosts K Row Edit C} → Fresh K Row Edit C G → ℕ
fresh_versions f = table_versions f.tables
