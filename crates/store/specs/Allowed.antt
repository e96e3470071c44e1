-- The table sizes that are allowed: 1 to 4,096 records and 1 to 16,384 versions.
use Rattle.std.specs.Prelude.{ℕ, Bool, ◌&&◌, nat_le}

abbrev pub allowed : ℕ → ℕ → Bool
allowed records versions = (nat_le 1 records && nat_le records 4096) && (nat_le 1 versions && nat_le versions 16384)
