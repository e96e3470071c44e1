-- How a script speaks of a kind.
--     Terms            the last attribute's number, the greatest value, the edit that a command makes, and how many numbers a row tells
--     fields_terms     attributes 0 to 7, values below 2^32; a command sets one attribute
--     tallies_terms    counters 0 to 3, any value below 2^64; a command adds to one counter
use Rattle.std.specs.Prelude.{ℕ, ◌%◌, ◌^◌, cond, ◌==◌, nat_lt}
use Rattle.kind.specs.Tables.{table}
use Rattle.fields.specs.Fields.{patch}
use Rattle.fields.specs.declared.Patch.{Patch}
use Rattle.tallies.specs.Tallies.{counts}
use Rattle.tallies.specs.declared.Counts.{Counts}

pub record Terms (Edit : Type 0) : Type 0 where
  pub attributes : ℕ
  pub values : ℕ
  pub set : ℕ → ℕ → Edit
  pub numbers : ℕ

abbrev pub top : ℕ
top = 4294967295

abbrev pub any : ℕ
any = 18446744073709551615

abbrev pub fields_terms : Terms Patch
fields_terms = record { attributes = 7; values = top; set = λ a v. patch (cond (nat_lt a 8) (2 ^ a) 0) (table 8 (λ _. v % 2 ^ 32)); numbers = 8 }

abbrev pub tallies_terms : Terms Counts
tallies_terms = record { attributes = 3; values = any; set = λ a v. counts (table 4 (λ i. cond (i == a) v 0)); numbers = 4 }
