-- Tokens that are still to be spent: a report's lease, and a writer, whose number is its time.
--     At t token    the token is at the time t, and not spent
use Rattle.std.specs.Prelude.{◌≡◌, ℕ, false}
use Rattle.lease.specs.declared.token.Report.{Report}
use Rattle.lease.specs.declared.token.Writing.{Writing}
use Rattle.lease.specs.declared.token.Token.{Token}

abbrev pub Lease : Type 0
Lease = Token Report

abbrev pub Writer : Type 0
Writer = Token Writing

abbrev pub At : {Use : Type 0} → ℕ → Token Use → Type 0
At t token = (token.time ≡ t) × (token.spent ≡ false)
