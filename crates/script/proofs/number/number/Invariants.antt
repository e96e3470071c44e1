use Rattle.std.proofs.Common.{◌≡◌, ◌<◌, drop}
use Rattle.script.specs.Words.{read_on, digits}
use Rattle.script.proofs.number.number.Given as goal

abbrev pub invariant-loop-b : goal.invariant-loop-b
invariant-loop-b l = (read_on l.n (drop l.b-index l.text) ≡ read_on 0 l.text) × (digits (drop l.b-index l.text) ≡ digits l.text) × (l.n < 18446744073709551616)
