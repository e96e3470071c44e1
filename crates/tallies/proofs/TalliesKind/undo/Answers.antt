use Rattle.std.proofs.Common.{rules}
use Rattle.tallies.proofs.Counters.{taken_off}
use Rattle.tallies.proofs.TalliesKind.undo.Goals as goal

pub returns : goal.returns
returns c = taken_off c.args.row c.args.change c.each.result (search rules) (λ i h. let k = c.each.ensures i h in search rules)
