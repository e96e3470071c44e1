use Rattle.std.proofs.Common.{rules, ap}
use Rattle.tallies.proofs.Counters.{added}
use Rattle.tallies.proofs.TalliesKind.edit.Goals as goal

pub returns : goal.returns
returns c = ap (λ r. (r, c.args.edit)) (added c.args.row c.args.edit c.each.result (search rules) (λ i h. let k = c.each.ensures i h in search rules))
