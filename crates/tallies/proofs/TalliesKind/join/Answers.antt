use Rattle.std.proofs.Common.{rules}
use Rattle.tallies.proofs.Counters.{added}
use Rattle.tallies.proofs.TalliesKind.join.Goals as goal

pub returns : goal.returns
returns c = added c.args.newer c.args.older c.each.result (search rules) (λ i h. let k = c.each.ensures i h in search rules)
