use Rattle.std.proofs.Common.{sym, ap, arith}
use Rattle.links.specs.Walk.{link_below}
use Rattle.links.proofs.Fresh.{link_below_less}
use Rattle.links.proofs.make.below.Goals as goal

pub returns-then-slot-eq0 : goal.returns-then-slot-eq0
unfolding link_below
returns-then-slot-eq0 c = sym (ap link_below c.if-slot-eq0.true)

pub returns-else-slot-eq0 : goal.returns-else-slot-eq0
returns-else-slot-eq0 c = sym (link_below_less c.args.slot (omega arith))
