use Rattle.chain.proofs.Times.{gap_some, gap_none}
use Rattle.chain.proofs.gap.open_between.Goals as goal

pub returns-in-Some : goal.returns-in-Some
returns-in-Some g c = gap_some (g.R.Registry.leases c.args.registry.now) c.args.a c.args.b c.in-Some.m c.in-Some.ensures

pub returns-in-None : goal.returns-in-None
returns-in-None g c = gap_none (g.R.Registry.leases c.args.registry.now) c.args.a c.args.b c.in-None.ensures
