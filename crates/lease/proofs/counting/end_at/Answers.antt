use Rattle.lease.proofs.Numbers.{ended}
use Rattle.lease.proofs.counting.end_at.Goals as goal

pub returns : goal.returns
returns g c = ended g.R.Registry.leases c.args.time c.args.registry.now c.remove.new.self c.remove.result c.remove.ensures
