use Rattle.lease.proofs.Numbers.{opened}
use Rattle.lease.proofs.counting.open_at.Goals as goal

pub returns : goal.returns
returns g c =
    opened g.R.Registry.capacity g.R.Registry.leases c.args.time c.args.registry.now c.add.new.self c.add.result c.add.ensures
