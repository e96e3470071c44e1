use Rattle.std.proofs.Common.{sym, subst}
use Rattle.lease.specs.Counting.{FirstFrom}
use Rattle.lease.proofs.Numbers.{least_first}
use Rattle.lease.proofs.counting.first_open.Goals as goal

pub returns : goal.returns
returns g c =
    let l = g.R.Registry.leases c.args.registry.now in
    subst (λ o. FirstFrom c.args.time l o) (sym c.least_from.ensures) (least_first c.args.time l)
