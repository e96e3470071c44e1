use Rattle.std.proofs.Common.{sym, ap, ◌∙◌}
use Rattle.lease.specs.Times.{opens}
use Rattle.chain.specs.Pruning.{open_in, floor}
use Rattle.chain.proofs.Times.{gap_some}
use Rattle.version_table.proofs.prune.apart.Goals as goal

pub returns-in-None : goal.returns-in-None
returns-in-None g c =
    let ls = g.R.Registry.leases c.args.registry.now in
    gap_some ls 0 c.args.time c.args.least c.requires ∙ ap (λ o. open_in (opens ls) (floor o) c.args.time) (sym c.in-None.is)
