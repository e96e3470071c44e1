use Rattle.store.specs.View.{view}
use Rattle.account.proofs.Tokens.{closed_if}
use Rattle.account.proofs.calls.LeasedStore.close.Goals as goal

pub returns : goal.returns
returns g c = closed_if g.K.Kind.ops view g.R.Registry.leases c.args.lease.time _ _ _ _ _ c.close.ensures
