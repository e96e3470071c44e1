use Rattle.std.proofs.Common.{ap}
use Rattle.store.specs.Calls.{Opens}
use Rattle.account.proofs.Tokens.{given_back}
use Rattle.account.proofs.calls.LeasedStore.read_now.Goals as goal

pub returns-in_err-lease : goal.returns-in_err-lease
unfolding Opens
returns-in_err-lease g c = ap g.R.Registry.leases c.in_err-lease.ensures.1

pub returns-in_err-close : goal.returns-in_err-close
unfolding Opens
returns-in_err-close g c = let e = c.in_ok-lease.ensures in given_back _ _ _ _ _ e.1.0 e.2 c.close.ensures

pub returns : goal.returns
unfolding Opens
returns g c = let e = c.in_ok-lease.ensures in given_back _ _ _ _ _ e.1.0 e.2 c.close.ensures
