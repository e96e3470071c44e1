use Rattle.std.proofs.Common.{ap, ◌∙◌}
use Rattle.store.specs.Calls.{Begins, Abandons}
use Rattle.account.proofs.Tokens.{given_back}
use Rattle.account.proofs.calls.LeasedStore.change_all.Goals as goal

pub returns-in_err-writer : goal.returns-in_err-writer
unfolding Begins
returns-in_err-writer g c = ap g.R.Registry.leases c.in_err-writer.ensures.2

pub returns-in-Err : goal.returns-in-Err
unfolding Begins Abandons
returns-in-Err g c = let e = c.in_ok-writer.ensures in given_back _ _ _ _ _ e.1.0 (ap g.R.Registry.leases c.make_each.ensures.registry ∙ e.3) c.abandon-freed.ensures.1

pub returns : goal.returns
unfolding Begins
returns g c = let e = c.in_ok-writer.ensures in given_back _ _ _ _ _ e.1.0 (ap g.R.Registry.leases c.make_each.ensures.registry ∙ e.3) c.commit_or_abandon.ensures
