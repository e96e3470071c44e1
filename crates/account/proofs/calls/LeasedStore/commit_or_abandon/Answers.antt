use Rattle.std.proofs.Common.{◌∙◌}
use Rattle.lease.specs.Times.{delete}
use Rattle.store.specs.Calls.{Commits, Abandons}
use Rattle.account.proofs.calls.LeasedStore.commit_or_abandon.Goals as goal

pub returns-in-Ok : goal.returns-in-Ok
unfolding Commits
returns-in-Ok g c = c.in-Ok.ensures.1

pub returns-in-Err : goal.returns-in-Err
unfolding Commits Abandons
returns-in-Err g c =
    let e = c.in-Err.ensures in
    c.abandon-freed.ensures.1 ∙ (λ j. delete (e.1 j).time (g.R.Registry.leases (e.3 j)))
