use Rattle.std.proofs.Common.{sym, refl, ap, ◌∙◌}
use Rattle.lease.specs.Times.{delete, opens}
use Rattle.history.specs.declared.call.Outcome.TheVariants.{Committed}
use Rattle.history.specs.Model.{refused_commit, committed, held_number, all_pruned}
use Rattle.store.specs.View.{view}
use Rattle.store.specs.Calls.{Commits}
use Rattle.run.proofs.Decisions.{plain_ok, plain_no}
use Rattle.run.proofs.answers.commit.Goals as goal

pub returns-in-Ok : goal.returns-in-Ok
unfolding Commits
returns-in-Ok g c =
    let k = g.K.Kind.ops in
    let m = view c.args.store.now in
    let ls = g.R.Registry.leases c.args.registry.now in
    let e = c.in-Ok.ensures in
    let u = c.take_up.ensures.0 in
    let after = e.1 ∙ ap (λ w. delete w ls) u in
    let clock = e.3 ∙ ap (λ w. (committed k w m).clock) u in
    let number = e.4 ∙ ap (λ w. held_number w m) u in
    plain_ok _ m _ ls _ _ _ (ap (λ w. refused_commit m ls w) (sym u) ∙ e.0) (λ j. Committed (clock j) (number j)) (e.2 ∙ (λ j. all_pruned k (opens (after j)) (committed k (u j) m))) after refl

pub returns-in-Err : goal.returns-in-Err
unfolding Commits
returns-in-Err g c =
    let m = view c.args.store.now in
    let ls = g.R.Registry.leases c.args.registry.now in
    let e = c.in-Err.ensures in
    plain_no _ m _ ls _ _ _ c.in-Err.fault (ap (λ w. refused_commit m ls w) (sym c.take_up.ensures.0) ∙ e.0) c.refused.ensures (ap view e.2) (ap g.R.Registry.leases e.3)
