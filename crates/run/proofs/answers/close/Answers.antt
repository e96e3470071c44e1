use Rattle.std.proofs.Common.{None, sym, refl, ap, ◌∙◌}
use Rattle.lease.specs.Times.{delete, opens}
use Rattle.history.specs.Model.{refused_lease, all_pruned}
use Rattle.store.specs.View.{view}
use Rattle.store.specs.Calls.{Closes}
use Rattle.run.proofs.Decisions.{plain_ok, plain_no}
use Rattle.run.proofs.answers.close.Goals as goal

pub returns-in-Ok : goal.returns-in-Ok
unfolding Closes
returns-in-Ok g c =
    let m = view c.args.store.now in
    let ls = g.R.Registry.leases c.args.registry.now in
    let e = c.in-Ok.ensures in
    let u = c.take_up.ensures.0 in
    let after = e.1 ∙ ap (λ t. delete t ls) u in
    plain_ok _ m _ ls _ _ _ (ap (λ t. refused_lease ls t None) (sym u) ∙ e.0) refl (e.2 ∙ ap (λ z. all_pruned g.K.Kind.ops (opens z) m) after) after refl

pub returns-in-Err : goal.returns-in-Err
unfolding Closes
returns-in-Err g c =
    let m = view c.args.store.now in
    let ls = g.R.Registry.leases c.args.registry.now in
    let e = c.in-Err.ensures in
    plain_no _ m _ ls _ _ _ c.in-Err.fault (ap (λ t. refused_lease ls t None) (sym c.take_up.ensures.0) ∙ e.0) c.refused.ensures (ap view e.1) (ap g.R.Registry.leases e.2)
