use Rattle.std.proofs.Common.{refl, ap, ◌∙◌}
use Rattle.history.specs.declared.call.Outcome.TheVariants.{Opened}
use Rattle.store.specs.View.{view}
use Rattle.store.specs.Calls.{Opens}
use Rattle.run.proofs.Decisions.{plain_ok, plain_no}
use Rattle.run.proofs.answers.open.Goals as goal

pub returns-in-Ok : goal.returns-in-Ok
unfolding Opens
returns-in-Ok g c =
    let m = view c.args.store.now in
    let e = c.in-Ok.ensures in
    plain_ok _ m m (g.R.Registry.leases c.args.registry.now) _ _ _ e.0 (ap Opened (c.write_down.ensures ∙ e.1.0)) refl e.2 refl

pub returns-in-Err : goal.returns-in-Err
unfolding Opens
returns-in-Err g c =
    let m = view c.args.store.now in
    let e = c.in-Err.ensures in
    plain_no _ m m (g.R.Registry.leases c.args.registry.now) _ _ _ c.in-Err.fault e.0 c.refused.ensures refl (ap g.R.Registry.leases e.1)
