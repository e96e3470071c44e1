use Rattle.std.proofs.Common.{refl, ap, ◌∙◌}
use Rattle.history.specs.declared.call.Outcome.TheVariants.{Began}
use Rattle.store.specs.View.{view}
use Rattle.store.specs.Calls.{Begins}
use Rattle.run.proofs.Decisions.{plain_ok, plain_no}
use Rattle.run.proofs.answers.begin.Goals as goal

pub returns-in-Ok : goal.returns-in-Ok
unfolding Begins
returns-in-Ok g c =
    let e = c.in-Ok.ensures in
    plain_ok _ (view c.args.store.now) _ (g.R.Registry.leases c.args.registry.now) _ _ _ e.0 (ap Began (c.write_down.ensures ∙ e.1.0)) e.2 e.3 refl

pub returns-in-Err : goal.returns-in-Err
unfolding Begins
returns-in-Err g c =
    let e = c.in-Err.ensures in
    plain_no _ (view c.args.store.now) _ (g.R.Registry.leases c.args.registry.now) _ _ _ c.in-Err.fault e.0 c.refused.ensures (ap view e.1) (ap g.R.Registry.leases e.2)
