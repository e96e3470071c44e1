use Rattle.std.proofs.Common.{sym, refl, ap, ◌∙◌}
use Rattle.std.proofs.lemmas.List.{length-map}
use Rattle.history.specs.declared.call.Outcome.TheVariants.{Kept}
use Rattle.history.specs.Model.{record_at}
use Rattle.store.specs.View.{view}
use Rattle.store.specs.Calls.{Keeps}
use Rattle.run.proofs.Decisions.{list_ok, list_no}
use Rattle.run.proofs.answers.kept.Goals as goal

pub returns-in-Ok : goal.returns-in-Ok
unfolding Keeps
returns-in-Ok g c =
    let m = view c.args.store.now in
    let e = c.in-Ok.ensures in
    list_ok _ m (g.R.Registry.leases c.args.registry.now) _ _ c.args.list.now c.kept.new.out
    e.0 (ap Kept e.1) refl refl c.in-Ok.n (e.1 ∙ sym (length-map (record_at g.K.Kind.ops m c.args.record).chain _)) e.2 e.3

pub returns-in-Err : goal.returns-in-Err
unfolding Keeps
returns-in-Err g c =
    let m = view c.args.store.now in
    let e = c.in-Err.ensures in
    list_no _ m (g.R.Registry.leases c.args.registry.now) _ _ c.args.list.now c.kept.new.out c.in-Err.fault e.0 c.refused.ensures e.1
