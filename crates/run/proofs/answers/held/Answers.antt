use Rattle.std.proofs.Common.{length, sym, refl, ap, ◌∙◌}
use Rattle.history.specs.declared.call.Outcome.TheVariants.{Held}
use Rattle.history.specs.Model.{refused_held, held_number, held_from, owners}
use Rattle.history.proofs.Counts.{held_length}
use Rattle.store.specs.View.{view}
use Rattle.store.specs.Calls.{Holds}
use Rattle.run.proofs.Decisions.{list_ok, list_no}
use Rattle.run.proofs.answers.held.Goals as goal

pub returns-in-Ok : goal.returns-in-Ok
unfolding Holds
returns-in-Ok g c =
    let m = view c.args.store.now in
    let w = c.args.w in
    let e = c.in-Ok.ensures in
    let u = c.take_up-writer.ensures.0 in
    let n = e.1 ∙ ap (λ z. held_number z m) u in
    list_ok _ m (g.R.Registry.leases c.args.registry.now) _ _ c.args.list.now c.held-done.new.out
    (ap (λ z. refused_held m z (length c.args.list.now)) (sym u) ∙ e.0) (ap Held n) refl refl c.in-Ok.n (n ∙ sym (held_length w 0 (owners m.records))) (e.2 ∙ ap (λ z. held_from z 0 (owners m.records)) u) e.3

pub returns-in-Err : goal.returns-in-Err
unfolding Holds
returns-in-Err g c =
    let m = view c.args.store.now in
    let e = c.in-Err.ensures in
    list_no _ m (g.R.Registry.leases c.args.registry.now) _ _ c.args.list.now c.held-done.new.out c.in-Err.fault
    (ap (λ z. refused_held m z (length c.args.list.now)) (sym c.take_up-writer.ensures.0) ∙ e.0) c.refused.ensures e.1
