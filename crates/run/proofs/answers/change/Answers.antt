use Rattle.std.proofs.Common.{sym, refl, ap, ◌∙◌}
use Rattle.history.specs.Model.{refused_change, changed}
use Rattle.store.specs.View.{view}
use Rattle.store.specs.Calls.{Changes}
use Rattle.run.proofs.Decisions.{plain_ok, plain_no}
use Rattle.run.proofs.answers.change.Goals as goal

pub returns-in-Ok : goal.returns-in-Ok
unfolding Changes
returns-in-Ok g c =
    let k = g.K.Kind.ops in
    let m = view c.args.store.now in
    let ls = g.R.Registry.leases c.args.registry.now in
    let e = c.in-Ok.ensures in
    let u = c.take_up-writer.ensures.0 in
    plain_ok _ m _ ls ls _ _ (ap (λ w. refused_change k m ls w c.args.record) (sym u) ∙ e.0) refl (e.1 ∙ ap (λ w. changed k m w c.args.record c.args.edit) u) refl refl

pub returns-in-Err : goal.returns-in-Err
unfolding Changes
returns-in-Err g c =
    let m = view c.args.store.now in
    let ls = g.R.Registry.leases c.args.registry.now in
    let e = c.in-Err.ensures in
    plain_no _ m _ ls ls _ _ c.in-Err.fault (ap (λ w. refused_change g.K.Kind.ops m ls w c.args.record) (sym c.take_up-writer.ensures.0) ∙ e.0) c.refused.ensures (ap view e.1) refl
