use Rattle.std.proofs.Common.{sym, refl, ap, ◌∙◌}
use Rattle.history.specs.declared.call.Outcome.TheVariants.{Shown}
use Rattle.history.specs.Model.{reading, record_at, refused_read}
use Rattle.store.specs.View.{view}
use Rattle.store.specs.Calls.{Reads}
use Rattle.run.proofs.Decisions.{plain_ok, plain_no}
use Rattle.run.proofs.answers.read.Goals as goal

pub returns-in-Ok : goal.returns-in-Ok
unfolding Reads
returns-in-Ok g c =
    let k = g.K.Kind.ops in
    let m = view c.args.store.now in
    let ls = g.R.Registry.leases c.args.registry.now in
    let e = c.in-Ok.ensures in
    let u = c.take_up-lease.ensures.0 in
    plain_ok _ m m ls ls _ _ (ap (λ t. refused_read m ls t c.args.record) (sym u) ∙ e.0) (ap Shown (e.1 ∙ ap (reading k (record_at k m c.args.record)) u)) refl refl refl

pub returns-in-Err : goal.returns-in-Err
unfolding Reads
returns-in-Err g c =
    let m = view c.args.store.now in
    let ls = g.R.Registry.leases c.args.registry.now in
    let e = c.in-Err.ensures in
    plain_no _ m m ls ls _ _ c.in-Err.fault (ap (λ t. refused_read m ls t c.args.record) (sym c.take_up-lease.ensures.0) ∙ e.0) c.refused.ensures refl refl
