use Rattle.std.proofs.Common.{sym, ap, ◌∙◌}
use Rattle.std.proofs.lemmas.List.{drop_all}
use Rattle.std.proofs.lemmas.Result.{err_from_is_err_and}
use Rattle.store.specs.Calls.{Changes}
use Rattle.store.specs.View.{view}
use Rattle.account.specs.Calls.{change_each}
use Rattle.account.proofs.Changes.{one_made, one_refused}
use Rattle.account.proofs.calls.LeasedStore.make_each.Goals as goal

pub loop-one-preserved : goal.loop-one-preserved
unfolding Changes
loop-one-preserved g c =
    let l = c.loop-one in
    let e = c.in_ok-change.ensures in (
      l.invariant.0,
      one_made g.K.Kind.ops (view l.self.store) (view c.change.new.self) (g.R.Registry.leases l.self.registry) c.args.writer.now.time c.args.edits.now l.one-index c.one-item.result c.loop-one-test.true c.one-item.is e.0 e.1
          ∙ l.invariant.1,
    )

pub returns-in_err-change : goal.returns-in_err-change
unfolding Changes
returns-in_err-change g c =
    let p = err_from_is_err_and c.from_residual.result c.from_residual.ensures.1 in
    let l = c.loop-one in
    let e = c.in_err-change.ensures in
    let each = change_each g.K.Kind.ops (view c.args.self.now.store) in
    rw (p.1, p.2) (
    record {
      made =
          ap (λ r. each (g.R.Registry.leases r) c.args.writer.now.time c.args.edits.now) (sym l.invariant.0) ∙ sym l.invariant.1
          ∙ one_refused g.K.Kind.ops (view l.self.store) (view c.change.new.self) (g.R.Registry.leases l.self.registry) c.args.writer.now.time c.args.edits.now l.one-index c.one-item.result _ c.loop-one-test.true c.one-item.is e.0 (ap view e.1);
      registry = l.invariant.0;
    }
    )

pub returns : goal.returns
returns g c =
    let l = c.loop-one in
    let each = change_each g.K.Kind.ops in
    let ls = g.R.Registry.leases in
    let none = drop_all l.one-index c.args.edits.now c.loop-one-test.false in
    record {
      made =
          ap (λ r. each (view c.args.self.now.store) (ls r) c.args.writer.now.time c.args.edits.now) (sym l.invariant.0) ∙ sym l.invariant.1
          ∙ ap (each (view l.self.store) (ls l.self.registry) c.args.writer.now.time) none;
      registry = l.invariant.0;
    }
