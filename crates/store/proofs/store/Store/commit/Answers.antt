use Rattle.std.proofs.Common.{◌&&◌, eqb, ltb, None, sym, refl, ap, ◌∙◌, arith}
use mathlib.Core.Bool.{false≢true}
use Rattle.lease.specs.Times.{count, delete, opens}
use Rattle.history.specs.History.{limit}
use Rattle.history.specs.Model.{Model, or_else, held_number, finished, all_pruned, refused_commit, no_lease, clock_limit}
use Rattle.history.proofs.Refusals.{none_left, at_limit}
use Rattle.store.specs.Calls.{Commits, Ends}
use Rattle.store.specs.View.{view}
use Rattle.store.proofs.store.Store.commit.Goals as goal

pub returns-in-Err : goal.returns-in-Err
unfolding Commits Ends
returns-in-Err g c =
    let m = view c.args.self.now in
    let ls = g.R.Registry.leases c.args.registry.now in
    let e = c.in-Err.ensures in
    (ap (λ n. refused_commit m ls n) (sym c.number-w.ensures) ∙ e.0, refl, refl, e.1)

pub finish_held-requires : goal.finish_held-requires
unfolding Ends
finish_held-requires g c =
    let m = view c.args.self.now in
    let ls = g.R.Registry.leases c.args.registry.now in
    let w = c.number-w.result in
    let b = ltb 0 (held_number w m) && eqb m.clock limit in
    let passed = (none_left b (clock_limit m.clock) None (none_left (eqb (count w ls) 0) (no_lease w) (or_else b (clock_limit m.clock) None) c.in_default.ensures.0).1).0 in
    λ h q. false≢true (sym passed ∙ at_limit m c.holds-n.result w c.holds-n.ensures (omega (arith, h)) q)

pub returns : goal.returns
unfolding Commits Ends
returns g c =
    let k = g.K.Kind.ops in
    let m = view c.args.self.now in
    let ls = g.R.Registry.leases c.args.registry.now in
    let e = c.in_default.ensures in
    let u = c.number-w.ensures in
    let G = c.end_lease.new.registry in
    let n = c.holds-n.ensures ∙ ap (λ z. held_number z m) u in
    let fin = c.finish_held.ensures ∙ ap (λ z. finished k z c.number-w.result m) n ∙ ap (λ z. finished k (held_number c.args.writer.time m) z m) u in
    let all = c.prune_all.ensures ∙ ap (all_pruned k (opens (g.R.Registry.leases G))) fin in (
      ap (λ z. refused_commit m ls z) (sym u) ∙ e.0,
      e.1 ∙ ap (λ z. delete z ls) u,
      all,
      c.clock.ensures ∙ ap (λ (z : Model g.row.K-Row.Denot g.row.K-Change.Denot). z.clock) all,
      n,
    )
