use Rattle.std.proofs.Common.{◌+◌, ◌<◌, [], length, get_or, set, vec_items, sym, ap, ◌∙◌, subst, arith}
use Rattle.version_table.specs.Chains.{chains}
use Rattle.lease.specs.Times.{opens}
use Rattle.state.specs.declared.state.State.{State}
use Rattle.history.specs.Model.{pruned}
use Rattle.state.specs.Stored.{viewed, all_fall}
use Rattle.state.proofs.Falls.{all_changed, prune-keeps}
use Rattle.state.proofs.Views.{SweptTo, swept, swept_view, sweep_sound, sweep_step, sweep_end}
use Rattle.state.proofs.state.State.prune_all.Goals.{in-None, in-Some}
use Rattle.state.proofs.state.State.prune_all.Goals as goal

pub invariant_of-self : goal.invariant_of-self
invariant_of-self g c =
    let k = g.K.Kind.ops in
    let os = opens (g.R.Registry.leases c.args.registry.now) in
    let s = c.loop-i.self in
    let i = c.loop-i.i in
    let x = c.index-entry.result.now in
    let same = ap (λ z. length (vec_items z)) c.loop-i.invariant.1 in
    let h : i < length (vec_items s.records) = omega (arith, same, c.args.self.now.records.ok.0, c.loop-i-test.true, c.len-i-end.ensures) in
    let p = c.prune_chain.ensures.lists ∙ ap (λ o. set (chains s.table) i (swept k os x.row o (get_or (chains s.table) i []))) (sym c.in-None.is) in
    let v = swept_view k os (vec_items s.records) (chains s.table) (chains c.prune_chain.new.table) i x s.sound h c.index-entry.ensures p in record { sound = sweep_sound k os s s i x c.prune_chain.new.table h c.index-entry.ensures p; falling = ap (all_fall s.clock) v ∙ all_changed s.clock (pruned k os) (prune-keeps k os s.clock) (viewed (vec_items s.records) (chains s.table)) i s.falling; few = s.few }

pub invariant_of-self-in-Some : goal.invariant_of-self-in-Some
invariant_of-self-in-Some g c =
    let k = g.K.Kind.ops in
    let os = opens (g.R.Registry.leases c.args.registry.now) in
    let s = c.loop-i.self in
    let i = c.loop-i.i in
    let x = c.index-entry.result.now in
    let same = ap (λ z. length (vec_items z)) c.loop-i.invariant.1 in
    let h : i < length (vec_items s.records) = omega (arith, same, c.args.self.now.records.ok.0, c.loop-i-test.true, c.len-i-end.ensures) in
    let p = c.prune_behind.ensures.lists ∙ ap (λ o. set (chains s.table) i (swept k os x.row o (get_or (chains s.table) i []))) (sym c.in-Some.is) in
    let v = swept_view k os (vec_items s.records) (chains s.table) (chains c.prune_behind.new.table) i x s.sound h c.index-entry.ensures p in record { sound = sweep_sound k os s s i x c.prune_behind.new.table h c.index-entry.ensures p; falling = ap (all_fall s.clock) v ∙ all_changed s.clock (pruned k os) (prune-keeps k os s.clock) (viewed (vec_items s.records) (chains s.table)) i s.falling; few = s.few }

pub loop-i-preserved : goal.loop-i-preserved
loop-i-preserved g c =
    let k = g.K.Kind.ops in
    let os = opens (g.R.Registry.leases c.args.registry.now) in
    let s₀ = c.args.self.now in
    let s = c.loop-i.self in
    let i = c.loop-i.i in
    let x = c.index-entry.result.now in
    let same = ap (λ z. length (vec_items z)) c.loop-i.invariant.1 in
    let h : i < length (vec_items s.records) = omega (arith, same, s₀.records.ok.0, c.loop-i-test.true, c.len-i-end.ensures) in
    let S = State g.row.K.Denot g.row.K-Row.Denot g.row.K-Edit.Denot g.row.K-Change.Denot g.K.Kind in
    elim c.match-entry.branch [
      | in-None w ↦
          let p = w.prune_chain.ensures.lists ∙ ap (λ o. set (chains s.table) i (swept k os x.row o (get_or (chains s.table) i []))) (sym w.in-None.is) in
          subst (λ (z : S). SweptTo k os s₀ z.clock z.records z.table (i + 1)) (sym w.self-is) (sweep_step k os s₀ s i x w.prune_chain.new.table h c.index-entry.ensures p w.prune_chain.ensures.room c.loop-i.invariant)
      | in-Some w ↦
          let p = w.prune_behind.ensures.lists ∙ ap (λ o. set (chains s.table) i (swept k os x.row o (get_or (chains s.table) i []))) (sym w.in-Some.is) in
          subst (λ (z : S). SweptTo k os s₀ z.clock z.records z.table (i + 1)) (sym w.self-is) (sweep_step k os s₀ s i x w.prune_behind.new.table h c.index-entry.ensures p w.prune_behind.ensures.room c.loop-i.invariant)
    ]

pub returns : goal.returns
returns g c =
    let s₀ = c.args.self.now in
    sweep_end g.K.Kind.ops (opens (g.R.Registry.leases c.args.registry.now)) s₀ c.loop-i.self c.loop-i.i (omega (arith, s₀.records.ok.0, c.loop-i-test.false, c.len-i-end.ensures)) c.loop-i.invariant
