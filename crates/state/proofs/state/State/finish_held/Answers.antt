use Rattle.std.proofs.Common.{◌≡◌, ◌+◌, cond, vec_items, sym, refl, ap, ◌∙◌, arith, rules}
use Rattle.version_table.specs.Chains.{chains}
use Rattle.state.specs.Stored.{viewed}
use Rattle.state.proofs.Falls.{all_mono}
use Rattle.state.specs.View.{view}
use Rattle.history.specs.Model.{every, finish_stored}
use Rattle.std.proofs.lemmas.Bool.{lt-ltb}
use Rattle.state.proofs.state.State.finish_held.Goals as goal

pub overflow_add-self : goal.overflow_add-self
unfolding view
overflow_add-self g c = let h : c.args.self.now.clock ≡ 4294967295 → ⊥ = c.requires c.if-n-gt0.true in search rules

pub invariant_of-self : goal.invariant_of-self
invariant_of-self g c =
    let s = c.args.self.now in
    record { sound = s.sound; falling = all_mono s.clock (s.clock + 1) (viewed (vec_items s.records) (chains s.table)) (omega arith) s.falling; few = s.few }

pub finish_all-requires : goal.finish_all-requires
unfolding view
finish_all-requires g c = refl

pub returns-then-n-gt0 : goal.returns-then-n-gt0
unfolding view
returns-then-n-gt0 g c =
    let k = g.K.Kind.ops in
    let m = view c.args.self.now in
    c.finish_all.ensures
    ∙ ap (λ b. cond b (record { clock = m.clock + 1; room = m.room; records = (every k (finish_stored k c.args.w (m.clock + 1)) m).records }) m) (sym (lt-ltb 0 c.args.n c.if-n-gt0.true))
