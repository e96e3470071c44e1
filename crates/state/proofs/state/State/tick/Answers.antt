use Rattle.std.proofs.Common.{◌≡◌, ◌+◌, vec_items, refl, arith, rules}
use Rattle.version_table.specs.Chains.{chains}
use Rattle.state.specs.Stored.{viewed}
use Rattle.state.proofs.Falls.{all_mono}
use Rattle.state.specs.View.{view}
use Rattle.state.proofs.state.State.tick.Goals as goal

pub overflow_add-self : goal.overflow_add-self
unfolding view
overflow_add-self g c = let h : c.args.self.now.clock ≡ 4294967295 → ⊥ = c.requires in search rules

pub invariant_of-self : goal.invariant_of-self
invariant_of-self g c =
    let s = c.args.self.now in
    record { sound = s.sound; falling = all_mono s.clock (s.clock + 1) (viewed (vec_items s.records) (chains s.table)) (omega arith) s.falling; few = s.few }

pub returns : goal.returns
unfolding view
returns g c = refl
