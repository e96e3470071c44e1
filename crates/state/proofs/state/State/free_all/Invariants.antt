use Rattle.std.proofs.Common.{◌≡◌}
use Rattle.state.specs.View.{view}
use Rattle.history.specs.Model.{free_stored}
use Rattle.state.specs.Steps.{first_changed}
use Rattle.state.proofs.state.State.free_all.Given as goal

abbrev pub invariant-loop-i : goal.invariant-loop-i
invariant-loop-i g l = view l.self ≡ first_changed (free_stored g.K.Kind.ops l.w) l.i (view l.initial.self)
