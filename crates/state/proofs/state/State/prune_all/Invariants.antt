use Rattle.lease.specs.Times.{opens}
use Rattle.state.proofs.Views.{SweptTo}
use Rattle.state.proofs.state.State.prune_all.Given as goal

abbrev pub invariant-loop-i : goal.invariant-loop-i
invariant-loop-i g l = SweptTo g.K.Kind.ops (opens (g.R.Registry.leases l.registry)) l.initial.self l.self.clock l.self.records l.self.table l.i
