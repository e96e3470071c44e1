use Rattle.std.proofs.Common.{length}
use Rattle.store.specs.View.{view}
use Rattle.run.proofs.Journals.{Sofar}
use Rattle.run.proofs.journal.run.Given as goal

-- the sizes and the start are those of the new store
abbrev pub invariant-loop-i : goal.invariant-loop-i
invariant-loop-i g l =
    Sofar g.K.Kind.ops g.R.Registry.capacity (view l.initial.store).room (length (view l.initial.store).records) (view l.initial.store).clock l.initial.journal l.initial.list
    l.journal l.list l.i l.used (view l.store) (g.R.Registry.leases l.registry)
