use Rattle.std.proofs.Common.{◌≡◌, drop}
use Rattle.store.specs.View.{view}
use Rattle.account.specs.Calls.{change_each}
use Rattle.account.proofs.calls.LeasedStore.make_each.Given as goal

-- the registry stays; what is left to make, from the store now, comes to the whole
abbrev pub invariant-loop-one : goal.invariant-loop-one
invariant-loop-one g l =
    let each = change_each g.K.Kind.ops in
    let ls = g.R.Registry.leases l.self.registry in
    (l.self.registry ≡ l.initial.self.registry) × (each (view l.self.store) ls l.writer.time (drop l.one-index l.edits) ≡ each (view l.initial.self.store) ls l.writer.time l.edits)
