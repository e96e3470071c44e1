use Rattle.std.proofs.Common.{◌+◌, ◌<◌, ◌≤◌, length, sym, ◌∙◌, arith, rules}
use Rattle.history.specs.Model.{new_model}
use Rattle.store.specs.Making.{fresh_records, fresh_versions}
use Rattle.store.specs.View.{view}
use borrow.Rule.Slice.PartAt.{part_to_end}
use Rattle.run.proofs.Journals.{new_again, written_behind, sofar_start, sofar_next, sofar_law, rest_as_it_was}
use Rattle.run.proofs.journal.run.Goals as goal

pub loop-i-init : goal.loop-i-init
loop-i-init g c =
    let k = g.K.Kind.ops in
    let m = view c.store-store.result in
    let e = c.store-store.ensures in
    let w = new_again k m (fresh_records c.args.fresh) (fresh_versions c.args.fresh) c.args.fresh.start e in
    sofar_start k g.R.Registry.capacity m.room (length m.records) m.clock c.args.journal.now c.args.list.now g.K.Kind.laws m (g.R.Registry.leases c.empty-registry.result)
    (e ∙ (λ x. new_model k (sym w.0 x) (sym w.1 x) (sym w.2 x))) c.empty-registry.ensures

pub offset_bounds-list-used : goal.offset_bounds-list-used
offset_bounds-list-used g c = let h : c.loop-i.used ≤ length c.loop-i.list = omega (arith, c.loop-i.invariant.within, c.loop-i.auto.list) in search rules

pub slice_bounds-perform-count : goal.slice_bounds-perform-count
slice_bounds-perform-count g c = omega (arith, c.loop-i.invariant.within, c.loop-i.auto.list)

pub slice_bounds-perform-start : goal.slice_bounds-perform-start
slice_bounds-perform-start g c = let h : c.loop-i.used ≤ length c.loop-i.list = omega (arith, c.loop-i.invariant.within, c.loop-i.auto.list) in search rules

pub overflow_add-used : goal.overflow_add-used
overflow_add-used g c =
    let k = g.K.Kind.ops in
    let m₀ = view c.store-store.result in
    let h : c.loop-i.i < length c.loop-i.journal = omega (arith, c.loop-i-test.true, c.loop-i.auto.journal) in
    let next = sofar_next k g.R.Registry.capacity m₀.room (length m₀.records) m₀.clock c.args.journal.now c.args.list.now g.K.Kind.laws
    c.loop-i.journal c.loop-i.list c.loop-i.i c.loop-i.used (view c.loop-i.store) (g.R.Registry.leases c.loop-i.registry) c.loop-i.invariant
    c.index-journal-i.result c.perform-outcome.result c.wrote-used.result (view c.perform-outcome.new.store) (g.R.Registry.leases c.perform-outcome.new.registry) _ c.perform-outcome.new.list _
    h c.index-journal-i.is c.wrote-used.ensures (part_to_end c.loop-i.list c.loop-i.used) (written_behind c.loop-i.used c.loop-i.list c.perform-outcome.new.list) c.perform-outcome.ensures in
    let fits : c.loop-i.used + c.wrote-used.result ≤ length c.args.list.now = next.within in
    search rules

pub loop-i-preserved : goal.loop-i-preserved
loop-i-preserved g c =
    let k = g.K.Kind.ops in
    let m₀ = view c.store-store.result in
    let h : c.loop-i.i < length c.loop-i.journal = omega (arith, c.loop-i-test.true, c.loop-i.auto.journal) in
    sofar_next k g.R.Registry.capacity m₀.room (length m₀.records) m₀.clock c.args.journal.now c.args.list.now g.K.Kind.laws
    c.loop-i.journal c.loop-i.list c.loop-i.i c.loop-i.used (view c.loop-i.store) (g.R.Registry.leases c.loop-i.registry) c.loop-i.invariant
    c.index-journal-i.result c.perform-outcome.result c.wrote-used.result (view c.perform-outcome.new.store) (g.R.Registry.leases c.perform-outcome.new.registry) _ c.perform-outcome.new.list _
    h c.index-journal-i.is c.wrote-used.ensures (part_to_end c.loop-i.list c.loop-i.used) (written_behind c.loop-i.used c.loop-i.list c.perform-outcome.new.list) c.perform-outcome.ensures

pub returns : goal.returns
returns g c =
    let k = g.K.Kind.ops in
    let cap = g.R.Registry.capacity in
    let m₀ = view c.store-store.result in
    let m = view c.loop-i.store in
    let ls = g.R.Registry.leases c.loop-i.registry in
    let f = c.args.fresh in
    let h : length c.loop-i.journal ≤ c.loop-i.i = omega (arith, c.loop-i-test.false, c.loop-i.auto.journal) in
    let w = new_again k m₀ (fresh_records f) (fresh_versions f) f.start c.store-store.ensures in
    record {
      calls = c.loop-i.invariant.calls;
      list = rest_as_it_was k cap m₀.room (length m₀.records) m₀.clock c.args.journal.now c.args.list.now g.K.Kind.laws c.loop-i.journal c.loop-i.list c.loop-i.i c.loop-i.used m ls c.loop-i.invariant h;
      law = sofar_law k cap m₀.room (length m₀.records) m₀.clock c.args.journal.now c.args.list.now g.K.Kind.laws c.loop-i.journal c.loop-i.list c.loop-i.i c.loop-i.used m ls c.loop-i.invariant h (fresh_records f) (fresh_versions f) f.start w;
    }
