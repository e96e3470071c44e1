use Rattle.std.proofs.Common.{refl, ap, ◌∙◌, arith}
use Rattle.sorted_list.specs.declared.Entry.{Entry}
use Rattle.sorted_list.specs.Entries.{times, rising}
use Rattle.sorted_list.proofs.Meaning.{length-times, length_le_size, count_le_size}
use Rattle.sorted_list.proofs.Placing.{times-put, put_grows, rising-put}
use Rattle.sorted_list.proofs.Changing.{raised}
use Rattle.sorted_list.proofs.SortedListRegistry.add.Goals as goal

pub returns-then-held-ge-CAPACITY : goal.returns-then-held-ge-CAPACITY
returns-then-held-ge-CAPACITY c =
    let s = c.args.self.now in
    let l = length-times s.entries.items in
    (omega (arith, s.few, c.total-held.ensures, c.if-held-ge-CAPACITY.true), c.at_capacity.ensures, refl)

pub overflow_add-deref_mut : goal.overflow_add-deref_mut
overflow_add-deref_mut c =
    let s = c.args.self.now in
    let es = s.entries.items in
    let f = c.in-Ok.ensures in
    rw c.deref_mut.ensures.value (omega (arith, count_le_size es c.in-Ok.i f.0, s.few))

pub invariant_of-self : goal.invariant_of-self
invariant_of-self c =
    let s = c.args.self.now in
    let es = s.entries.items in
    let f = c.in-Ok.ensures in
    let b = raised c.args.time es c.deref_mut.result.now c.in-Ok.i c.deref_mut.ensures.value f.0 f.1 s.ordered in
    let l = length-times es in
    record { few = omega (arith, b.grown, c.total-held.ensures, c.if-held-ge-CAPACITY.false); ordered = b.order }

pub insert-requires : goal.insert-requires
insert-requires c =
    let s = c.args.self.now in
    let es = s.entries.items in
    let g = c.in-Err.ensures in
    let l = length-times es in
    (omega arith, (omega (arith, g.within), omega (arith, length_le_size es s.ordered, c.total-held.ensures, c.if-held-ge-CAPACITY.false)))

pub invariant_of-self-in-Err : goal.invariant_of-self-in-Err
invariant_of-self-in-Err c =
    let s = c.args.self.now in
    let es = s.entries.items in
    let g = c.in-Err.ensures in
    let one : Entry = record { time = c.args.time; count = 1 } in
    let l = length-times es in
    record {
      few = omega (arith, put_grows one es _ _ c.insert.ensures.items, c.total-held.ensures, c.if-held-ge-CAPACITY.false);
      ordered = ap rising c.insert.ensures.items ∙ rising-put one es c.in-Err.i (omega arith) s.ordered g;
    }

pub returns-in-Ok : goal.returns-in-Ok
returns-in-Ok c =
    let s = c.args.self.now in
    let es = s.entries.items in
    let f = c.in-Ok.ensures in
    let b = raised c.args.time es c.deref_mut.result.now c.in-Ok.i c.deref_mut.ensures.value f.0 f.1 s.ordered in
    (omega (arith, c.total-held.ensures, c.if-held-ge-CAPACITY.false), b.means)

pub returns-in-Err : goal.returns-in-Err
returns-in-Err c = (
  omega (arith, c.total-held.ensures, c.if-held-ge-CAPACITY.false),
  ap times c.insert.ensures.items ∙ times-put (record { time = c.args.time; count = 1 }) c.args.self.now.entries.items c.in-Err.i,
)
