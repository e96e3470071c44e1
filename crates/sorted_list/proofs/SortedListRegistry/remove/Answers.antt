use Rattle.std.proofs.Common.{get_or, refl, ap, ◌∙◌, arith}
use Rattle.sorted_list.specs.Entries.{times, no_entry}
use Rattle.sorted_list.proofs.Meaning.{count_at, count_gap, positive}
use Rattle.sorted_list.proofs.Placing.{out_left, out_means}
use Rattle.sorted_list.proofs.Changing.{lowered}
use Rattle.sorted_list.proofs.SortedListRegistry.remove.Goals as goal

pub returns-in_default : goal.returns-in_default
returns-in_default c =
    let g = c.in_default.ensures in
    (count_gap c.args.time c.args.self.now.entries.items c.in_default.field-0 g, c.not_open.ensures, refl)

pub invariant_of-self : goal.invariant_of-self
invariant_of-self c =
    let s = c.args.self.now in
    let es = s.entries.items in
    let i = c.in-Ok.i in
    let f = c.in-Ok.ensures in
    let n = ap (λ xs. (get_or xs i no_entry).count) c.deref.ensures.0 in
    let b = lowered c.args.time es c.deref_mut.result.now i c.deref_mut.ensures.value f.0 f.1 (omega (arith, n, c.if-deref-i-gt-LAST.true)) s.ordered in
    record { few = omega (arith, b.shrunk, s.few); ordered = b.order }

pub invariant_of-self-else-deref-i-gt-LAST : goal.invariant_of-self-else-deref-i-gt-LAST
invariant_of-self-else-deref-i-gt-LAST c =
    let s = c.args.self.now in
    let left = out_left s.entries.items _ _ c.remove.ensures.items s.ordered in
    record { few = omega (arith, left.0, s.few); ordered = left.1 }

pub returns-then-deref-i-gt-LAST : goal.returns-then-deref-i-gt-LAST
returns-then-deref-i-gt-LAST c =
    let s = c.args.self.now in
    let es = s.entries.items in
    let i = c.in-Ok.i in
    let t = c.args.time in
    let f = c.in-Ok.ensures in
    let n = ap (λ xs. (get_or xs i no_entry).count) c.deref.ensures.0 in
    let b = lowered t es c.deref_mut.result.now i c.deref_mut.ensures.value f.0 f.1 (omega (arith, n, c.if-deref-i-gt-LAST.true)) s.ordered in
    (omega (arith, count_at es i t f.0 f.1 s.ordered, positive es i f.0 s.ordered), b.means)

pub returns-else-deref-i-gt-LAST : goal.returns-else-deref-i-gt-LAST
returns-else-deref-i-gt-LAST c =
    let s = c.args.self.now in
    let es = s.entries.items in
    let i = c.in-Ok.i in
    let t = c.args.time in
    let f = c.in-Ok.ensures in
    let n = ap (λ xs. (get_or xs i no_entry).count) c.deref.ensures.0 in
    (omega (arith, count_at es i t f.0 f.1 s.ordered, positive es i f.0 s.ordered), ap times c.remove.ensures.items ∙ out_means es i t f.0 f.1 (omega (arith, n, c.if-deref-i-gt-LAST.false)) s.ordered)
