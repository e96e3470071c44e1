use Rattle.std.proofs.Common.{get_or, sym, ap, ◌∙◌}
use Rattle.sorted_list.specs.Entries.{no_entry}
use Rattle.sorted_list.proofs.Meaning.{count_at, count_gap}
use Rattle.sorted_list.proofs.SortedListRegistry.count_at.Goals as goal

pub returns-in-Ok : goal.returns-in-Ok
returns-in-Ok c =
    let s = c.args.self.now in
    let i = c.in-Ok.i in
    let f = c.in-Ok.ensures in
    ap (λ xs. (get_or xs i no_entry).count) c.deref.ensures.0 ∙ sym (count_at s.entries.items i c.args.time f.0 f.1 s.ordered)

pub returns-in-Err : goal.returns-in-Err
returns-in-Err c = sym (count_gap c.args.time c.args.self.now.entries.items _ c.in-Err.ensures)
