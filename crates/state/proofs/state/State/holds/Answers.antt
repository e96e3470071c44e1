use Rattle.std.proofs.Common.{vec_items, sym, ◌∙◌, rules, tests}
use Rattle.std.proofs.lemmas.Iterator.{YieldsList-from_slice}
use Rattle.std.proofs.lemmas.Iterator.Consumers.{count_from_yields_List, YieldsList-from_filter}
use Rattle.std.proofs.lemmas.List.Sums.{length-filter}
use Rattle.state.specs.declared.entry.Entry.{Entry}
use Rattle.state.proofs.Writes.{owns, view-counts}
use Rattle.state.proofs.state.State.holds.Goals as goal

pub returns : goal.returns
returns g c =
    let s = c.args.self.now in
    let rs = vec_items s.records in
    let own = λ (x : Entry g.row.K-Row.Denot). owns c.args.w x.holder in
    count_from_yields_List c.filter.result c.count.result c.count.ensures.ran
    (YieldsList-from_filter _ own (YieldsList-from_slice rs (cc)) c.filter.ensures.closure (λ x r q k. search (rules, tests)))
    ∙ length-filter own rs ∙ sym (view-counts c.args.w s)
