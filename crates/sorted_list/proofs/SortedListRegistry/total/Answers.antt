use Rattle.std.proofs.Common.{sym, ap, ◌∙◌, rules, tests, arith}
use Rattle.std.proofs.lemmas.Iterator.{YieldsList-from_slice, YieldsList-from_map}
use Rattle.std.proofs.lemmas.Iterator.Consumers.{sum_by_from_yields_List, fits_by_from_yields_list}
use Rattle.sorted_list.specs.declared.Entry.{Entry}
use Rattle.sorted_list.specs.Entries.{size}
use Rattle.sorted_list.proofs.Meaning.{length-times, sum-size}
use Rattle.sorted_list.proofs.SortedListRegistry.total.Goals as goal

pub sum-requires-clause-fits : goal.sum-requires-clause-fits
sum-requires-clause-fits c =
    let es = c.deref.result.now in
    fits_by_from_yields_list _ _ c.map.result _ (YieldsList-from_map _ (λ (e : Entry). e.count) (YieldsList-from_slice es cc) c.map.ensures.closure (λ x r q k. search (rules, tests))) (omega (arith, c.args.self.now.few, ap size c.deref.ensures.0, sum-size es))

pub returns : goal.returns
returns c =
    let es = c.deref.result.now in
    sum_by_from_yields_List _ _ c.map.result _ c.sum.ensures.ran (YieldsList-from_map _ (λ (e : Entry). e.count) (YieldsList-from_slice es cc) c.map.ensures.closure (λ x r q k. search (rules, tests)))
    ∙ sym (sum-size es) ∙ ap size c.deref.ensures.0 ∙ sym (length-times c.args.self.now.entries.items)
