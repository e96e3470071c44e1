use Rattle.std.proofs.Common.{rules, tests, ap, ◌∙◌, sym, subst}
use Rattle.std.proofs.lemmas.Iterator.{YieldsList-from_slice}
use Rattle.std.proofs.lemmas.Iterator.Search.{position_from_yields_List}
use Rattle.sorted_list.specs.Entries.{rising, Gap}
use Rattle.sorted_list.proofs.Meaning.{reached}
use Rattle.sorted_list.proofs.Searching.{stopped}
use Rattle.sorted_list.proofs.SortedList.place_of.Goals as goal

pub returns-in-Some-2 : goal.returns-in-Some-2
returns-in-Some-2 c =
    let t = c.args.time in
    let es = c.as_slice-entries.result.now in
    let i = c.in-Some.i in
    let e = c.as_slice-entries.ensures.value in
    let found = position_from_yields_List (reached t) _ _ c.position.result c.position.ensures.ran (YieldsList-from_slice es cc) (λ x b q k. search (rules, tests)) in
    subst (λ xs. Gap t xs c.in-Some.i) e (stopped t es i (ap rising e ∙ c.args.self.now.ordered) (sym found ∙ c.in-Some.is) c.if-entries-i.false)
