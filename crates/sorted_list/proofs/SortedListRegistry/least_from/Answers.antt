use Rattle.std.proofs.Common.{◌≡◌, rules, tests, ap, ◌∙◌}
use Rattle.std.proofs.lemmas.Iterator.{YieldsList-from_slice}
use Rattle.std.proofs.lemmas.Iterator.Search.{find_from_yields_List}
use Rattle.std.specs.Option.{option_map}
use Rattle.lease.specs.Times.{least}
use Rattle.sorted_list.specs.Entries.{times, rising}
use Rattle.sorted_list.specs.declared.Entry.{Entry}
use Rattle.sorted_list.proofs.Meaning.{reached, least_found}
use Rattle.sorted_list.proofs.SortedListRegistry.least_from.Goals as goal

pub returns : goal.returns
returns c =
    let t = c.args.time in
    let es = c.deref.result.now in
    let e = c.deref.ensures.0 in
    let found = find_from_yields_List (reached t) _ _ c.find.result c.find.ensures.ran (YieldsList-from_slice es cc) (λ x b q k. search (rules, tests)) in
    let there : c.map.result ≡ option_map (λ (x : Entry). x.time) (option_map (λ x. x.now) c.find.result) = search rules in
    there ∙ ap (option_map (λ (x : Entry). x.time)) found ∙ least_found t es (ap rising e ∙ c.args.self.now.ordered) ∙ ap (λ xs. least t (times xs)) e
