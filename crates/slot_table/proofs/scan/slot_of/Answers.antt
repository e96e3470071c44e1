use Rattle.std.proofs.Common.{rules, tests}
use Rattle.std.proofs.lemmas.Iterator.{YieldsList-from_slice}
use Rattle.std.proofs.lemmas.Iterator.Search.{position_from_yields_List}
use Rattle.slot_table.proofs.Filling.{holds, found_holder}
use Rattle.slot_table.proofs.scan.slot_of.Goals as goal

pub returns : goal.returns
returns c =
    let t = c.args.time in
    let xs = c.args.slots.now in
    found_holder t xs c.position.result (position_from_yields_List (holds t) _ _ c.position.result c.position.ensures.ran (YieldsList-from_slice xs cc) (λ x b q k. search (rules, tests)))
