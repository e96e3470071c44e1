use Rattle.std.proofs.Common.{◌+◌, drop, set, sym, ap, ◌∙◌, arith}
use Rattle.std.proofs.lemmas.List.{take_all}
use Rattle.version_table.specs.Chains.{chains, chain}
use Rattle.version_table.proofs.Cursors.{slot_inside, slots_end}
use Rattle.version_table.proofs.Turns.{After, left, fewer}
use Rattle.version_table.proofs.table.VersionTable.drop_from.Given as given
use Rattle.version_table.proofs.table.VersionTable.drop_from.Goals as goal

pub cut-requires-clause-inside : goal.cut-requires-clause-inside
cut-requires-clause-inside g c = slot_inside c.loop-slot.self c.args.cursor.list c.args.cursor.place c.in-Some._slot c.in-Some.ensures

-- the chain once the place has left
turn : (g : given.Over) (c : goal.After-cut g) → After c.loop-slot.self c.cut.new.self (chains c.args.self.now) c.args.cursor.list c.args.cursor.place (drop (c.args.cursor.place + 1) (chain c.loop-slot.self c.args.cursor.list))
turn g c = left _ _ _ _ _ _ (slot_inside c.loop-slot.self c.args.cursor.list c.args.cursor.place c.in-Some._slot c.in-Some.ensures) c.loop-slot.invariant.2 c.cut.ensures.cut

pub loop-slot-smaller : goal.loop-slot-smaller
loop-slot-smaller g c =
    let r = c.args.cursor.list in
    let k = c.args.cursor.place in
    fewer (chain c.loop-slot.self r) (chain c.cut.new.self r) k _ (slot_inside c.loop-slot.self r k c.in-Some._slot c.in-Some.ensures) (turn g c).rest (omega arith)

pub loop-slot-preserved : goal.loop-slot-preserved
loop-slot-preserved g c = let w = turn g c in let i = c.loop-slot.invariant in (c.cut.ensures.stands, c.cut.ensures.cut.room ∙ i.1, w.others, w.front ∙ i.3)

pub returns : goal.returns
returns g c =
    let r = c.args.cursor.list in
    let k = c.args.cursor.place in
    let i = c.loop-slot.invariant in
    let all = take_all k (chain c.loop-slot.self r) (slots_end c.loop-slot.self r k c.in_default.ensures) in
    record { room = i.1; lists = i.2 ∙ ap (set (chains c.args.self.now) r) (sym all ∙ i.3) }
