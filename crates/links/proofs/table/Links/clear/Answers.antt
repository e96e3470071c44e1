use Rattle.std.proofs.Common.{◌<◌, length, ap, ◌∙◌, arith}
use Rattle.std.proofs.lemmas.List.{length-set}
use Rattle.links.specs.Meaning.{slots, list}
use Rattle.links.proofs.Ways.{set_again}
use Rattle.links.proofs.Places.{row_in_range}
use Rattle.links.proofs.table.Links.clear.Goals as goal

-- one slot less in the list r
pub loop-s-preserved : goal.loop-s-preserved
loop-s-preserved c =
    let k = c.in-Some.ensures in
    let i = c.loop-s.invariant in
    let E = slots c.args.self.now in
    let r = c.args.r in
    let some : 0 < length (list c.loop-s.self r) = omega (arith, ap length k.given.1) in
    let rows : r < length E = omega (arith, row_in_range (slots c.loop-s.self) r 0 some, ap length i.0, length-set E r (list c.loop-s.self r)) in
    ((set_again E (slots c.loop-s.self) (slots c.give.new.self) r _ rows i.0 k.given.0).0, k.size ∙ i.1)
