use Rattle.std.proofs.Common.{◌≡◌, vec_items}
use Rattle.links.specs.Walk.{links_below}
use Rattle.links.proofs.make.one_list.Given as goal

abbrev pub invariant-loop-slot : goal.invariant-loop-slot
invariant-loop-slot l = vec_items l.next ≡ links_below l.slot
