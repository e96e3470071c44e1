use Rattle.std.proofs.Common.{rules}
use Rattle.links.specs.Walk.{links_below}
use Rattle.links.proofs.Fresh.{links_below_more}
use Rattle.links.proofs.make.one_list.Goals as goal

pub loop-slot-init : goal.loop-slot-init
unfolding links_below
loop-slot-init c = search rules

pub loop-slot-preserved : goal.loop-slot-preserved
loop-slot-preserved c =
    let p = c.in_ok-push.ensures.items in
    let a = links_below_more c.loop-slot.slot in
    cc
