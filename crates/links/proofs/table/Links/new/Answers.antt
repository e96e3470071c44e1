use Rattle.std.proofs.Common.{rules}
use Rattle.links.specs.Meaning.{slots, size}
use Rattle.links.proofs.Fresh.{made_fresh}
use Rattle.links.proofs.table.Links.new.Goals as goal

pub invariant_of-result : goal.invariant_of-result
invariant_of-result c =
    let k = made_fresh c.args.n c.args.m c.in_ok-next.next.items c.in_ok-heads.heads.items c.below-free.result c.in_ok-next.ensures (c.in_ok-heads.ensures.items_if_clones_equal (λ y h. search rules)) c.below-free.ensures in
    record { sound = k.sound; counted = k.counted }

pub returns : goal.returns
unfolding slots size
returns c =
    let k = made_fresh c.args.n c.args.m c.in_ok-next.next.items c.in_ok-heads.heads.items c.below-free.result c.in_ok-next.ensures (c.in_ok-heads.ensures.items_if_clones_equal (λ y h. search rules)) c.below-free.ensures in
    (k.empty, k.sized)
