use Rattle.std.proofs.Common.{arith}
use Rattle.std.proofs.lemmas.List.{length-set}
use Rattle.links.specs.Meaning.{slots, size}
use Rattle.links.proofs.Steps.{row_in, give_in, give_read}
use Rattle.links.proofs.Places.{front}
use Rattle.links.proofs.table.Links.give.Goals as goal

pub index-requires : goal.index-requires
index-requires c = let f = front c.args.self.now c.args.r c.in_ok-s.s c.in_ok-s.ensures.head in omega (arith, (give_in c.args.self.now c.args.r c.in_ok-s.s f.row f.head).inside, c.args.self.now.next.ok.0)

pub index_mut-requires : goal.index_mut-requires
index_mut-requires c = let f = front c.args.self.now c.args.r c.in_ok-s.s c.in_ok-s.ensures.head in omega (arith, row_in c.args.self.now c.args.r f.row, c.args.self.now.heads.ok.0)

pub index_mut-requires-2 : goal.index_mut-requires-2
index_mut-requires-2 c = let f = front c.args.self.now c.args.r c.in_ok-s.s c.in_ok-s.ensures.head in omega (arith, (give_in c.args.self.now c.args.r c.in_ok-s.s f.row f.head).inside, c.args.self.now.next.ok.0)

pub overflow_sub-self : goal.overflow_sub-self
overflow_sub-self c = let f = front c.args.self.now c.args.r c.in_ok-s.s c.in_ok-s.ensures.head in omega (arith, (give_in c.args.self.now c.args.r c.in_ok-s.s f.row f.head).some)

pub invariant_of-self : goal.invariant_of-self
invariant_of-self c =
    let f = front c.args.self.now c.args.r c.in_ok-s.s c.in_ok-s.ensures.head in
    let k = give_read c.args.self.now c.args.r c.in_ok-s.s c.index.result.now f.row f.head c.index.ensures in
    record { sound = k.sound; counted = k.counted }

pub returns : goal.returns
unfolding slots size
returns c =
    let f = front c.args.self.now c.args.r c.in_ok-s.s c.in_ok-s.ensures.head in
    let k = give_read c.args.self.now c.args.r c.in_ok-s.s c.index.result.now f.row f.head c.index.ensures in
    record { size = length-set _ _ _; given = (k.after, k.front, k.inside) }
