use Rattle.std.proofs.Common.{refl, ◌∙◌, arith}
use Rattle.std.proofs.lemmas.List.{length-set}
use Rattle.links.specs.Meaning.{slots, size}
use Rattle.links.proofs.CutSteps.{place, last, cut_in, cut_read}
use Rattle.links.proofs.table.Links.cut_after.Goals as goal

pub index-requires : goal.index-requires
index-requires c = omega (arith, (place c.args.self.now c.args.r c.args.k c.args.p c.requires.row c.requires.place.0 c.requires.place.1).0, c.args.self.now.next.ok.0)

pub returns-in-None : goal.returns-in-None
unfolding slots size
returns-in-None c = record { size = refl; cut = (refl, last c.args.self.now c.args.r c.args.k c.args.p c.requires.row c.requires.place.0 c.requires.place.1 c.index.result.now c.index.ensures c.in-None.is) }

pub index-t-requires : goal.index-t-requires
index-t-requires c = omega (arith, (cut_in c.args.self.now c.args.r c.args.k c.args.p c.in-Some.s c.requires.row c.requires.place.0 c.requires.place.1 c.index.result.now c.index.ensures c.in-Some.is).inside, c.args.self.now.next.ok.0)

pub index_mut-requires : goal.index_mut-requires
index_mut-requires c = omega (arith, (place c.args.self.now c.args.r c.args.k c.args.p c.requires.row c.requires.place.0 c.requires.place.1).0, c.args.self.now.next.ok.0)

pub index_mut-requires-in-Some : goal.index_mut-requires-in-Some
index_mut-requires-in-Some c = omega (arith, (cut_in c.args.self.now c.args.r c.args.k c.args.p c.in-Some.s c.requires.row c.requires.place.0 c.requires.place.1 c.index.result.now c.index.ensures c.in-Some.is).inside, c.args.self.now.next.ok.0)

pub overflow_sub-self : goal.overflow_sub-self
overflow_sub-self c = (cut_in c.args.self.now c.args.r c.args.k c.args.p c.in-Some.s c.requires.row c.requires.place.0 c.requires.place.1 c.index.result.now c.index.ensures c.in-Some.is).some

pub invariant_of-self : goal.invariant_of-self
invariant_of-self c = let k = cut_read c.args.self.now c.args.r c.args.k c.args.p c.in-Some.s c.requires.row c.requires.place.0 c.requires.place.1 c.index.result.now c.index-t.result.now c.index.ensures c.in-Some.is c.index-t.ensures in record { sound = k.sound; counted = k.counted }

pub returns-in-Some : goal.returns-in-Some
unfolding slots size
returns-in-Some c = let k = cut_read c.args.self.now c.args.r c.args.k c.args.p c.in-Some.s c.requires.row c.requires.place.0 c.requires.place.1 c.index.result.now c.index-t.result.now c.index.ensures c.in-Some.is c.index-t.ensures in record { size = length-set _ _ _ ∙ length-set _ _ _; cut = (k.after, k.front, k.inside) }
