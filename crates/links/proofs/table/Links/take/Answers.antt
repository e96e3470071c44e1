use Rattle.std.proofs.Common.{◌≡◌, ℕ, ◌<◌, length, refl, arith}
use Rattle.std.proofs.lemmas.List.{length-set}
use Rattle.links.specs.declared.table.Links.{Links}
use Rattle.links.specs.Meaning.{slots, size}
use Rattle.links.proofs.Steps.{rows_are, row_in, take_in, take_read, full_is}
use Rattle.links.proofs.table.Links.take.Goals as goal

-- there is such a list
row : (l : Links) (n r : ℕ) → n ≡ l.heads.len → r < n → r < length (slots l)
row l n r e h = omega (arith, rows_are l, l.heads.ok.0)

pub index-requires : goal.index-requires
index-requires c = omega (arith, (take_in c.args.self.now c.args.r c.in_ok-s.s (row c.args.self.now c.len.result c.args.r c.len.ensures c.if-len-r.false) c.in_ok-s.was).inside, c.args.self.now.next.ok.0)

pub index-head-requires : goal.index-head-requires
index-head-requires c = omega (arith, row_in c.args.self.now c.args.r (row c.args.self.now c.len.result c.args.r c.len.ensures c.if-len-r.false), c.args.self.now.heads.ok.0)

pub index_mut-requires : goal.index_mut-requires
index_mut-requires c = omega (arith, (take_in c.args.self.now c.args.r c.in_ok-s.s (row c.args.self.now c.len.result c.args.r c.len.ensures c.if-len-r.false) c.in_ok-s.was).inside, c.args.self.now.next.ok.0)

pub index_mut-requires-2 : goal.index_mut-requires-2
index_mut-requires-2 c = omega (arith, row_in c.args.self.now c.args.r (row c.args.self.now c.len.result c.args.r c.len.ensures c.if-len-r.false), c.args.self.now.heads.ok.0)

pub invariant_of-self : goal.invariant_of-self
invariant_of-self c =
    let k = take_read c.args.self.now c.args.r c.in_ok-s.s c.index.result.now c.index-head.result.now (row c.args.self.now c.len.result c.args.r c.len.ensures c.if-len-r.false) c.in_ok-s.was c.index.ensures c.index-head.ensures in
    record { sound = k.sound; counted = k.counted }

pub returns-then-len-r : goal.returns-then-len-r
returns-then-len-r c = record { size = refl; taken = (refl, λ h. absurd (no_row h)) }
  where
    no_row : c.args.r < length (slots c.args.self.now) → ⊥
    no_row h = omega (arith, rows_are c.args.self.now, c.if-len-r.true, c.len.ensures, c.args.self.now.heads.ok.0)

pub returns-in_err-s : goal.returns-in_err-s
returns-in_err-s c = record { size = refl; taken = rw c.from_residual.ensures (refl, λ h. full_is c.args.self.now c.in_err-s.was) }

pub returns : goal.returns
unfolding slots size
returns c =
    let k = take_read c.args.self.now c.args.r c.in_ok-s.s c.index.result.now c.index-head.result.now (row c.args.self.now c.len.result c.args.r c.len.ensures c.if-len-r.false) c.in_ok-s.was c.index.ensures c.index-head.ensures in
    record { size = length-set _ _ _; taken = (k.after, k.inside, k.fresh, row c.args.self.now c.len.result c.args.r c.len.ensures c.if-len-r.false) }
