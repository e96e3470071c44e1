use Rattle.std.proofs.Common.{◌≡◌, [], length, get_or, set}
use Rattle.links.specs.Meaning.{slots, size}
use Rattle.links.proofs.table.Links.clear.Given as goal

abbrev pub invariant-loop-s : goal.invariant-loop-s
invariant-loop-s l = (slots l.self ≡ set (slots l.initial.self) l.r (get_or (slots l.self) l.r [])) × (size l.self ≡ size l.initial.self)

abbrev pub decreases-loop-s : goal.decreases-loop-s
decreases-loop-s l = length (get_or (slots l.self) l.r [])
