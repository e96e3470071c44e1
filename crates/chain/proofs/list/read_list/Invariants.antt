use Rattle.std.proofs.Common.{◌≡◌, drop}
use Rattle.chain.specs.Versions.{reads}
use Rattle.chain.proofs.list.read_list.Given as goal

-- what is left, undone from the row reached, is the whole
abbrev pub invariant-loop-version : goal.invariant-loop-version
invariant-loop-version g l = let k = g.K.Kind.ops in reads k l.reached (drop l.version-index l.versions) l.s ≡ reads k l.initial.reached l.versions l.s
