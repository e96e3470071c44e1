-- Undoing and joining lists of changes, newest first, in any kind.
--     undo_all k r cs    the row reached from r by undoing each change in turn
--     join_all k c cs    the change c joined with each older one in turn
use Rattle.std.specs.Prelude.{List, [], ◌∷◌}
use Rattle.kind.specs.Kinds.{Ops}

module _ {Row Edit Change : Type 0} (k : Ops Row Edit Change) where
  abbrev pub undo_all : Row → List Change → Row
  undo_all r [] = r
  undo_all r (c ∷ cs) = undo_all (k.undo r c) cs

  abbrev pub join_all : Change → List Change → Change
  join_all c [] = c
  join_all c (d ∷ ds) = join_all (k.join c d) ds
