use mathlib.Core.Path.{refl, ap}
use lib.ListN.{get_or}
use Rattle.fields.specs.declared.Attributes.{Attributes}
use Rattle.kind.specs.Kinds.{same}
use Rattle.figures.specs.Figures.{Figures}
use Rattle.figures.proofs.figures_stand.Goals as goal

table : Figures
unfolding same
table = record { undone = refl; joined = refl; wrapped = refl; at_5 = refl; at_4_6 = refl; at_3_3_8 = refl; returned = refl; apart = refl }

pub returns : goal.returns
returns c = record { figures = table; first = ap (λ (r : Attributes). get_or r.values 3 0) c.undo-before.ensures }
