use Rattle.std.proofs.Common.{refl, rules}
use Rattle.kind.specs.Undoing.{undo_all}
use Rattle.kind.proofs.Folds.{folded}
use Rattle.kind.proofs.undoing.undo_each.Goals as goal

pub returns : goal.returns
returns g c =
    let k = g.K.Kind.ops in
    rw c.iter.ensures.rest at (folded (undo_all k) k.undo (λ r. refl) (λ r d ds. refl) c.fold.ensures.ran (λ r d q f called. search rules))
