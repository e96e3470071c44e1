use Rattle.std.proofs.Common.{ap, ◌∙◌, refl, rules}
use Rattle.kind.specs.Undoing.{join_all}
use Rattle.kind.proofs.Folds.{folded}
use Rattle.kind.proofs.Joins.{joined_undoes}
use Rattle.kind.proofs.undoing.undo_joined.Goals as goal

pub returns : goal.returns
returns g c =
    let k = g.K.Kind in
    let joined = folded (join_all k.ops) k.ops.join (λ d. refl) (λ d e es. refl) c.fold-whole.ensures.ran (λ d e q f called. search rules) in
    ap k.ops.tells (c.undo.ensures ∙ ap (k.ops.undo c.args.row) (rw (c.iter.ensures.rest, c.no_change.ensures) at joined)) ∙ joined_undoes k.laws c.args.row c.args.changes.now
