use Rattle.std.proofs.Common.{ap, ◌∙◌}
use Rattle.kind.proofs.undoing.there_and_back.Goals as goal

pub returns : goal.returns
returns g c =
    let k = g.K.Kind in
    ap k.ops.tells (c.undo.ensures ∙ ap (λ p. k.ops.undo p.0 p.1) c.edit-next.ensures) ∙ k.laws.undone c.args.row c.args.edit
