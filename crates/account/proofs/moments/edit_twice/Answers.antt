use Rattle.account.proofs.Backs.{both}
use Rattle.account.proofs.moments.edit_twice.Goals as goal

pub returns : goal.returns
returns g c =
    let k = g.K.Kind in
    both k.laws c.args.first c.edit-second.result.0 c.edit-third.result.0 c.args.earlier c.args.later c.edit-second.result.1 c.edit-third.result.1 c.join.result
    c.edit-second.ensures c.edit-third.ensures c.join.ensures
