use Rattle.history.proofs.Determining.{determined}
use Rattle.history.proofs.theorems.outcomes_are_determined.Goals as goal

pub returns : goal.returns
returns g c = determined g.K.Kind.ops
