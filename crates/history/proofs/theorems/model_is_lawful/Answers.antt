use Rattle.history.proofs.Simulation.{model_lawful}
use Rattle.history.proofs.theorems.model_is_lawful.Goals as goal

pub returns : goal.returns
returns g c = model_lawful g.K.Kind.ops g.K.Kind.laws
