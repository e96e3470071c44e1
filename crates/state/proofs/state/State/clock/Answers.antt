use Rattle.state.proofs.Writes.{clock_is}
use Rattle.state.proofs.state.State.clock.Goals as goal

pub returns : goal.returns
returns g c = clock_is c.args.self.now
