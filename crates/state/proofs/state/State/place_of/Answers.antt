use Rattle.std.proofs.Common.{refl, arith}
use Rattle.state.specs.View.{Placed}
use Rattle.state.proofs.Views.{view-rows}
use Rattle.state.proofs.state.State.place_of.Goals as goal

pub returns-then-record-len : goal.returns-then-record-len
unfolding Placed
returns-then-record-len g c = (omega (arith, view-rows c.args.self.now, c.if-record-len.true), c.at.ensures)

pub returns : goal.returns
unfolding Placed
returns g c = (omega (arith, view-rows c.args.self.now, c.if-record-len.false), refl)
