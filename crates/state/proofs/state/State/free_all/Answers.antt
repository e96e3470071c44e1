use Rattle.std.proofs.Common.{refl, arith}
use Rattle.state.specs.View.{view}
use Rattle.history.specs.Model.{free_stored}
use Rattle.state.proofs.Views.{view-rows}
use Rattle.state.proofs.Writes.{still_there, one_more, all_done}
use Rattle.state.proofs.state.State.free_all.Goals as goal

pub loop-i-init : goal.loop-i-init
loop-i-init g c = refl

pub free-requires : goal.free-requires
free-requires g c =
    let s₀ = c.args.self.now in
    still_there g.K.Kind.ops (free_stored g.K.Kind.ops c.args.w) (view s₀) (view c.loop-i.self) c.loop-i.i c.loop-i.invariant (omega (arith, view-rows s₀, s₀.records.ok.0, c.loop-i-test.true, c.len-i-end.ensures))

pub loop-i-preserved : goal.loop-i-preserved
loop-i-preserved g c =
    let s₀ = c.args.self.now in
    one_more g.K.Kind.ops (free_stored g.K.Kind.ops c.args.w) (view s₀) (view c.loop-i.self) c.loop-i.i c.loop-i.invariant (view c.free.new.self) (omega (arith, view-rows s₀, s₀.records.ok.0, c.loop-i-test.true, c.len-i-end.ensures)) c.free.ensures

pub returns : goal.returns
returns g c =
    let s₀ = c.args.self.now in
    all_done g.K.Kind.ops (free_stored g.K.Kind.ops c.args.w) (view s₀) (view c.loop-i.self) c.loop-i.i c.loop-i.invariant (omega (arith, view-rows s₀, s₀.records.ok.0, c.loop-i-test.false, c.len-i-end.ensures))
