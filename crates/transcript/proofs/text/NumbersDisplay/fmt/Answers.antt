use Rattle.std.proofs.Common.{◌<◌, length, sym, arith, rules}
use Rattle.std.proofs.lemmas.Grind.{put_two}
use Rattle.transcript.proofs.Spaces.{spaced_more}
use Rattle.transcript.proofs.text.NumbersDisplay.fmt.Goals as goal

pub loop-i-preserved : goal.loop-i-preserved
loop-i-preserved g c =
    let xs = g.K.Kind.ops.tells c.args.self.now.0 in
    let i = c.loop-i.i in
    let wide = g.met.K.ScriptKind.wide c.args.self.now.0 in
    let all = g.met.K.ScriptKind.constants in
    let within : i < length xs = omega (arith, wide, all.1.1, c.NUMBERS-i-end.ensures, c.loop-i-test.true) in
    λ p. put_two _ _ c.loop-i.f _ _ _ _ (c.loop-i.invariant p) (search rules) (spaced_more xs i c.number-n.result within (sym c.number-n.ensures))
