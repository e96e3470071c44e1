use Rattle.std.proofs.Common.{get_or, refl, rules}
use Rattle.std.proofs.lemmas.Grind.{put_two}
use Rattle.transcript.proofs.Spaces.{spaced_more}
use Rattle.transcript.proofs.text.TimesDisplay.fmt.Goals as goal

pub loop-n-preserved : goal.loop-n-preserved
loop-n-preserved g c =
    let xs = c.args.self.now.0.now in
    let i = c.loop-n.n-index in
    λ p. put_two _ _ c.loop-n.f _ _ _ _ (c.loop-n.invariant p) (search rules) (spaced_more xs i (get_or xs i 0) c.loop-n-test.true refl)
