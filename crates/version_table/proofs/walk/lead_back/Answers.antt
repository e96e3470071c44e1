use Rattle.std.proofs.Common.{◌∷◌, sym, ap, ◌∙◌, subst}
use Rattle.chain.specs.Versions.{Falling, reads}
use Rattle.chain.proofs.Reading.{reads_high, atmost_mono}
use Rattle.version_table.proofs.walk.lead_back.Goals as goal

pub returns-then-version-t : goal.returns-then-version-t
returns-then-version-t g c =
    λ h.
    let k = g.K.Kind.ops in
    let t = c.args.t in
    let v = c.in-Some.version in
    let r = c.loop-version.reached in
    let L = c.next.new.self in
    let e = c.in-Some.ensures.steps in
    let p = c.loop-version.invariant.2 h in
    let low = atmost_mono L v.time t c.if-version-t.true (subst Falling e p.0).0 in
    sym (reads_high k (v ∷ L) r t (c.if-version-t.true, low)) ∙ ap (λ vs. reads k r vs t) (sym e) ∙ p.1
