use Rattle.std.proofs.Common.{◌≡◌, ◌+◌, [], ◌∷◌, drop, sym, ap, ◌∙◌}
use Rattle.std.proofs.lemmas.List.{drop_all}
use Rattle.chain.specs.Versions.{reads}
use Rattle.chain.proofs.Reading.{reads_next, reads_below, reads-past}
use Rattle.chain.proofs.list.read_list.Goals.{then-s-version, else-s-version}
use Rattle.chain.proofs.list.read_list.Goals as goal

pub loop-version-preserved : goal.loop-version-preserved
loop-version-preserved g c =
    let k = g.K.Kind.ops in
    let vs = c.args.versions.now in
    let i = c.loop-version.version-index in
    let s = c.args.s in
    let v = c.version-item.result in
    let r = c.loop-version.reached in
    let step : reads k c.if-s-version.reached (drop (i + 1) vs) s ≡ reads k r (v ∷ drop (i + 1) vs) s =
    elim c.if-s-version.branch [
      | then-s-version w ↦ ap (λ q. reads k q (drop (i + 1) vs) s) (w.reached-is ∙ w.undo-reached.ensures) ∙ sym (reads_below k v (drop (i + 1) vs) r s w.if-s-version.true)
      | else-s-version w ↦ ap (λ q. reads k q (drop (i + 1) vs) s) w.reached-is ∙ sym (reads-past k v (drop (i + 1) vs) r s w.if-s-version.false)
    ] in
    step ∙ sym (reads_next k vs i v r s c.loop-version-test.true c.version-item.is) ∙ c.loop-version.invariant

pub returns : goal.returns
returns g c =
    let k = g.K.Kind.ops in
    let none : drop c.loop-version.version-index c.args.versions.now ≡ [] = drop_all c.loop-version.version-index c.args.versions.now c.loop-version-test.false in
    sym (ap (λ vs. reads k c.loop-version.reached vs c.args.s) none) ∙ c.loop-version.invariant
