use Rattle.std.proofs.Common.{ℕ, List, decimal, ap, ◌∙◌, subst}
use Rattle.std.specs.Fmt.{HasWritten}
use Rattle.lease.specs.Shown.{layer_letter, spaced}
use Rattle.history.specs.Card.{fault_number}
use Rattle.history.proofs.show.StoreFaultDisplay.fmt.Goals as goal

pub returns-clause-writes : goal.returns-clause-writes
returns-clause-writes g c =
    let fault = c.args.self.now in
    let e =
    ap (λ n. spaced (decimal n) (spaced (layer_letter c.layer-layer.result) (decimal fault.place))) c.number-number.ensures
    ∙ ap (λ y. spaced (decimal (fault_number fault.cause)) (spaced (layer_letter y) (decimal fault.place))) c.layer-layer.ensures in
    λ p k. let P : List ℕ → Type 0 = λ bs. HasWritten g.W.Write.write_str_gives c.args.f.now bs c.write.new.self in subst P e (c.write.ensures.writes p k)
