use Rattle.std.proofs.Common.{[], get_or, set, Some, sym, refl, ap, ◌∙◌}
use Rattle.std.proofs.lemmas.List.{set-get_or}
use Rattle.version_table.specs.Chains.{chains}
use Rattle.state.specs.Matched.{stacked}
use Rattle.state.proofs.changes.stack.Goals as goal

pub returns-in_default : goal.returns-in_default
returns-in_default g c =
    let cs = chains c.args.table.now in
    let r = c.args.r in
    let e = c.in_default.ensures in
    let q = ap (λ o. stacked g.K.Kind.ops o c.args.newest (get_or cs r [])) c.in-Some.is ∙ ap (stacked g.K.Kind.ops (Some c.in-Some.field-0) c.args.newest) e ∙ sym e in
    record { room = refl; lists = sym (ap (set cs r) q ∙ set-get_or cs r []) }
