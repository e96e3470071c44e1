use Rattle.std.proofs.Common.{[], set, sym, refl, ap, ◌∙◌}
use Rattle.std.proofs.lemmas.List.{set-get_or}
use Rattle.version_table.specs.Chains.{chains}
use Rattle.state.specs.Matched.{stamped}
use Rattle.state.proofs.endings.stamp.Goals as goal

pub returns-in_default : goal.returns-in_default
returns-in_default g c =
    let cs = chains c.args.table.now in
    let e = c.in_default.ensures in
    record { room = refl; lists = sym (ap (set cs c.args.r) (ap (stamped c.args.t) e ∙ sym e) ∙ set-get_or cs c.args.r []) }
