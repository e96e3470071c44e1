use Rattle.std.proofs.Common.{[], drop, set, sym, ap, ◌∙◌}
use Rattle.std.proofs.lemmas.List.{set-get_or}
use Rattle.version_table.specs.Chains.{chains}
use Rattle.state.specs.Matched.{taken_back}
use Rattle.state.proofs.endings.take_back.Goals as goal

pub returns-in-None : goal.returns-in-None
returns-in-None g c =
    let cs = chains c.args.table.now in
    let e = c.in-None.ensures in
    record {
      taken = record { room = e.room; lists = e.popped.0 ∙ sym (ap (set cs c.args.r) (ap (drop 1) e.popped.1 ∙ sym e.popped.1) ∙ set-get_or cs c.args.r []) };
      row = sym (ap (taken_back g.K.Kind.ops c.args.row) e.popped.1);
    }
