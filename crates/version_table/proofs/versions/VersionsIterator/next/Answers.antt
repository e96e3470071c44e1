use Rattle.std.proofs.Common.{length, sym, ap, ◌∙◌, rules}
use Rattle.version_table.proofs.Picks.{cursor, cursor_end}
use Rattle.version_table.proofs.versions.VersionsIterator.next.Goals as goal

pub returns-in_err-slot-clause-steps : goal.returns-in_err-slot-clause-steps
returns-in_err-slot-clause-steps g c =
    let e = sym c.self.view_is ∙ cursor_end c.self.inside.table.now c.self.inside.at c.in_err-slot.was in
    rw c.from_residual.ensures (e, e)

pub returns-clause-steps : goal.returns-clause-steps
returns-clause-steps g c =
    let k = c.after-self-inside.ensures in
    sym c.self.view_is ∙ cursor c.self.inside.table.now c.in_ok-slot.slot c.self.inside.at c.after-self-inside.result c.index.result.now c.in_ok-slot.was k.list k.inside c.index.ensures

pub returns-clause-goes : goal.returns-clause-goes
returns-clause-goes g c =
    let k = c.after-self-inside.ensures in
    let e = ap length (sym c.self.view_is ∙ cursor c.self.inside.table.now c.in_ok-slot.slot c.self.inside.at c.after-self-inside.result c.index.result.now c.in_ok-slot.was k.list k.inside c.index.ensures) in
    search rules
