use Rattle.std.proofs.Common.{sym, ◌∙◌, arith}
use Rattle.version_table.proofs.Cursors.{slot_in, looked, looked_past}
use Rattle.version_table.proofs.table.VersionTable.look.Goals as goal

pub index-requires : goal.index-requires
index-requires g c = omega (arith, slot_in c.args.self.now c.args.cursor.list c.args.cursor.place c.in_ok-s.s (sym c.in_ok-s.ensures), c.args.self.now.versions.ok.0)

pub returns-in_err-s : goal.returns-in_err-s
returns-in_err-s g c = c.from_residual.ensures ∙ looked_past c.args.self.now c.args.cursor.list c.args.cursor.place (sym c.in_err-s.ensures)

pub returns : goal.returns
returns g c = looked c.args.self.now c.args.cursor.list c.args.cursor.place c.in_ok-s.s (sym c.in_ok-s.ensures) c.index.result.now c.index.ensures
