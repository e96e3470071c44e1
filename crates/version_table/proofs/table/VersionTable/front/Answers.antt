use Rattle.std.proofs.Common.{ap, ◌∙◌}
use Rattle.std.specs.List.{slice_get}
use Rattle.links.specs.declared.cursor.Cursor.{Cursor}
use Rattle.version_table.specs.Chains.{chain}
use Rattle.version_table.proofs.Cursors.{front_is}
use Rattle.version_table.proofs.table.VersionTable.front.Goals as goal

pub returns : goal.returns
returns g c =
    let t = c.args.self.now in
    front_is (chain t c.args.r) c.look.result (c.look.ensures ∙ ap (λ (u : Cursor). slice_get (chain t u.list) u.place) c.front.ensures)
