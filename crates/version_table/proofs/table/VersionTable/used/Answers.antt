use Rattle.std.proofs.Common.{sym, ◌∙◌}
use Rattle.version_table.proofs.Picks.{chains_sum}
use Rattle.version_table.proofs.table.VersionTable.used.Goals as goal

pub returns : goal.returns
returns g c = c.used.ensures ∙ sym (chains_sum c.args.self.now)
