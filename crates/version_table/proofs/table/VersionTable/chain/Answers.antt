use Rattle.std.proofs.Common.{sym, ap, ◌∙◌}
use Rattle.version_table.specs.Chains.{pick}
use Rattle.version_table.proofs.Picks.{chain_is}
use Rattle.version_table.proofs.table.VersionTable.chain.Goals as goal

pub returns : goal.returns
returns g c = ap (pick c.args.self.now.versions.items) c.first.ensures.list ∙ sym (chain_is c.args.self.now c.args.r)
