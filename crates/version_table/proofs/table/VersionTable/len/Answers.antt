use Rattle.std.proofs.Common.{length, inl, ap, arith}
use Rattle.links.proofs.Places.{list_small}
use Rattle.version_table.proofs.Picks.{chain_len}
use Rattle.version_table.proofs.table.VersionTable.len.Goals as goal

pub count-requires-clause-fits : goal.count-requires-clause-fits
count-requires-clause-fits g c = inl (omega (arith, ap length c.chain.ensures, chain_len c.args.self.now c.args.r, list_small c.args.self.now.links c.args.r))
