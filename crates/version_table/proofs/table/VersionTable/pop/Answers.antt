use Rattle.std.proofs.Common.{map, ap}
use Rattle.links.specs.Meaning.{slots}
use Rattle.version_table.specs.Chains.{chains, capacity, pick}
use Rattle.version_table.proofs.Picks.{row_empty, popped, inside_versions}
use Rattle.version_table.proofs.table.VersionTable.pop.Goals as goal

pub returns-in-None : goal.returns-in-None
unfolding chains capacity
returns-in-None g c =
    let k = c.in-None.ensures in
    let vs = c.args.self.now.versions.items in
    record {
      room = k.size;
      popped = (ap (map (pick vs)) k.given.0, row_empty vs (slots c.args.self.now.links) c.args.r k.given.1);
    }

pub returns-in-Some : goal.returns-in-Some
unfolding chains capacity
returns-in-Some g c =
    let k = c.in-Some.ensures in
    record {
      room = k.size;
      popped = popped c.args.self.now.versions.items c.in-Some.s c.index.result.now (slots c.args.self.now.links) (slots c.give.new.self) c.args.r (inside_versions c.args.self.now c.in-Some.s k.given.2) c.index.ensures k.given.1 k.given.0;
    }
