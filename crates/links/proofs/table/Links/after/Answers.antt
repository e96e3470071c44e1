use Rattle.std.proofs.Common.{arith}
use Rattle.links.proofs.Ways.{next_read, inside_in}
use Rattle.links.proofs.table.Links.after.Goals as goal

pub index-requires : goal.index-requires
index-requires c = omega (arith, inside_in c.args.self.now c.args.slot c.requires, c.args.self.now.next.ok.0)

pub returns : goal.returns
returns c =
    let k = next_read c.args.self.now c.args.slot c.index.result.now c.requires c.index.ensures in
    record { onto = k.onto; list = k.list; inside = k.inside }
