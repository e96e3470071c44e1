use Rattle.links.specs.Meaning.{slots}
use Rattle.version_table.specs.Chains.{chains, capacity}
use Rattle.version_table.proofs.Cursors.{chain_cut, inside_list}
use Rattle.version_table.proofs.table.VersionTable.cut.Goals as goal

pub cut-requires : goal.cut-requires
cut-requires g c = record { stands = c.requires.stands; inside = inside_list c.args.self.now c.args.cursor.list c.args.cursor.place c.requires.inside }

pub returns : goal.returns
unfolding chains capacity
returns g c =
    let k = c.cut.ensures in
    record {
      cut = record { room = k.cut.sized; lists = chain_cut c.args.self.now c.args.cursor.list c.args.cursor.place (slots c.cut.new.self) k.cut.lists };
      stands = k.stands;
    }
