use Rattle.std.proofs.Common.{length, sym, refl, arith}
use Rattle.std.proofs.lemmas.Bool.{lt-ltb, le-ltb}
use Rattle.version_table.specs.Chains.{chains, chain, capacity}
use Rattle.version_table.proofs.Cursors.{slot_in, written, written_past, slot_inside, slots_end}
use Rattle.version_table.proofs.table.VersionTable.write.Goals as goal

pub index_mut-requires : goal.index_mut-requires
index_mut-requires g c = omega (arith, slot_in c.args.self.now c.args.cursor.list c.args.cursor.place c.in-Some.s (sym c.in-Some.ensures), c.args.self.now.versions.ok.0)

pub returns : goal.returns
unfolding chains capacity
returns g c =
    let t = c.args.self.now in
    let u = c.args.cursor in
    record {
      done = sym (lt-ltb u.place (length (chain t u.list)) (slot_inside t u.list u.place c.in-Some.s c.in-Some.ensures));
      links = refl;
      written = record { room = refl; lists = written t u.list u.place c.in-Some.s (sym c.in-Some.ensures) c.args.version };
    }

pub returns-in_default : goal.returns-in_default
returns-in_default g c =
    let t = c.args.self.now in
    let u = c.args.cursor in
    record {
      done = sym (le-ltb u.place (length (chain t u.list)) (slots_end t u.list u.place c.in_default.ensures));
      links = refl;
      written = record { room = refl; lists = written_past t u.list u.place c.args.version (sym c.in_default.ensures) };
    }
