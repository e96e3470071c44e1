use Rattle.std.proofs.Common.{map, length, sum_by, ap, arith}
use Rattle.links.specs.Meaning.{slots, size}
use Rattle.version_table.specs.Chains.{chains, capacity, pick}
use Rattle.links.proofs.Places.{slots_le}
use Rattle.version_table.proofs.Picks.{chains_sum, chains-rows, pushed, inside_versions, sum_more, push_refused, push_done}
use Rattle.version_table.proofs.table.VersionTable.push.Goals as goal

pub returns-in-None : goal.returns-in-None
unfolding chains capacity
returns-in-None g c =
    let k = c.in-None.ensures in
    let t = c.args.self.now in
    record {
      room = k.size;
      done = push_refused c.args.r (length (chains t)) (sum_by length (chains t)) (size t.links) (λ h. omega (arith, chains_sum t, k.taken.1 (omega (arith, h, chains-rows t))));
      pushed = ap (map (pick t.versions.items)) k.taken.0;
    }

pub returns-in-Some : goal.returns-in-Some
unfolding chains capacity
returns-in-Some g c =
    let k = c.in-Some.ensures in
    let t = c.args.self.now in
    let m = sum_more (slots t.links) (slots c.take.new.self) c.in-Some.s c.args.r k.taken.3 k.taken.0 in
    record {
      room = k.size;
      done = push_done c.args.r (length (chains t)) (sum_by length (chains t)) (size t.links) (omega (arith, k.taken.3, chains-rows t)) (omega (arith, chains_sum t, m, slots_le c.take.new.self, k.size));
      pushed = pushed t.versions.items c.in-Some.s c.args.version (slots t.links) (slots c.take.new.self) c.args.r k.taken.2 (inside_versions t c.in-Some.s k.taken.1) k.taken.3 k.taken.0;
    }
