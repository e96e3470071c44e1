use Rattle.std.proofs.Common.{[], map, set, ap, ◌∙◌}
use Rattle.std.proofs.lemmas.List.{map-set}
use Rattle.links.specs.Meaning.{slots}
use Rattle.version_table.specs.Chains.{chains, capacity, pick}
use Rattle.version_table.proofs.Picks.{pick-nil}
use Rattle.version_table.proofs.table.VersionTable.clear.Goals as goal

pub returns : goal.returns
unfolding chains capacity
returns g c =
    let vs = c.args.self.now.versions.items in
    let ls = slots c.args.self.now.links in
    record {
      room = c.clear.ensures.sized;
      lists = ap (map (pick vs)) c.clear.ensures.lists ∙ map-set (pick vs) ls c.args.r [] ∙ ap (λ y. set (map (pick vs) ls) c.args.r y) (pick-nil vs);
    }
