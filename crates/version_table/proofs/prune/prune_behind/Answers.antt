use Rattle.std.proofs.Common.{sym}
use Rattle.links.proofs.Places.{slice_get_inside}
use Rattle.version_table.specs.Chains.{chain}
use Rattle.version_table.proofs.Cursors.{inside_list}
use Rattle.version_table.proofs.prune.prune_behind.Goals as goal

pub step-next-requires-clause-inside : goal.step-next-requires-clause-inside
step-next-requires-clause-inside g c =
    let u = c.front-first.result in
    inside_list c.args.table.now u.list u.place (slice_get_inside (chain c.args.table.now u.list) u.place c.in-Some.held (sym c.in-Some.ensures))
