use Rattle.std.proofs.Common.{rules}
use Rattle.links.proofs.Places.{list_small}
use Rattle.links.proofs.table.Links.step.Goals as goal

pub overflow_add-result : goal.overflow_add-result
overflow_add-result c = let s = list_small c.args.self.now c.args.cursor.list in let l = c.requires.inside in search rules
