use Rattle.links.specs.Meaning.{slots}
use Rattle.links.proofs.Steps.{used_is}
use Rattle.links.proofs.table.Links.used.Goals as goal

pub returns : goal.returns
unfolding slots
returns c = used_is _ _ _ _ c.args.self.now.sound c.args.self.now.counted
