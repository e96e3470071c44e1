use Rattle.std.proofs.Common.{sym, ◌∙◌}
use Rattle.state.proofs.Views.{view-uses}
use Rattle.state.proofs.state.State.in_use.Goals as goal

pub returns : goal.returns
returns g c = c.used.ensures ∙ sym (view-uses c.args.self.now)
