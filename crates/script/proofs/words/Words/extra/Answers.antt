use Rattle.std.proofs.Common.{sym, ap, arith}
use Rattle.script.specs.Words.{over}
use Rattle.script.proofs.Cuts.{next_place, past_words}
use Rattle.script.proofs.words.Words.extra.Goals as goal

pub returns-then-self : goal.returns-then-self
returns-then-self c = sym (next_place c.args.self.now.line.now c.args.self.now.at (omega (arith, c.if-self.true)))

pub returns-else-self : goal.returns-else-self
returns-else-self c = sym (ap over (past_words c.args.self.now.line.now c.args.self.now.at c.if-self.false))
