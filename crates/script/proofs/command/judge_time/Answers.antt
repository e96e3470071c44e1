use Rattle.std.proofs.Common.{rules}
use Rattle.script.specs.Spans.{part}
use Rattle.script.proofs.Cuts.{judged_bound}
use Rattle.script.proofs.command.judge_time.Goals as goal

pub overflow_cast-result : goal.overflow_cast-result
overflow_cast-result c = let h = judged_bound 4294967295 c.in_ok-n.n (part c.args.word) c.in_ok-n.ensures in search rules
