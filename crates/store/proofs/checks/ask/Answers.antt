use Rattle.std.proofs.Common.{sym, ap, ◌∙◌, arith}
use Rattle.history.specs.Card.{raised}
use Rattle.store.specs.Calls.{LeaseOpen}
use Rattle.store.proofs.checks.ask.Goals as goal

pub returns-then-count_at-eq0 : goal.returns-then-count_at-eq0
unfolding LeaseOpen
returns-then-count_at-eq0 g c = (sym c.count_at.ensures ∙ c.if-count_at-eq0.true, c.from.ensures ∙ ap raised c.not_open.ensures)

pub returns : goal.returns
unfolding LeaseOpen
returns g c = omega (arith, c.count_at.ensures, c.if-count_at-eq0.false)
