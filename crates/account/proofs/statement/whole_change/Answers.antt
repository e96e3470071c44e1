use Rattle.std.proofs.Common.{ap, ◌∙◌}
use Rattle.sorted_list.specs.Entries.{times}
use Rattle.store.specs.Calls.{Begins}
use Rattle.account.proofs.Tokens.{given_back}
use Rattle.account.proofs.statement.whole_change.Goals as goal

pub returns-in-Err : goal.returns-in-Err
unfolding Begins
returns-in-Err g c = ap (λ r. times r.entries.items) c.in-Err.ensures.2

pub returns-in_err-told : goal.returns-in_err-told
unfolding Begins
returns-in_err-told g c = let e = c.in-Ok.ensures in given_back _ _ _ _ _ e.1.0 (c.before_commit-told.ensures ∙ e.3) c.commit_or_abandon-done.ensures

pub returns-in_err-show_finished : goal.returns-in_err-show_finished
unfolding Begins
returns-in_err-show_finished g c = let e = c.in-Ok.ensures in given_back _ _ _ _ _ e.1.0 (c.before_commit-told.ensures ∙ e.3) c.commit_or_abandon-done.ensures

pub returns-in_err-show_weights : goal.returns-in_err-show_weights
unfolding Begins
returns-in_err-show_weights g c = let e = c.in-Ok.ensures in c.show_weights.ensures ∙ given_back _ _ _ _ _ e.1.0 (c.before_commit-told.ensures ∙ e.3) c.commit_or_abandon-done.ensures

pub returns : goal.returns
unfolding Begins
returns g c = let e = c.in-Ok.ensures in c.show_weights-2.ensures ∙ c.show_weights.ensures ∙ given_back _ _ _ _ _ e.1.0 (c.before_commit-told.ensures ∙ e.3) c.commit_or_abandon-done.ensures
