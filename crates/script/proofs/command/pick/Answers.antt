use Rattle.std.proofs.Common.{length, sym, ap, ◌∙◌, arith}
use Rattle.script.specs.Commands.{command_of, w_read, w_close, w_look, w_change, w_commit, w_abandon, w_kept}
use Rattle.script.specs.Words.{words_left}
use Rattle.script.proofs.Taking.{off, one_off, two_off, four_off, none_known}
use Rattle.script.proofs.command.pick.Goals as goal

pub returns-in-o-clause-taken : goal.returns-in-o-clause-taken
unfolding command_of
returns-in-o-clause-taken c = let n = length c.args.words.now.line.now in let ws = words_left c.args.words.now.line.now c.args.words.now.at in ap (λ x. command_of n x ws) (sym c.from.ensures ∙ c.in-o.is)

pub returns-in-b-clause-taken : goal.returns-in-b-clause-taken
unfolding command_of
returns-in-b-clause-taken c = let n = length c.args.words.now.line.now in let ws = words_left c.args.words.now.line.now c.args.words.now.at in ap (λ x. command_of n x ws) (sym c.from.ensures ∙ c.in-b.is)

pub returns-in-c-clause-taken : goal.returns-in-c-clause-taken
unfolding command_of
returns-in-c-clause-taken c = let n = length c.args.words.now.line.now in let ws = words_left c.args.words.now.line.now c.args.words.now.at in ap (λ x. command_of n x ws) (sym c.from.ensures ∙ c.in-c.is) ∙ one_off w_close (off c.next_word-in-c.ensures.same c.next_word-in-c.ensures.word c.next_word-in-c.ensures.left)

pub returns-in-m-clause-taken : goal.returns-in-m-clause-taken
unfolding command_of
returns-in-m-clause-taken c = let n = length c.args.words.now.line.now in let ws = words_left c.args.words.now.line.now c.args.words.now.at in ap (λ x. command_of n x ws) (sym c.from.ensures ∙ c.in-m.is) ∙ one_off w_commit (off c.next_word-in-m.ensures.same c.next_word-in-m.ensures.word c.next_word-in-m.ensures.left)

pub returns-in-a-clause-taken : goal.returns-in-a-clause-taken
unfolding command_of
returns-in-a-clause-taken c = let n = length c.args.words.now.line.now in let ws = words_left c.args.words.now.line.now c.args.words.now.at in ap (λ x. command_of n x ws) (sym c.from.ensures ∙ c.in-a.is) ∙ one_off w_abandon (off c.next_word-in-a.ensures.same c.next_word-in-a.ensures.word c.next_word-in-a.ensures.left)

pub returns-in-v-clause-taken : goal.returns-in-v-clause-taken
unfolding command_of
returns-in-v-clause-taken c = let n = length c.args.words.now.line.now in let ws = words_left c.args.words.now.line.now c.args.words.now.at in ap (λ x. command_of n x ws) (sym c.from.ensures ∙ c.in-v.is) ∙ one_off w_kept (off c.next_word-in-v.ensures.same c.next_word-in-v.ensures.word c.next_word-in-v.ensures.left)

pub returns-in-r-clause-taken : goal.returns-in-r-clause-taken
unfolding command_of
returns-in-r-clause-taken c = let n = length c.args.words.now.line.now in let ws = words_left c.args.words.now.line.now c.args.words.now.at in ap (λ x. command_of n x ws) (sym c.from.ensures ∙ c.in-r.is)
    ∙ two_off w_read (off c.next_word.ensures.same c.next_word.ensures.word c.next_word.ensures.left)
    (off c.next_word-in-r.ensures.same c.next_word-in-r.ensures.word c.next_word-in-r.ensures.left)

pub returns-in-g-clause-taken : goal.returns-in-g-clause-taken
unfolding command_of
returns-in-g-clause-taken c = let n = length c.args.words.now.line.now in let ws = words_left c.args.words.now.line.now c.args.words.now.at in ap (λ x. command_of n x ws) (sym c.from.ensures ∙ c.in-g.is)
    ∙ two_off w_look (off c.next_word-in-g.ensures.same c.next_word-in-g.ensures.word c.next_word-in-g.ensures.left)
    (off c.next_word-in-g-2.ensures.same c.next_word-in-g-2.ensures.word c.next_word-in-g-2.ensures.left)

pub returns-in-e-clause-taken : goal.returns-in-e-clause-taken
unfolding command_of
returns-in-e-clause-taken c = let n = length c.args.words.now.line.now in let ws = words_left c.args.words.now.line.now c.args.words.now.at in ap (λ x. command_of n x ws) (sym c.from.ensures ∙ c.in-e.is)
    ∙ four_off w_change (off c.next_word-in-e.ensures.same c.next_word-in-e.ensures.word c.next_word-in-e.ensures.left)
    (off c.next_word-in-e-2.ensures.same c.next_word-in-e-2.ensures.word c.next_word-in-e-2.ensures.left)
    (off c.next_word-in-e-3.ensures.same c.next_word-in-e-3.ensures.word c.next_word-in-e-3.ensures.left)
    (off c.next_word-in-e-4.ensures.same c.next_word-in-e-4.ensures.word c.next_word-in-e-4.ensures.left)

pub returns-in_default-clause-taken : goal.returns-in_default-clause-taken
returns-in_default-clause-taken c =
    let n = length c.args.words.now.line.now in
    let ws = words_left c.args.words.now.line.now c.args.words.now.at in
    none_known n c.args.letter ws (λ e. omega arith) (λ e. omega arith) (λ e. omega arith) (λ e. omega arith) (λ e. omega arith) (λ e. omega arith) (λ e. omega arith) (λ e. omega arith) (λ e. omega arith)
