use Rattle.std.proofs.Common.{length, sym, subst}
use Rattle.script.specs.Commands.{line_command}
use Rattle.script.specs.Parts.{Commanded}
use Rattle.script.specs.Words.{words_left}
use Rattle.script.proofs.Taking.{off, line_known, line_unknown}
use Rattle.script.proofs.command.read_command.Goals as goal

pub returns-in_err-letter_of-clause-taken : goal.returns-in_err-letter_of-clause-taken
returns-in_err-letter_of-clause-taken c =
    let w = c.next_word-word.ensures in
    let none = line_unknown (off w.same w.word w.left) c.in_err-letter_of.ensures in
    let asked = line_command (length c.args.words.now.line.now) (words_left c.args.words.now.line.now c.args.words.now.at) in
    subst (λ r. Commanded asked r (words_left c.next_word-word.new.self.line.now c.next_word-word.new.self.at)) (sym c.from_residual.ensures) none

pub returns-clause-taken : goal.returns-clause-taken
returns-clause-taken c =
    let w = c.next_word-word.ensures in
    let known = line_known (off w.same w.word w.left) c.in_ok-letter_of.field-0 c.in_ok-letter_of.ensures in
    subst (λ o. Commanded o c.pick.result (words_left c.pick.new.words.line.now c.pick.new.words.at)) (sym known) c.pick.ensures.taken
