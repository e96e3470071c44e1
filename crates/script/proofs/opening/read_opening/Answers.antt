use Rattle.std.proofs.Common.{Err, sym, ap, ◌∙◌}
use Rattle.script.specs.Commands.{ended}
use Rattle.script.specs.Words.{words_left}
use Rattle.script.proofs.Taking.{off, opens_unknown, opens-known}
use Rattle.script.proofs.opening.read_opening.Goals as goal

pub returns-in_default : goal.returns-in_default
returns-in_default c =
    ap (λ f. Err f) c.unknown_letter.ensures
    ∙ sym (opens_unknown c.args.line.now c.new-words.result.line.now c.new-words.result.at c.new-words.ensures.0 c.new-words.ensures.1 (off c.next_word-first.ensures.same c.next_word-first.ensures.word c.next_word-first.ensures.left) c.in_default.ensures)

pub returns : goal.returns
returns c =
    let left = words_left c.next_word-start.new.self.line.now c.next_word-start.new.self.at in
    c.end.ensures ∙ ap (λ r. ended 1 r left) c.judge_sizes.ensures ∙ sym (opens-known c.args.line.now c.new-words.result.line.now c.new-words.result.at c.new-words.ensures.0 c.new-words.ensures.1
    (off c.next_word-first.ensures.same c.next_word-first.ensures.word c.next_word-first.ensures.left) c.in-Some.kind c.in-Some.ensures
    (off c.next_word-registry.ensures.same c.next_word-registry.ensures.word c.next_word-registry.ensures.left)
    (off c.next_word-records.ensures.same c.next_word-records.ensures.word c.next_word-records.ensures.left)
    (off c.next_word-versions.ensures.same c.next_word-versions.ensures.word c.next_word-versions.ensures.left)
    (off c.next_word-start.ensures.same c.next_word-start.ensures.word c.next_word-start.ensures.left))
