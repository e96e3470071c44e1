use Rattle.std.proofs.Common.{◌≡◌, Err, sym, ap, ◌∙◌}
use Rattle.script.specs.Commands.{call_of_words, ended}
use Rattle.script.specs.Parts.{tell}
use Rattle.script.specs.Words.{words_left}
use Rattle.script.proofs.Taking.{from_start, call_none, call_some}
use Rattle.script.proofs.command.read_call.Goals as goal

pub returns-in_default : goal.returns-in_default
returns-in_default g c =
    let start = from_start c.args.line.now c.new-words.result.line.now c.new-words.result.at c.new-words.ensures.0 c.new-words.ensures.1 in
    ap (λ f. Err f) c.unknown_letter.ensures ∙ sym (call_none g.K.ScriptKind.terms c.args.number c.args.line.now (sym start ∙ c.in_default.ensures.taken))

pub returns : goal.returns
returns g c =
    let start = from_start c.args.line.now c.new-words.result.line.now c.new-words.result.at c.new-words.ensures.0 c.new-words.ensures.1 in
    let left = words_left c.read_command.new.words.line.now c.read_command.new.words.at in
    let t = g.K.ScriptKind.terms in
    let n = c.args.number in
    let command = tell c.in-Some.command in
    let end : c.end.result ≡ ended n c.call_of.result left = c.end.ensures in
    let judged : ended n c.call_of.result left ≡ ended n (call_of_words t command) left = ap (λ r. ended n r left) c.call_of.ensures in
    end ∙ judged ∙ sym (call_some t n c.args.line.now command left (sym start ∙ c.in-Some.ensures.taken))
