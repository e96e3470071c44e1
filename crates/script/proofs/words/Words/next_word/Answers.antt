use Rattle.std.proofs.Common.{◌<◌, length, refl, sym, ap, ◌∙◌, ⊎_elim, arith}
use Rattle.std.proofs.lemmas.List.{take_rest}
use Rattle.script.specs.Words.{first, rest}
use Rattle.script.proofs.Cuts.{past_words, word_step}
use Rattle.script.proofs.words.Words.next_word.Goals as goal

pub returns-in_default : goal.returns-in_default
returns-in_default c =
    let line = c.args.self.now.line.now in
    let a = c.args.self.now.at in
    let past : length line < a = ⊎_elim (λ h. h) (λ h. absurd (omega (arith, h))) c.in_default.ensures.lookup.0 in
    let none = past_words line a past in
    record { same = refl; word = sym (ap (first (length line)) none); left = none ∙ sym (ap rest none) }

pub returns : goal.returns
returns c =
    let line = c.args.self.now.line.now in
    let a = c.args.self.now.at in
    let part = c.in-Some.ensures.lookup.0 in
    let f = c.before-text.ensures in
    let s = word_step line c.in-Some.rest.now c.before-text.result.now a (part.2 ∙ take_rest line a) part.0 f.front f.lacks f.stops in
    record { same = refl; word = sym (ap (first (length line)) s); left = sym (ap rest s) }
