use Rattle.std.proofs.lemmas.Result.{IfOk-weaker}
use Rattle.std.proofs.Common.{string_bytes}
use Rattle.transcript.proofs.Wholes.{from_first, never_none}
use Rattle.transcript.proofs.whole.transcript.Goals as goal

pub returns-in-Some : goal.returns-in-Some
returns-in-Some c =
    let r = c.new-reader.result in
    let e = c.new-reader.ensures in
    IfOk-weaker c.begin.result _ _
    (λ text begun. from_first c.args.script.now c.if-script-gt-LONGEST.false r.bytes.now r.at r.line e.0 e.1.0 e.1.1
    c.in-Some.first.now c.next_line.new.self (string_bytes text) c.in-Some.ensures.lines begun)
    c.begin.ensures

pub returns-in-None : goal.returns-in-None
returns-in-None c =
    let r = c.new-reader.result in
    let e = c.new-reader.ensures in
    never_none c.args.script.now c.if-script-gt-LONGEST.false r.bytes.now r.at r.line e.0 e.1.0 e.1.1 (string_bytes c.new.result) c.in-None.ensures.lines
