use Rattle.std.proofs.Common.{◌≡◌, ◌-◌, ◌≤◌, length, take, drop, arith}
use Rattle.std.proofs.lemmas.Bool.Decides.{nat_tests}
use Rattle.std.proofs.lemmas.List.{take_rest}
use Rattle.script.proofs.Cuts.{none_left, line_step}
use Rattle.script.proofs.reader.Reader.next_line.Goals as goal
use Rattle.script.proofs.reader.Reader.next_line.Goals.{else-self-via-then-self+else-self-gt0, else-self-via-else-self}

pub returns-then-self-gt0-clause-lines : goal.returns-then-self-gt0-clause-lines
returns-then-self-gt0-clause-lines c = none_left c.args.self.now.bytes.now c.args.self.now.at c.args.self.now.line (omega (arith, c.if-self.true)) c.if-self-gt0.true

pub returns-clause-lines : goal.returns-clause-lines
returns-clause-lines c =
    let bs = c.args.self.now.bytes.now in
    let a = c.args.self.now.at in
    let k = c.args.self.now.line in
    let room : a ≤ length bs = c.args.self.now.inside.0 in
    let fresh : length bs ≤ a → k ≡ 0 =
    elim c.else-self.branch [ else-self-via-then-self+else-self-gt0 w ↦ λ h. omega (arith, w.if-self-gt0.false) | else-self-via-else-self w ↦ λ h. absurd (omega (arith, w.if-self.false)) ] in
    let rest = take (length bs - a) (drop a bs) in
    let f = c.before-line.ensures in
    let text = c.before-line.result.now in
    let b = c.min-self.result in
    let e = c.min-self.ensures in
    line_step bs rest text a b k (take_rest bs a) room fresh f.front f.lacks f.stops (λ h. grind (arith, nat_tests)) (λ h. grind (arith, nat_tests))
