use Rattle.std.proofs.Common.{◌+◌, ◌<◌, ◌≤◌, length, get_or, drop, Some, sym, ap, ◌∙◌, ⊎_elim, arith}
use Rattle.std.proofs.lemmas.Bool.{eqb-false, eqb-true}
use Rattle.std.proofs.lemmas.List.{at_drop_more, at_drop_all}
use Rattle.script.specs.Words.{read_on, digits}
use Rattle.script.proofs.Cuts.{number_none, number_long, number_bad, number_over, number_good, digits_off}
use Rattle.script.proofs.number.number.Goals as goal

pub returns-then-is_empty : goal.returns-then-is_empty
returns-then-is_empty c =
    let xs = c.args.text.now in
    ⊎_elim (λ e. number_none xs (eqb-true (length xs) 0 (sym c.is_empty.ensures ∙ e))) (λ p. number_long xs (omega (arith, p.1))) c.then-is_empty.either

pub returns-then-not-is_ascii_digit : goal.returns-then-not-is_ascii_digit
returns-then-not-is_ascii_digit c =
    let xs = c.args.text.now in
    let i = c.loop-b.b-index in
    let e = sym c.loop-b.invariant.1 ∙ at_drop_more digits xs i 0 c.loop-b-test.true in
    number_bad xs (e ∙ digits_off (get_or xs i 0) (drop (i + 1) xs) c.if-not-is_ascii_digit.ensures.cases)

pub returns-in_err-checked_mul : goal.returns-in_err-checked_mul
returns-in_err-checked_mul c =
    let xs = c.args.text.now in
    let i = c.loop-b.b-index in
    c.from_residual.ensures
    ∙ number_over xs (drop (i + 1) xs) c.loop-b.n (get_or xs i 0) (sym (at_drop_more (read_on c.loop-b.n) xs i 0 c.loop-b-test.true) ∙ c.loop-b.invariant.0) (λ h. c.in_err-checked_mul.ensures (omega arith))

pub returns-in_err-n : goal.returns-in_err-n
returns-in_err-n c =
    let xs = c.args.text.now in
    let i = c.loop-b.b-index in
    let m = c.in_ok-checked_mul.ensures in
    c.from_residual-in_err-n.ensures
    ∙ number_over xs (drop (i + 1) xs) c.loop-b.n (get_or xs i 0) (sym (at_drop_more (read_on c.loop-b.n) xs i 0 c.loop-b-test.true) ∙ c.loop-b.invariant.0) (λ h. c.in_err-n.ensures (omega (arith, m.1)))

pub returns : goal.returns
returns c =
    let xs = c.args.text.now in
    let i = c.loop-b.b-index in
    let d = sym c.loop-b.invariant.1 ∙ at_drop_all digits xs i c.loop-b-test.false in
    let v = sym c.loop-b.invariant.0 ∙ at_drop_all (read_on c.loop-b.n) xs i c.loop-b-test.false in
    let full : 1 ≤ length xs = let z = eqb-false (length xs) 0 (sym c.if-is_empty.ensures) in omega arith in
    let small : read_on 0 xs < 18446744073709551616 = omega (arith, v, c.loop-b.invariant.2) in
    ap (λ m. Some m) (sym v) ∙ number_good xs full (omega arith) d small
