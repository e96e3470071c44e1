use Rattle.std.proofs.Common.{◌+◌, ◌++◌, length, string_bytes, ap, ◌∙◌, arith}
use Rattle.std.proofs.lemmas.Result.{IfOk-weaker}
use Rattle.history.specs.Model.{new_model}
use Rattle.store.specs.View.{view}
use Rattle.transcript.specs.Printing.{print_lines, left}
use Rattle.transcript.proofs.OneLine.{line_on, no_line, lines_more, lines_end}
use Rattle.transcript.proofs.lines.run_lines.Goals as goal

pub loop-line-smaller : goal.loop-line-smaller
loop-line-smaller g c =
    let next = line_on c.loop-line.reader c.next_line.new.self c.in-Some.line.now c.in-Some.ensures.lines in
    omega (arith, ap length next)

pub loop-line-preserved : goal.loop-line-preserved
loop-line-preserved g c =
    let r = c.loop-line.reader in
    let r' = c.next_line.new.self in
    let next = line_on r r' c.in-Some.line.now c.in-Some.ensures.lines in
    let counted = c.in-Some.ensures.counted in
    lines_more g.K.Kind.ops g.K.ScriptKind.terms g.R.Registry.capacity (r.line + 1)
    (view c.loop-line.store) (view c.run_line.new.store) (g.R.Registry.leases c.loop-line.registry) (g.R.Registry.leases c.run_line.new.registry)
    (string_bytes c.loop-line.out) (string_bytes c.run_line.new.out) _
    c.line-number.result (r'.line + 1) c.in-Some.line.now (left r) (left r')
    (c.line-number.ensures ∙ counted) (ap (λ x. x + 1) counted) next c.in_ok-run_line.ensures c.loop-line.invariant

pub returns : goal.returns
returns g c =
    let r = c.loop-line.reader in
    let new = c.in_ok-store.ensures in
    let none = c.empty-registry.ensures in
    let from = c.args.reader.now in
    let k = g.K.Kind.ops in
    let t = g.K.ScriptKind.terms in
    let n = g.R.Registry.capacity in
    IfOk-weaker c.write.result _ _
    (λ _ e. lines_end k t n (r.line + 1)
    (view c.loop-line.store) (view c.loop-line.store) (g.R.Registry.leases c.loop-line.registry) (g.R.Registry.leases c.loop-line.registry)
    (string_bytes c.loop-line.out) (string_bytes c.write.new.self) _
    (left r) c.in_use.result c.total.result (no_line r c.in_default.ensures.lines) c.in_use.ensures c.total.ensures e
    (c.loop-line.invariant
    ∙ ap (λ m. string_bytes c.args.out.now ++ print_lines k t n (from.line + 1) m (g.R.Registry.leases c.empty-registry.result) (left from)) new
    ∙ ap (λ ls. string_bytes c.args.out.now ++ print_lines k t n (from.line + 1) (new_model k c.args.sizes.records c.args.sizes.versions c.args.sizes.start) ls (left from)) none))
    c.write.ensures.bytes
