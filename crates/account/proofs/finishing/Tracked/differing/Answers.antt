use Rattle.std.proofs.Common.{◌≡◌, ℕ, ◌+◌, ◌≤◌, cond, [], get_or, drop, sym, ap, ◌∙◌, add-zero, arith}
use Rattle.std.proofs.lemmas.List.{drop_all}
use Rattle.kind.proofs.Telling.{decided}
use Rattle.version_table.specs.Chains.{chains}
use Rattle.account.specs.Finishing.{points}
use Rattle.account.proofs.Points.{next}
use Rattle.account.proofs.finishing.Tracked.differing.Goals.{then-not-same, else-not-same}
use Rattle.account.proofs.finishing.Tracked.differing.Goals as goal

pub loop-time-preserved : goal.loop-time-preserved
loop-time-preserved g c =
    let k = g.K.Kind.ops in
    let vs = get_or (chains c.args.self.now.table) 0 [] in
    let l = c.loop-time in
    let here = c.row_at-here.result in
    let ts = c.args.times.now in
    let m = c.if-not-same.n in
    let b = c.same.result in
    let step : (m ≤ l.n + 1) × (m ≡ l.n + cond {A = ℕ} b 0 1) × (c.if-not-same.last ≡ here) =
    elim c.if-not-same.branch [
      | then-not-same w ↦ (omega (arith, w.n-is), w.n-is ∙ ap (λ v. l.n + cond {A = ℕ} v 0 1) (sym w.if-not-same.true), w.last-is)
      | else-not-same w ↦ (omega (arith, w.n-is), w.n-is ∙ sym (add-zero l.n) ∙ ap (λ v. l.n + cond {A = ℕ} v 0 1) (sym w.if-not-same.false), w.last-is)
    ] in (
      omega (arith, step.0, l.invariant.0),
      λ h.
          let sum = next k c.args.self.now.row vs l.last here ts l.time-index l.n m b c.loop-time-test.true (c.row_at-here.ensures h) (decided k b l.last here c.same.ensures) step.1 in
          ap (λ q. m + points k c.args.self.now.row vs q (drop (l.time-index + 1) ts)) step.2 ∙ sum ∙ l.invariant.1 h,
    )

pub returns : goal.returns
returns g c =
    let k = g.K.Kind.ops in
    let l = c.loop-time in
    let vs = get_or (chains c.args.self.now.table) 0 [] in
    let none = drop_all l.time-index c.args.times.now c.loop-time-test.false in
    λ h. sym (add-zero l.n) ∙ ap (λ ts. l.n + points k c.args.self.now.row vs l.last ts) (sym none) ∙ l.invariant.1 h
