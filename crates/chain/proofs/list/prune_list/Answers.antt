use Rattle.std.proofs.Common.{◌≡◌, ℕ, ◌+◌, ◌<◌, ◌≤◌, Bool, true, false, ltb, List, [], ◌∷◌, length, take, drop, set, Some, sym, refl, ap, ◌∙◌, arith, length-set}
use Rattle.std.proofs.lemmas.List.{length-take-le}
use Rattle.lease.specs.Times.{opens, least as lowest}
use Rattle.kind.proofs.Telling.{decided}
use Rattle.chain.specs.Pruning.{open_in, prune}
use Rattle.chain.proofs.Times.{gap_some, none_open, ltb_yes, ltb_no}
use Rattle.chain.proofs.Rule.{nothing}
use Rattle.chain.proofs.InPlace.{Rest, rest_cong, keep_step, idle_step, join_step, end_keep, end_idle, end_none, kept_more}
use Rattle.chain.proofs.Law.{record_law}
use Rattle.chain.proofs.list.prune_list.Goals.{then-open_between+then-not-same, then-open_between+else-not-same, else-open_between}
use Rattle.chain.proofs.list.prune_list.Goals as goal

-- the answer is the number of the kept versions
counted : {X : Type 0} (n : ℕ) (xs ys : List X) → n ≤ length xs → take n xs ≡ ys → n ≡ length ys
counted n xs ys h e = sym (length-take-le n xs h) ∙ ap length e

pub returns-in_default : goal.returns-in_default
returns-in_default g c =
    let k = g.K.Kind.ops in
    let ls = g.R.Registry.leases c.args.registry.now in
    let e = nothing k (opens ls) (none_open ls c.in_default.ensures) c.args.versions.now c.args.row in
    record { count = sym (ap length e); kept = sym e; rest = refl; law = record_law k g.K.Kind.laws }

pub returns-then-n-eq0 : goal.returns-then-n-eq0
returns-then-n-eq0 g c =
    let k = g.K.Kind.ops in
    let os = opens (g.R.Registry.leases c.args.registry.now) in
    let e = empty c.args.versions.now (omega (arith, c.if-n-eq0.true)) in
    let q : [] ≡ prune k os c.args.row c.args.versions.now = ap (prune k os c.args.row) (sym e) in
    record { count = ap length q; kept = q; rest = refl; law = record_law k g.K.Kind.laws }
  where
    empty : {X : Type 0} (xs : List X) → length xs ≡ 0 → xs ≡ []
    empty [] h = refl
    empty (x ∷ xs) h = let f : ⊥ = omega arith in absurd f

pub loop-i-preserved : goal.loop-i-preserved
loop-i-preserved g c =
    let k = g.K.Kind.ops in
    let os = opens (g.R.Registry.leases c.args.registry.now) in
    let xs = c.loop-i.versions in
    let n = c.loop-i.kept in
    let i = c.loop-i.i in
    let x = c.index-versions-i.result in
    let p = c.loop-i.hand in
    let r = c.loop-i.reached in
    let inside : i < length xs = omega (arith, c.loop-i.invariant, c.loop-i-test.true) in
    let new = c.if-open_between in
    let gap : open_in os x.time p.time ≡ c.open_between.result = sym c.open_between.ensures in
    let next : (new.kept < i + 1) × (length xs ≡ length new.versions) × (Rest k os new.kept (i + 1) new.reached new.hand new.versions ≡ Rest k os n i r p xs) × (drop new.kept new.versions ≡ drop new.kept c.args.versions.now) =
    elim c.if-open_between.branch [
      | then-open_between+then-not-same w ↦ (
        omega (arith, c.loop-i.invariant, w.kept-is),
        sym (ap length w.versions-is ∙ length-set xs n p),
        rest_cong k os (i + 1) w.kept-is w.reached-is w.hand-is w.versions-is
            ∙ keep_step k os xs n i x p r w.undo-back.result inside c.loop-i.invariant.0 c.index-versions-i.is (gap ∙ w.if-open_between.true) w.undo-back.ensures (sym (decided k w.same.result r w.undo-back.result w.same.ensures) ∙ w.if-not-same.true),
        (λ j. drop (w.kept-is j) (w.versions-is j)) ∙ kept_more xs c.args.versions.now n p c.loop-i.invariant.4 ∙ ap (λ m. drop m c.args.versions.now) (sym w.kept-is),
      )
      | then-open_between+else-not-same w ↦ (
        omega (arith, c.loop-i.invariant, w.kept-is),
        sym (ap length w.versions-is),
        rest_cong k os (i + 1) w.kept-is w.reached-is w.hand-is w.versions-is
            ∙ idle_step k os xs n i x p r w.undo-back.result inside c.loop-i.invariant.0 c.index-versions-i.is (gap ∙ w.if-open_between.true) w.undo-back.ensures (sym (decided k w.same.result r w.undo-back.result w.same.ensures) ∙ w.if-not-same.false),
        (λ j. drop (w.kept-is j) (w.versions-is j)) ∙ c.loop-i.invariant.4 ∙ ap (λ m. drop m c.args.versions.now) (sym w.kept-is),
      )
      | else-open_between w ↦ (
        omega (arith, c.loop-i.invariant, w.kept-is),
        sym (ap length w.versions-is),
        rest_cong k os (i + 1) w.kept-is w.reached-is (w.hand-is ∙ (λ j. record { time = p.time; change = w.join.ensures j })) w.versions-is
            ∙ join_step k os xs n i x p r r inside c.loop-i.invariant.0 c.index-versions-i.is (gap ∙ w.if-open_between.false),
        (λ j. drop (w.kept-is j) (w.versions-is j)) ∙ c.loop-i.invariant.4 ∙ ap (λ m. drop m c.args.versions.now) (sym w.kept-is),
      )
    ] in
    (next.0, omega (arith, c.loop-i-test.true), c.loop-i.invariant.2 ∙ next.1, next.2 ∙ c.loop-i.invariant.3, next.3)

-- the test of the last version against the least open time
last_gap : (ls : List ℕ) (least time : ℕ) (b : Bool) → Some least ≡ lowest 0 ls → ltb least time ≡ b → open_in (opens ls) 0 time ≡ b
last_gap ls least time b e t = sym (gap_some ls 0 time least e) ∙ t

pub returns-then-not-same-2 : goal.returns-then-not-same-2
returns-then-not-same-2 g c =
    let k = g.K.Kind.ops in
    let ls = g.R.Registry.leases c.args.registry.now in
    let xs = c.loop-i.versions in
    let n = c.loop-i.kept in
    let p = c.loop-i.hand in
    let r = c.loop-i.reached in
    let back = c.undo-back-then-least-hand.result in
    let inside : n < length xs = omega (arith, c.loop-i.invariant) in
    let gap = last_gap ls c.in-Some.least p.time true c.in-Some.ensures (ltb_yes c.in-Some.least p.time c.if-least-hand.true) in
    let alike = sym (decided k c.same-then-least-hand.result r back c.same-then-least-hand.ensures) ∙ c.if-not-same-2.true in
    let e = end_keep k (opens ls) xs n c.loop-i.i p r back (omega (arith, c.loop-i.invariant, c.loop-i-test.false)) inside gap c.undo-back-then-least-hand.ensures alike ∙ c.loop-i.invariant.3 in
    record {
      count = counted (n + 1) (set xs n p) _ (omega (arith, inside, length-set xs n p)) e;
      kept = e;
      rest = kept_more xs c.args.versions.now n p c.loop-i.invariant.4;
      law = record_law k g.K.Kind.laws;
    }

pub returns-else-not-same-2 : goal.returns-else-not-same-2
returns-else-not-same-2 g c =
    let k = g.K.Kind.ops in
    let ls = g.R.Registry.leases c.args.registry.now in
    let p = c.loop-i.hand in
    let r = c.loop-i.reached in
    let back = c.undo-back-then-least-hand.result in
    let gap = last_gap ls c.in-Some.least p.time true c.in-Some.ensures (ltb_yes c.in-Some.least p.time c.if-least-hand.true) in
    let alike = sym (decided k c.same-then-least-hand.result r back c.same-then-least-hand.ensures) ∙ c.if-not-same-2.false in
    let e = end_idle k (opens ls) c.loop-i.versions c.loop-i.kept c.loop-i.i p r back (omega (arith, c.loop-i.invariant, c.loop-i-test.false)) gap c.undo-back-then-least-hand.ensures alike ∙ c.loop-i.invariant.3 in
    record { count = counted c.loop-i.kept c.loop-i.versions _ (omega (arith, c.loop-i.invariant)) e; kept = e; rest = c.loop-i.invariant.4; law = record_law k g.K.Kind.laws }

pub returns-else-least-hand : goal.returns-else-least-hand
returns-else-least-hand g c =
    let k = g.K.Kind.ops in
    let ls = g.R.Registry.leases c.args.registry.now in
    let p = c.loop-i.hand in
    let r = c.loop-i.reached in
    let gap = last_gap ls c.in-Some.least p.time false c.in-Some.ensures (ltb_no c.in-Some.least p.time c.if-least-hand.false) in
    let e = end_none k (opens ls) c.loop-i.versions c.loop-i.kept c.loop-i.i p r r (omega (arith, c.loop-i.invariant, c.loop-i-test.false)) gap ∙ c.loop-i.invariant.3 in
    record { count = counted c.loop-i.kept c.loop-i.versions _ (omega (arith, c.loop-i.invariant)) e; kept = e; rest = c.loop-i.invariant.4; law = record_law k g.K.Kind.laws }
