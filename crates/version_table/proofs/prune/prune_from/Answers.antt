use Rattle.std.proofs.Common.{◌≡◌, ℕ, ◌+◌, ◌++◌, length, take, drop, set, sym, ap, ◌∙◌, subst, append-nil, arith}
use Rattle.std.proofs.lemmas.List.{length-drop, drop_all, take_all}
use Rattle.lease.specs.Times.{opens}
use Rattle.kind.proofs.Telling.{decided}
use Rattle.chain.specs.Pruning.{absorb, prune}
use Rattle.chain.proofs.Times.{none_open}
use Rattle.chain.proofs.Rule.{nothing}
use Rattle.links.proofs.Places.{slice_get_end}
use Rattle.version_table.specs.Chains.{chains, chain, Sets}
use Rattle.version_table.proofs.Cursors.{inside_list}
use Rattle.version_table.proofs.Turns.{After, left, inside, next_of, moved_up, fewer, kept_turn, idle_turn, join_turn, absorb_short}
use Rattle.version_table.proofs.prune.prune_from.Given as given
use Rattle.version_table.proofs.prune.prune_from.Goals as goal

pub returns-in_default : goal.returns-in_default
returns-in_default g c =
    let k = g.K.Kind.ops in
    let ls = g.R.Registry.leases c.args.registry.now in
    let i = c.args.start.place in
    let C = chain c.args.table.now c.args.start.list in
    let none = nothing k (opens ls) (none_open ls c.in_default.ensures) (drop i C) c.args.row in
    record {
      room = c.drop_from.ensures.room;
      lists = c.drop_from.ensures.lists ∙ ap (set (chains c.args.table.now) c.args.start.list) (sym (ap (λ vs. take i C ++ vs) none ∙ append-nil (take i C)));
    }

pub step-next-requires-clause-inside : goal.step-next-requires-clause-inside
step-next-requires-clause-inside g c = inside_list c.loop-at.table c.loop-at.here.list c.loop-at.here.place (inside c.loop-at.table c.loop-at.here c.in-Some-at.hand (sym c.in-Some-at.is ∙ c.loop-at.invariant.5))

pub cut-requires-clause-inside : goal.cut-requires-clause-inside
cut-requires-clause-inside g c = inside c.loop-at.table c.loop-at.here c.in-Some-at.hand (sym c.in-Some-at.is ∙ c.loop-at.invariant.5)

pub join_down-requires-clause-inside : goal.join_down-requires-clause-inside
join_down-requires-clause-inside g c = inside c.loop-at.table c.loop-at.here c.in-Some-at.hand (sym c.in-Some-at.is ∙ c.loop-at.invariant.5)

-- the version at hand is joined into the next one
joined : (g : given.Over) (c : goal.After-look-at g) → After c.loop-at.table c.join_down.new.table (chains c.args.table.now) c.loop-at.here.list c.loop-at.here.place (absorb g.K.Kind.ops c.in-Some-at.hand (drop (c.loop-at.here.place + 1) (chain c.loop-at.table c.loop-at.here.list)))
joined g c = left _ _ _ _ _ _ (inside c.loop-at.table c.loop-at.here c.in-Some-at.hand (sym c.in-Some-at.is ∙ c.loop-at.invariant.5)) c.loop-at.invariant.3 c.join_down.ensures.joined

pub loop-at-smaller : goal.loop-at-smaller
loop-at-smaller g c =
    let u = c.loop-at.here in
    fewer (chain c.loop-at.table u.list) (chain c.join_down.new.table u.list) u.place _ (inside c.loop-at.table c.loop-at.here c.in-Some-at.hand (sym c.in-Some-at.is ∙ c.loop-at.invariant.5)) (joined g c).rest
    (absorb_short g.K.Kind.ops c.in-Some-at.hand (drop (u.place + 1) (chain c.loop-at.table u.list)))

pub loop-at-preserved : goal.loop-at-preserved
loop-at-preserved g c =
    let k = g.K.Kind.ops in
    let os = opens (g.R.Registry.leases c.args.registry.now) in
    let u = c.loop-at.here in
    let i = c.loop-at.invariant in
    let w = joined g c in
    let turn = join_turn k os (chain c.loop-at.table u.list) u.place c.in-Some-at.hand c.look-older.result c.loop-at.reached (sym (sym c.in-Some-at.is ∙ c.loop-at.invariant.5)) (next_of c.loop-at.table u c.step-next.result c.look-older.result c.step-next.ensures.list c.step-next.ensures.place c.look-older.ensures) (sym c.apart.ensures ∙ c.if-apart.false) in
    (i.0, c.join_down.ensures.stands, c.join_down.ensures.joined.room ∙ i.2, w.others, (λ j. w.front j ++ prune k os c.loop-at.reached (w.rest j)) ∙ turn ∙ i.4, c.look-at.ensures)

-- the version at hand changes nothing, and leaves
dropped : (g : given.Over) (c : goal.After-cut g) → After c.loop-at.table c.cut.new.self (chains c.args.table.now) c.loop-at.here.list c.loop-at.here.place (drop (c.loop-at.here.place + 1) (chain c.loop-at.table c.loop-at.here.list))
dropped g c = left _ _ _ _ _ _ (inside c.loop-at.table c.loop-at.here c.in-Some-at.hand (sym c.in-Some-at.is ∙ c.loop-at.invariant.5)) c.loop-at.invariant.3 c.cut.ensures.cut

pub loop-at-smaller-then-same : goal.loop-at-smaller-then-same
loop-at-smaller-then-same g c =
    let u = c.loop-at.here in
    fewer (chain c.loop-at.table u.list) (chain c.cut.new.self u.list) u.place _ (inside c.loop-at.table c.loop-at.here c.in-Some-at.hand (sym c.in-Some-at.is ∙ c.loop-at.invariant.5)) (dropped g c).rest (omega arith)

pub loop-at-preserved-then-same : goal.loop-at-preserved-then-same
loop-at-preserved-then-same g c =
    let k = g.K.Kind.ops in
    let os = opens (g.R.Registry.leases c.args.registry.now) in
    let u = c.loop-at.here in
    let i = c.loop-at.invariant in
    let r = c.loop-at.reached in
    let back = c.undo-back.result in
    let w = dropped g c in
    let older = next_of c.loop-at.table u c.step-next.result c.look-older.result c.step-next.ensures.list c.step-next.ensures.place c.look-older.ensures in
    let turn = idle_turn k os (chain c.loop-at.table u.list) u.place c.in-Some-at.hand c.look-older.result r (sym (sym c.in-Some-at.is ∙ c.loop-at.invariant.5)) older back (sym c.apart.ensures ∙ c.if-apart.true) c.undo-back.ensures (sym (decided k c.same.result r back c.same.ensures) ∙ c.if-same.true) in
    (i.0, c.cut.ensures.stands, c.cut.ensures.cut.room ∙ i.2, w.others, (λ j. w.front j ++ prune k os r (w.rest j)) ∙ turn ∙ i.4, older ∙ moved_up (chain c.loop-at.table u.list) (chain c.cut.new.self u.list) u.place w.rest)

pub loop-at-smaller-else-same : goal.loop-at-smaller-else-same
loop-at-smaller-else-same g c =
    let u = c.loop-at.here in
    let T = c.loop-at.table in
    let m = c.step-next.ensures in
    let e : length (drop c.step-next.result.place (chain T c.step-next.result.list)) ≡ length (drop (u.place + 1) (chain T u.list)) = λ j. length (drop (m.place j) (chain T (m.list j))) in
    omega (arith, e, inside T u c.in-Some-at.hand (sym c.in-Some-at.is ∙ c.loop-at.invariant.5), length-drop u.place (chain T u.list), length-drop (u.place + 1) (chain T u.list))

pub loop-at-preserved-else-same : goal.loop-at-preserved-else-same
loop-at-preserved-else-same g c =
    let k = g.K.Kind.ops in
    let os = opens (g.R.Registry.leases c.args.registry.now) in
    let u = c.loop-at.here in
    let i = c.loop-at.invariant in
    let m = c.step-next.ensures in
    let T = c.loop-at.table in
    let T₀ = c.args.table.now in
    let s = c.args.start in
    let r = c.loop-at.reached in
    let back = c.undo-back.result in
    let turn = kept_turn k os (chain T u.list) u.place c.in-Some-at.hand c.look-older.result r (sym (sym c.in-Some-at.is ∙ c.loop-at.invariant.5)) (next_of c.loop-at.table u c.step-next.result c.look-older.result c.step-next.ensures.list c.step-next.ensures.place c.look-older.ensures) back (sym c.apart.ensures ∙ c.if-apart.true) c.undo-back.ensures (sym (decided k c.same.result r back c.same.ensures) ∙ c.if-same.false) in
    let P : ℕ → ℕ → Type 0 = λ x y.
    (x ≡ s.list) × (chains T ≡ set (chains T₀) x (chain T x))
    × (take y (chain T x) ++ prune k os back (drop y (chain T x)) ≡ take s.place (chain T₀ x) ++ prune k os c.args.row (drop s.place (chain T₀ x))) in
    let w = subst (λ (x : ℕ). P x c.step-next.result.place) (sym m.list) (subst (λ (y : ℕ). P u.list y) (sym m.place) (i.0, i.3, turn ∙ i.4)) in
    (w.0, m.stands, i.2, w.1, w.2, c.look-older.ensures)

pub returns : goal.returns
returns g c =
    let k = g.K.Kind.ops in
    let os = opens (g.R.Registry.leases c.args.registry.now) in
    let u = c.loop-at.here in
    let s = c.args.start in
    let i = c.loop-at.invariant in
    let T₀ = c.args.table.now in
    let C = chain c.loop-at.table u.list in
    let h = slice_get_end C u.place (sym i.5 ∙ c.in_default-at.is) in
    let none : take u.place C ++ prune k os c.loop-at.reached (drop u.place C) ≡ C =
    ap (λ vs. take u.place C ++ prune k os c.loop-at.reached vs) (drop_all u.place C h) ∙ append-nil (take u.place C) ∙ take_all u.place C h in
    subst (λ (x : ℕ). Sets T₀ x (take s.place (chain T₀ x) ++ prune k os c.args.row (drop s.place (chain T₀ x))) c.loop-at.table) i.0
    (record { room = i.2; lists = i.3 ∙ ap (set (chains T₀) u.list) (sym none ∙ i.4) })
