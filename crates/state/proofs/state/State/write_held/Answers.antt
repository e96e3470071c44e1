use Rattle.std.proofs.Common.{◌≡◌, ◌<◌, ◌≤◌, length, get_or, vec_items, sym, ap, ◌∙◌, arith, rules}
use Rattle.std.proofs.lemmas.List.{length-take-le, length-set}
use Rattle.state.proofs.Fresh.{view_held, number_held, turn_yes, turn_no, turn_fits, turns_end, behind_write}
use Rattle.state.proofs.state.State.write_held.Goals.{then-eq, else-eq}
use Rattle.state.proofs.state.State.write_held.Goals as goal

pub bounds-out-n : goal.bounds-out-n
bounds-out-n g c =
    let s = c.args.self.now in
    let rs = vec_items s.records in
    let w = c.args.w in
    let i = c.loop-i.i in
    let x = c.entry-item.result in
    let inv = c.loop-i.invariant in
    let same = c.deref-entry-items.ensures.value in
    turn_fits w i c.loop-i.n rs x c.loop-i.out (omega (arith, c.loop-i-test.true, ap length same)) (c.entry-item.is ∙ ap (λ l. get_or l i x) same) inv.front
    (sym c.eq.ensures ∙ c.if-eq.true) inv.fits (omega (arith, number_held w s, c.requires, c.loop-i.auto.out))

pub offset_bounds-out-n : goal.offset_bounds-out-n
offset_bounds-out-n g c = let l : c.loop-i.n < length c.loop-i.out = bounds-out-n g c in search rules

pub overflow_add-n : goal.overflow_add-n
overflow_add-n g c = let l : c.loop-i.n < length c.loop-i.out = bounds-out-n g c in search rules

pub loop-i-preserved : goal.loop-i-preserved
loop-i-preserved g c =
    let s = c.args.self.now in
    let rs = vec_items s.records in
    let w = c.args.w in
    let i = c.loop-i.i in
    let n = c.loop-i.n in
    let out = c.loop-i.out in
    let x = c.entry-item.result in
    let inv = c.loop-i.invariant in
    let same = c.deref-entry-items.ensures.value in
    let h : i < length rs = omega (arith, c.loop-i-test.true, ap length same) in
    let e : x ≡ get_or rs i x = c.entry-item.is ∙ ap (λ l. get_or l i x) same in
    elim c.if-eq.branch [
      | then-eq u ↦
          let q = sym c.eq.ensures ∙ u.if-eq.true in
          let l = turn_fits w i n rs x out h e inv.front q inv.fits (omega (arith, number_held w s, c.requires, c.loop-i.auto.out)) in
          rw (u.n-is, u.out-is) (record { fits = omega (arith, l, length-set out n i); front = turn_yes w i n rs x out h e inv.front q l; rest = behind_write n i out c.args.out.now inv.rest })
      | else-eq u ↦ rw (u.n-is, u.out-is) (record { fits = inv.fits; front = turn_no w i n rs x out h e inv.front (sym c.eq.ensures ∙ u.if-eq.false); rest = inv.rest })
    ]

pub returns : goal.returns
returns g c =
    let s = c.args.self.now in
    let rs = vec_items s.records in
    let w = c.args.w in
    let inv = c.loop-i.invariant in
    let done : length rs ≤ c.loop-i.i = omega (arith, c.loop-i-test.false, ap length c.deref-entry-items.ensures.value) in
    let all = turns_end w c.loop-i.i c.loop-i.n rs c.loop-i.out done inv.front in
    record {
      number = sym (length-take-le c.loop-i.n c.loop-i.out inv.fits) ∙ ap length all ∙ number_held w s;
      front = all ∙ sym (view_held w s);
      rest = inv.rest;
    }
