-- Two edits are taken back by their changes.
use Rattle.std.proofs.Common.{◌≡◌, ap, ◌∙◌}
use Rattle.kind.specs.Kinds.{Ops, Laws}
use Rattle.account.specs.Moments.{Told}

module _ {Row Edit Change : Type 0} {k : Ops Row Edit Change} (laws : Laws k) where
  one_back : (r q : Row) (e : Edit) (c : Change) → q ≡ k.edited r e → c ≡ k.before r e → k.tells (k.undo q c) ≡ k.tells r
  one_back r q e c qs cs = let same : k.undo q c ≡ k.undo (k.edited r e) (k.before r e) = cc in ap k.tells same ∙ laws.undone r e

  pub both : (first second third : Row) (earlier later : Edit) (older newer joined : Change) →
      ◌≡◌ {A = Row × Change} (second, older) (k.edited first earlier, k.before first earlier) → ◌≡◌ {A = Row × Change} (third, newer) (k.edited second later, k.before second later) → joined ≡ k.join newer older →
      Told k first earlier later (record { second = second; third = third; older = older; newer = newer; joined = joined })
  both first second third earlier later older newer joined e f g =
      let s : second ≡ k.edited first earlier = ap (λ p. p.0) e in
      let o : older ≡ k.before first earlier = ap (λ p. p.1) e in
      let t : third ≡ k.edited second later = ap (λ p. p.0) f in
      let n : newer ≡ k.before second later = ap (λ p. p.1) f in
      let one = one_back second third later newer t n in
      let two : k.tells (k.undo (k.undo third newer) older) ≡ k.tells first =
      laws.alike_undo (k.undo third newer) second older one ∙ one_back first second earlier older s o in
      record {
        second = s;
        third = t;
        older = o;
        newer = n;
        joined = g;
        back_one = one;
        back_two = two;
        back_joined = ap (λ c. k.tells (k.undo third c)) g ∙ laws.joined third newer older ∙ two;
      }
