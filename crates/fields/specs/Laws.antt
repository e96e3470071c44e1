-- Fields keep the laws of a kind: each at one attribute, then at all eight.
use Rattle.std.specs.Prelude.{◌≡◌, ℕ, Bool, true, false, cond, ◌||◌, List, bit_or, slice_index, refl}
use Rattle.std.proofs.Common.{ap, ◌∙◌}
use Rattle.kind.specs.Kinds.{Laws}
use Rattle.kind.proofs.Tables.{tables_alike, tables_paired}
use Rattle.fields.specs.Masks.{has}
use Rattle.fields.specs.Fields.{fields_ops}
use Rattle.fields.specs.Bits.{has_or}

undone_at : (b : Bool) (x y : ℕ) → cond b (cond b x 0) (cond b y x) ≡ x
undone_at true x y = refl
undone_at false x y = refl

joined_at : (n o : Bool) (x p q : ℕ) → cond (n || o) (cond o q (cond n p 0)) x ≡ cond o q (cond n p x)
joined_at true true x p q = refl
joined_at true false x p q = refl
joined_at false true x p q = refl
joined_at false false x p q = refl

abbrev at : List ℕ → ℕ → ℕ
at xs i = slice_index xs i

pub fields_laws : Laws fields_ops
fields_laws = record {
  undone = λ r e. tables_alike 0 8
      (λ i. cond (has e.mask i) (cond (has e.mask i) (at r.values i) 0) (cond (has e.mask i) (at e.values i) (at r.values i)))
      (at r.values)
      (λ i. undone_at (has e.mask i) (at r.values i) (at e.values i));
  joined = λ r n o. tables_alike 0 8
      (λ i. cond (has (bit_or n.mask o.mask) i) (cond (has o.mask i) (at o.values i) (cond (has n.mask i) (at n.values i) 0)) (at r.values i))
      (λ i. cond (has o.mask i) (at o.values i) (cond (has n.mask i) (at n.values i) (at r.values i)))
      (λ i. ap (λ b. cond b (cond (has o.mask i) (at o.values i) (cond (has n.mask i) (at n.values i) 0)) (at r.values i)) (has_or n.mask o.mask i)
      ∙ joined_at (has n.mask i) (has o.mask i) (at r.values i) (at n.values i) (at o.values i));
  alike_edit = λ r q e h. tables_paired 0 8 (at r.values) (at q.values)
      (λ i. cond (has e.mask i) (at e.values i) (at r.values i)) (λ i. cond (has e.mask i) (at e.values i) (at q.values i))
      (λ i. ap (cond (has e.mask i) (at e.values i))) h;
  alike_undo = λ r q c h. tables_paired 0 8 (at r.values) (at q.values)
      (λ i. cond (has c.mask i) (at c.values i) (at r.values i)) (λ i. cond (has c.mask i) (at c.values i) (at q.values i))
      (λ i. ap (cond (has c.mask i) (at c.values i))) h;
  idle = λ r. refl;
}
