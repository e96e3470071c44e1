-- A before-image put in front of the chain 0, which is then pruned.
use Rattle.std.proofs.Common.{◌≡◌, ℕ, Bool, true, false, ◌&&◌, ltb, List, [], ◌∷◌, length, get_or, set, ap, ◌∙◌, arith}
use Rattle.kind.specs.Kinds.{Ops}
use Rattle.chain.specs.declared.version.Version.{Version}
use Rattle.chain.specs.Pruning.{prune}
use Rattle.account.specs.Finishing.{finished}

module _ {Row Edit Change : Type 0} (k : Ops Row Edit Change) (os : ℕ → ℕ) where
  pub in_front : (r q : Row) (e : Edit) (t : ℕ) (c : Change) (room : Bool) (cs pushed last : List (List (Version Change))) →
      ◌≡◌ {A = Row × Change} (q, c) (k.edited r e, k.before r e) → true ≡ (ltb 0 (length cs) && room) →
      pushed ≡ set cs 0 (record { time = t; change = c } ∷ get_or cs 0 []) → last ≡ set pushed 0 (prune k os q (get_or pushed 0 [])) →
      last ≡ set cs 0 (finished k os r e t (get_or cs 0 []))
  in_front r q e t c room [] pushed last b h p l = let z : ◌≡◌ {A = Bool} true false = h in let n : ◌≡◌ {A = ℕ} 0 1 = cc in let f : ⊥ = omega arith in absurd f
  in_front r q e t c room (x ∷ cs) pushed last b h p l =
      l ∙ (λ j. set (p j) 0 (prune k os (b j).0 (get_or (p j) 0 []))) ∙ ap (λ d. prune k os (k.edited r e) (record { time = t; change = d } ∷ x) ∷ cs) (ap (λ y. y.1) b)
