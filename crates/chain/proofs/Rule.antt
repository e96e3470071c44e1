-- One step of the pruning rule at the newest version of a list: keep it, drop it, or join it with the next.
use Rattle.std.proofs.Common.{◌≡◌, ℕ, Bool, true, false, cond, List, [], ◌∷◌, sym, refl, ap, ◌∙◌}
use Rattle.std.specs.List.{slice_get}
use Rattle.kind.specs.Kinds.{Ops, same}
use Rattle.chain.specs.declared.version.Version.{Version}
use Rattle.chain.specs.Pruning.{open_in, floor, absorb, join_versions, prune}
use Rattle.chain.proofs.Times.{shut_in}

module _ {Row Edit Change : Type 0} (k : Ops Row Edit Change) where
  module _ (os : ℕ → ℕ) where
    -- the three ways of one step, by the answers of its two tests
    ways : Bool → Bool → Row → Row → Version Change → List (Version Change) → List (Version Change)
    ways gap alike r back p vs = cond gap (cond alike (prune k os r vs) (p ∷ prune k os back vs)) (prune k os r (absorb k p vs))

    module _ (r : Row) (p : Version Change) where
      step : (vs : List (Version Change)) → prune k os r (p ∷ vs) ≡ ways (open_in os (floor (slice_get vs 0)) p.time) (same k r (k.undo r p.change)) r (k.undo r p.change) p vs
      unfolding ways
      step [] = refl
      step (v ∷ vs) = refl

      chosen : (vs : List (Version Change)) (back : Row) (gap alike : Bool) → open_in os (floor (slice_get vs 0)) p.time ≡ gap → back ≡ k.undo r p.change → same k r back ≡ alike → prune k os r (p ∷ vs) ≡ ways gap alike r back p vs
      chosen vs back gap alike g b s =
          step vs ∙ ap (λ x. ways x (same k r (k.undo r p.change)) r (k.undo r p.change) p vs) g ∙ ap (λ q. ways gap (same k r q) r q p vs) (sym b) ∙ ap (λ x. ways gap x r back p vs) s

      pub keep : (vs : List (Version Change)) (back : Row) → open_in os (floor (slice_get vs 0)) p.time ≡ true → back ≡ k.undo r p.change → same k r back ≡ false → prune k os r (p ∷ vs) ≡ p ∷ prune k os back vs
      unfolding ways
      keep vs back g b s = chosen vs back true false g b s

      pub idle : (vs : List (Version Change)) (back : Row) → open_in os (floor (slice_get vs 0)) p.time ≡ true → back ≡ k.undo r p.change → same k r back ≡ true → prune k os r (p ∷ vs) ≡ prune k os r vs
      unfolding ways
      idle vs back g b s = chosen vs back true true g b s

      pub join : (vs : List (Version Change)) → open_in os (floor (slice_get vs 0)) p.time ≡ false → prune k os r (p ∷ vs) ≡ prune k os r (absorb k p vs)
      unfolding ways
      join vs g = chosen vs (k.undo r p.change) false (same k r (k.undo r p.change)) g refl refl

    -- no time is open
    pub nothing : ((s : ℕ) → os s ≡ 0) → (vs : List (Version Change)) (r : Row) → prune k os r vs ≡ []
    nothing none [] r = refl
    nothing none (v ∷ vs) r = behind vs v
      where
        behind : (us : List (Version Change)) (p : Version Change) → prune k os r (p ∷ us) ≡ []
        behind [] p = join r p [] (shut_in os none 0 p.time)
        behind (u ∷ us) p = join r p (u ∷ us) (shut_in os none u.time p.time) ∙ behind us (join_versions k p u)
