-- Lists that are right stay so where rows tell the same; a pruned list is no longer, and no newer.
use Rattle.std.proofs.Common.{◌≡◌, ℕ, suc, ◌≤◌, Bool, true, false, cond, List, [], ◌∷◌, length, sym, ◌∙◌, arith}
use Rattle.kind.specs.Kinds.{Ops, Laws, same}
use Rattle.chain.specs.declared.version.Version.{Version}
use Rattle.chain.specs.Versions.{Open, AtMost}
use Rattle.chain.specs.Pruning.{open_in, join_versions, prune_from, prune}
use Rattle.chain.specs.RecordLaw.{Right}
use Rattle.chain.proofs.Reading.{reads_alike}
use Rattle.chain.proofs.Tight.{prune_atmost}

module _ {Row Edit Change : Type 0} (k : Ops Row Edit Change) where
  -- from a row that tells the same
  pub right_row : Laws k → (os : ℕ → ℕ) (r q : Row) (full : ℕ → Row) (vs : List (Version Change)) → k.tells r ≡ k.tells q → Right k os r full vs → Right k os q full vs
  right_row laws os r q full vs e d =
      record {
        falls = d.falls;
        serves = λ s o. reads_alike k laws vs q r s (sym e) ∙ d.serves s o;
        least = λ other so. d.least other (λ s o. reads_alike k laws other r q s e ∙ so s o);
      }

  -- where at every open time the same is told
  pub right_full : (os : ℕ → ℕ) (r : Row) (full more : ℕ → Row) (vs : List (Version Change)) → ((s : ℕ) → Open os s → k.tells (full s) ≡ k.tells (more s)) → Right k os r full vs → Right k os r more vs
  right_full os r full more vs e d =
      record {
        falls = d.falls;
        serves = λ s o. d.serves s o ∙ e s o;
        least = λ other so. d.least other (λ s o. so s o ∙ sym (e s o));
      }

  pub pruned_atmost : (os : ℕ → ℕ) (vs : List (Version Change)) (r : Row) (u : ℕ) → AtMost u vs → AtMost u (prune k os r vs)
  pruned_atmost os [] r u a = tt
  pruned_atmost os (v ∷ vs) r u a = prune_atmost k os vs r v u a.0 a.1

  length_from : (os : ℕ → ℕ) (vs : List (Version Change)) (r : Row) (p : Version Change) → length (prune_from k os r p vs) ≤ suc (length vs)
  length_from os [] r p = go (open_in os 0 p.time) (same k r (k.undo r p.change))
    where
      go : (a b : Bool) → length (cond a (cond b [] (p ∷ [])) []) ≤ 1
      go true true = omega arith
      go true false = omega arith
      go false b = omega arith
  length_from os (v ∷ vs) r p =
      go (open_in os v.time p.time) (same k r (k.undo r p.change))
      (length_from os vs r v) (length_from os vs (k.undo r p.change) v) (length_from os vs r (join_versions k p v))
    where
      go : (a b : Bool) → length (prune_from k os r v vs) ≤ suc (length vs) → length (prune_from k os (k.undo r p.change) v vs) ≤ suc (length vs) → length (prune_from k os r (join_versions k p v) vs) ≤ suc (length vs) → length (cond a (cond b (prune_from k os r v vs) (p ∷ prune_from k os (k.undo r p.change) v vs)) (prune_from k os r (join_versions k p v) vs)) ≤ suc (suc (length vs))
      go true true x y z = omega arith
      go true false x y z = omega arith
      go false b x y z = omega arith

  pub prune_shorter : (os : ℕ → ℕ) (vs : List (Version Change)) (r : Row) → length (prune k os r vs) ≤ length vs
  prune_shorter os [] r = omega arith
  prune_shorter os (v ∷ vs) r = length_from os vs r v
