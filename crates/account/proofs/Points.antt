-- One open time more.
use Rattle.std.proofs.Common.{◌≡◌, ℕ, suc, ◌+◌, ◌<◌, Bool, cond, List, length, get_or, drop, ap, ◌∙◌, add-one, arith, drop-cons}
use Rattle.kind.specs.Kinds.{Ops, same}
use Rattle.chain.specs.declared.version.Version.{Version}
use Rattle.chain.specs.Versions.{reads}
use Rattle.account.specs.Finishing.{points}

module _ {Row Edit Change : Type 0} (k : Ops Row Edit Change) (r : Row) (vs : List (Version Change)) where
  pub next : (last here : Row) (ts : List ℕ) (i n m : ℕ) (b : Bool) → i < length ts → here ≡ reads k r vs (get_or ts i 0) → b ≡ same k last here →
      m ≡ n + cond b 0 1 → m + points k r vs here (drop (i + 1) ts) ≡ n + points k r vs last (drop i ts)
  next last here ts i n m b h e s p =
      let there = reads k r vs (get_or ts i 0) in
      let cut : points k r vs last (drop i ts) ≡ cond {A = ℕ} (same k last there) 0 1 + points k r vs there (drop (suc i) ts) = ap (λ l. points k r vs last l) (drop-cons ts i 0 h) in
      let rest : points k r vs here (drop (i + 1) ts) ≡ points k r vs there (drop (suc i) ts) = (λ j. points k r vs (e j) (drop (add-one i j) ts)) in
      let told : cond {A = ℕ} b 0 1 ≡ cond {A = ℕ} (same k last there) 0 1 = ap (λ v. cond {A = ℕ} v 0 1) (s ∙ ap (λ q. same k last q) e) in
      omega arith
