-- Arrays that `array::from_fn` makes.
use Rattle.std.proofs.Common.{◌≡◌, ℕ, zero, suc, ◌+◌, ◌<◌, ◌≤◌, List, get_or, subst, refl, ◌∙◌, arith}
use denote.Param.Members.{Mut, Called}
use Rattle.std.specs.Array.{IsFromFnResult, IsFromFnResultFrom}
use Rattle.kind.specs.Tables.{table}
use Rattle.kind.proofs.Tables.{is_table}

-- where each call gives F of its index and leaves the closure as it was, the array is the table of F
module _ {S : Type 0} (g : Mut S (ℕ × Unit {0}) ℕ) (f : S) (n : ℕ) (F : ℕ → ℕ) (call : (i y : ℕ) (q : S) → i < n → Called g f (i, tt) y q → (y ≡ F i) × (q ≡ f)) (ys : List ℕ) where
  made_from : (m i : ℕ) (q : S) → q ≡ f → i + m ≤ n → IsFromFnResultFrom g q ys i m → (k : ℕ) → k < m → get_or ys (i + k) 0 ≡ F (i + k)
  made_from zero i q same le made k below = absurd (let z : ⊥ = omega arith in z)
  made_from (suc m) i q same le made k below =
      let one = call i made.1 made.0 (omega arith) (subst (λ p. Called g p (i, tt) made.1 made.0) same made.3) in
      elim k as (λ k. k < suc m → get_or ys (i + k) 0 ≡ F (i + k)) [
        | zero ↦ λ b. let z : i + 0 ≡ i = omega arith in rw z (made.2.1 0 ∙ one.0)
        | suc k ↦ λ b. let z : i + suc k ≡ (i + 1) + k = omega arith in rw z (made_from m (i + 1) made.0 one.1 (omega arith) made.4 k (omega arith))
      ] below

  pub made_table : IsFromFnResult g f ys n → ys ≡ table n F
  made_table made = is_table n ys F made.long (λ k below. let z : 0 + k ≡ k = omega arith in rw z at (made_from n 0 f refl (omega arith) made.each k below))
