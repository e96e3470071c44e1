-- What the test of two rows tells, and that an answer which decides it is that test.
use Rattle.std.proofs.Common.{◌≡◌, ℕ, Bool, true, ◌&&◌, List, [], ◌∷◌, ◌==◌, Decides, nat_eq, refl, ap}
use Rattle.std.specs.Cmp.Lexicographic.{pointwise, bytes_decides}
use Rattle.std.proofs.lemmas.Bool.Decides.{same_from_decides}
use Rattle.kind.specs.Kinds.{Ops, equal, same}

equal_pointwise : (xs ys : List ℕ) → equal xs ys ≡ pointwise nat_eq xs ys
equal_pointwise [] [] = refl
equal_pointwise [] (y ∷ ys) = refl
equal_pointwise (x ∷ xs) [] = refl
equal_pointwise (x ∷ xs) (y ∷ ys) = ap (λ b. x == y && b) (equal_pointwise xs ys)

pub equal_decides : (xs ys : List ℕ) → Decides (equal xs ys) (xs ≡ ys)
equal_decides xs ys = rw (equal_pointwise xs ys) (bytes_decides xs ys)

module _ {Row Edit Change : Type 0} (k : Ops Row Edit Change) where
  pub same_yes : (r q : Row) → same k r q ≡ true → k.tells r ≡ k.tells q
  unfolding same
  same_yes r q = (equal_decides (k.tells r) (k.tells q)).0

  pub same_no : (r q : Row) → k.tells r ≡ k.tells q → same k r q ≡ true
  unfolding same
  same_no r q = (equal_decides (k.tells r) (k.tells q)).1

  pub decided : (b : Bool) (r q : Row) → Decides b (k.tells r ≡ k.tells q) → b ≡ same k r q
  decided b r q d = same_from_decides b (same k r q) d (same_yes r q, same_no r q)
