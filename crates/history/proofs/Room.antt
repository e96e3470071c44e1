-- What each step costs in versions; what is needed is one number.
use Rattle.std.proofs.Common.{◌≡◌, ℕ, zero, suc, ◌+◌, ◌≤◌, Bool, true, false, cond, eqb, List, [], ◌∷◌, map, length, refl, ap, true≢false, arith}
use mathlib.Core.Bool.{false≢true}
use Rattle.kind.specs.Kinds.{Ops}
use Rattle.history.specs.History.{Hold, free, held, Record, at_or, change_at}
use Rattle.history.specs.Law.{is_held, Shortest, Needed, none_needed, more_needed}
use Rattle.history.specs.Model.{Stored, in_use, is_free, new_stored, new_model, finished_row, pruned, change_stored, finish_under, free_under}
use Rattle.history.proofs.Rights.{prune_shorter}

module _ {Row Edit Change : Type 0} (k : Ops Row Edit Change) where
  abbrev pub cost : Stored Row Change → ℕ
  cost x = length x.chain + is_held x.holder

  pub map_cost : (m : Stored Row Change → Stored Row Change) → ((x : Stored Row Change) → cost (m x) ≤ cost x) → (xs : List (Stored Row Change)) → in_use (map m xs) ≤ in_use xs
  map_cost m h [] = omega arith
  map_cost m h (x ∷ xs) = omega (arith, h x, map_cost m h xs)

  pub pruned_cost : (os : ℕ → ℕ) (x : Stored Row Change) → cost (pruned k os x) ≤ cost x
  pruned_cost os x = omega (arith, prune_shorter k os x.chain (finished_row k x))

  pub finish_cost : (w t : ℕ) (x : Stored Row Change) (h : Hold Change) → x.holder ≡ h → cost (finish_under k w t x h) ≤ cost x
  finish_cost w t x free e = omega arith
  finish_cost w t x (held v c) e = go (eqb w v) (ap is_held e)
    where
      go : (b : Bool) → is_held x.holder ≡ 1 → cost (cond b (record { place = x.place; holder = free; last = t; chain = record { time = t; change = c } ∷ x.chain }) x) ≤ cost x
      go true e = omega arith
      go false e = omega arith

  pub free_cost : (w : ℕ) (x : Stored Row Change) (h : Hold Change) → cost (free_under k w x h) ≤ cost x
  free_cost w x free = omega arith
  free_cost w x (held v c) = go (eqb w v)
    where
      go : (b : Bool) → cost (cond b (record { place = k.undo x.place c; holder = free; last = x.last; chain = x.chain }) x) ≤ cost x
      go true = omega arith
      go false = omega arith

  -- a change costs at most one version, and none where the record is held
  pub change_cost : (w : ℕ) (e : Edit) (xs : List (Stored Row Change)) (i : ℕ) → (is_free (at_or (new_stored k 0) xs i).holder ≡ true → in_use (change_at (change_stored k w e) xs i) ≤ suc (in_use xs)) × (is_free (at_or (new_stored k 0) xs i).holder ≡ false → in_use (change_at (change_stored k w e) xs i) ≤ in_use xs)
  change_cost w e [] i = ((λ _. omega arith), λ _. omega arith)
  change_cost w e (x ∷ xs) zero = go x.holder
    where
      go : (h : Hold Change) → let y : Stored Row Change = record { place = x.place; holder = h; last = x.last; chain = x.chain } in (is_free h ≡ true → in_use (change_stored k w e y ∷ xs) ≤ suc (in_use (y ∷ xs))) × (is_free h ≡ false → in_use (change_stored k w e y ∷ xs) ≤ in_use (y ∷ xs))
      go free = ((λ _. omega arith), λ f. absurd (true≢false f))
      go (held v c) = ((λ f. absurd (false≢true f)), λ _. omega arith)
  change_cost w e (x ∷ xs) (suc i) = let ih = change_cost w e xs i in ((λ f. omega (arith, ih.0 f)), λ f. omega (arith, ih.1 f))

  pub new_empty : (n v start : ℕ) → in_use (new_model k n v start).records ≡ 0
  new_empty zero v start = refl
  new_empty (suc n) v start = omega (arith, new_empty n v start)

  shortest_one : (os : ℕ → ℕ) (f : Record Row) (n m : ℕ) → Shortest k os f n → Shortest k os f m → n ≡ m
  shortest_one os f n m a b = omega (arith, a.2 b.0 b.1, b.2 a.0 a.1, a.3, b.3)

  pub needed_one : (os : ℕ → ℕ) (fs : List (Record Row)) (n m : ℕ) → Needed k os fs n → Needed k os fs m → n ≡ m
  needed_one os [] _ _ none_needed none_needed = refl
  needed_one os (f ∷ fs) _ _ (more_needed n x d) (more_needed m y e) = omega (arith, shortest_one os f n m x y, needed_one os fs _ _ d e)
