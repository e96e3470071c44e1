-- A kind of change: rows, edits of rows, and changes (before-images) that take edits back.
--     Ops           what the functions of a kind answer, as one record
--     k.tells r     the list of whole numbers that the row r tells; rows that tell the same count as the same row
--     Laws k        what every kind owes
--     equal xs ys   whether two lists of numbers are the same
--     same k r q    whether two rows tell the same
use Rattle.std.specs.Prelude.{◌≡◌, ℕ, Bool, true, false, ◌&&◌, List, [], ◌∷◌, ◌==◌}

pub record Ops (Row Edit Change : Type 0) : Type 0 where
  pub tells : Row → List ℕ
  -- the row of a new record
  pub blank : Row
  -- the row after an edit
  pub edited : Row → Edit → Row
  -- the before-image that an edit of a row leaves
  pub before : Row → Edit → Change
  -- the row behind a change
  pub undo : Row → Change → Row
  -- of a newer and an older change
  pub join : Change → Change → Change
  -- the change that alters nothing
  pub none : Change

pub record Laws {Row Edit Change : Type 0} (k : Ops Row Edit Change) : Type 0 where
  -- undoing an edit's change on the edited row tells the first row
  pub undone : (r : Row) (e : Edit) → k.tells (k.undo (k.edited r e) (k.before r e)) ≡ k.tells r
  -- undoing a join tells what undoing the newer and then the older does
  pub joined : (r : Row) (newer older : Change) → k.tells (k.undo r (k.join newer older)) ≡ k.tells (k.undo (k.undo r newer) older)
  -- rows that tell the same stay alike under one edit and under one undo
  pub alike_edit : (r q : Row) (e : Edit) → k.tells r ≡ k.tells q → k.tells (k.edited r e) ≡ k.tells (k.edited q e)
  pub alike_undo : (r q : Row) (c : Change) → k.tells r ≡ k.tells q → k.tells (k.undo r c) ≡ k.tells (k.undo q c)
  -- undoing the change that alters nothing tells the same row
  pub idle : (r : Row) → k.tells (k.undo r k.none) ≡ k.tells r

abbrev pub equal : List ℕ → List ℕ → Bool
equal [] [] = true
equal [] (y ∷ ys) = false
equal (x ∷ xs) [] = false
equal (x ∷ xs) (y ∷ ys) = x == y && equal xs ys

unfoldable pub same : {Row Edit Change : Type 0} → Ops Row Edit Change → Row → Row → Bool
same k r q = equal (k.tells r) (k.tells q)
