-- What the laws of a kind give of lists of changes.
use Rattle.std.proofs.Common.{◌≡◌, ℕ, ◌+◌, ◌<◌, List, [], ◌∷◌, ◌++◌, length, get_or, take, sym, refl, ap, ◌∙◌}
use Rattle.std.proofs.lemmas.List.{take_more}
use Rattle.kind.specs.Kinds.{Ops, Laws}
use Rattle.kind.specs.Undoing.{undo_all, join_all}

-- a fold from the front, one element more
folded_next : {S X : Type 0} (F : S → List X → S) → ((s : S) (xs ys : List X) → F s (xs ++ ys) ≡ F (F s xs) ys) →
    (s : S) (xs : List X) (i : ℕ) (x : X) → i < length xs → x ≡ get_or xs i x → F (F s (take i xs)) (x ∷ []) ≡ F s (take (i + 1) xs)
folded_next F splits s xs i x within read =
    let pushed : take (i + 1) xs ≡ take i xs ++ (x ∷ []) = take_more xs i x within ∙ ap (λ y. take i xs ++ (y ∷ [])) (sym read) in
    sym (ap (F s) pushed ∙ splits s (take i xs) (x ∷ []))

module _ {Row Edit Change : Type 0} (k : Ops Row Edit Change) where
  undo_append : (r : Row) (cs ds : List Change) → undo_all k r (cs ++ ds) ≡ undo_all k (undo_all k r cs) ds
  undo_append r [] ds = refl
  undo_append r (c ∷ cs) ds = undo_append (k.undo r c) cs ds

  join_append : (c : Change) (cs ds : List Change) → join_all k c (cs ++ ds) ≡ join_all k (join_all k c cs) ds
  join_append c [] ds = refl
  join_append c (d ∷ cs) ds = join_append (k.join c d) cs ds

  pub undo_next : (r : Row) (cs : List Change) (i : ℕ) (c : Change) → i < length cs → c ≡ get_or cs i c → k.undo (undo_all k r (take i cs)) c ≡ undo_all k r (take (i + 1) cs)
  undo_next r cs i c within read = folded_next (undo_all k) undo_append r cs i c within read

  pub join_next : (first : Change) (cs : List Change) (i : ℕ) (c : Change) → i < length cs → c ≡ get_or cs i c → k.join (join_all k first (take i cs)) c ≡ join_all k first (take (i + 1) cs)
  join_next first cs i c within read = folded_next (join_all k) join_append first cs i c within read

module _ {Row Edit Change : Type 0} {k : Ops Row Edit Change} (laws : Laws k) where
  all_alike : (r q : Row) (cs : List Change) → k.tells r ≡ k.tells q → k.tells (undo_all k r cs) ≡ k.tells (undo_all k q cs)
  all_alike r q [] h = h
  all_alike r q (c ∷ cs) h = all_alike (k.undo r c) (k.undo q c) cs (laws.alike_undo r q c h)

  join_undoes : (r : Row) (c : Change) (cs : List Change) → k.tells (k.undo r (join_all k c cs)) ≡ k.tells (undo_all k (k.undo r c) cs)
  join_undoes r c [] = refl
  join_undoes r c (d ∷ ds) = join_undoes r (k.join c d) ds ∙ all_alike (k.undo r (k.join c d)) (k.undo (k.undo r c) d) ds (laws.joined r c d)

  -- undoing all of them joined tells what undoing each in turn does
  pub joined_undoes : (r : Row) (cs : List Change) → k.tells (k.undo r (join_all k k.none cs)) ≡ k.tells (undo_all k r cs)
  joined_undoes r cs = join_undoes r k.none cs ∙ all_alike (k.undo r k.none) r cs (laws.idle r)
