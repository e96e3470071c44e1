-- A list pruned in place: n versions kept at the front, p at hand, and those from place i on still to come.
use Rattle.std.proofs.Common.{◌≡◌, ℕ, suc, ◌+◌, ◌<◌, ◌≤◌, true, false, List, [], ◌∷◌, ◌++◌, length, get_or, take, drop, set, sym, ap, ◌∙◌, append_assoc, append-nil, add-one, arith, drop-cons, drop-set-lt}
use Rattle.std.proofs.lemmas.List.{take_more_set, drop_all, drop-drop}
use Rattle.kind.specs.Kinds.{Ops, same}
use Rattle.chain.specs.declared.version.Version.{Version}
use Rattle.chain.specs.Pruning.{open_in, join_versions, prune}
use Rattle.chain.proofs.Rule.{keep, idle, join}

module _ {Row Edit Change : Type 0} (k : Ops Row Edit Change) (os : ℕ → ℕ) where
  abbrev pub Rest : ℕ → ℕ → Row → Version Change → List (Version Change) → List (Version Change)
  Rest n i r p xs = take n xs ++ prune k os r (p ∷ drop i xs)

  module _ (xs : List (Version Change)) (n i : ℕ) (x p : Version Change) (r back : Row) (h : i < length xs) (front : n < i) (e : x ≡ get_or xs i x) where
    cut : drop i xs ≡ x ∷ drop (i + 1) xs
    cut = drop-cons xs i x h ∙ ap (λ y. y ∷ drop (suc i) xs) (sym e) ∙ ap (λ m. x ∷ drop m xs) (sym (add-one i))

    moved : (ys : List (Version Change)) → prune k os r (p ∷ x ∷ drop (i + 1) xs) ≡ ys → take n xs ++ ys ≡ Rest n i r p xs
    moved ys q = sym (ap (λ vs. take n xs ++ prune k os r (p ∷ vs)) cut ∙ ap (λ vs. take n xs ++ vs) q)

    pub keep_step : open_in os x.time p.time ≡ true → back ≡ k.undo r p.change → same k r back ≡ false → Rest (n + 1) (i + 1) back x (set xs n p) ≡ Rest n i r p xs
    keep_step o b s =
        let tail : List (Version Change) = prune k os back (x ∷ drop (i + 1) xs) in
        ap (λ vs. vs ++ prune k os back (x ∷ drop (i + 1) (set xs n p))) (take_more_set xs n p (omega arith))
        ∙ ap (λ vs. (take n xs ++ (p ∷ [])) ++ prune k os back (x ∷ vs)) (drop-set-lt (i + 1) xs n p (omega arith))
        ∙ append_assoc (take n xs) (p ∷ []) tail
        ∙ moved (p ∷ tail) (keep k os r p (x ∷ drop (i + 1) xs) back o b s)

    pub idle_step : open_in os x.time p.time ≡ true → back ≡ k.undo r p.change → same k r back ≡ true → Rest n (i + 1) r x xs ≡ Rest n i r p xs
    idle_step o b s = moved (prune k os r (x ∷ drop (i + 1) xs)) (idle k os r p (x ∷ drop (i + 1) xs) back o b s)

    pub join_step : open_in os x.time p.time ≡ false → Rest n (i + 1) r (join_versions k p x) xs ≡ Rest n i r p xs
    join_step o = moved (prune k os r (join_versions k p x ∷ drop (i + 1) xs)) (join k os r p (x ∷ drop (i + 1) xs) o)

  pub rest_cong : (i : ℕ) {n m : ℕ} {r q : Row} {p x : Version Change} {xs ys : List (Version Change)} → n ≡ m → r ≡ q → p ≡ x → xs ≡ ys → Rest n i r p xs ≡ Rest m i q x ys
  rest_cong i a b c d = λ j. Rest (a j) i (b j) (c j) (d j)

  -- the list's first version, before the loop
  pub first_step : (xs : List (Version Change)) (x : Version Change) (r : Row) → 0 < length xs → x ≡ get_or xs 0 x → Rest 0 1 r x xs ≡ prune k os r xs
  first_step [] x r h e = let f : ⊥ = omega arith in absurd f
  first_step (y ∷ xs) x r h e = ap (λ z. prune k os r (z ∷ xs)) e

  module _ (xs : List (Version Change)) (n i : ℕ) (p : Version Change) (r back : Row) (h : length xs ≤ i) where
    ended : (ys : List (Version Change)) → prune k os r (p ∷ []) ≡ ys → take n xs ++ ys ≡ Rest n i r p xs
    ended ys q = sym (ap (λ vs. take n xs ++ prune k os r (p ∷ vs)) (drop_all i xs h) ∙ ap (λ vs. take n xs ++ vs) q)

    pub end_keep : n < length xs → open_in os 0 p.time ≡ true → back ≡ k.undo r p.change → same k r back ≡ false → take (n + 1) (set xs n p) ≡ Rest n i r p xs
    end_keep l o b s = take_more_set xs n p l ∙ ended (p ∷ []) (keep k os r p [] back o b s)

    pub end_idle : open_in os 0 p.time ≡ true → back ≡ k.undo r p.change → same k r back ≡ true → take n xs ≡ Rest n i r p xs
    end_idle o b s = sym (append-nil (take n xs)) ∙ ended [] (idle k os r p [] back o b s)

    pub end_none : open_in os 0 p.time ≡ false → take n xs ≡ Rest n i r p xs
    end_none o = sym (append-nil (take n xs)) ∙ ended [] (join k os r p [] o)

-- what stands behind the kept versions is as it was
pub kept_more : {X : Type 0} (xs ys : List X) (n : ℕ) (p : X) → drop n xs ≡ drop n ys → drop (n + 1) (set xs n p) ≡ drop (n + 1) ys
kept_more xs ys n p e = drop-set-lt (n + 1) xs n p (omega arith) ∙ sym (drop-drop 1 n xs) ∙ ap (drop 1) e ∙ drop-drop 1 n ys
