-- One turn of pruning in place: the version at a place of the chain r leaves it, is joined into the next, or stays.
use Rattle.std.proofs.Common.{◌≡◌, ℕ, zero, suc, ◌+◌, ◌<◌, ◌≤◌, Bool, true, false, List, [], ◌∷◌, ◌++◌, length, get_or, take, drop, set, Some, None, Option, sym, refl, ap, ◌∙◌, append_assoc, add-one, arith}
use Rattle.std.specs.List.{slice_get}
use Rattle.std.proofs.lemmas.List.{get_or-set_same, length-set, length-drop, take_more, drop_all, set-set}
use Rattle.kind.specs.Kinds.{Ops, same}
use Rattle.chain.specs.declared.version.Version.{Version}
use Rattle.chain.specs.Pruning.{open_in, floor, absorb, join_versions, prune}
use Rattle.chain.proofs.Rule.{keep, idle, join}
use Rattle.links.proofs.Places.{row_in_range, slice_get_inside, slice_get-get_or, slice_get_end, slice_get_drop}
use Rattle.links.proofs.Ways.{set_again}
use Rattle.links.specs.declared.cursor.Cursor.{Cursor}
use Rattle.version_table.specs.declared.table.VersionTable.{VersionTable}
use Rattle.version_table.specs.Chains.{chains, chain, Sets}

module _ {X : Type 0} where
  pub slice_get-cons : (xs : List X) (k : ℕ) (x : X) → slice_get xs k ≡ Some x → drop k xs ≡ x ∷ drop (k + 1) xs
  slice_get-cons xs k x e = go xs k e ∙ ap (λ n. x ∷ drop n xs) (sym (add-one k))
    where
      go : (ys : List X) (j : ℕ) → slice_get ys j ≡ Some x → drop j ys ≡ x ∷ drop (suc j) ys
      go [] j f = let z : ◌≡◌ {A = ℕ} 0 1 = cc in let n : ⊥ = omega arith in absurd n
      go (y ∷ ys) zero f = let q : y ≡ x = cc in ap (λ z. z ∷ ys) q
      go (y ∷ ys) (suc j) f = go ys j f

  pub take_front : (xs ys : List X) (k : ℕ) → k ≤ length xs → take k (take k xs ++ ys) ≡ take k xs
  take_front xs ys zero h = refl
  take_front [] ys (suc k) h = let f : ⊥ = omega arith in absurd f
  take_front (x ∷ xs) ys (suc k) h = ap (λ zs. x ∷ zs) (take_front xs ys k (omega arith))

  pub drop_front : (xs ys : List X) (k : ℕ) → k ≤ length xs → drop k (take k xs ++ ys) ≡ ys
  drop_front xs ys zero h = refl
  drop_front [] ys (suc k) h = let f : ⊥ = omega arith in absurd f
  drop_front (x ∷ xs) ys (suc k) h = drop_front xs ys k (omega arith)

  -- a write to the next place, and then this place leaves
  pub next_written : (xs : List X) (k : ℕ) (x y : X) → slice_get xs (k + 1) ≡ Some y → take k (set xs (k + 1) x) ++ drop (k + 1) (set xs (k + 1) x) ≡ take k xs ++ (x ∷ drop (k + 1 + 1) xs)
  next_written xs k x y e =
      ap (λ n. take k (set xs n x) ++ drop n (set xs n x)) (add-one k) ∙ go xs k (ap (slice_get xs) (sym (add-one k)) ∙ e) ∙ ap (λ n. take k xs ++ (x ∷ drop n xs)) (ap suc (sym (add-one k)) ∙ sym (add-one (k + 1)))
    where
      go : (ys : List X) (j : ℕ) → slice_get ys (suc j) ≡ Some y → take j (set ys (suc j) x) ++ drop (suc j) (set ys (suc j) x) ≡ take j ys ++ (x ∷ drop (suc (suc j)) ys)
      go [] j f = let z : ◌≡◌ {A = ℕ} 0 1 = cc in let n : ⊥ = omega arith in absurd n
      go (z ∷ []) zero f = let q : ◌≡◌ {A = ℕ} 0 1 = cc in let n : ⊥ = omega arith in absurd n
      go (z ∷ w ∷ ys) zero f = refl
      go (z ∷ ys) (suc j) f = ap (λ zs. z ∷ zs) (go ys j f)

-- the version at a place, joined into the next one
module _ {Row Edit Change : Type 0} (k : Ops Row Edit Change) (C : List (Version Change)) (i : ℕ) (p : Version Change) where
  pub absorb_next : (v j : Version Change) → slice_get C (i + 1) ≡ Some v → j ≡ join_versions k p v → take i (set C (i + 1) j) ++ drop (i + 1) (set C (i + 1) j) ≡ take i C ++ absorb k p (drop (i + 1) C)
  absorb_next v j e q =
      next_written C i j v e ∙ ap (λ x. take i C ++ (x ∷ drop (i + 1 + 1) C)) q ∙ sym (ap (λ vs. take i C ++ absorb k p vs) (slice_get-cons C (i + 1) v e))

  pub absorb_last : slice_get C (i + 1) ≡ None → take i C ++ drop (i + 1) C ≡ take i C ++ absorb k p (drop (i + 1) C)
  absorb_last e = let d = drop_all (i + 1) C (slice_get_end C (i + 1) e) in ap (λ vs. take i C ++ vs) d ∙ sym (ap (λ vs. take i C ++ absorb k p vs) d)

-- the chain r of the tables before and after a place k of it has left, where the rest is X now; E are the chains at the beginning
pub record After {C : Type 0} (t T : VersionTable C) (E : List (List (Version C))) (r k : ℕ) (X : List (Version C)) : Type 0 where
  pub others : chains T ≡ set E r (chain T r)
  pub front : take k (chain T r) ≡ take k (chain t r)
  pub rest : drop k (chain T r) ≡ X

pub left : {C : Type 0} (t T : VersionTable C) (E : List (List (Version C))) (r k : ℕ) (X : List (Version C)) → k < length (chain t r) → chains t ≡ set E r (chain t r) → Sets t r (take k (chain t r) ++ X) T → After t T E r k X
left t T E r k X h ec et =
    let C = chain t r in
    let short : k ≤ length C = omega arith in
    let rows : r < length (chains t) = row_in_range (chains t) r k h in
    let wide : r < length E = omega (arith, ap length ec, length-set E r C) in
    let both = set_again E (chains t) (chains T) r (take k C ++ X) wide ec et.lists in
    record { others = both.0; front = ap (take k) both.1 ∙ take_front C X k short; rest = ap (drop k) both.1 ∙ drop_front C X k short }

-- a chain rewritten, and then a place of it cut out
pub cut_again : {V : Type 0} (cs cs1 cs2 : List (List V)) (r k : ℕ) (D Y : List V) → r < length cs → cs1 ≡ set cs r D → cs2 ≡ set cs1 r (take k (get_or cs1 r []) ++ drop (k + 1) (get_or cs1 r [])) → take k D ++ drop (k + 1) D ≡ Y → cs2 ≡ set cs r Y
cut_again cs cs1 cs2 r k D Y h e f q =
    let row : get_or cs1 r [] ≡ D = ap (λ z. get_or z r []) e ∙ get_or-set_same cs r D [] h in
    f ∙ ap (λ z. set cs1 r (take k z ++ drop (k + 1) z)) row ∙ ap (set cs1 r) q ∙ ap (λ z. set z r Y) e ∙ set-set cs r D Y

-- a version stands at the cursor
pub inside : {C : Type 0} (t : VersionTable C) (u : Cursor) (v : Version C) → Some v ≡ slice_get (chain t u.list) u.place → u.place < length (chain t u.list)
inside t u v e = slice_get_inside (chain t u.list) u.place v (sym e)

-- what is read at the next place
pub next_of : {C : Type 0} (t : VersionTable C) (u n : Cursor) (o : Option (Version C)) → n.list ≡ u.list → n.place ≡ u.place + 1 → o ≡ slice_get (chain t n.list) n.place → o ≡ slice_get (chain t u.list) (u.place + 1)
next_of t u n o l p e = e ∙ (λ j. slice_get (chain t (l j)) (p j))

-- the next version comes to stand at a place that leaves
pub moved_up : {X : Type 0} (C D : List X) (k : ℕ) → drop k D ≡ drop (k + 1) C → slice_get C (k + 1) ≡ slice_get D k
moved_up C D k e = sym (slice_get_drop C (k + 1)) ∙ (λ j. slice_get (sym e j) 0) ∙ slice_get_drop D k

-- one version less is still to come
pub fewer : {X : Type 0} (C D : List X) (k : ℕ) (R : List X) → k < length C → drop k D ≡ R → length R ≤ length (drop (k + 1) C) → length (drop k D) < length (drop k C)
fewer C D k R h e l = omega (arith, ap length e, length-drop k C, length-drop (k + 1) C)

-- the three ways of a turn at the version p, the i-th of the chain C; `older` is the next one
module _ {Row Edit Change : Type 0} (k : Ops Row Edit Change) (os : ℕ → ℕ) (C : List (Version Change)) (i : ℕ) (p : Version Change) (older : Option (Version Change)) (r : Row) (here : slice_get C i ≡ Some p) (next : older ≡ slice_get C (i + 1)) where
  gap : (b : Bool) → open_in os (floor older) p.time ≡ b → open_in os (floor (slice_get (drop (i + 1) C) 0)) p.time ≡ b
  gap b e = ap (λ o. open_in os (floor o) p.time) (slice_get_drop C (i + 1) ∙ sym next) ∙ e

  whole : (ys : List (Version Change)) → prune k os r (p ∷ drop (i + 1) C) ≡ ys → take i C ++ ys ≡ take i C ++ prune k os r (drop i C)
  whole ys e = sym (ap (λ vs. take i C ++ prune k os r vs) (slice_get-cons C i p here) ∙ ap (λ vs. take i C ++ vs) e)

  pub kept_turn : (back : Row) → open_in os (floor older) p.time ≡ true → back ≡ k.undo r p.change → same k r back ≡ false → take (i + 1) C ++ prune k os back (drop (i + 1) C) ≡ take i C ++ prune k os r (drop i C)
  kept_turn back g b s =
      ap (λ vs. vs ++ prune k os back (drop (i + 1) C)) (take_more C i p (slice_get_inside C i p here) ∙ ap (λ x. take i C ++ (x ∷ [])) (slice_get-get_or C i p p here))
      ∙ append_assoc (take i C) (p ∷ []) (prune k os back (drop (i + 1) C))
      ∙ whole (p ∷ prune k os back (drop (i + 1) C)) (keep k os r p (drop (i + 1) C) back (gap true g) b s)

  pub idle_turn : (back : Row) → open_in os (floor older) p.time ≡ true → back ≡ k.undo r p.change → same k r back ≡ true → take i C ++ prune k os r (drop (i + 1) C) ≡ take i C ++ prune k os r (drop i C)
  idle_turn back g b s = whole (prune k os r (drop (i + 1) C)) (idle k os r p (drop (i + 1) C) back (gap true g) b s)

  pub join_turn : open_in os (floor older) p.time ≡ false → take i C ++ prune k os r (absorb k p (drop (i + 1) C)) ≡ take i C ++ prune k os r (drop i C)
  join_turn g = whole (prune k os r (absorb k p (drop (i + 1) C))) (join k os r p (drop (i + 1) C) (gap false g))

pub absorb_short : {Row Edit Change : Type 0} (k : Ops Row Edit Change) (p : Version Change) (vs : List (Version Change)) → length (absorb k p vs) ≤ length vs
absorb_short k p [] = omega arith
absorb_short k p (v ∷ vs) = omega arith
