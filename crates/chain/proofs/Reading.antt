-- What reading a list gives, and how many versions it undoes.
use Rattle.std.proofs.Common.{◌≡◌, ℕ, suc, ◌+◌, ◌<◌, ◌≤◌, Bool, true, false, cond, ltb, List, [], ◌∷◌, length, get_or, drop, sym, refl, ap, ◌∙◌, add-one, arith, drop-cons}
use Rattle.kind.specs.Kinds.{Ops, Laws}
use Rattle.chain.specs.declared.version.Version.{Version}
use Rattle.chain.specs.Versions.{AtMost, reads}
use Rattle.chain.proofs.Times.{ltb_yes, ltb_no, is_lt, is_ge}

-- how many versions reading at s undoes
abbrev pub undone : {Change : Type 0} → List (Version Change) → ℕ → ℕ
undone [] s = 0
undone (v ∷ vs) s = cond (ltb s v.time) 1 0 + undone vs s

pub atmost_mono : {Change : Type 0} (vs : List (Version Change)) (s u : ℕ) → s ≤ u → AtMost s vs → AtMost u vs
atmost_mono [] s u h a = tt
atmost_mono (v ∷ vs) s u h a = (omega arith, atmost_mono vs s u h a.1)

pub undone_le : {Change : Type 0} (vs : List (Version Change)) (s : ℕ) → undone vs s ≤ length vs
undone_le [] s = omega arith
undone_le (v ∷ vs) s = go (ltb s v.time) (undone_le vs s)
  where
    go : (b : Bool) → undone vs s ≤ length vs → cond b 1 0 + undone vs s ≤ length (v ∷ vs)
    go true ih = omega arith
    go false ih = omega arith

pub undone_mono : {Change : Type 0} (vs : List (Version Change)) (s u : ℕ) → s ≤ u → undone vs u ≤ undone vs s
undone_mono [] s u h = omega arith
undone_mono (v ∷ vs) s u h = go (ltb s v.time) (ltb u v.time) refl refl (undone_mono vs s u h)
  where
    go : (b d : Bool) → ltb s v.time ≡ b → ltb u v.time ≡ d → undone vs u ≤ undone vs s → cond d 1 0 + undone vs u ≤ cond b 1 0 + undone vs s
    go true true p q ih = omega arith
    go true false p q ih = omega arith
    go false true p q ih = let x : v.time ≤ s = is_ge s v.time p in let y : u < v.time = is_lt u v.time q in omega arith
    go false false p q ih = omega arith

module _ {Row Edit Change : Type 0} (k : Ops Row Edit Change) where
  -- reading above every time leaves the row
  pub reads_high : (vs : List (Version Change)) (r : Row) (s : ℕ) → AtMost s vs → reads k r vs s ≡ r
  reads_high [] r s a = refl
  reads_high (v ∷ vs) r s a =
      ap (λ b. reads k (cond b (k.undo r v.change) r) vs s) (ltb_no s v.time a.0) ∙ reads_high vs r s a.1

  -- a version above s is undone, and one at most s is not
  pub reads_below : (v : Version Change) (vs : List (Version Change)) (r : Row) (s : ℕ) → s < v.time → reads k r (v ∷ vs) s ≡ reads k (k.undo r v.change) vs s
  reads_below v vs r s h = ap (λ b. reads k (cond b (k.undo r v.change) r) vs s) (ltb_yes s v.time h)

  pub reads-past : (v : Version Change) (vs : List (Version Change)) (r : Row) (s : ℕ) → v.time ≤ s → reads k r (v ∷ vs) s ≡ reads k r vs s
  reads-past v vs r s h = ap (λ b. reads k (cond b (k.undo r v.change) r) vs s) (ltb_no s v.time h)

  pub reads_zero : (vs : List (Version Change)) (r : Row) (s : ℕ) → undone vs s ≡ 0 → reads k r vs s ≡ r
  reads_zero [] r s e = refl
  reads_zero (v ∷ vs) r s e = go (ltb s v.time) e (λ z. reads_zero vs r s z)
    where
      go : (b : Bool) → cond b 1 0 + undone vs s ≡ 0 → (undone vs s ≡ 0 → reads k r vs s ≡ r) → reads k (cond b (k.undo r v.change) r) vs s ≡ r
      go true e ih = let f : ⊥ = omega arith in absurd f
      go false e ih = ih (omega arith)

  pub reads_same : (vs : List (Version Change)) (r : Row) (s u : ℕ) → s ≤ u → undone vs s ≡ undone vs u → reads k r vs s ≡ reads k r vs u
  reads_same [] r s u h e = refl
  reads_same (v ∷ vs) r s u h e = go (ltb s v.time) (ltb u v.time) refl refl e (undone_mono vs s u h) (λ q z. reads_same vs q s u h z)
    where
      go : (b d : Bool) → ltb s v.time ≡ b → ltb u v.time ≡ d → cond b 1 0 + undone vs s ≡ cond d 1 0 + undone vs u → undone vs u ≤ undone vs s → ((q : Row) → undone vs s ≡ undone vs u → reads k q vs s ≡ reads k q vs u) → reads k (cond b (k.undo r v.change) r) vs s ≡ reads k (cond d (k.undo r v.change) r) vs u
      go true true p q e m ih = ih (k.undo r v.change) (omega arith)
      go true false p q e m ih = let f : ⊥ = omega arith in absurd f
      go false true p q e m ih =
          let x : v.time ≤ s = is_ge s v.time p in
          let y : u < v.time = is_lt u v.time q in
          let f : ⊥ = omega arith in
          absurd f
      go false false p q e m ih = ih r (omega arith)

  pub reads_alike : Laws k → (vs : List (Version Change)) (r q : Row) (s : ℕ) → k.tells r ≡ k.tells q → k.tells (reads k r vs s) ≡ k.tells (reads k q vs s)
  reads_alike laws [] r q s e = e
  reads_alike laws (v ∷ vs) r q s e = reads_alike laws vs _ _ s (go (ltb s v.time))
    where
      go : (b : Bool) → k.tells (cond b (k.undo r v.change) r) ≡ k.tells (cond b (k.undo q v.change) q)
      go true = laws.alike_undo r q v.change e
      go false = e

  -- one version more of a list that is read by its places
  pub reads_next : (xs : List (Version Change)) (i : ℕ) (x : Version Change) (r : Row) (s : ℕ) → i < length xs → x ≡ get_or xs i x → reads k r (drop i xs) s ≡ reads k r (x ∷ drop (i + 1) xs) s
  reads_next xs i x r s h e =
      let cut : drop i xs ≡ get_or xs i x ∷ drop (suc i) xs = drop-cons xs i x h in
      let here : get_or xs i x ∷ drop (suc i) xs ≡ x ∷ drop (i + 1) xs = ap (λ y. y ∷ drop (suc i) xs) (sym e) ∙ ap (λ n. x ∷ drop n xs) (sym (add-one i)) in
      ap (λ vs. reads k r vs s) (cut ∙ here)
