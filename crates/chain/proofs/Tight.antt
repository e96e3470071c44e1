-- A chain that is tight is least; pruning makes a chain tight, and keeps what it reads.
use Rattle.std.proofs.Common.{◌≡◌, ℕ, ◌+◌, ◌<◌, ◌≤◌, Bool, true, false, cond, List, [], ◌∷◌, length, sym, refl, ap, ◌∙◌, true≢false, arith}
use native.Mathlib.Decide.{dec_lt}
use Rattle.kind.specs.Kinds.{Ops, Laws, same}
use Rattle.chain.specs.declared.version.Version.{Version}
use Rattle.chain.specs.Versions.{Open, AtMost, Falling, reads, Serves, Least}
use Rattle.chain.specs.Pruning.{open_in, join_versions, prune_from}
use Rattle.kind.proofs.Telling.{same_yes, same_no}
use Rattle.chain.proofs.Times.{open_some, open_none}
use Rattle.chain.proofs.Reading.{undone, undone_le, undone_mono, atmost_mono, reads_high, reads_below, reads-past, reads_zero, reads_same, reads_alike}

module _ {Row Edit Change : Type 0} (k : Ops Row Edit Change) where
  -- below each version, and not below the next, a time is open; and each version's undoing tells
  abbrev pub Tight : (ℕ → ℕ) → Row → List (Version Change) → Type 0
  Tight os r [] = Unit {0}
  Tight os r (v ∷ vs) =
      (s : ℕ) × Open os s × (s < v.time) × AtMost s vs × (k.tells r ≡ k.tells (k.undo r v.change) → ⊥) × Tight os (k.undo r v.change) vs

  module _ (os : ℕ → ℕ) (first : Row) (other : List (Version Change)) where
    -- u is the open time reached, where `other` reads as r
    tight_from : (vs : List (Version Change)) (r : Row) (u : ℕ) → Tight os r vs → AtMost u vs → k.tells (reads k first other u) ≡ k.tells r → ((s : ℕ) → Open os s → s ≤ u → k.tells (reads k first other s) ≡ k.tells (reads k r vs s)) → undone other u + length vs ≤ length other
    tight_from [] r u t a e alike = let h = undone_le other u in omega arith
    tight_from (v ∷ vs) r u t a e alike =
        let s : ℕ = t.0 in
        let su : s ≤ u = omega (arith, t.2, a.0) in
        let reach : k.tells (reads k first other s) ≡ k.tells (k.undo r v.change) =
        alike s t.1 su ∙ ap k.tells (reads_below k v vs r s t.2 ∙ reads_high k vs (k.undo r v.change) s t.3) in
        let more : undone other u < undone other s = grows s su reach t.4 e in
        let rest : undone other s + length vs ≤ length other =
        tight_from vs (k.undo r v.change) s t.5 t.3 reach
        (λ w o h. alike w o (omega arith) ∙ ap k.tells (reads_below k v vs r w (omega (arith, t.2)))) in
        omega arith
      where
        grows : (s : ℕ) → s ≤ u → k.tells (reads k first other s) ≡ k.tells (k.undo r v.change) → (k.tells r ≡ k.tells (k.undo r v.change) → ⊥) → k.tells (reads k first other u) ≡ k.tells r → undone other u < undone other s
        grows s su reach differs e = go (dec_lt (undone other u) (undone other s))
          where
            go : Dec (undone other u < undone other s) → undone other u < undone other s
            go (yes h) = h
            go (no n) =
                let m = undone_mono other s u su in
                let q : undone other s ≡ undone other u = omega arith in
                absurd (differs (sym e ∙ sym (ap k.tells (reads_same k other first s u su q)) ∙ reach))

  pub tight_least : (os : ℕ → ℕ) (r : Row) (full : ℕ → Row) (vs : List (Version Change)) → Tight os r vs → Serves k os r full vs → Least k os r full vs
  tight_least os r full [] t sv other so = omega arith
  tight_least os r full (v ∷ vs) t sv other so =
      let s : ℕ = t.0 in
      let here : reads k r (v ∷ vs) s ≡ k.undo r v.change = reads_below k v vs r s t.2 ∙ reads_high k vs (k.undo r v.change) s t.3 in
      let reach : k.tells (reads k r other s) ≡ k.tells (k.undo r v.change) = so s t.1 ∙ sym (sv s t.1) ∙ ap k.tells here in
      let some : 0 < undone other s = grows s reach t.4 in
      let rest : undone other s + length vs ≤ length other =
      tight_from os r other vs (k.undo r v.change) s t.5 t.3 reach
      (λ w o h. so w o ∙ sym (sv w o) ∙ ap k.tells (reads_below k v vs r w (omega (arith, t.2)))) in
      omega arith
    where
      grows : (s : ℕ) → k.tells (reads k r other s) ≡ k.tells (k.undo r v.change) → (k.tells r ≡ k.tells (k.undo r v.change) → ⊥) → 0 < undone other s
      grows s reach differs = go (dec_lt 0 (undone other s))
        where
          go : Dec (0 < undone other s) → 0 < undone other s
          go (yes h) = h
          go (no n) =
              let q : undone other s ≡ 0 = omega arith in
              absurd (differs (sym (ap k.tells (reads_zero k other r s q)) ∙ reach))

  -- a pruned chain's times are at most the first one's
  pub prune_atmost : (os : ℕ → ℕ) (vs : List (Version Change)) (r : Row) (p : Version Change) (u : ℕ) → p.time ≤ u → AtMost u vs → AtMost u (prune_from k os r p vs)
  prune_atmost os [] r p u h a = go (open_in os 0 p.time) (same k r (k.undo r p.change))
    where
      go : (b d : Bool) → AtMost u (cond b (cond d [] (p ∷ [])) [])
      go true true = tt
      go true false = (h, tt)
      go false true = tt
      go false false = tt
  prune_atmost os (v ∷ vs) r p u h a =
      go (open_in os v.time p.time) (same k r (k.undo r p.change))
      (prune_atmost os vs r v u a.0 a.1)
      (prune_atmost os vs (k.undo r p.change) v u a.0 a.1)
      (prune_atmost os vs r (join_versions k p v) u h a.1)
    where
      go : (b d : Bool) → AtMost u (prune_from k os r v vs) → AtMost u (prune_from k os (k.undo r p.change) v vs) → AtMost u (prune_from k os r (join_versions k p v) vs) → AtMost u (cond b (cond d (prune_from k os r v vs) (p ∷ prune_from k os (k.undo r p.change) v vs)) (prune_from k os r (join_versions k p v) vs))
      go true true x y z = x
      go true false x y z = (h, y)
      go false true x y z = z
      go false false x y z = z

  module _ (laws : Laws k) (os : ℕ → ℕ) where
    pub prune_tight : (vs : List (Version Change)) (r : Row) (p : Version Change) → AtMost p.time vs → Falling vs → Tight os r (prune_from k os r p vs)
    prune_tight [] r p a f = go (open_in os 0 p.time) (same k r (k.undo r p.change)) refl refl
      where
        go : (b d : Bool) → open_in os 0 p.time ≡ b → same k r (k.undo r p.change) ≡ d → Tight os r (cond b (cond d [] (p ∷ [])) [])
        go true true x y = tt
        go true false x y = let w = open_some os 0 p.time x in (w.0, w.1, w.3, tt, (λ e. true≢false (sym (same_no k r (k.undo r p.change) e) ∙ y)), tt)
        go false true x y = tt
        go false false x y = tt
    prune_tight (v ∷ vs) r p a f =
        go (open_in os v.time p.time) (same k r (k.undo r p.change)) refl refl
        (prune_tight vs r v f.0 f.1)
        (prune_tight vs (k.undo r p.change) v f.0 f.1)
        (prune_tight vs r (join_versions k p v) a.1 f.1)
      where
        go : (b d : Bool) → open_in os v.time p.time ≡ b → same k r (k.undo r p.change) ≡ d → Tight os r (prune_from k os r v vs) → Tight os (k.undo r p.change) (prune_from k os (k.undo r p.change) v vs) → Tight os r (prune_from k os r (join_versions k p v) vs) → Tight os r (cond b (cond d (prune_from k os r v vs) (p ∷ prune_from k os (k.undo r p.change) v vs)) (prune_from k os r (join_versions k p v) vs))
        go true true x y i j m = i
        go true false x y i j m =
            let w = open_some os v.time p.time x in
            (w.0, w.1, w.3, prune_atmost os vs (k.undo r p.change) v w.0 w.2 (atmost_mono vs v.time w.0 w.2 f.0), (λ e. true≢false (sym (same_no k r (k.undo r p.change) e) ∙ y)), j)
        go false true x y i j m = m
        go false false x y i j m = m

    pub prune-reads : (vs : List (Version Change)) (r : Row) (p : Version Change) (s : ℕ) → AtMost p.time vs → Falling vs → Open os s → k.tells (reads k r (prune_from k os r p vs) s) ≡ k.tells (reads k r (p ∷ vs) s)
    prune-reads [] r p s a f o = go (open_in os 0 p.time) (same k r (k.undo r p.change)) refl refl (dec_lt s p.time)
      where
        go : (b d : Bool) → open_in os 0 p.time ≡ b → same k r (k.undo r p.change) ≡ d → Dec (s < p.time) → k.tells (reads k r (cond b (cond d [] (p ∷ [])) []) s) ≡ k.tells (reads k r (p ∷ []) s)
        go true true x y (yes h) = same_yes k r (k.undo r p.change) y ∙ sym (ap k.tells (reads_below k p [] r s h))
        go true true x y (no n) = sym (ap k.tells (reads-past k p [] r s (omega arith)))
        go true false x y w = refl
        go false d x y (yes h) = absurd (open_none os 0 p.time x s o (omega arith) h)
        go false d x y (no n) = sym (ap k.tells (reads-past k p [] r s (omega arith)))
    prune-reads (v ∷ vs) r p s a f o =
        go (open_in os v.time p.time) (same k r (k.undo r p.change)) refl refl (dec_lt s p.time)
        (prune-reads vs r v s f.0 f.1 o)
        (prune-reads vs (k.undo r p.change) v s f.0 f.1 o)
        (prune-reads vs r (join_versions k p v) s a.1 f.1 o)
      where
        c : Row
        c = k.undo r p.change

        go : (b d : Bool) → open_in os v.time p.time ≡ b → same k r (k.undo r p.change) ≡ d → Dec (s < p.time) → k.tells (reads k r (prune_from k os r v vs) s) ≡ k.tells (reads k r (v ∷ vs) s) → k.tells (reads k (k.undo r p.change) (prune_from k os (k.undo r p.change) v vs) s) ≡ k.tells (reads k (k.undo r p.change) (v ∷ vs) s) → k.tells (reads k r (prune_from k os r (join_versions k p v) vs) s) ≡ k.tells (reads k r (join_versions k p v ∷ vs) s) → k.tells (reads k r (cond b (cond d (prune_from k os r v vs) (p ∷ prune_from k os (k.undo r p.change) v vs)) (prune_from k os r (join_versions k p v) vs)) s) ≡ k.tells (reads k r (p ∷ v ∷ vs) s)
        go true true x y (yes h) i j m = i ∙ reads_alike k laws (v ∷ vs) r (k.undo r p.change) s (same_yes k r (k.undo r p.change) y) ∙ sym (ap k.tells (reads_below k p (v ∷ vs) r s h))
        go true true x y (no n) i j m = i ∙ sym (ap k.tells (reads-past k p (v ∷ vs) r s (omega arith)))
        go true false x y (yes h) i j m = ap k.tells (reads_below k p (prune_from k os (k.undo r p.change) v vs) r s h) ∙ j ∙ sym (ap k.tells (reads_below k p (v ∷ vs) r s h))
        go true false x y (no n) i j m =
            let ps : p.time ≤ s = omega arith in
            let vs-s : AtMost s (v ∷ vs) = atmost_mono (v ∷ vs) p.time s ps a in
            let left : reads k r (p ∷ prune_from k os (k.undo r p.change) v vs) s ≡ r = reads_high k (p ∷ prune_from k os (k.undo r p.change) v vs) r s (ps, prune_atmost os vs (k.undo r p.change) v s vs-s.0 vs-s.1) in
            let right : reads k r (p ∷ v ∷ vs) s ≡ r = reads_high k (p ∷ v ∷ vs) r s (ps, vs-s) in
            ap k.tells (left ∙ sym right)
        go false d x y (yes h) i j m = m ∙ under (dec_lt s v.time)
          where
            under : Dec (s < v.time) → k.tells (reads k r (join_versions k p v ∷ vs) s) ≡ k.tells (reads k r (p ∷ v ∷ vs) s)
            under (yes w) =
                ap k.tells (reads_below k (join_versions k p v) vs r s h)
                ∙ reads_alike k laws vs (k.undo r (k.join p.change v.change)) (k.undo (k.undo r p.change) v.change) s (laws.joined r p.change v.change)
                ∙ sym (ap k.tells (reads_below k p (v ∷ vs) r s h ∙ reads_below k v vs (k.undo r p.change) s w))
            under (no w) = absurd (open_none os v.time p.time x s o (omega arith) h)
        go false d x y (no n) i j m =
            m ∙ ap k.tells (reads-past k (join_versions k p v) vs r s (omega arith)
            ∙ sym (reads-past k v vs r s (omega (arith, a.0)))
            ∙ sym (reads-past k p (v ∷ vs) r s (omega arith)))
