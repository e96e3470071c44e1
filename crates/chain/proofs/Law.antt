-- The law of one record, from its parts: pruning, opening, closing and committing keep a list serving and least.
use Rattle.std.proofs.Common.{◌≡◌, ℕ, ◌<◌, cond, ◌⊎◌, List, [], ◌∷◌, sym, ap, ◌∙◌, subst, inl, inr, arith}
use Rattle.kind.specs.Kinds.{Ops, Laws}
use Rattle.chain.specs.declared.version.Version.{Version}
use Rattle.chain.specs.Versions.{Finished, Open, AtMost, Falling, reading, reads, Serves}
use Rattle.chain.specs.Pruning.{prune_from, prune}
use Rattle.chain.specs.RecordLaw.{Right, RecordLaw}
use Rattle.chain.proofs.Times.{leb_no}
use Rattle.chain.proofs.Reading.{atmost_mono, reads_high, reads_below, reads_alike}
use Rattle.chain.proofs.Tight.{Tight, tight_least, prune_tight, prune-reads}

module _ {Row Edit Change : Type 0} (k : Ops Row Edit Change) where
  tight_falling : (os : ℕ → ℕ) (r : Row) (vs : List (Version Change)) → Tight k os r vs → Falling vs
  tight_falling os r [] t = tt
  tight_falling os r (v ∷ vs) t = (atmost_mono vs t.0 v.time (omega (arith, t.2)) t.3, tight_falling os (k.undo r v.change) vs t.5)

  pub prune_right : Laws k → (os : ℕ → ℕ) (r : Row) (full : ℕ → Row) (vs : List (Version Change)) → Falling vs → Serves k os r full vs → Right k os r full (prune k os r vs)
  prune_right laws os r full [] f sv = record { falls = tt; serves = sv; least = λ other so. omega arith }
  prune_right laws os r full (v ∷ vs) f sv =
      let t = prune_tight k laws os vs r v f.0 f.1 in
      let serves : Serves k os r full (prune_from k os r v vs) = λ s o. prune-reads k laws os vs r v s f.0 f.1 o ∙ sv s o in
      record { falls = tight_falling os r _ t; serves = serves; least = tight_least k os r full _ t serves }

  pub open_keeps : (os more : ℕ → ℕ) (r : Row) (full : ℕ → Row) (vs : List (Version Change)) (s : ℕ) → ((t : ℕ) → Open more t → (t ≡ s) ⊎ Open os t) → ((t : ℕ) → Open os t → Open more t) → AtMost s vs → k.tells r ≡ k.tells (full s) → Right k os r full vs → Right k more r full vs
  open_keeps os more r full vs s cases keeps a e right = record { falls = right.falls; serves = λ w o. serves w (cases w o); least = λ other so. right.least other (λ w o. so w (keeps w o)) }
    where
      serves : (w : ℕ) → (w ≡ s) ⊎ Open os w → k.tells (reads k r vs w) ≡ k.tells (full w)
      serves w (inl q) = let P : ℕ → Type 0 = λ n. k.tells (reads k r vs n) ≡ k.tells (full n) in subst P (sym q) (ap k.tells (reads_high k vs r s a) ∙ e)
      serves w (inr o) = right.serves w o

  pub close_keeps : Laws k → (os fewer : ℕ → ℕ) (r : Row) (full : ℕ → Row) (vs : List (Version Change)) → ((s : ℕ) → Open fewer s → Open os s) → Right k os r full vs → Right k fewer r full (prune k fewer r vs)
  close_keeps laws os fewer r full vs sub right = prune_right laws fewer r full vs right.falls (λ s o. right.serves s (sub s o))

  pub commit_keeps : Laws k → (os fewer : ℕ → ℕ) (old new first : Row) (hs : List (Finished Row)) (vs : List (Version Change)) (v : Version Change) → ((s : ℕ) → Open fewer s → Open os s × (s < v.time)) → AtMost v.time vs → k.tells (k.undo new v.change) ≡ k.tells old → Right k os old (reading first hs) vs → Right k fewer new (reading first (record { time = v.time; row = new } ∷ hs)) (prune k fewer new (v ∷ vs))
  commit_keeps laws os fewer old new first hs vs v sub a back right =
      prune_right laws fewer new (reading first (record { time = v.time; row = new } ∷ hs)) (v ∷ vs) (a, right.falls) serves
    where
      serves : Serves k fewer new (reading first (record { time = v.time; row = new } ∷ hs)) (v ∷ vs)
      serves s o =
          let before : reading first (record { time = v.time; row = new } ∷ hs) s ≡ reading first hs s = ap (λ b. cond b new (reading first hs s)) (leb_no v.time s (sub s o).1) in
          ap k.tells (reads_below k v vs new s (sub s o).1)
          ∙ reads_alike k laws vs (k.undo new v.change) old s back
          ∙ right.serves s (sub s o).0
          ∙ sym (ap k.tells before)

  pub record_law : Laws k → RecordLaw k
  record_law laws = record { pruned = prune_right laws; opened = open_keeps; closed = close_keeps laws; committed = commit_keeps laws }
