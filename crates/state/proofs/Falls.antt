-- The times of every chain fall, and each step keeps that.
use Rattle.std.proofs.Common.{◌≡◌, ℕ, zero, suc, ◌<◌, ◌≤◌, Bool, true, false, cond, eqb, leb, List, [], ◌∷◌, length, replicate, refl, ap, ◌∙◌, arith}
use Rattle.std.proofs.lemmas.Bool.{le-leb, leb-true, and_parts, and_from}
use Rattle.kind.specs.Kinds.{Ops, same}
use Rattle.chain.specs.declared.version.Version.{Version}
use Rattle.chain.specs.Versions.{AtMost, Falling}
use Rattle.chain.specs.Pruning.{open_in, join_versions, prune, prune_from}
use Rattle.chain.proofs.Reading.{atmost_mono}
use Rattle.history.specs.History.{Hold, free, held, at_or, change_at}
use Rattle.history.specs.Model.{Stored, change_stored, finish_stored, finish_under, free_stored, free_under, pruned, new_stored, finished_row}
use Rattle.state.specs.Stored.{falls, all_fall}

module _ {C : Type 0} where
  falls_mono : (t u : ℕ) (vs : List (Version C)) → t ≤ u → falls t vs ≡ true → falls u vs ≡ true
  falls_mono t u [] h e = refl
  falls_mono t u (v ∷ vs) h e =
      let a = and_parts (leb v.time t) (falls v.time vs) e in
      and_from (leb v.time u) (falls v.time vs) (le-leb v.time u (omega (arith, leb-true v.time t a.0))) a.1

  pub falls_most : (t : ℕ) (vs : List (Version C)) → falls t vs ≡ true → AtMost t vs × Falling vs
  falls_most t [] e = (tt, tt)
  falls_most t (v ∷ vs) e =
      let a = and_parts (leb v.time t) (falls v.time vs) e in
      let low = leb-true v.time t a.0 in
      let rest = falls_most v.time vs a.1 in
      ((low, atmost_mono vs v.time t low rest.0), (rest.0, rest.1))

module _ {Row Edit C : Type 0} (k : Ops Row Edit C) (os : ℕ → ℕ) where
  either : (t : ℕ) (b : Bool) (x y : List (Version C)) → falls t x ≡ true → falls t y ≡ true → falls t (cond b x y) ≡ true
  either t true x y e f = e
  either t false x y e f = f

  -- p is the version at hand
  from_falls : (t : ℕ) (vs : List (Version C)) (r : Row) (p : Version C) → p.time ≤ t → falls p.time vs ≡ true → falls t (prune_from k os r p vs) ≡ true
  from_falls t [] r p low e =
      either t (open_in os 0 p.time) (cond (same k r (k.undo r p.change)) [] (p ∷ [])) []
      (either t (same k r (k.undo r p.change)) [] (p ∷ []) refl (and_from (leb p.time t) true (le-leb p.time t low) refl)) refl
  from_falls t (v ∷ vs) r p low e =
      let a = and_parts (leb v.time p.time) (falls v.time vs) e in
      let below = leb-true v.time p.time a.0 in
      let back = k.undo r p.change in
      either t (open_in os v.time p.time) (cond (same k r back) (prune_from k os r v vs) (p ∷ prune_from k os back v vs)) (prune_from k os r (join_versions k p v) vs)
      (either t (same k r back) (prune_from k os r v vs) (p ∷ prune_from k os back v vs) (from_falls t vs r v (omega (arith, low, below)) a.1)
      (and_from (leb p.time t) (falls p.time (prune_from k os back v vs)) (le-leb p.time t low) (from_falls p.time vs back v below a.1)))
      (from_falls t vs r (join_versions k p v) low (falls_mono v.time p.time vs below a.1))

  pub prune-falls : (t : ℕ) (vs : List (Version C)) (r : Row) → falls t vs ≡ true → falls t (prune k os r vs) ≡ true
  prune-falls t [] r e = refl
  prune-falls t (v ∷ vs) r e =
      let a = and_parts (leb v.time t) (falls v.time vs) e in
      from_falls t vs r v (leb-true v.time t a.0) a.1

module _ {Row C : Type 0} where
  pub all_mono : (t u : ℕ) (xs : List (Stored Row C)) → t ≤ u → all_fall t xs ≡ true → all_fall u xs ≡ true
  all_mono t u [] h e = refl
  all_mono t u (x ∷ xs) h e =
      let a = and_parts (falls t x.chain) (all_fall t xs) e in
      and_from (falls u x.chain) (all_fall u xs) (falls_mono t u x.chain h a.0) (all_mono t u xs h a.1)

  pub all_at : (t : ℕ) (d : Stored Row C) (xs : List (Stored Row C)) (i : ℕ) → all_fall t xs ≡ true → i < length xs → falls t (at_or d xs i).chain ≡ true
  all_at t d [] i e h = absurd (omega arith)
  all_at t d (x ∷ xs) zero e h = (and_parts (falls t x.chain) (all_fall t xs) e).0
  all_at t d (x ∷ xs) (suc i) e h = all_at t d xs i (and_parts (falls t x.chain) (all_fall t xs) e).1 (omega arith)

  -- one record altered by what keeps its chain falling
  pub all_changed : (t : ℕ) (f : Stored Row C → Stored Row C) → ((x : Stored Row C) → falls t x.chain ≡ true → falls t (f x).chain ≡ true) → (xs : List (Stored Row C)) (i : ℕ) → all_fall t xs ≡ true → all_fall t (change_at f xs i) ≡ true
  all_changed t f keep [] i e = refl
  all_changed t f keep (x ∷ xs) zero e =
      let a = and_parts (falls t x.chain) (all_fall t xs) e in and_from (falls t (f x).chain) (all_fall t xs) (keep x a.0) a.1
  all_changed t f keep (x ∷ xs) (suc i) e =
      let a = and_parts (falls t x.chain) (all_fall t xs) e in and_from (falls t x.chain) (all_fall t (change_at f xs i)) a.0 (all_changed t f keep xs i a.1)

module _ {Row Edit C : Type 0} (k : Ops Row Edit C) where
  pub change_keeps : (t w : ℕ) (e : Edit) (x : Stored Row C) → falls t x.chain ≡ true → falls t (change_stored k w e x).chain ≡ true
  change_keeps t w e x h = h

  finish_cond : (t : ℕ) (b : Bool) (c : C) (x : Stored Row C) → falls t x.chain ≡ true → falls t (cond b (record { place = x.place; holder = free; last = t; chain = record { time = t; change = c } ∷ x.chain }) x).chain ≡ true
  finish_cond t true c x h = and_from (leb t t) (falls t x.chain) (le-leb t t (omega arith)) h
  finish_cond t false c x h = h

  finish_hold : (t w : ℕ) (x : Stored Row C) (o : Hold C) → falls t x.chain ≡ true → falls t (finish_under k w t x o).chain ≡ true
  finish_hold t w x free h = h
  finish_hold t w x (held v c) h = finish_cond t (eqb w v) c x h

  pub finish_keeps : (t w : ℕ) (x : Stored Row C) → falls t x.chain ≡ true → falls t (finish_stored k w t x).chain ≡ true
  finish_keeps t w x h = finish_hold t w x x.holder h

  free_cond : (t : ℕ) (b : Bool) (y x : Stored Row C) → y.chain ≡ x.chain → falls t x.chain ≡ true → falls t (cond b y x).chain ≡ true
  free_cond t true y x e h = ap (falls t) e ∙ h
  free_cond t false y x e h = h

  free_hold : (t w : ℕ) (x : Stored Row C) (o : Hold C) → falls t x.chain ≡ true → falls t (free_under k w x o).chain ≡ true
  free_hold t w x free h = h
  free_hold t w x (held v c) h = free_cond t (eqb w v) _ x refl h

  pub free_keeps : (t w : ℕ) (x : Stored Row C) → falls t x.chain ≡ true → falls t (free_stored k w x).chain ≡ true
  free_keeps t w x h = free_hold t w x x.holder h

  pub prune-keeps : (os : ℕ → ℕ) (t : ℕ) (x : Stored Row C) → falls t x.chain ≡ true → falls t (pruned k os x).chain ≡ true
  prune-keeps os t x h = prune-falls k os t x.chain (finished_row k x) h

  pub new_falls : (t s n : ℕ) → all_fall t (replicate n (new_stored k s)) ≡ true
  new_falls t s zero = refl
  new_falls t s (suc n) = new_falls t s n
