-- The model and the history, call by call, and any run of calls.
--     Sim room m ls fs    the model m, with the leases ls, is tied to the history whose records are fs
--     step_lawful         one step keeps the tie, and its outcome is what the law says
--     run_more            a run and one call more at its end
--     sim_law             a tied model has what the law says of a store in the end
use Rattle.std.proofs.Common.{◌≡◌, ℕ, zero, suc, ◌+◌, ◌<◌, ◌≤◌, Bool, true, false, cond, not, ◌&&◌, eqb, ltb, leb, ◌⊎◌, List, [], ◌∷◌, ◌++◌, map, length, None, Option, sym, refl, ap, ◌∙◌, subst, inl, inr, true≢false, arith}
use mathlib.Core.Bool.{false≢true}
use Rattle.std.proofs.lemmas.Bool.{and_parts, and_from, leb-true, leb-false, ltb-true, ltb-false, eqb-true, eqb-false, le-leb, lt-ltb, eq-eqb, ne_eqb}
use Rattle.std.proofs.lemmas.Simd.{map-map}
use Rattle.kind.specs.Kinds.{Ops, Laws}
use Rattle.lease.specs.Times.{count, insert, delete, opens}
use Rattle.chain.specs.Versions.{Open}
use Rattle.chain.specs.RecordLaw.{Right}
use Rattle.history.specs.declared.call.Call.{Call}
use Rattle.history.specs.declared.call.Call.TheVariants.{Open as call_open, Read as call_read, Close as call_close, Begin as call_begin, Look as call_look, Change as call_change, Commit as call_commit, Abandon as call_abandon, Held as call_held, Kept as call_kept, InUse as call_in_use}
use Rattle.history.specs.declared.call.Outcome.TheVariants.{Shown, Committed, Abandoned, Held, Kept, InUse}
use Rattle.history.specs.declared.fault.StoreFault.{StoreFault}
use Rattle.history.specs.Card.{no_record, no_lease, held_by_other, row_newer, versions_used, leases_used, clock_limit, list_short}
use Rattle.history.specs.History.{Hold, free, held, Record, History, limit, who, held_by, count_held, at_or, change_at, holders, new_record, new_history, record_of, past, sees_under, change_record, finish_record, free_record}
use Rattle.history.specs.Law.{Told, Asked, plain, Free, ByOther, is_held, times, EachHeld, Says, Check, refuses, passes, NoSuchRecord, NoLeaseOpen, LeasesFull, TooShort, Needed, none_needed, more_needed, Keeps, Answers, Run, AllRight, Law}
use Rattle.history.specs.Model.{Stored, Model, Step, by_other, is_free, in_use, owners, held_number, held_from, kept_chains, or_else, new_stored, new_model, record_at, finished_row, reading, looks, pruned, change_stored, finish_stored, free_stored, all_pruned, committed, does, decide, ends, step, outcomes, model_after, leases_after, ModelLawful}
use Rattle.history.proofs.Counts.{insert_cases, insert-keeps, delete_sub, held_length, held_once}
use Rattle.history.proofs.Rights.{right_row}
use Rattle.history.proofs.Room.{map_cost, pruned_cost, finish_cost, free_cost, change_cost, new_empty, needed_one}
use Rattle.history.proofs.Ties.{Holds, Tied, open_tied, pruned_tied, change_tied, free_tied, finish_tied}

module _ {Row Edit Change : Type 0} (k : Ops Row Edit Change) where
  abbrev pub Ties : (ℕ → ℕ) → ℕ → List (Record Row) → List (Stored Row Change) → Type 0
  Ties os c [] [] = Unit {0}
  Ties os c [] (x ∷ xs) = ⊥
  Ties os c (f ∷ fs) [] = ⊥
  Ties os c (f ∷ fs) (x ∷ xs) = Tied k os c f x × Ties os c fs xs

  module _ (os os' : ℕ → ℕ) (c c' : ℕ) where
    -- both records altered alike
    ties_map : (l : Record Row → Record Row) (m : Stored Row Change → Stored Row Change) → ((f : Record Row) (x : Stored Row Change) → Tied k os c f x → Tied k os' c' (l f) (m x)) → (fs : List (Record Row)) (xs : List (Stored Row Change)) → Ties os c fs xs → Ties os' c' (map l fs) (map m xs)
    ties_map l m h [] [] d = tt
    ties_map l m h [] (x ∷ xs) d = d
    ties_map l m h (f ∷ fs) [] d = d
    ties_map l m h (f ∷ fs) (x ∷ xs) d = (h f x d.0, ties_map l m h fs xs d.1)

    -- the model's alone
    ties_right : (m : Stored Row Change → Stored Row Change) → ((f : Record Row) (x : Stored Row Change) → Tied k os c f x → Tied k os' c' f (m x)) → (fs : List (Record Row)) (xs : List (Stored Row Change)) → Ties os c fs xs → Ties os' c' fs (map m xs)
    ties_right m h [] [] d = tt
    ties_right m h [] (x ∷ xs) d = d
    ties_right m h (f ∷ fs) [] d = d
    ties_right m h (f ∷ fs) (x ∷ xs) d = (h f x d.0, ties_right m h fs xs d.1)

    -- neither
    ties_keep : ((f : Record Row) (x : Stored Row Change) → Tied k os c f x → Tied k os' c' f x) → (fs : List (Record Row)) (xs : List (Stored Row Change)) → Ties os c fs xs → Ties os' c' fs xs
    ties_keep h [] [] d = tt
    ties_keep h [] (x ∷ xs) d = d
    ties_keep h (f ∷ fs) [] d = d
    ties_keep h (f ∷ fs) (x ∷ xs) d = (h f x d.0, ties_keep h fs xs d.1)

  module _ (os : ℕ → ℕ) (c : ℕ) where
    ties_at : (l : Record Row → Record Row) (m : Stored Row Change → Stored Row Change) → ((f : Record Row) (x : Stored Row Change) → Tied k os c f x → Tied k os c (l f) (m x)) → (fs : List (Record Row)) (xs : List (Stored Row Change)) (i : ℕ) → Ties os c fs xs → Ties os c (change_at l fs i) (change_at m xs i)
    ties_at l m h [] [] i d = tt
    ties_at l m h [] (x ∷ xs) i d = absurd d
    ties_at l m h (f ∷ fs) [] i d = absurd d
    ties_at l m h (f ∷ fs) (x ∷ xs) zero d = (h f x d.0, d.1)
    ties_at l m h (f ∷ fs) (x ∷ xs) (suc i) d = (d.0, ties_at l m h fs xs i d.1)

    ties_length : (fs : List (Record Row)) (xs : List (Stored Row Change)) → Ties os c fs xs → length fs ≡ length xs
    ties_length [] [] d = refl
    ties_length [] (x ∷ xs) d = absurd d
    ties_length (f ∷ fs) [] d = absurd d
    ties_length (f ∷ fs) (x ∷ xs) d = ap suc (ties_length fs xs d.1)

    ties_get : (fs : List (Record Row)) (xs : List (Stored Row Change)) (i : ℕ) → Ties os c fs xs → i < length xs → Tied k os c (at_or (new_record k 0) fs i) (at_or (new_stored k 0) xs i)
    ties_get [] [] i d h = let f : ⊥ = omega arith in absurd f
    ties_get [] (x ∷ xs) i d h = absurd d
    ties_get (f ∷ fs) [] i d h = absurd d
    ties_get (f ∷ fs) (x ∷ xs) zero d h = d.0
    ties_get (f ∷ fs) (x ∷ xs) (suc i) d h = ties_get fs xs i d.1 (omega arith)

  -- what both know of a holder
  who_same : (p : Row) (h : Hold Row) (g : Hold Change) → Holds k p h g → who h ≡ who g
  who_same p free free d = refl
  who_same p free (held v c) d = absurd d
  who_same p (held w r) free d = absurd d
  who_same p (held w r) (held v c) d = ap (λ n. held n tt) d.0

  one_same : (p : Row) (h : Hold Row) (g : Hold Change) → Holds k p h g → is_held h ≡ is_held g
  one_same p free free d = refl
  one_same p free (held v c) d = absurd d
  one_same p (held w r) free d = absurd d
  one_same p (held w r) (held v c) d = refl

  other_yes : (p : Row) (w : ℕ) (h : Hold Row) (g : Hold Change) → Holds k p h g → by_other w g ≡ true → ByOther w h
  other_yes p w free free d e = absurd (false≢true e)
  other_yes p w free (held v c) d e = absurd d
  other_yes p w (held u r) free d e = absurd d
  other_yes p w (held u r) (held v c) d e = λ q. true≢false (sym e ∙ ap not (eq-eqb w v (q ∙ d.0)))

  other_no : (p : Row) (w : ℕ) (h : Hold Row) (g : Hold Change) → Holds k p h g → by_other w g ≡ false → ByOther w h → ⊥
  other_no p w free free d e o = o
  other_no p w free (held v c) d e o = absurd d
  other_no p w (held u r) free d e o = absurd d
  other_no p w (held u r) (held v c) d e o = true≢false (sym (ap not (ne_eqb w v (λ q. o (q ∙ sym d.0)))) ∙ e)

  free_yes : (p : Row) (h : Hold Row) (g : Hold Change) → Holds k p h g → is_free g ≡ true → Free h
  free_yes p free free d e = tt
  free_yes p free (held v c) d e = absurd d
  free_yes p (held u r) free d e = absurd d
  free_yes p (held u r) (held v c) d e = absurd (false≢true e)

  free_no : (p : Row) (h : Hold Row) (g : Hold Change) → Holds k p h g → Free h → is_free g ≡ true
  free_no p free free d e = refl
  free_no p free (held v c) d e = absurd d
  free_no p (held u r) free d e = absurd d
  free_no p (held u r) (held v c) d e = absurd e

  holders_same : (os : ℕ → ℕ) (c : ℕ) (fs : List (Record Row)) (xs : List (Stored Row Change)) → Ties os c fs xs → holders fs ≡ owners xs
  holders_same os c [] [] d = refl
  holders_same os c [] (x ∷ xs) d = absurd d
  holders_same os c (f ∷ fs) [] d = absurd d
  holders_same os c (f ∷ fs) (x ∷ xs) d =
      let w = who_same x.place f.holder x.holder d.0.holds in
      let rest = holders_same os c fs xs d.1 in
      λ i. w i ∷ rest i

  -- the history that goes with a model
  abbrev pub hist : Model Row Change → List ℕ → List (Record Row) → History Row
  hist m ls fs = record { clock = m.clock; leases = ls; records = fs }

  pub record Sim (room : ℕ) (m : Model Row Change) (ls : List ℕ) (fs : List (Record Row)) : Type 0 where
    pub table : m.room ≡ room
    pub low : (t : ℕ) → Open (opens ls) t → t ≤ m.clock
    pub ties : Ties (opens ls) m.clock fs m.records
    pub fits : in_use m.records ≤ room

  -- what the step tells, and the history that goes with the model after it, are as P has them
  pub record Met (room : ℕ) (P : Told Row → History Row → Type 0) (st : Step Row Change) : Type 0 where
    pub records : List (Record Row)
    pub fact : P st.told (hist st.model st.leases records)
    pub sim : Sim room st.model st.leases records

  -- the same of a step that the checks o decide on
  record Decided (room : ℕ) (P : Told Row → History Row → Type 0) (m : Model Row Change) (ls : List ℕ) (o : Option StoreFault) (st : Step Row Change) : Type 0 where
    met : Met room P (decide o m ls st)

  module _ (laws : Laws k) where
    -- a record's chain, from the history's own row
    tied_right : (os : ℕ → ℕ) (c : ℕ) (f : Record Row) (x : Stored Row Change) → Tied k os c f x → Right k os f.newest.row (past k f) x.chain
    tied_right os c f x d = right_row k laws os (finished_row k x) f.newest.row (past k f) x.chain d.newest d.right

    all_right : (os : ℕ → ℕ) (c : ℕ) (fs : List (Record Row)) (xs : List (Stored Row Change)) → Ties os c fs xs → AllRight k os fs (kept_chains xs)
    all_right os c [] [] d = tt
    all_right os c [] (x ∷ xs) d = d
    all_right os c (f ∷ fs) [] d = d
    all_right os c (f ∷ fs) (x ∷ xs) d = (tied_right os c f x d.0, all_right os c fs xs d.1)

    ties_needed : (os : ℕ → ℕ) (c : ℕ) (fs : List (Record Row)) (xs : List (Stored Row Change)) → Ties os c fs xs → Needed k os fs (in_use xs)
    ties_needed os c [] [] d = none_needed
    ties_needed os c [] (x ∷ xs) d = absurd d
    ties_needed os c (f ∷ fs) [] d = absurd d
    ties_needed os c (f ∷ fs) (x ∷ xs) d =
        let h = one_same x.place f.holder x.holder d.0.holds in
        let r = tied_right os c f x d.0 in
        let P : ℕ → Type 0 = λ n. Needed k os (f ∷ fs) ((length x.chain + n) + in_use xs) in
        subst P h (more_needed (length x.chain) (x.chain, r.serves, r.least, refl) (ties_needed os c fs xs d.1))

    looks_alike : (os : ℕ → ℕ) (c w : ℕ) (f : Record Row) (x : Stored Row Change) → Open os w → Tied k os c f x → k.tells (looks k x w) ≡ k.tells (sees_under k w f f.holder)
    looks_alike os c w f x o d = go x.holder f.holder d.holds
      where
        go : (g : Hold Change) (h : Hold Row) → Holds k x.place h g → k.tells (cond (held_by w g) x.place (reading k x w)) ≡ k.tells (sees_under k w f h)
        go free free e = d.right.serves w o
        go free (held v r) e = absurd e
        go (held v c) free e = absurd e
        go (held v c) (held u r) e = test (eqb w v) (eqb w u) (ap (eqb w) (sym e.0))
          where
            test : (a b : Bool) → a ≡ b → k.tells (cond a x.place (reading k x w)) ≡ k.tells (cond b r (past k f w))
            test true true q = sym e.1
            test true false q = absurd (true≢false q)
            test false true q = absurd (false≢true q)
            test false false q = d.right.serves w o

    module _ (cap room : ℕ) (m : Model Row Change) (ls : List ℕ) (fs : List (Record Row)) (z : Sim room m ls fs) where
      -- all stays as it is
      stays : {P : Told Row → History Row → Type 0} (o : Told Row) → P o (hist m ls fs) → Met room P (does o m ls)
      stays o p = record { records = fs; fact = p; sim = z }

      -- a check of the law and one of the model
      checked : {F : Type 0} {P : Told Row → History Row → Type 0} {st : Step Row Change} {o : Option StoreFault} (f : StoreFault) (b : Bool) → (b ≡ true → F) → (b ≡ false → F → ⊥) → (b ≡ false → Decided room P m ls o st) → Decided room (Check (hist m ls fs) F f P) m ls (or_else b f o) st
      checked f true fails holds rest = record { met = record { records = fs; fact = refuses (fails refl) refl refl; sim = z } }
      checked f false fails holds rest = let r = (rest refl).met in record { met = record { records = r.records; fact = passes (holds refl) r.fact; sim = r.sim } }

      -- the checks are passed
      accepted : {P : Told Row → History Row → Type 0} {st : Step Row Change} → Met room P st → Decided room P m ls None st
      accepted r = record { met = r }

      record_check : {P : Told Row → History Row → Type 0} {st : Step Row Change} {o : Option StoreFault} (i : ℕ) → (i < length m.records → Decided room P m ls o st) → Decided room (NoSuchRecord (hist m ls fs) i P) m ls (or_else (leb (length m.records) i) (no_record i) o) st
      record_check i rest =
          let e = ties_length (opens ls) m.clock fs m.records z.ties in
          checked (no_record i) (leb (length m.records) i) (λ b. omega (arith, leb-true (length m.records) i b)) (λ b f. omega (arith, leb-false (length m.records) i b)) (λ b. rest (leb-false (length m.records) i b))

      lease_check : {P : Told Row → History Row → Type 0} {st : Step Row Change} {o : Option StoreFault} (t : ℕ) → (Open (opens ls) t → Decided room P m ls o st) → Decided room (NoLeaseOpen (hist m ls fs) t P) m ls (or_else (eqb (count t ls) 0) (no_lease t) o) st
      lease_check t rest = checked (no_lease t) (eqb (count t ls) 0) (eqb-true (count t ls) 0) (eqb-false (count t ls) 0) (λ b. rest (some (eqb-false (count t ls) 0 b)))
        where
          some : (count t ls ≡ 0 → ⊥) → 0 < count t ls
          some n = omega arith

      full_check : {P : Told Row → History Row → Type 0} {st : Step Row Change} → Met room P st → Decided room (LeasesFull (hist m ls fs) cap P) m ls (or_else (eqb (length ls) cap) (leases_used cap) None) st
      full_check rest = checked (leases_used cap) (eqb (length ls) cap) (eqb-true (length ls) cap) (eqb-false (length ls) cap) (λ _. accepted rest)

      tied_at : (i : ℕ) → i < length m.records → Tied k (opens ls) m.clock (at_or (new_record k 0) fs i) (record_at k m i)
      tied_at i h = ties_get (opens ls) m.clock fs m.records i z.ties h

      needed_now : Needed k (opens ls) fs (in_use m.records)
      needed_now = ties_needed (opens ls) m.clock fs m.records z.ties

      same_holders : holders fs ≡ owners m.records
      same_holders = holders_same (opens ls) m.clock fs m.records z.ties

      -- a lease more at t, where the clock then stands
      opens_more : (t : ℕ) → m.clock ≤ t → Sim room (record { clock = t; room = m.room; records = m.records }) (insert t ls) fs
      opens_more t late =
          record {
            table = z.table;
            low = λ u o. go u (insert_cases t ls u o);
            ties = ties_keep (opens ls) (opens (insert t ls)) m.clock t (λ f x d. open_tied k laws (opens ls) (opens (insert t ls)) m.clock t f x (insert_cases t ls) (insert-keeps t ls) late d) fs m.records z.ties;
            fits = z.fits;
          }
        where
          go : (u : ℕ) → (u ≡ t) ⊎ Open (opens ls) u → u ≤ t
          go u (inl e) = omega arith
          go u (inr o) = omega (arith, z.low u o)

      closes : (t : ℕ) → Sim room (all_pruned k (opens (delete t ls)) m) (delete t ls) fs
      closes t =
          let fewer = opens (delete t ls) in
          record {
            table = z.table;
            low = λ u o. z.low u (delete_sub t ls u o);
            ties = ties_right (opens ls) fewer m.clock m.clock _ (λ f x h. pruned_tied k laws (opens ls) fewer m.clock m.clock f x (omega arith) (delete_sub t ls) h) fs m.records z.ties;
            fits = omega (arith, z.fits, map_cost k (pruned k fewer) (pruned_cost k fewer) m.records);
          }

      commits : (w : ℕ) → Sim room (all_pruned k (opens (delete w ls)) (record { clock = m.clock + 1; room = m.room; records = map (finish_stored k w (m.clock + 1)) m.records })) (delete w ls) (map (finish_record k w (m.clock + 1)) fs)
      commits w =
          let fewer = opens (delete w ls) in
          let both : Stored Row Change → Stored Row Change = λ x. pruned k fewer (finish_stored k w (m.clock + 1) x) in
          let split = sym (map-map (pruned k fewer) (finish_stored k w (m.clock + 1)) m.records) in
          record {
            table = z.table;
            low = λ u o. omega (arith, z.low u (delete_sub w ls u o));
            ties = subst (λ xs. Ties fewer (m.clock + 1) (map (finish_record k w (m.clock + 1)) fs) xs) split
                (ties_map (opens ls) fewer m.clock (m.clock + 1) _ both (λ f x h. finish_tied k laws (opens ls) fewer m.clock w f x (λ u o. (delete_sub w ls u o, z.low u (delete_sub w ls u o))) h) fs m.records z.ties);
            fits = subst (λ xs. in_use xs ≤ room) split
                (omega (arith, z.fits, map_cost k both (λ x. omega (arith, pruned_cost k fewer (finish_stored k w (m.clock + 1) x), finish_cost k w (m.clock + 1) x x.holder refl)) m.records));
          }

      abandons : (w : ℕ) → Sim room (all_pruned k (opens (delete w ls)) (record { clock = m.clock; room = m.room; records = map (free_stored k w) m.records })) (delete w ls) (map (free_record k w) fs)
      abandons w =
          let fewer = opens (delete w ls) in
          let both : Stored Row Change → Stored Row Change = λ x. pruned k fewer (free_stored k w x) in
          let split = sym (map-map (pruned k fewer) (free_stored k w) m.records) in
          record {
            table = z.table;
            low = λ u o. z.low u (delete_sub w ls u o);
            ties = subst (λ xs. Ties fewer m.clock (map (free_record k w) fs) xs) split
                (ties_map (opens ls) fewer m.clock m.clock _ both (λ f x h. pruned_tied k laws (opens ls) fewer m.clock m.clock _ _ (omega arith) (delete_sub w ls) (free_tied k laws (opens ls) m.clock w f x h)) fs m.records z.ties);
            fits = subst (λ xs. in_use xs ≤ room) split
                (omega (arith, z.fits, map_cost k both (λ x. omega (arith, pruned_cost k fewer (free_stored k w x), free_cost k w x x.holder)) m.records));
          }

      changes : (w i : ℕ) (e : Edit) → (is_free (record_at k m i).holder && leb m.room (in_use m.records)) ≡ false → Sim room (record { clock = m.clock; room = m.room; records = change_at (change_stored k w e) m.records i }) ls (change_at (change_record k w e) fs i)
      changes w i e b =
          record {
            table = z.table;
            low = z.low;
            ties = ties_at (opens ls) m.clock _ _ (change_tied k laws (opens ls) m.clock w e) fs m.records i z.ties;
            fits = go (is_free (record_at k m i).holder) refl b;
          }
        where
          go : (a : Bool) → is_free (record_at k m i).holder ≡ a → (a && leb m.room (in_use m.records)) ≡ false → in_use (change_at (change_stored k w e) m.records i) ≤ room
          go true f b = omega (arith, (change_cost k w e m.records i).0 f, leb-false m.room (in_use m.records) b, z.table)
          go false f b = omega (arith, (change_cost k w e m.records i).1 f, z.fits)

      pub step_lawful : (n : ℕ) (c : Call Edit) → Met room (Answers k (hist m ls fs) cap room n c) (step k cap m ls n c)
      step_lawful n call_open = (full_check (record { records = fs; fact = (refl, refl); sim = opens_more m.clock (omega arith) })).met
      step_lawful n (call_read t i) =
          (record_check i (λ h. lease_check t (λ o. accepted (stays (plain (Shown (reading k (record_at k m i) t))) (reading k (record_at k m i) t, refl, (tied_at i h).right.serves t o, refl))))).met
      step_lawful n (call_close t) = (lease_check t (λ o. accepted (record { records = fs; fact = (refl, refl); sim = closes t }))).met
      step_lawful n call_begin =
          (checked (clock_limit m.clock) (eqb m.clock limit) (eqb-true m.clock limit) (eqb-false m.clock limit)
          (λ _. full_check (record { records = fs; fact = (refl, refl); sim = opens_more (m.clock + 1) (omega arith) }))).met
      step_lawful n (call_look w i) =
          (record_check i (λ h. lease_check w (λ o. accepted (stays (plain (Shown (looks k (record_at k m i) w))) (looks k (record_at k m i) w, refl, looks_alike (opens ls) m.clock w _ (record_at k m i) o (tied_at i h), refl))))).met
      step_lawful n (call_change w i e) =
          (record_check i (λ h. lease_check w (λ o.
          checked (held_by_other i) (by_other w (record_at k m i).holder) (other_yes (record_at k m i).place w _ (record_at k m i).holder (tied_at i h).holds) (other_no (record_at k m i).place w _ (record_at k m i).holder (tied_at i h).holds) (λ _.
          checked (row_newer i) (ltb w (record_at k m i).last) (λ b. omega (arith, ltb-true w (record_at k m i).last b, (tied_at i h).last)) (λ b. λ (f : w < (record_of k (hist m ls fs) i).newest.time). omega (arith, f, ltb-false w (record_at k m i).last b, (tied_at i h).last)) (λ _.
          checked (versions_used i) (is_free (record_at k m i).holder && leb m.room (in_use m.records)) (yes_seven h) (no_seven h) (λ b.
          accepted (record { records = change_at (change_record k w e) fs i; fact = (refl, refl); sim = changes w i e b }))))))).met
        where
          yes_seven : i < length m.records → (is_free (record_at k m i).holder && leb m.room (in_use m.records)) ≡ true → Free (record_of k (hist m ls fs) i).holder × Needed k (opens ls) fs room
          yes_seven h b =
              let both = and_parts (is_free (record_at k m i).holder) (leb m.room (in_use m.records)) b in
              let exact : in_use m.records ≡ room = omega (arith, leb-true m.room (in_use m.records) both.1, z.fits, z.table) in
              (free_yes (record_at k m i).place _ (record_at k m i).holder (tied_at i h).holds both.0, subst (λ n. Needed k (opens ls) fs n) exact needed_now)

          no_seven : i < length m.records → (is_free (record_at k m i).holder && leb m.room (in_use m.records)) ≡ false → Free (record_of k (hist m ls fs) i).holder × Needed k (opens ls) fs room → ⊥
          no_seven h b both =
              let exact : room ≡ in_use m.records = needed_one k (opens ls) fs room (in_use m.records) both.1 needed_now in
              true≢false (sym (and_from (is_free (record_at k m i).holder) (leb m.room (in_use m.records)) (free_no (record_at k m i).place _ (record_at k m i).holder (tied_at i h).holds both.0) (le-leb m.room (in_use m.records) (omega (arith, exact, z.table)))) ∙ b)
      step_lawful n (call_commit w) = (lease_check w (λ _. subst Goal (sym same_holders) here)).met
        where
          hs : List (Hold (Unit {0}))
          hs = owners m.records

          grown : History Row
          grown = record { clock = m.clock + 1; leases = delete w ls; records = map (finish_record k w (m.clock + 1)) fs }

          same : History Row
          same = record { clock = m.clock; leases = delete w ls; records = fs }

          next : Model Row Change
          next = record { clock = m.clock + 1; room = m.room; records = map (finish_stored k w (m.clock + 1)) m.records }

          result : List (Hold (Unit {0})) → History Row
          result us = cond (ltb 0 (count_held w us)) grown same

          done : Step Row Change
          done = ends k (plain (Committed (committed k w m).clock (held_number w m))) w (committed k w m) ls

          Goal : List (Hold (Unit {0})) → Type 0
          Goal hs = Decided room (Check (hist m ls fs) ((0 < count_held w hs) × (m.clock ≡ limit)) (clock_limit m.clock) (Says (Committed (result hs).clock (count_held w hs)) (result hs))) m ls (or_else (ltb 0 (held_number w m) && eqb m.clock limit) (clock_limit m.clock) None) done

          go : (a : Bool) → Met room (Says (Committed (cond {A = History Row} a grown same).clock (count_held w hs)) (cond a grown same)) (ends k (plain (Committed (cond {A = Model Row Change} a next m).clock (held_number w m))) w (cond a next m) ls)
          go true = record { records = map (finish_record k w (m.clock + 1)) fs; fact = (refl, refl); sim = commits w }
          go false = record { records = fs; fact = (refl, refl); sim = closes w }

          here : Goal hs
          here =
              checked (clock_limit m.clock) (ltb 0 (count_held w hs) && eqb m.clock limit)
              (λ b. let both = and_parts (ltb 0 (count_held w hs)) (eqb m.clock limit) b in (ltb-true 0 (count_held w hs) both.0, eqb-true m.clock limit both.1))
              (λ b both. true≢false (sym (and_from (ltb 0 (count_held w hs)) (eqb m.clock limit) (lt-ltb 0 (count_held w hs) both.0) (eq-eqb m.clock limit both.1)) ∙ b))
              (λ _. accepted (go (ltb 0 (count_held w hs))))
      step_lawful n (call_abandon w) = record { records = map (free_record k w) fs; fact = (ap (λ hs. plain (Abandoned (count_held w hs))) (sym same_holders), refl); sim = abandons w }
      step_lawful n (call_held w) = (subst Goal (sym same_holders) here).met
        where
          hs : List (Hold (Unit {0}))
          hs = owners m.records

          done : Step Row Change
          done = does (record { outcome = Held (held_number w m); written = held_from w 0 (owners m.records) }) m ls

          Goal : List (Hold (Unit {0})) → Type 0
          Goal hs = Decided room (TooShort (hist m ls fs) n (count_held w hs) (λ o h'. (rs : List ℕ) × (o ≡ record { outcome = Held (length rs); written = rs }) × (length rs ≡ count_held w hs) × EachHeld w hs rs × (h' ≡ hist m ls fs))) m ls (or_else (ltb n (held_number w m)) (list_short (held_number w m)) None) done

          here : Goal hs
          here =
              checked (list_short (count_held w hs)) (ltb n (count_held w hs)) (ltb-true n (count_held w hs)) (λ b f. omega (arith, ltb-false n (count_held w hs) b))
              (λ _. accepted (stays _ (held_from w 0 hs, ap (λ j. record { outcome = Held j; written = held_from w 0 hs }) (sym (held_length w 0 hs)), held_length w 0 hs, held_once w hs, refl)))
      step_lawful n (call_kept i) = (record_check i (λ h. go h)).met
        where
          x : Stored Row Change
          x = record_at k m i

          go : i < length m.records → Decided room (Keeps k (hist m ls fs) n (record_of k (hist m ls fs) i)) m ls (or_else (ltb n (length (record_at k m i).chain)) (list_short (length (record_at k m i).chain)) None) (does (record { outcome = Kept (length (record_at k m i).chain); written = times (record_at k m i).chain }) m ls)
          go h =
              let r : Decided room (TooShort (hist m ls fs) n (length x.chain) (λ p h''. (p ≡ record { outcome = Kept (length x.chain); written = times x.chain }) × (h'' ≡ hist m ls fs))) m ls (or_else (ltb n (length x.chain)) (list_short (length x.chain)) None) (does (record { outcome = Kept (length x.chain); written = times x.chain }) m ls) =
              checked (list_short (length x.chain)) (ltb n (length x.chain)) (ltb-true n (length x.chain)) (λ b g. omega (arith, ltb-false n (length x.chain) b)) (λ _. accepted (stays _ (refl, refl))) in
              let y = r.met in
              record { met = record { records = y.records; fact = (x.chain, tied_right (opens ls) m.clock _ x (tied_at i h), y.fact); sim = y.sim } }
      step_lawful n call_in_use = stays (plain (InUse (in_use m.records))) (in_use m.records, needed_now, refl, refl)

    -- one call more at the end of a run
    pub run_more : (cap room : ℕ) (cs : List (Asked Edit)) (os : List (Told Row)) (h mid h' : History Row) (c : Asked Edit) (o : Told Row) → Run k cap room h cs os mid → Answers k mid cap room c.given c.call o h' → Run k cap room h (cs ++ (c ∷ [])) (os ++ (o ∷ [])) h'
    run_more cap room [] [] h mid h' c o r a = (h', subst (λ z. Answers k z cap room c.given c.call o h') r a, refl)
    run_more cap room [] (p ∷ os) h mid h' c o r a = absurd r
    run_more cap room (d ∷ cs) [] h mid h' c o r a = absurd r
    run_more cap room (d ∷ cs) (p ∷ os) h mid h' c o r a = (r.0, r.1, run_more cap room cs os r.0 mid h' c o r.2 a)

    module _ (cap room : ℕ) where
      pub record Ran (m : Model Row Change) (ls : List ℕ) (fs : List (Record Row)) (cs : List (Asked Edit)) : Type 0 where
        pub records : List (Record Row)
        pub run : Run k cap room (hist m ls fs) cs (outcomes k cap m ls cs) (hist (model_after k cap m ls cs) (leases_after k cap m ls cs) records)
        pub sim : Sim room (model_after k cap m ls cs) (leases_after k cap m ls cs) records

      ran : (cs : List (Asked Edit)) (m : Model Row Change) (ls : List ℕ) (fs : List (Record Row)) → Sim room m ls fs → Ran m ls fs cs
      ran [] m ls fs z = record { records = fs; run = refl; sim = z }
      ran (c ∷ cs) m ls fs z =
          let st = step k cap m ls c.given c.call in
          let one = step_lawful cap room m ls fs z c.given c.call in
          let rest = ran cs st.model st.leases one.records one.sim in
          record { records = rest.records; run = (hist st.model st.leases one.records, one.fact, rest.run); sim = rest.sim }

      -- a tied model has what the law says of a store in the end
      pub sim_law : (n start : ℕ) (calls : List (Asked Edit)) (outs : List (Told Row)) (m : Model Row Change) (ls : List ℕ) (fs : List (Record Row)) → Sim room m ls fs → Run k cap room (new_history k start n) calls outs (hist m ls fs) → Law k cap room n start calls outs m.clock ls (kept_chains m.records) (in_use m.records)
      sim_law n start calls outs m ls fs z r =
          record {
            history = hist m ls fs;
            run = r;
            time = refl;
            open_leases = refl;
            fits = z.fits;
            right = all_right (opens ls) m.clock fs m.records z.ties;
            needed = ties_needed (opens ls) m.clock fs m.records z.ties;
          }

    new_ties : (start n v : ℕ) → Ties (opens []) start (new_history k start n).records (new_model k n v start).records
    new_ties start zero v = tt
    new_ties start (suc n) v =
        (record { last = refl; early = omega arith; within = tt; newest = refl; holds = tt; right = record { falls = tt; serves = λ s o. let f : ⊥ = omega arith in absurd f; least = λ other so. omega arith } }, new_ties start n v)

    -- a new model is tied to a new history
    pub new_sim : (n v start : ℕ) → Sim v (new_model k n v start) [] (new_history k start n).records
    new_sim n v start = record { table = refl; low = λ t o. let f : ⊥ = omega arith in absurd f; ties = new_ties start n v; fits = omega (arith, new_empty k n v start) }

    pub model_lawful : ModelLawful k
    model_lawful cap n v start calls =
        let r = ran cap v calls (new_model k n v start) [] (new_history k start n).records (new_sim n v start) in
        sim_law cap v n start calls _ _ _ r.records r.sim r.run
