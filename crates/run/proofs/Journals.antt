-- A journal that is performed turn by turn keeps the tie between the store and the history; and what was written can be cut back out of the list.
use Rattle.std.proofs.Common.{◌≡◌, ℕ, ◌+◌, ◌-◌, ◌<◌, ◌≤◌, ltb, leb, List, [], ◌∷◌, ◌++◌, map, length, get_or, take, drop, set, Some, None, Option, sym, refl, ap, ◌∙◌, subst, subst₂, append_assoc, arith, length-append, length-set}
use borrow.Rule.Slice.PartMut.{put_mid}
use lib.ListN.{length-replicate}
use Rattle.std.specs.List.{flat_map}
use Rattle.std.proofs.Math.Seq.{map-set_same}
use Rattle.std.proofs.lemmas.Grind.{flat_map-append}
use Rattle.std.proofs.lemmas.List.{take_at, drop_at, drop-drop, take_all, take_more_set, length-map, length-drop, drop_all, append-nil, map-append}
use Rattle.std.proofs.lemmas.Bool.{ltb-false}
use Rattle.kind.specs.Kinds.{Ops, Laws}
use Rattle.lease.specs.Times.{insert, delete, opens}
use Rattle.history.specs.declared.call.Call.{Call}
use Rattle.history.specs.declared.call.Call.TheVariants.{Open as call_open, Read as call_read, Close as call_close, Begin as call_begin, Look as call_look, Change as call_change, Commit as call_commit, Abandon as call_abandon, Held as call_held, Kept as call_kept, InUse as call_in_use}
use Rattle.history.specs.declared.call.Outcome.{Outcome}
use Rattle.history.specs.declared.call.Outcome.TheVariants.{Opened, Shown, Closed, Began, Changed, Committed, Held, Kept}
use Rattle.history.specs.declared.fault.StoreFault.{StoreFault}
use Rattle.history.specs.History.{Record, new_history}
use Rattle.history.specs.Law.{Told, plain, Run, times}
use Rattle.history.specs.Model.{Model, Step, step, decide, does, or_else, held_number, held_from, owners, list_short, no_record, record_at, reading, looks, all_pruned, begun, changed, committed, refused_open, refused_read, refused_lease, refused_begin, refused_change, refused_commit, refused_held, refused_kept, new_model, Lawful}
use Rattle.history.proofs.Counts.{held_length}
use Rattle.history.proofs.Refusals.{none_left}
use Rattle.history.proofs.Simulation.{Sim, hist, run_more, step_lawful, new_sim, sim_law}
use Rattle.run.specs.declared.turn.Turn.{Turn}
use Rattle.run.specs.Steps.{Performed}
use Rattle.run.specs.Runs.{wrote, calls_of, used_by, asked_from, told_from}

-- what an outcome wrote is as long as it says, and fits into the n places that were given
abbrev pub Fine : {Row : Type 0} → ℕ → Told Row → Type 0
Fine n o = (wrote o.outcome ≡ length o.written) × (length o.written ≤ n)

module _ {Row Edit Change : Type 0} (k : Ops Row Edit Change) (cap : ℕ) (m : Model Row Change) (ls : List ℕ) (n : ℕ) where
  decided_fine : (o : Option StoreFault) (st : Step Row Change) → (o ≡ None → Fine n st.told) → Fine n (decide o m ls st).told
  decided_fine None st h = h refl
  decided_fine (Some f) st h = (refl, omega arith)

  -- a call that is given no list
  quiet : (o : Option StoreFault) (out : Outcome Row) (m' : Model Row Change) (ls' : List ℕ) → wrote out ≡ 0 → Fine n (decide o m ls (does (plain out) m' ls')).told
  quiet o out m' ls' e = decided_fine o (does (plain out) m' ls') (λ _. (e, omega arith))

  pub step_fine : (c : Call Edit) → Fine n (step k cap m ls n c).told
  step_fine call_open = quiet (refused_open cap ls) (Opened m.clock) m (insert m.clock ls) refl
  step_fine (call_read t i) = quiet (refused_read m ls t i) (Shown (reading k (record_at k m i) t)) m ls refl
  step_fine (call_close t) = quiet (refused_lease ls t None) Closed (all_pruned k (opens (delete t ls)) m) (delete t ls) refl
  step_fine call_begin = quiet (refused_begin cap m ls) (Began (m.clock + 1)) (begun k m) (insert (m.clock + 1) ls) refl
  step_fine (call_look w i) = quiet (refused_read m ls w i) (Shown (looks k (record_at k m i) w)) m ls refl
  step_fine (call_change w i e) = quiet (refused_change k m ls w i) Changed (changed k m w i e) ls refl
  step_fine (call_commit w) = quiet (refused_commit m ls w) (Committed (committed k w m).clock (held_number w m)) (all_pruned k (opens (delete w ls)) (committed k w m)) (delete w ls) refl
  step_fine (call_abandon w) = (refl, omega arith)
  step_fine (call_held w) =
      let all = held_number w m in
      let size = held_length w 0 (owners m.records) in
      decided_fine (refused_held m w n) (does (record { outcome = Held all; written = held_from w 0 (owners m.records) }) m ls)
      (λ e. (sym size, omega (arith, size, ltb-false n all (none_left (ltb n all) (list_short all) None e).0)))
  step_fine (call_kept i) =
      let vs = (record_at k m i).chain in
      let size : length (times vs) ≡ length vs = length-map vs (λ v. v.time) in
      decided_fine (refused_kept k m i n) (does (record { outcome = Kept (length vs); written = times vs }) m ls)
      (λ e.
      let rest = (none_left (leb (length m.records) i) (no_record i) (or_else (ltb n (length vs)) (list_short (length vs)) None) e).1 in
      (sym size, omega (arith, size, ltb-false n (length vs) (none_left (ltb n (length vs)) (list_short (length vs)) None rest).0)))
  step_fine call_in_use = (refl, omega arith)

module _ {Edit Row : Type 0} where
  used_more : (ts : List (Turn Edit Row)) (t : Turn Edit Row) → used_by (ts ++ (t ∷ [])) ≡ used_by ts + wrote t.outcome
  used_more [] t = omega arith
  used_more (x ∷ ts) t = omega (arith, used_more ts t)

  asked_more : (n : ℕ) (ts : List (Turn Edit Row)) (t : Turn Edit Row) → asked_from n (ts ++ (t ∷ [])) ≡ asked_from n ts ++ (record { call = t.call; given = n - used_by ts } ∷ [])
  asked_more n [] t = ap (λ z. record { call = t.call; given = z } ∷ []) (omega arith)
  asked_more n (x ∷ ts) t =
      let rest = asked_more (n - wrote x.outcome) ts t in
      let left : (n - wrote x.outcome) - used_by ts ≡ n - (wrote x.outcome + used_by ts) = omega arith in
      ap (λ z. record { call = x.call; given = n } ∷ z) (rest ∙ ap (λ z. asked_from (n - wrote x.outcome) ts ++ (record { call = t.call; given = z } ∷ [])) left)

-- all that was written, and each as long as its outcome says
abbrev written_all : {Row : Type 0} → List (Told Row) → List ℕ
written_all os = flat_map (λ o. o.written) os

abbrev Sized : {Row : Type 0} → List (Told Row) → Type 0
Sized [] = Unit {0}
Sized (o ∷ os) = (wrote o.outcome ≡ length o.written) × Sized os

written_more : {Row : Type 0} (os : List (Told Row)) (o : Told Row) → written_all (os ++ (o ∷ [])) ≡ written_all os ++ o.written
written_more os o = flat_map-append (λ p. p.written) os (o ∷ []) ∙ ap (λ z. written_all os ++ z) (append-nil o.written)

sized_more : {Row : Type 0} (os : List (Told Row)) (o : Told Row) → Sized os → wrote o.outcome ≡ length o.written → Sized (os ++ (o ∷ []))
sized_more [] o s e = (e, tt)
sized_more (p ∷ os) o s e = (s.0, sized_more os o s.1 e)

clash : {A : Type 0} (x : A) (xs : List A) → [] ≡ x ∷ xs → ⊥
clash x xs e = let z : ◌≡◌ {A = ℕ} 0 1 = cc in omega arith

head_same : {A : Type 0} {x y : A} {xs ys : List A} → x ∷ xs ≡ y ∷ ys → x ≡ y
head_same e = cc

tail_same : {A : Type 0} {x y : A} {xs ys : List A} → x ∷ xs ≡ y ∷ ys → xs ≡ ys
tail_same e = cc

-- cut from the front of the list one after the other, the outcomes are what they were
cut_back : {Edit Row : Type 0} (ts : List (Turn Edit Row)) (os : List (Told Row)) (b : List ℕ) → map (λ (t : Turn Edit Row). t.outcome) ts ≡ map (λ (o : Told Row). o.outcome) os → Sized os → told_from (written_all os ++ b) ts ≡ os
cut_back [] [] b e s = refl
cut_back [] (o ∷ os) b e s = absurd (clash _ _ e)
cut_back (t ∷ ts) [] b e s = absurd (clash _ _ (sym e))
cut_back {Row = Row} (t ∷ ts) (o ∷ os) b e s =
    let out = head_same e in
    let size : length o.written ≡ wrote t.outcome = sym s.0 ∙ ap wrote (sym out) in
    let whole = append_assoc o.written (written_all os) b in
    let front = ap (take (wrote t.outcome)) whole ∙ take_at o.written (written_all os ++ b) (wrote t.outcome) size in
    let rest = ap (drop (wrote t.outcome)) whole ∙ drop_at o.written (written_all os ++ b) (wrote t.outcome) size in
    let one : ◌≡◌ {A = Told Row} (record { outcome = t.outcome; written = take (wrote t.outcome) ((o.written ++ written_all os) ++ b) }) o = λ j. record { outcome = out j; written = front j } in
    let more = ap (λ l. told_from l ts) rest ∙ cut_back ts os b (tail_same e) s.1 in
    λ j. one j ∷ more j

-- a list whose part from u on is written
pub written_behind : (u : ℕ) (l sub : List ℕ) → put_mid u (length l - u) l sub ≡ take u l ++ sub
written_behind u l sub = ap (λ z. take u l ++ (sub ++ z)) (drop_all (length l - u) (drop u l) (omega (arith, length-drop u l))) ∙ ap (λ z. take u l ++ z) (append-nil sub)

-- a new model tells what it was made of
pub new_again : {Row Edit Change : Type 0} (k : Ops Row Edit Change) (m : Model Row Change) (n v start : ℕ) → m ≡ new_model k n v start → (length m.records ≡ n) × (m.room ≡ v) × (m.clock ≡ start)
new_again {Row} {Edit} {Change} k m n v start e = (ap (λ (z : Model Row Change). length z.records) e ∙ length-replicate n _, ap (λ (z : Model Row Change). z.room) e, ap (λ (z : Model Row Change). z.clock) e)

module _ {Row Edit Change : Type 0} (k : Ops Row Edit Change) (cap v n start : ℕ) (j₀ : List (Turn Edit Row)) (l₀ : List ℕ) where
  -- after i turns, which used u places of the list: the store's model and leases are tied to the history that the outcomes so far lead to
  pub record Sofar (j : List (Turn Edit Row)) (l : List ℕ) (i u : ℕ) (m : Model Row Change) (ls : List ℕ) : Type 0 where
    pub calls : calls_of j ≡ calls_of j₀
    pub size : length j ≡ length j₀
    pub told : List (Told Row)
    pub outs : map (λ (t : Turn Edit Row). t.outcome) (take i j) ≡ map (λ (o : Told Row). o.outcome) told
    pub sized : Sized told
    pub used : u ≡ used_by (take i j)
    pub within : u ≤ length l₀
    pub front : length (written_all told) ≡ u
    pub list : l ≡ written_all told ++ drop u l₀
    pub records : List (Record Row)
    pub sim : Sim k v m ls records
    pub run : Run k cap v (new_history k start n) (asked_from (length l₀) (take i j)) told (hist k m ls records)

  pub sofar_start : Laws k → (m : Model Row Change) (ls : List ℕ) → m ≡ new_model k n v start → ls ≡ [] → Sofar j₀ l₀ 0 0 m ls
  sofar_start laws m ls em el =
      subst₂ (λ a b. Sofar j₀ l₀ 0 0 a b) (sym em) (sym el)
      (record { calls = refl; size = refl; told = []; outs = refl; sized = tt; used = refl; within = omega arith; front = refl; list = refl; records = (new_history k start n).records; sim = new_sim k laws n v start; run = refl })

  module _ (laws : Laws k) (j : List (Turn Edit Row)) (l : List ℕ) (i u : ℕ) (m : Model Row Change) (ls : List ℕ) (p : Sofar j l i u m ls) where
    left : drop u l ≡ drop u l₀
    left = ap (drop u) p.list ∙ drop_at (written_all p.told) (drop u l₀) u p.front

    pub sofar_next : (t : Turn Edit Row) (o : Outcome Row) (w : ℕ) (m' : Model Row Change) (ls' sub sub' l' : List ℕ) → i < length j → t ≡ get_or j i t → w ≡ wrote o → sub ≡ drop u l → l' ≡ take u l ++ sub' → Performed (step k cap m ls (length sub) t.call) o m' ls' sub sub' → Sofar (set j i (record { call = t.call; outcome = o })) l' (i + 1) (u + w) m' ls'
    sofar_next t o w m' ls' sub sub' l' h at_i ew es el q =
        let st = step k cap m ls (length sub) t.call in
        let turn : Turn Edit Row = record { call = t.call; outcome = o } in
        let ws = st.told.written in
        let fine = step_fine k cap m ls (length sub) t.call in
        let wide : w ≡ length ws = ew ∙ ap wrote q.outcome ∙ fine.0 in
        let rest : sub ≡ drop u l₀ = es ∙ left in
        let given : length sub ≡ length l₀ - used_by (take i j) = ap length rest ∙ length-drop u l₀ ∙ ap (λ z. length l₀ - z) p.used in
        let more : take (i + 1) (set j i turn) ≡ take i j ++ (turn ∷ []) = take_more_set j i turn h in
        let one = step_lawful k laws cap v m ls p.records p.sim (length sub) t.call in
        let ran = run_more k laws cap v (asked_from (length l₀) (take i j)) p.told (new_history k start n) (hist k m ls p.records) (hist k st.model st.leases one.records) (record { call = t.call; given = length sub }) st.told p.run one.fact in
        let asked : asked_from (length l₀) (take (i + 1) (set j i turn)) ≡ asked_from (length l₀) (take i j) ++ (record { call = t.call; given = length sub } ∷ []) =
        ap (asked_from (length l₀)) more ∙ asked_more (length l₀) (take i j) turn ∙ ap (λ z. asked_from (length l₀) (take i j) ++ (record { call = t.call; given = z } ∷ [])) (sym given) in
        record {
          calls = map-set_same (λ (z : Turn Edit Row). z.call) j i turn t (ap (λ (z : Turn Edit Row). z.call) at_i) ∙ p.calls;
          size = length-set j i turn ∙ p.size;
          told = p.told ++ (st.told ∷ []);
          outs = ap (map (λ (z : Turn Edit Row). z.outcome)) more ∙ map-append (λ (z : Turn Edit Row). z.outcome) (take i j) (turn ∷ []) ∙ (λ x. p.outs x ++ (q.outcome x ∷ [])) ∙ sym (map-append (λ (z : Told Row). z.outcome) p.told (st.told ∷ []));
          sized = sized_more p.told st.told p.sized fine.0;
          used = omega (arith, p.used, ap used_by more, used_more (take i j) turn, ew);
          within = omega (arith, p.within, wide, fine.1, ap length rest, length-drop u l₀);
          front = omega (arith, ap length (written_more p.told st.told), length-append (written_all p.told) ws, p.front, wide);
          list =
              el
              ∙ (λ x. (ap (take u) p.list ∙ take_at (written_all p.told) (drop u l₀) u p.front) x ++ (q.list ∙ (λ y. ws ++ drop (sym wide y) (rest y))) x)
              ∙ ap (λ z. written_all p.told ++ (ws ++ z)) (drop-drop w u l₀)
              ∙ sym (append_assoc (written_all p.told) ws (drop (u + w) l₀))
              ∙ ap (λ z. z ++ drop (u + w) l₀) (sym (written_more p.told st.told));
          records = one.records;
          sim = subst₂ (λ a b. Sim k v a b one.records) (sym q.model) (sym q.leases) one.sim;
          run = subst (λ a. Run k cap v (new_history k start n) a (p.told ++ (st.told ∷ [])) (hist k m' ls' one.records)) (sym asked)
              (subst₂ (λ a b. Run k cap v (new_history k start n) (asked_from (length l₀) (take i j) ++ (record { call = t.call; given = length sub } ∷ [])) (p.told ++ (st.told ∷ [])) (hist k a b one.records)) (sym q.model) (sym q.leases) ran);
        }

    -- at the end of the journal
    module _ (h : length j ≤ i) where
      all : take i j ≡ j
      all = take_all i j h

      used_all : u ≡ used_by j
      used_all = p.used ∙ ap used_by all

      law : Lawful k cap n v start (asked_from (length l₀) j) (told_from l j) m ls
      law =
          let cut : told_from l j ≡ p.told = ap (λ z. told_from z j) p.list ∙ cut_back j p.told (drop u l₀) (ap (map (λ (t : Turn Edit Row). t.outcome)) (sym all) ∙ p.outs) p.sized in
          subst (λ o. Lawful k cap n v start (asked_from (length l₀) j) o m ls) (sym cut)
          (sim_law k laws cap v n start (asked_from (length l₀) j) p.told m ls p.records p.sim
          (subst (λ ts. Run k cap v (new_history k start n) (asked_from (length l₀) ts) p.told (hist k m ls p.records)) all p.run))

      -- of a store that was made for so many records and versions, and with this start
      pub sofar_law : (records versions first : ℕ) → (n ≡ records) × (v ≡ versions) × (start ≡ first) → Lawful k cap records versions first (asked_from (length l₀) j) (told_from l j) m ls
      sofar_law records versions first e =
          let P : ℕ → ℕ → ℕ → Type 0 = λ a b c. Lawful k cap a b c (asked_from (length l₀) j) (told_from l j) m ls in
          subst (λ a. P a versions first) e.0 (subst (λ b. P n b first) e.1 (subst (λ c. P n v c) e.2 law))

      pub rest_as_it_was : (used_by j ≤ length l₀) × (drop (used_by j) l ≡ drop (used_by j) l₀)
      rest_as_it_was = subst (λ z. (z ≤ length l₀) × (drop z l ≡ drop z l₀)) used_all (p.within, left)
