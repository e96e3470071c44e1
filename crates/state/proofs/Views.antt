-- Records and chains side by side.
use Rattle.std.proofs.Common.{◌≡◌, ℕ, zero, suc, ◌+◌, ◌<◌, ◌≤◌, Bool, true, false, not, eqb, List, [], ◌∷◌, map, length, get_or, drop, set, Some, None, vec_items, sum_by, Option, Vec, sym, refl, ap, ◌∙◌, add-one, arith}
use mathlib.Core.Bool.{false≢true}
use Rattle.std.proofs.lemmas.Bool.{and_parts, and_from}
use Rattle.std.proofs.lemmas.Bool.Decides.{nat_tests}
use Rattle.std.proofs.lemmas.List.Sums.{sum_by-cons}
use Rattle.std.specs.declared.alloc.Global.{Global}
use Rattle.version_table.specs.declared.table.VersionTable.{VersionTable}
use Rattle.chain.specs.declared.version.Version.{Version}
use Rattle.version_table.specs.Chains.{chains, capacity}
use Rattle.chain.specs.Versions.{reads}
use Rattle.chain.specs.Pruning.{prune}
use Rattle.chain.specs.Pruning.{prune_held}
use Rattle.std.proofs.lemmas.List.{set-get_or}
use Rattle.kind.specs.declared.Kind.{Ghosts}
use Rattle.kind.specs.Kinds.{Ops}
use Rattle.state.specs.declared.entry.Entry.{Entry}
use Rattle.state.specs.declared.state.State.{State}
use Rattle.state.specs.Matched.{backed, matched, stacked}
use Rattle.state.specs.Steps.{map_first}
use Rattle.history.specs.History.{held, at_or, change_at}
use Rattle.history.specs.Model.{Stored, reading, pruned, all_pruned, change_stored, finished_under, in_use, by_other, is_free}
use Rattle.state.specs.Stored.{hold_of, behind, stored, viewed}
use Rattle.state.specs.View.{view}
use Rattle.history.specs.Law.{is_held}

one_use : {C : Type 0} (o : Option ℕ) (c : List (Version C)) → backed o c ≡ true → length (behind o c) + is_held (hold_of o c) ≡ length c
one_use None c b = omega arith
one_use (Some w) [] b = absurd (false≢true b)
one_use (Some w) (v ∷ vs) b = omega arith

module _ {Row C : Type 0} where
  pub rows_alike : (rs : List (Entry Row)) (cs : List (List (Version C))) → matched rs cs ≡ true → length cs ≡ length rs
  rows_alike [] [] e = refl
  rows_alike [] (c ∷ cs) e = absurd (false≢true e)
  rows_alike (r ∷ rs) [] e = absurd (false≢true e)
  rows_alike (r ∷ rs) (c ∷ cs) e = ap suc (rows_alike rs cs (and_parts (backed r.holder c) (matched rs cs) e).1)

  pub viewed-rows : (rs : List (Entry Row)) (cs : List (List (Version C))) → matched rs cs ≡ true → length (viewed rs cs) ≡ length rs
  viewed-rows [] [] e = refl
  viewed-rows [] (c ∷ cs) e = absurd (false≢true e)
  viewed-rows (r ∷ rs) [] e = absurd (false≢true e)
  viewed-rows (r ∷ rs) (c ∷ cs) e = ap suc (viewed-rows rs cs (and_parts (backed r.holder c) (matched rs cs) e).1)

  pub viewed_at : (rs : List (Entry Row)) (cs : List (List (Version C))) (i : ℕ) (d : Stored Row C) (x : Entry Row) → matched rs cs ≡ true → i < length rs → at_or d (viewed rs cs) i ≡ stored (get_or rs i x) (get_or cs i [])
  viewed_at [] [] i d x e h = absurd (omega arith)
  viewed_at [] (c ∷ cs) i d x e h = absurd (omega arith)
  viewed_at (r ∷ rs) [] i d x e h = absurd (false≢true e)
  viewed_at (r ∷ rs) (c ∷ cs) zero d x e h = refl
  viewed_at (r ∷ rs) (c ∷ cs) (suc i) d x e h = viewed_at rs cs i d x (and_parts (backed r.holder c) (matched rs cs) e).1 (omega arith)

  pub backed_at : (rs : List (Entry Row)) (cs : List (List (Version C))) (i : ℕ) (x : Entry Row) → matched rs cs ≡ true → i < length rs → backed (get_or rs i x).holder (get_or cs i []) ≡ true
  backed_at [] [] i x e h = absurd (omega arith)
  backed_at [] (c ∷ cs) i x e h = absurd (omega arith)
  backed_at (r ∷ rs) [] i x e h = absurd (false≢true e)
  backed_at (r ∷ rs) (c ∷ cs) zero x e h = (and_parts (backed r.holder c) (matched rs cs) e).0
  backed_at (r ∷ rs) (c ∷ cs) (suc i) x e h = backed_at rs cs i x (and_parts (backed r.holder c) (matched rs cs) e).1 (omega arith)

  -- one record and its chain are written
  pub matched-set : (rs : List (Entry Row)) (cs : List (List (Version C))) (i : ℕ) (r : Entry Row) (c : List (Version C)) → matched rs cs ≡ true → backed r.holder c ≡ true → matched (set rs i r) (set cs i c) ≡ true
  matched-set [] [] i r c e b = refl
  matched-set [] (d ∷ cs) i r c e b = absurd (false≢true e)
  matched-set (q ∷ rs) [] i r c e b = absurd (false≢true e)
  matched-set (q ∷ rs) (d ∷ cs) zero r c e b = and_from (backed r.holder c) (matched rs cs) b (and_parts (backed q.holder d) (matched rs cs) e).1
  matched-set (q ∷ rs) (d ∷ cs) (suc i) r c e b =
      let a = and_parts (backed q.holder d) (matched rs cs) e in
      and_from (backed q.holder d) (matched (set rs i r) (set cs i c)) a.0 (matched-set rs cs i r c a.1 b)

  pub viewed-set : (f : Stored Row C → Stored Row C) (rs : List (Entry Row)) (cs : List (List (Version C))) (i : ℕ) (r x : Entry Row) (c : List (Version C)) → matched rs cs ≡ true → i < length rs → stored r c ≡ f (stored (get_or rs i x) (get_or cs i [])) → viewed (set rs i r) (set cs i c) ≡ change_at f (viewed rs cs) i
  viewed-set f [] [] i r x c e h s = absurd (omega arith)
  viewed-set f [] (d ∷ cs) i r x c e h s = absurd (omega arith)
  viewed-set f (q ∷ rs) [] i r x c e h s = absurd (false≢true e)
  viewed-set f (q ∷ rs) (d ∷ cs) zero r x c e h s = ap (λ z. z ∷ viewed rs cs) s
  viewed-set f (q ∷ rs) (d ∷ cs) (suc i) r x c e h s = ap (λ z. stored q d ∷ z) (viewed-set f rs cs i r x c (and_parts (backed q.holder d) (matched rs cs) e).1 (omega arith) s)

  -- every slot in use is a kept version or a holder's change
  pub uses : (rs : List (Entry Row)) (cs : List (List (Version C))) → matched rs cs ≡ true → in_use (viewed rs cs) ≡ sum_by length cs
  uses [] [] e = refl
  uses [] (c ∷ cs) e = absurd (false≢true e)
  uses (r ∷ rs) [] e = absurd (false≢true e)
  uses (r ∷ rs) (c ∷ cs) e =
      let a = and_parts (backed r.holder c) (matched rs cs) e in
      omega (arith, one_use r.holder c a.0, uses rs cs a.1, sum_by-cons length c cs)

module _ {K Row Edit C : Type 0} {G : Ghosts K Row Edit C} (s : State K Row Edit C G) where
  pub view-rows : length (view s).records ≡ length (vec_items s.records)
  unfolding view
  view-rows = viewed-rows (vec_items s.records) (chains s.table) s.sound

  pub in_table : (i : ℕ) → i < length (view s).records → i < length (chains s.table)
  in_table i h = omega (arith, view-rows, rows_alike (vec_items s.records) (chains s.table) s.sound)

  pub in_records : (i : ℕ) → i < length (view s).records → i < length (vec_items s.records)
  in_records i h = omega (arith, view-rows)

  pub view_at : (i : ℕ) (d : Stored Row C) (x : Entry Row) → i < length (view s).records → x ≡ get_or (vec_items s.records) i x → at_or d (view s).records i ≡ stored x (get_or (chains s.table) i [])
  unfolding view
  view_at i d x h e = viewed_at (vec_items s.records) (chains s.table) i d x s.sound (in_records i h) ∙ ap (λ z. stored z (get_or (chains s.table) i [])) (sym e)

  pub view-uses : in_use (view s).records ≡ sum_by length (chains s.table)
  unfolding view
  view-uses = uses (vec_items s.records) (chains s.table) s.sound

-- what a record reads, free or held
module _ {Row Edit C : Type 0} (k : Ops Row Edit C) (x : Entry Row) (c : List (Version C)) (t : ℕ) where
  pub read_free : x.holder ≡ None → reading k (stored x c) t ≡ reads k x.row c t
  read_free e = ap (λ o. reads k (finished_under k x.row (hold_of o c)) (behind o c) t) e

  pub read_held : (w : ℕ) (v : Version C) → x.holder ≡ Some w → c ≡ v ∷ drop 1 c → reading k (stored x c) t ≡ reads k (k.undo x.row v.change) (drop 1 c) t
  read_held w v e f =
      ap (λ o. reads k (finished_under k x.row (hold_of o c)) (behind o c) t) e
      ∙ ap (λ d. reads k (finished_under k x.row (hold_of (Some w) d)) (drop 1 c) t) f

  pub read_bare : (w : ℕ) → x.holder ≡ Some w → c ≡ [] → reading k (stored x c) t ≡ reads k x.row (drop 1 c) t
  read_bare w e f =
      ap (λ o. reads k (finished_under k x.row (hold_of o c)) (behind o c) t) e
      ∙ ap (λ d. reads k (finished_under k x.row (hold_of (Some w) d)) (drop 1 c) t) f

pub map_more : {V : Type 0} (f : V → V) (xs : List V) (i : ℕ) → i < length xs → change_at f (map_first f i xs) i ≡ map_first f (suc i) xs
map_more f [] i h = absurd (omega arith)
map_more f (x ∷ xs) zero h = refl
map_more f (x ∷ xs) (suc i) h = ap (λ z. f x ∷ z) (map_more f xs i (omega arith))

pub map_all : {V : Type 0} (f : V → V) (xs : List V) (n : ℕ) → length xs ≤ n → map_first f n xs ≡ map f xs
map_all f [] zero h = refl
map_all f [] (suc n) h = refl
map_all f (x ∷ xs) zero h = absurd (omega arith)
map_all f (x ∷ xs) (suc n) h = ap (λ z. f x ∷ z) (map_all f xs n (omega arith))

-- what pruning leaves of a record's list
abbrev pub swept : {Row Edit C : Type 0} → Ops Row Edit C → (ℕ → ℕ) → Row → Option ℕ → List (Version C) → List (Version C)
swept k os r None c = prune k os r c
swept k os r (Some w) c = prune_held k os r c

-- a record whose chain is pruned
module _ {Row Edit C : Type 0} (k : Ops Row Edit C) (os : ℕ → ℕ) where
  pruned_under : (r : Row) (l : ℕ) (o : Option ℕ) (c : List (Version C)) → stored (record { row = r; last = l; holder = o }) (swept k os r o c) ≡ pruned k os (stored (record { row = r; last = l; holder = o }) c)
  pruned_under r l None c = refl
  pruned_under r l (Some w) [] = refl
  pruned_under r l (Some w) (v ∷ vs) = refl

  pub pruned_one : (x : Entry Row) (c : List (Version C)) → stored x (swept k os x.row x.holder c) ≡ pruned k os (stored x c)
  pruned_one x c = pruned_under x.row x.last x.holder c

  pub swept_backed : (r : Row) (o : Option ℕ) (c : List (Version C)) → backed o c ≡ true → backed o (swept k os r o c) ≡ true
  swept_backed r None c b = refl
  swept_backed r (Some w) [] b = b
  swept_backed r (Some w) (v ∷ vs) b = refl

  -- one more chain of a table is pruned
  module _ (rs : List (Entry Row)) (cs cs' : List (List (Version C))) (i : ℕ) (x : Entry Row) (m : matched rs cs ≡ true) (h : i < length rs) (e : x ≡ get_or rs i x) (p : cs' ≡ set cs i (swept k os x.row x.holder (get_or cs i []))) where
    same_rows : set rs i x ≡ rs
    same_rows = ap (set rs i) e ∙ set-get_or rs i x

    pub swept_sound : matched rs cs' ≡ true
    swept_sound =
        let b : backed x.holder (get_or cs i []) ≡ true = ap (λ (z : Entry Row). backed z.holder (get_or cs i [])) e ∙ backed_at rs cs i x m h in
        ap (λ z. matched z cs') (sym same_rows) ∙ ap (matched (set rs i x)) p
        ∙ matched-set rs cs i x (swept k os x.row x.holder (get_or cs i [])) m (swept_backed x.row x.holder (get_or cs i []) b)

    pub swept_view : viewed rs cs' ≡ change_at (pruned k os) (viewed rs cs) i
    swept_view =
        let q : stored x (swept k os x.row x.holder (get_or cs i [])) ≡ pruned k os (stored (get_or rs i x) (get_or cs i [])) =
        pruned_one x (get_or cs i []) ∙ ap (λ z. pruned k os (stored z (get_or cs i []))) e in
        ap (λ z. viewed z cs') (sym same_rows) ∙ ap (viewed (set rs i x)) p
        ∙ viewed-set (pruned k os) rs cs i x x (swept k os x.row x.holder (get_or cs i [])) m h q

-- the chains below n are pruned, and nothing else is altered
abbrev pub SweptTo : {K Row Edit C : Type 0} {G : Ghosts K Row Edit C} → Ops Row Edit C → (ℕ → ℕ) → State K Row Edit C G → ℕ → Vec (Entry Row) Global → VersionTable C → ℕ → Type 0
SweptTo k os s₀ clock records table n =
    (clock ≡ s₀.clock) × (records ≡ s₀.records) × (capacity table ≡ capacity s₀.table)
    × (viewed (vec_items records) (chains table) ≡ map_first (pruned k os) n (viewed (vec_items s₀.records) (chains s₀.table)))

module _ {K Row Edit C : Type 0} {G : Ghosts K Row Edit C} (k : Ops Row Edit C) (os : ℕ → ℕ) (s₀ s : State K Row Edit C G) (i : ℕ) (x : Entry Row) (t : VersionTable C) where
  module _ (h : i < length (vec_items s.records)) (e : x ≡ get_or (vec_items s.records) i x) (p : chains t ≡ set (chains s.table) i (swept k os x.row x.holder (get_or (chains s.table) i []))) where
    pub sweep_sound : matched (vec_items s.records) (chains t) ≡ true
    sweep_sound = swept_sound k os (vec_items s.records) (chains s.table) (chains t) i x s.sound h e p

    pub sweep_step : capacity t ≡ capacity s.table → SweptTo k os s₀ s.clock s.records s.table i → SweptTo k os s₀ s.clock s.records t (i + 1)
    sweep_step r v =
        let f = pruned k os in
        let old = viewed (vec_items s₀.records) (chains s₀.table) in
        let rows : length old ≡ length (vec_items s₀.records) = viewed-rows (vec_items s₀.records) (chains s₀.table) s₀.sound in
        let same : length (vec_items s.records) ≡ length (vec_items s₀.records) = ap (λ z. length (vec_items z)) v.1 in
        let lt : i < length old = omega (arith, rows, same, h) in (
          v.0,
          v.1,
          r ∙ v.2,
          swept_view k os (vec_items s.records) (chains s.table) (chains t) i x s.sound h e p
              ∙ ap (λ z. change_at f z i) v.3 ∙ map_more f old i lt ∙ ap (λ n. map_first f n old) (sym (add-one i)),
        )

module _ {K Row Edit C : Type 0} {G : Ghosts K Row Edit C} (k : Ops Row Edit C) (os : ℕ → ℕ) (s₀ s : State K Row Edit C G) where
  pub sweep_end : (n : ℕ) → length (vec_items s₀.records) ≤ n → SweptTo k os s₀ s.clock s.records s.table n → view s ≡ all_pruned k os (view s₀)
  unfolding view
  sweep_end n h v =
      let old = viewed (vec_items s₀.records) (chains s₀.table) in
      let rows : length old ≡ length (vec_items s₀.records) = viewed-rows (vec_items s₀.records) (chains s₀.table) s₀.sound in
      let all = v.3 ∙ map_all (pruned k os) old n (omega (arith, rows, h)) in
      λ j. record { clock = v.0 j; room = v.2 j; records = all j }

abbrev pub by_other_of : ℕ → Option ℕ → Bool
by_other_of w None = false
by_other_of w (Some v) = not (eqb w v)

eq_of : (w v : ℕ) → not (eqb w v) ≡ false → w ≡ v
eq_of w v e = grind (arith, nat_tests)

-- the holder that the model sees
pub other_is : {C : Type 0} (w : ℕ) (o : Option ℕ) (c : List (Version C)) → backed o c ≡ true → by_other w (hold_of o c) ≡ by_other_of w o
other_is w None c b = refl
other_is w (Some v) [] b = absurd (false≢true b)
other_is w (Some v) (u ∷ vs) b = refl

abbrev pub free_of : Option ℕ → Bool
free_of None = true
free_of (Some v) = false

pub free_is : {C : Type 0} (o : Option ℕ) (c : List (Version C)) → backed o c ≡ true → is_free (hold_of o c) ≡ free_of o
free_is None c b = refl
free_is (Some v) [] b = absurd (false≢true b)
free_is (Some v) (u ∷ vs) b = refl

-- a record after one more change of the writer w
module _ {Row Edit C : Type 0} (k : Ops Row Edit C) (w : ℕ) (e : Edit) where
  abbrev pub edited_entry : Entry Row → Entry Row
  edited_entry x = record { row = k.edited x.row e; last = x.last; holder = Some w }

  abbrev pub newest_of : Entry Row → Version C
  newest_of x = record { time = w; change = k.before x.row e }

  edited_under : (r : Row) (l : ℕ) (o : Option ℕ) (c : List (Version C)) → by_other_of w o ≡ false → backed o c ≡ true →
      stored (edited_entry (record { row = r; last = l; holder = o })) (stacked k o (newest_of (record { row = r; last = l; holder = o })) c)
      ≡ change_stored k w e (stored (record { row = r; last = l; holder = o }) c)
  edited_under r l None c a b = refl
  edited_under r l (Some v) [] a b = absurd (false≢true b)
  edited_under r l (Some v) (u ∷ vs) a b =
      let q : w ≡ v = eq_of w v a in
      ap (λ n. record { place = k.edited r e; holder = held n (k.join (k.before r e) u.change); last = l; chain = vs }) q

  pub edited_one : (x : Entry Row) (c : List (Version C)) → by_other_of w x.holder ≡ false → backed x.holder c ≡ true → stored (edited_entry x) (stacked k x.holder (newest_of x) c) ≡ change_stored k w e (stored x c)
  edited_one x c a b = edited_under x.row x.last x.holder c a b

  pub stacked-backed : (o : Option ℕ) (v : Version C) (c : List (Version C)) → backed o c ≡ true → backed (Some w) (stacked k o v c) ≡ true
  stacked-backed None v c b = refl
  stacked-backed (Some u) v [] b = absurd (false≢true b)
  stacked-backed (Some u) v (o ∷ vs) b = refl

-- a record and its chain after one more change
module _ {K Row Edit C : Type 0} {G : Ghosts K Row Edit C} (k : Ops Row Edit C) (w : ℕ) (e : Edit) (s : State K Row Edit C G) (i : ℕ) (x : Entry Row) (t : VersionTable C) (p : Row × C) where
  module _ (h : i < length (vec_items s.records)) (ex : x ≡ get_or (vec_items s.records) i x) (ep : p ≡ (k.edited x.row e, k.before x.row e)) (mine : by_other_of w x.holder ≡ false) (q : chains t ≡ set (chains s.table) i (stacked k x.holder (record { time = w; change = p.1 }) (get_or (chains s.table) i []))) where
    there : backed x.holder (get_or (chains s.table) i []) ≡ true
    there = ap (λ (z : Entry Row). backed z.holder (get_or (chains s.table) i [])) ex ∙ backed_at (vec_items s.records) (chains s.table) i x s.sound h

    pub put_sound : matched (set (vec_items s.records) i (record { row = p.0; last = x.last; holder = Some w })) (chains t) ≡ true
    put_sound =
        ap (matched (set (vec_items s.records) i (record { row = p.0; last = x.last; holder = Some w }))) q
        ∙ matched-set (vec_items s.records) (chains s.table) i (record { row = p.0; last = x.last; holder = Some w }) (stacked k x.holder (record { time = w; change = p.1 }) (get_or (chains s.table) i [])) s.sound (stacked-backed k w e x.holder (record { time = w; change = p.1 }) (get_or (chains s.table) i []) there)

    pub put_view : viewed (set (vec_items s.records) i (record { row = p.0; last = x.last; holder = Some w })) (chains t) ≡ change_at (change_stored k w e) (viewed (vec_items s.records) (chains s.table)) i
    put_view =
        let c = get_or (chains s.table) i [] in
        let one : stored (record { row = p.0; last = x.last; holder = Some w }) (stacked k x.holder (record { time = w; change = p.1 }) c) ≡ change_stored k w e (stored (get_or (vec_items s.records) i x) c) =
        ap (λ (z : Row × C). stored (record { row = z.0; last = x.last; holder = Some w }) (stacked k x.holder (record { time = w; change = z.1 }) c)) ep
        ∙ edited_one k w e x c mine there ∙ ap (λ z. change_stored k w e (stored z c)) ex in
        ap (viewed (set (vec_items s.records) i (record { row = p.0; last = x.last; holder = Some w }))) q
        ∙ viewed-set (change_stored k w e) (vec_items s.records) (chains s.table) i (record { row = p.0; last = x.last; holder = Some w }) x (stacked k x.holder (record { time = w; change = p.1 }) c) s.sound h one
