-- One record written, and each record in turn.
use Rattle.std.proofs.Common.{◌≡◌, ℕ, zero, suc, ◌+◌, ◌<◌, ◌≤◌, Bool, true, false, cond, eqb, List, [], ◌∷◌, length, get_or, drop, set, Some, None, vec_items, count_by, Option, sym, refl, ap, ◌∙◌, add-one, arith}
use mathlib.Core.Bool.{false≢true}
use Rattle.std.specs.Option.{option_eq}
use Rattle.std.proofs.lemmas.Bool.{and_parts, eq-eqb, ne_eqb}
use Rattle.std.proofs.lemmas.Bool.Decides.{nat_tests}
use Rattle.std.proofs.lemmas.List.Sums.{sum_by-cons}
use Rattle.kind.specs.declared.Kind.{Ghosts}
use Rattle.kind.specs.Kinds.{Ops}
use Rattle.chain.specs.declared.version.Version.{Version}
use Rattle.version_table.specs.declared.table.VersionTable.{VersionTable}
use Rattle.version_table.specs.Chains.{chains}
use Rattle.state.specs.declared.entry.Entry.{Entry}
use Rattle.state.specs.declared.state.State.{State}
use Rattle.state.specs.Matched.{backed, matched, stamped, taken_back}
use Rattle.state.specs.Steps.{map_first, one_changed, first_changed}
use Rattle.history.specs.History.{free, held, at_or, change_at, held_by, who, count_held}
use Rattle.history.specs.Model.{Stored, Model, held_number, owners, finish_stored, free_stored, every}
use Rattle.state.specs.Stored.{hold_of, stored, viewed}
use Rattle.state.specs.View.{view}
use Rattle.state.proofs.Views.{matched-set, viewed-set, backed_at, view_at, in_records, map_more, map_all}

module _ {K Row Edit C : Type 0} {G : Ghosts K Row Edit C} (f : Stored Row C → Stored Row C) (s : State K Row Edit C G) (i : ℕ) (x : Entry Row) where
  pub there : i < length (view s).records → x ≡ get_or (vec_items s.records) i x → backed x.holder (get_or (chains s.table) i []) ≡ true
  there h ex = ap (λ (z : Entry Row). backed z.holder (get_or (chains s.table) i [])) ex ∙ backed_at (vec_items s.records) (chains s.table) i x s.sound (in_records s i h)

  module _ (y : Entry Row) (c : List (Version C)) (t : VersionTable C) (h : i < length (view s).records) (ex : x ≡ get_or (vec_items s.records) i x) (q : chains t ≡ set (chains s.table) i c) where
    pub write_sound : backed y.holder c ≡ true → matched (set (vec_items s.records) i y) (chains t) ≡ true
    write_sound b = ap (matched (set (vec_items s.records) i y)) q ∙ matched-set (vec_items s.records) (chains s.table) i y c s.sound b

    pub write_view : stored y c ≡ f (stored x (get_or (chains s.table) i [])) → viewed (set (vec_items s.records) i y) (chains t) ≡ change_at f (viewed (vec_items s.records) (chains s.table)) i
    write_view e =
        ap (viewed (set (vec_items s.records) i y)) q
        ∙ viewed-set f (vec_items s.records) (chains s.table) i y x c s.sound (in_records s i h) (e ∙ ap (λ z. f (stored z (get_or (chains s.table) i []))) ex)

change_none : {V : Type 0} (f : V → V) (d : V) (xs : List V) (i : ℕ) → f (at_or d xs i) ≡ at_or d xs i → change_at f xs i ≡ xs
change_none f d [] i e = refl
change_none f d (x ∷ xs) zero e = ap (λ z. z ∷ xs) e
change_none f d (x ∷ xs) (suc i) e = ap (λ z. x ∷ z) (change_none f d xs i e)

module _ {K Row Edit C : Type 0} {G : Ghosts K Row Edit C} (f : Stored Row C → Stored Row C) (s : State K Row Edit C G) (i : ℕ) (x : Entry Row) (d : Stored Row C) where
  pub unwritten : i < length (view s).records → x ≡ get_or (vec_items s.records) i x → f (stored x (get_or (chains s.table) i [])) ≡ stored x (get_or (chains s.table) i []) → view s ≡ one_changed f i (view s)
  unwritten h ex e =
      let a = view_at s i d x h ex in
      let b : f (at_or d (view s).records i) ≡ at_or d (view s).records i = ap f a ∙ e ∙ sym a in
      λ j. record { clock = (view s).clock; room = (view s).room; records = sym (change_none f d (view s).records i b) j }

-- whether a writer is the holder
abbrev pub owns : ℕ → Option ℕ → Bool
owns w o = option_eq eqb o (Some w)

eqb-swap : (v w : ℕ) → eqb w v ≡ eqb v w
eqb-swap v w = grind (arith, nat_tests)

-- the model says the same of a record whose holder's change is there
pub owns_is : {C : Type 0} (w : ℕ) (o : Option ℕ) (c : List (Version C)) → backed o c ≡ true → held_by w (hold_of o c) ≡ owns w o
owns_is w None c b = refl
owns_is w (Some v) [] b = absurd (false≢true b)
owns_is w (Some v) (u ∷ c) b = eqb-swap v w

pub owns_who : {C : Type 0} (w : ℕ) (o : Option ℕ) (c : List (Version C)) → backed o c ≡ true → held_by w (who (hold_of o c)) ≡ owns w o
owns_who w None c b = refl
owns_who w (Some v) [] b = absurd (false≢true b)
owns_who w (Some v) (u ∷ c) b = eqb-swap v w

pub own_yes : (w v : ℕ) (o : Option ℕ) → o ≡ Some v → v ≡ w → owns w o ≡ true
own_yes w v o e q = ap (owns w) e ∙ eq-eqb v w q

pub own_no : (w v : ℕ) (o : Option ℕ) → o ≡ Some v → (v ≡ w → ⊥) → owns w o ≡ false
own_no w v o e n = ap (owns w) e ∙ ne_eqb v w n

module _ {Row Edit C : Type 0} (k : Ops Row Edit C) (w : ℕ) where
  pub finish_one : (t : ℕ) (x : Entry Row) (c : List (Version C)) → owns w x.holder ≡ true → backed x.holder c ≡ true → stored (record { row = x.row; last = t; holder = None }) (stamped t c) ≡ finish_stored k w t (stored x c)
  finish_one t x c = go x.holder c
    where
      go : (o : Option ℕ) (c : List (Version C)) → owns w o ≡ true → backed o c ≡ true → stored (record { row = x.row; last = t; holder = None }) (stamped t c) ≡ finish_stored k w t (stored (record { row = x.row; last = x.last; holder = o }) c)
      go None c e b = absurd (false≢true e)
      go (Some v) [] e b = absurd (false≢true b)
      go (Some v) (u ∷ c) e b = ap (λ z. cond z (record { place = x.row; holder = free; last = t; chain = record { time = t; change = u.change } ∷ c }) (record { place = x.row; holder = held v u.change; last = x.last; chain = c })) (sym (eqb-swap v w ∙ e))

  pub free_one : (x : Entry Row) (c : List (Version C)) → owns w x.holder ≡ true → backed x.holder c ≡ true → stored (record { row = taken_back k x.row c; last = x.last; holder = None }) (drop 1 c) ≡ free_stored k w (stored x c)
  free_one x c = go x.holder c
    where
      go : (o : Option ℕ) (c : List (Version C)) → owns w o ≡ true → backed o c ≡ true → stored (record { row = taken_back k x.row c; last = x.last; holder = None }) (drop 1 c) ≡ free_stored k w (stored (record { row = x.row; last = x.last; holder = o }) c)
      go None c e b = absurd (false≢true e)
      go (Some v) [] e b = absurd (false≢true b)
      go (Some v) (u ∷ c) e b = ap (λ z. cond z (record { place = k.undo x.row u.change; holder = free; last = x.last; chain = c }) (record { place = x.row; holder = held v u.change; last = x.last; chain = c })) (sym (eqb-swap v w ∙ e))

  -- a record that the writer does not hold
  pub finish_other : (t : ℕ) (x : Entry Row) (c : List (Version C)) → owns w x.holder ≡ false → finish_stored k w t (stored x c) ≡ stored x c
  finish_other t x c = go x.holder c
    where
      go : (o : Option ℕ) (c : List (Version C)) → owns w o ≡ false → finish_stored k w t (stored (record { row = x.row; last = x.last; holder = o }) c) ≡ stored (record { row = x.row; last = x.last; holder = o }) c
      go None c e = refl
      go (Some v) [] e = refl
      go (Some v) (u ∷ c) e = ap (λ z. cond z (record { place = x.row; holder = free; last = t; chain = record { time = t; change = u.change } ∷ c }) (record { place = x.row; holder = held v u.change; last = x.last; chain = c })) (eqb-swap v w ∙ e)

  pub free_other : (x : Entry Row) (c : List (Version C)) → owns w x.holder ≡ false → free_stored k w (stored x c) ≡ stored x c
  free_other x c = go x.holder c
    where
      go : (o : Option ℕ) (c : List (Version C)) → owns w o ≡ false → free_stored k w (stored (record { row = x.row; last = x.last; holder = o }) c) ≡ stored (record { row = x.row; last = x.last; holder = o }) c
      go None c e = refl
      go (Some v) [] e = refl
      go (Some v) (u ∷ c) e = ap (λ z. cond z (record { place = k.undo x.row u.change; holder = free; last = x.last; chain = c }) (record { place = x.row; holder = held v u.change; last = x.last; chain = c })) (eqb-swap v w ∙ e)

-- each record in turn
length-first : {V : Type 0} (f : V → V) (n : ℕ) (xs : List V) → length (map_first f n xs) ≡ length xs
length-first f zero xs = refl
length-first f (suc n) [] = refl
length-first f (suc n) (x ∷ xs) = ap suc (length-first f n xs)

module _ {Row Edit C : Type 0} (k : Ops Row Edit C) (f : Stored Row C → Stored Row C) (m₀ m : Model Row C) (i : ℕ) (v : m ≡ first_changed f i m₀) where
  pub still_there : i < length m₀.records → i < length m.records
  still_there h = omega (arith, ap (λ (z : Model Row C). length z.records) v, length-first f i m₀.records)

  pub one_more : (m' : Model Row C) → i < length m₀.records → m' ≡ one_changed f i m → m' ≡ first_changed f (i + 1) m₀
  one_more m' h e =
      e ∙ ap (one_changed f i) v
      ∙ (λ j. record { clock = m₀.clock; room = m₀.room; records = (map_more f m₀.records i h ∙ ap (λ n. map_first f n m₀.records) (sym (add-one i))) j })

  pub all_done : length m₀.records ≤ i → m ≡ every k f m₀
  all_done h = v ∙ (λ j. record { clock = m₀.clock; room = m₀.room; records = map_all f m₀.records i h j })

-- how many records a writer holds
counts : {Row C : Type 0} (w : ℕ) (rs : List (Entry Row)) (cs : List (List (Version C))) → matched rs cs ≡ true → count_held w (owners (viewed rs cs)) ≡ count_by (λ x. owns w x.holder) rs
counts w [] [] e = refl
counts w [] (c ∷ cs) e = absurd (false≢true e)
counts w (r ∷ rs) [] e = absurd (false≢true e)
counts w (r ∷ rs) (c ∷ cs) e =
    let a = and_parts (backed r.holder c) (matched rs cs) e in
    omega (arith, ap {B = ℕ} (λ b. cond b 1 0) (owns_who w r.holder c a.0), counts w rs cs a.1, sum_by-cons (λ x. cond (owns w x.holder) 1 0) r rs)

pub view-counts : {K Row Edit C : Type 0} {G : Ghosts K Row Edit C} (w : ℕ) (s : State K Row Edit C G) → held_number w (view s) ≡ count_by (λ x. owns w x.holder) (vec_items s.records)
unfolding view
view-counts w s = counts w (vec_items s.records) (chains s.table) s.sound

pub clock_is : {K Row Edit C : Type 0} {G : Ghosts K Row Edit C} (s : State K Row Edit C G) → s.clock ≡ (view s).clock
unfolding view
clock_is s = refl
