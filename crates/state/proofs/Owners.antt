-- Who may change a record, as the record table says it.
use Rattle.std.proofs.Common.{◌≡◌, ℕ, ◌<◌, ◌≤◌, Bool, true, false, ◌&&◌, ltb, leb, List, [], length, get_or, Some, None, vec_items, sum_by, Option, refl, ap, ◌∙◌, arith}
use Rattle.std.proofs.lemmas.Bool.{lt-ltb, le-ltb}
use Rattle.std.proofs.lemmas.Bool.Decides.{nat_tests}
use Rattle.kind.specs.declared.Kind.{Ghosts}
use Rattle.kind.specs.Kinds.{Ops}
use Rattle.chain.specs.declared.version.Version.{Version}
use Rattle.version_table.specs.Chains.{chains, capacity}
use Rattle.history.specs.declared.fault.StoreFault.{StoreFault}
use Rattle.history.specs.Card.{held_by_other, row_newer, versions_used}
use Rattle.state.specs.declared.entry.Entry.{Entry}
use Rattle.state.specs.declared.state.State.{State}
use Rattle.state.specs.Matched.{backed, Room}
use Rattle.history.specs.Model.{Stored, or_else, by_other, is_free, in_use, refused_own, new_stored}
use Rattle.state.specs.Stored.{hold_of}
use Rattle.state.specs.View.{view}
use Rattle.state.proofs.Views.{by_other_of, free_of, other_is, free_is, backed_at, in_records, view_at, view-uses}
use Rattle.history.proofs.Refusals.{comes, passes, none_left}

abbrev pub own_of : ℕ → ℕ → Option ℕ → ℕ → Bool → Option StoreFault
own_of w i o last full =
    or_else (by_other_of w o) (held_by_other i)
    (or_else (ltb w last) (row_newer i)
    (or_else (free_of o && full) (versions_used i) None))

abbrev parts : ℕ → ℕ → Bool → ℕ → Bool → Bool → Option StoreFault
parts w i other last fr full =
    or_else other (held_by_other i)
    (or_else (ltb w last) (row_newer i)
    (or_else (fr && full) (versions_used i) None))

module _ {K Row Edit C : Type 0} {G : Ghosts K Row Edit C} (k : Ops Row Edit C) (s : State K Row Edit C G) where
  abbrev pub full_up : Bool
  full_up = leb (capacity s.table) (sum_by length (chains s.table))

  room_is : (view s).room ≡ capacity s.table
  unfolding view
  room_is = refl

  pub own_is : (i w : ℕ) (x : Entry Row) → i < length (view s).records → x ≡ get_or (vec_items s.records) i x → refused_own k (view s) w i ≡ own_of w i x.holder x.last full_up
  own_is i w x h e =
      let c = get_or (chains s.table) i [] in
      let y = view_at s i (new_stored k 0) x h e in
      let b : backed x.holder c ≡ true = ap (λ (z : Entry Row). backed z.holder c) e ∙ backed_at (vec_items s.records) (chains s.table) i x s.sound (in_records s i h) in
      let full : leb (view s).room (in_use (view s).records) ≡ full_up = ap (λ n. leb n (in_use (view s).records)) room_is ∙ ap (λ n. leb (capacity s.table) n) (view-uses s) in
      ap (λ (z : Stored Row C). parts w i (by_other w z.holder) z.last (is_free z.holder) (leb (view s).room (in_use (view s).records))) y
      ∙ ap (λ z. parts w i z x.last (is_free (hold_of x.holder c)) (leb (view s).room (in_use (view s).records))) (other_is w x.holder c b)
      ∙ ap (λ z. parts w i (by_other_of w x.holder) x.last z (leb (view s).room (in_use (view s).records))) (free_is x.holder c b)
      ∙ ap (λ z. parts w i (by_other_of w x.holder) x.last (free_of x.holder) z) full

pub own_none : (w i : ℕ) (o : Option ℕ) (last : ℕ) (full : Bool) → own_of w i o last full ≡ None → (by_other_of w o ≡ false) × ((free_of o && full) ≡ false)
own_none w i o last full e =
    let a = none_left (by_other_of w o) (held_by_other i) (or_else (ltb w last) (row_newer i) (or_else (free_of o && full) (versions_used i) None)) e in
    let b = none_left (ltb w last) (row_newer i) (or_else (free_of o && full) (versions_used i) None) a.1 in
    let c = none_left (free_of o && full) (versions_used i) None b.1 in
    (a.0, c.0)

lt_of : (n used : ℕ) → leb n used ≡ false → used < n
lt_of n used e = grind (arith, nat_tests)

pub room_of : {C : Type 0} (o : Option ℕ) (vs : List (Version C)) (used n : ℕ) → (free_of o && leb n used) ≡ false → Room o vs used n
room_of None vs used n e = lt_of n used e
room_of (Some w) vs used n e = tt

-- the checks in turn
module _ (w i last : ℕ) (full : Bool) where
  pub own_five : (o : Option ℕ) (v : ℕ) → o ≡ Some v → (v ≡ w → ⊥) → own_of w i o last full ≡ Some (held_by_other i)
  own_five o v e n = ap (λ z. own_of w i z last full) e ∙ comes (by_other_of w (Some v)) (held_by_other i) (or_else (ltb w last) (row_newer i) (or_else (free_of (Some v) && full) (versions_used i) None)) (grind (arith, nat_tests))

  -- a record that no other holds
  not_five : (o : Option ℕ) → by_other_of w o ≡ false → own_of w i o last full ≡ or_else (ltb w last) (row_newer i) (or_else (free_of o && full) (versions_used i) None)
  not_five o b = passes (by_other_of w o) (held_by_other i) (or_else (ltb w last) (row_newer i) (or_else (free_of o && full) (versions_used i) None)) b

  pub own_six : (o : Option ℕ) → by_other_of w o ≡ false → w < last → own_of w i o last full ≡ Some (row_newer i)
  own_six o b h = not_five o b ∙ comes (ltb w last) (row_newer i) (or_else (free_of o && full) (versions_used i) None) (lt-ltb w last h)

  late : (o : Option ℕ) → by_other_of w o ≡ false → last ≤ w → own_of w i o last full ≡ or_else (free_of o && full) (versions_used i) None
  late o b h = not_five o b ∙ passes (ltb w last) (row_newer i) (or_else (free_of o && full) (versions_used i) None) (le-ltb w last h)

  pub own_free : (o : Option ℕ) → o ≡ None → last ≤ w → own_of w i o last full ≡ or_else full (versions_used i) None
  own_free o e h = ap (λ z. own_of w i z last full) e ∙ late None refl h

  pub own_held : (o : Option ℕ) (v : ℕ) → o ≡ Some v → by_other_of w o ≡ false → last ≤ w → own_of w i o last full ≡ None
  own_held o v e b h = late o b h ∙ ap (λ z. or_else (free_of z && full) (versions_used i) None) e

pub not_other : (w : ℕ) (o : Option ℕ) (v : ℕ) → o ≡ Some v → v ≡ w → by_other_of w o ≡ false
not_other w o v e q = ap (by_other_of w) e ∙ mine w v q
  where
    mine : (w v : ℕ) → v ≡ w → by_other_of w (Some v) ≡ false
    mine w v q = grind (arith, nat_tests)
