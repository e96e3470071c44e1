-- Which refusal comes: lemmas on the words of the model that the calls' proofs share.
use Rattle.std.proofs.Common.{◌≡◌, ℕ, ◌<◌, ◌≤◌, Bool, true, false, cond, ◌&&◌, eqb, ltb, leb, List, [], ◌∷◌, length, Some, None, Ok, Err, Option, Result, sym, refl, ap, ◌∙◌, arith}
use Rattle.std.proofs.lemmas.Bool.{le-leb, lt-leb, eq-eqb, ne_eqb, lt-ltb, le-ltb, and_from, and_left, and_right}
use Rattle.std.proofs.lemmas.Bool.Decides.{nat_tests}
use Rattle.lease.specs.Times.{count, delete, Removed}
use Rattle.lease.specs.declared.fault.RegistryFault.{RegistryFault}
use Rattle.history.specs.declared.fault.StoreFault.{StoreFault}
use Rattle.history.specs.History.{limit}
use Rattle.history.specs.Model.{Model, or_else, no_record, no_lease, refused_record, refused_lease, held_number}

pub comes : (b : Bool) (f : StoreFault) (o : Option StoreFault) → b ≡ true → or_else b f o ≡ Some f
comes b f o e = ap (λ z. cond z (Some f) o) e

pub passes : (b : Bool) (f : StoreFault) (o : Option StoreFault) → b ≡ false → or_else b f o ≡ o
passes b f o e = ap (λ z. cond z (Some f) o) e

-- an accepted call passed the check, and the rest
pub none_left : (b : Bool) (f : StoreFault) (o : Option StoreFault) → or_else b f o ≡ None → (b ≡ false) × (o ≡ None)
none_left true f o e = let z : ◌≡◌ {A = ℕ} 0 1 = cc in absurd (omega arith)
none_left false f o e = (refl, e)

pub no_such : {Row C : Type 0} (m : Model Row C) (i : ℕ) (o : Option StoreFault) → length m.records ≤ i → refused_record m i o ≡ Some (no_record i)
no_such m i o h = comes (leb (length m.records) i) (no_record i) o (le-leb (length m.records) i h)

pub such : {Row C : Type 0} (m : Model Row C) (i : ℕ) (o : Option StoreFault) → i < length m.records → refused_record m i o ≡ o
such m i o h = passes (leb (length m.records) i) (no_record i) o (lt-leb (length m.records) i h)

pub not_open : (ls : List ℕ) (t : ℕ) (o : Option StoreFault) → count t ls ≡ 0 → refused_lease ls t o ≡ Some (no_lease t)
not_open ls t o h = comes (eqb (count t ls) 0) (no_lease t) o (eq-eqb (count t ls) 0 h)

pub is_open : (ls : List ℕ) (t : ℕ) (o : Option StoreFault) → 0 < count t ls → refused_lease ls t o ≡ o
is_open ls t o h = passes (eqb (count t ls) 0) (no_lease t) o (ne_eqb (count t ls) 0 (λ e. omega arith))

delete_none : (t : ℕ) (l : List ℕ) → count t l ≡ 0 → delete t l ≡ l
delete_none t [] e = refl
delete_none t (y ∷ l) e = let ih = delete_none t l in grind (arith, nat_tests)

-- a lease is removed if there is one
pub removed_if : {S U : Type 0} (leases : S → List ℕ) (t : ℕ) (g g' : S) (r : Result U RegistryFault) → Removed leases t g r g' → leases g' ≡ delete t (leases g)
removed_if leases t g g' (Ok u) h = h.1
removed_if leases t g g' (Err f) h = ap leases h.2 ∙ sym (delete_none t (leases g) h.0)

-- 9 at a commit of a writer that holds n records
module _ {Row C : Type 0} (m : Model Row C) (n w : ℕ) (e : n ≡ held_number w m) where
  pub at_limit : 0 < n → m.clock ≡ limit → (ltb 0 (held_number w m) && eqb m.clock limit) ≡ true
  at_limit h c = and_from (ltb 0 (held_number w m)) (eqb m.clock limit) (lt-ltb 0 (held_number w m) (omega arith)) (eq-eqb m.clock limit c)

  pub none_held : n ≤ 0 → (ltb 0 (held_number w m) && eqb m.clock limit) ≡ false
  none_held h = and_left (ltb 0 (held_number w m)) (eqb m.clock limit) (le-ltb 0 (held_number w m) (omega arith))

  pub below_limit : (m.clock ≡ limit → ⊥) → (ltb 0 (held_number w m) && eqb m.clock limit) ≡ false
  below_limit c = and_right (ltb 0 (held_number w m)) (eqb m.clock limit) (ne_eqb m.clock limit c)
