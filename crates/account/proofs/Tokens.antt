-- A lease that is given back: just after it was opened, and whether that is refused or not.
use Rattle.std.proofs.Common.{◌≡◌, ℕ, Bool, true, false, ◌==◌, List, Some, None, Ok, Err, Result, refl, ◌∙◌, arith}
use Rattle.std.proofs.lemmas.Bool.Decides.{nat_tests}
use Rattle.kind.specs.Kinds.{Ops}
use Rattle.lease.specs.Times.{insert, delete, count}
use Rattle.lease.specs.Card.{none_open}
use Rattle.lease.proofs.Bags.{delete-insert}
use Rattle.history.specs.declared.fault.StoreFault.{StoreFault}
use Rattle.history.specs.Model.{Model, or_else, no_lease}
use Rattle.history.proofs.Refusals.{removed_if}
use Rattle.store.specs.Calls.{Closes}

pub given_back : (t u : ℕ) (first taken last : List ℕ) → u ≡ t → taken ≡ insert t first → last ≡ delete u taken → last ≡ first
given_back t u first taken last e p q = q ∙ (λ j. delete (e j) (p j)) ∙ delete-insert t first

refused_for : (b : Bool) (f x : StoreFault) → or_else b f None ≡ Some x → b ≡ true
refused_for true f x e = refl
refused_for false f x e = let z : ◌≡◌ {A = ℕ} 0 1 = cc in absurd (omega arith)

pub closed_if : {Row Edit C U S G : Type 0} (k : Ops Row Edit C) (v : S → Model Row C) (leases : G → List ℕ) (t : ℕ) (s s' : S) (g g' : G) (r : Result U StoreFault) →
    Closes k v leases t s g r s' g' → leases g' ≡ delete t (leases g)
unfolding Closes
closed_if k v leases t s s' g g' (Ok u) h = h.1
closed_if {U = U} k v leases t s s' g g' (Err f) h =
    let b = refused_for (count t (leases g) == 0) (no_lease t) f h.0 in
    let none : count t (leases g) ≡ 0 = grind (arith, nat_tests) in
    removed_if {U = U} leases t g g' (Err (none_open t)) (none, refl, h.2)
