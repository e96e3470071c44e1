-- What each call of a store answers, and the store, the registry and the given places after it, by the words of the model.
-- Each has a clause for the answer and one for the refusal, which alters nothing.
--     v, leases    what a store and a registry mean;  s, g and s', g'    both before and after the call
--     refused_..   of the model: the first check that fails, or none
use Rattle.std.specs.Prelude.{◌≡◌, ℕ, ◌+◌, ◌<◌, List, length, take, drop, Some, None, Ok, Err, Result}
use Rattle.kind.specs.Kinds.{Ops}
use Rattle.lease.specs.Times.{insert, delete, count, opens}
use Rattle.lease.specs.Tokens.{At, Lease, Writer}
use Rattle.history.specs.declared.fault.StoreFault.{StoreFault}
use Rattle.history.specs.Law.{times}
use Rattle.history.specs.Model.{Model, no_lease, refused_open, refused_read, refused_lease, refused_begin, refused_change, refused_commit, refused_held, refused_kept, record_at, reading, looks, changed, begun, committed, freed, all_pruned, held_number, held_from, owners}

unfoldable pub Opens : {Row C G : Type 0} → ℕ → (G → List ℕ) → Model Row C → G → Result Lease StoreFault → G → Type 0
Opens cap leases m g (Ok l) g' = (refused_open cap (leases g) ≡ None) × At m.clock l × (leases g' ≡ insert m.clock (leases g))
Opens cap leases m g (Err f) g' = (refused_open cap (leases g) ≡ Some f) × (g' ≡ g)

-- whether a lease is open at t
unfoldable pub LeaseOpen : {U : Type 0} → List ℕ → ℕ → Result U StoreFault → Type 0
LeaseOpen ls t (Ok u) = 0 < count t ls
LeaseOpen ls t (Err f) = (count t ls ≡ 0) × (f ≡ no_lease t)

unfoldable pub Begins : {Row Edit C S G : Type 0} → Ops Row Edit C → ℕ → (S → Model Row C) → (G → List ℕ) → S → G → Result Writer StoreFault → S → G → Type 0
Begins k cap v leases s g (Ok w) s' g' =
    (refused_begin cap (v s) (leases g) ≡ None) × At ((v s).clock + 1) w × (v s' ≡ begun k (v s)) × (leases g' ≡ insert ((v s).clock + 1) (leases g))
Begins k cap v leases s g (Err f) s' g' = (refused_begin cap (v s) (leases g) ≡ Some f) × (s' ≡ s) × (g' ≡ g)

-- whether a writer's lease may end at a commit, and the registry after it
unfoldable pub Ends : {Row C U G : Type 0} → Model Row C → (G → List ℕ) → ℕ → G → Result U StoreFault → G → Type 0
Ends m leases w g (Ok u) g' = (refused_commit m (leases g) w ≡ None) × (leases g' ≡ delete w (leases g))
Ends m leases w g (Err f) g' = (refused_commit m (leases g) w ≡ Some f) × (g' ≡ g)

module _ {Row Edit C : Type 0} (k : Ops Row Edit C) where
  -- row and row' are what the given place has
  unfoldable pub Reads : {U : Type 0} → Model Row C → List ℕ → ℕ → ℕ → Row → Result U StoreFault → Row → Type 0
  Reads m ls t i row (Ok u) row' = (refused_read m ls t i ≡ None) × (row' ≡ reading k (record_at k m i) t)
  Reads m ls t i row (Err f) row' = (refused_read m ls t i ≡ Some f) × (row' ≡ row)

  unfoldable pub Looks : {U : Type 0} → Model Row C → List ℕ → ℕ → ℕ → Row → Result U StoreFault → Row → Type 0
  Looks m ls w i row (Ok u) row' = (refused_read m ls w i ≡ None) × (row' ≡ looks k (record_at k m i) w)
  Looks m ls w i row (Err f) row' = (refused_read m ls w i ≡ Some f) × (row' ≡ row)

  unfoldable pub Closes : {U S G : Type 0} → (S → Model Row C) → (G → List ℕ) → ℕ → S → G → Result U StoreFault → S → G → Type 0
  Closes v leases t s g (Ok u) s' g' =
      (refused_lease (leases g) t None ≡ None) × (leases g' ≡ delete t (leases g)) × (v s' ≡ all_pruned k (opens (leases g')) (v s))
  Closes v leases t s g (Err f) s' g' = (refused_lease (leases g) t None ≡ Some f) × (s' ≡ s) × (g' ≡ g)

  unfoldable pub Changes : {U S : Type 0} → (S → Model Row C) → List ℕ → ℕ → ℕ → Edit → S → Result U StoreFault → S → Type 0
  Changes v ls w i e s (Ok u) s' = (refused_change k (v s) ls w i ≡ None) × (v s' ≡ changed k (v s) w i e)
  Changes v ls w i e s (Err f) s' = (refused_change k (v s) ls w i ≡ Some f) × (s' ≡ s)

  -- the clock and how many records were finished; a refused commit gives the writer back
  unfoldable pub Commits : {S G : Type 0} → (S → Model Row C) → (G → List ℕ) → Writer → S → G → Result (ℕ × ℕ) (StoreFault × Writer) → S → G → Type 0
  Commits v leases w s g (Ok p) s' g' =
      (refused_commit (v s) (leases g) w.time ≡ None) × (leases g' ≡ delete w.time (leases g))
      × (v s' ≡ all_pruned k (opens (leases g')) (committed k w.time (v s)))
      × (p.0 ≡ (committed k w.time (v s)).clock) × (p.1 ≡ held_number w.time (v s))
  Commits v leases w s g (Err p) s' g' = (refused_commit (v s) (leases g) w.time ≡ Some p.0) × (p.1 ≡ w) × (s' ≡ s) × (g' ≡ g)

  -- never refused; n is how many records were freed
  unfoldable pub Abandons : {S G : Type 0} → (S → Model Row C) → (G → List ℕ) → ℕ → S → G → ℕ → S → G → Type 0
  Abandons v leases w s g n s' g' =
      (n ≡ held_number w (v s)) × (leases g' ≡ delete w (leases g)) × (v s' ≡ all_pruned k (opens (leases g')) (freed k w (v s)))

  -- the times stand at the front of the list, whose rest is as it was
  unfoldable pub Keeps : Model Row C → ℕ → List ℕ → Result ℕ StoreFault → List ℕ → Type 0
  Keeps m i out (Ok n) out' =
      (refused_kept k m i (length out) ≡ None) × (n ≡ length (record_at k m i).chain)
      × (take n out' ≡ times (record_at k m i).chain) × (drop n out' ≡ drop n out)
  Keeps m i out (Err f) out' = (refused_kept k m i (length out) ≡ Some f) × (out' ≡ out)

-- the records stand at the front of the list, rising
unfoldable pub Holds : {Row C : Type 0} → Model Row C → ℕ → List ℕ → Result ℕ StoreFault → List ℕ → Type 0
Holds m w out (Ok n) out' =
    (refused_held m w (length out) ≡ None) × (n ≡ held_number w m)
    × (take n out' ≡ held_from w 0 (owners m.records)) × (drop n out' ≡ drop n out)
Holds m w out (Err f) out' = (refused_held m w (length out) ≡ Some f) × (out' ≡ out)
