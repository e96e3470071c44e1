-- The model: a store as it prunes. The row in place, the holder's change and one chain for each record; and what each call does to it.
--     Stored Row Change     a record: the row in place, its holder with the holder's change, its last time, and its chain
--     Model Row Change      the clock, the room for versions, and the records
--     finished_row k x      the newest finished row: the row in place, or the held one with the holder's change undone
--     reading k x t         what a record reads at t
--     in_use xs             how many versions the records need: those kept, and one for each held record
--     refused_..            the first check that fails, in the order of the checks, or none
--     changed, finished, .. the model after a call
--     step k cap m ls n c   the call c, given a list of n places, on the model m and the open leases ls: what is told, and both after it
use Rattle.std.specs.Prelude.{ℕ, suc, ◌+◌, Bool, true, false, cond, not, ◌&&◌, List, [], ◌∷◌, map, length, replicate, Some, None, Option, ◌==◌, nat_le, nat_lt}
use Rattle.kind.specs.Kinds.{Ops}
use Rattle.lease.specs.Times.{insert, delete, count, opens}
use Rattle.chain.specs.declared.version.Version.{Version}
use Rattle.chain.specs.Versions.{reads}
use Rattle.chain.specs.Pruning.{prune}
use Rattle.history.specs.declared.call.Call.{Call}
use Rattle.history.specs.declared.call.Call.TheVariants.{Open as call_open, Read as call_read, Close as call_close, Begin as call_begin, Look as call_look, Change as call_change, Commit as call_commit, Abandon as call_abandon, Held as call_held, Kept as call_kept, InUse as call_in_use}
use Rattle.history.specs.declared.call.Outcome.TheVariants.{Opened, Shown, Closed, Began, Changed, Committed, Abandoned, Held, Kept, InUse, Refused}
use Rattle.history.specs.declared.fault.StoreFault.{StoreFault}
pub use Rattle.history.specs.Card.{no_record, no_lease, leases_used, clock_limit, list_short}
use Rattle.history.specs.Card.{held_by_other, row_newer, versions_used}
use Rattle.history.specs.History.{Hold, free, held, limit, who, held_by, count_held, at_or, change_at}
use Rattle.history.specs.Law.{Told, Asked, plain, is_held, times, Law}

pub record Stored (Row Change : Type 0) : Type 0 where
  -- the held row while the record is held
  pub place : Row
  pub holder : Hold Change
  pub last : ℕ
  pub chain : List (Version Change)

pub record Model (Row Change : Type 0) : Type 0 where
  pub clock : ℕ
  -- how many versions there can be
  pub room : ℕ
  pub records : List (Stored Row Change)

abbrev pub by_other : {V : Type 0} → ℕ → Hold V → Bool
by_other w free = false
by_other w (held v x) = not (w == v)

abbrev pub is_free : {V : Type 0} → Hold V → Bool
is_free free = true
is_free (held w x) = false

abbrev pub in_use : {Row Change : Type 0} → List (Stored Row Change) → ℕ
in_use [] = 0
in_use (x ∷ xs) = (length x.chain + is_held x.holder) + in_use xs

-- who holds each record
abbrev pub owners : {Row Change : Type 0} → List (Stored Row Change) → List (Hold (Unit {0}))
owners xs = map (λ x. who x.holder) xs

-- how many records a writer holds
abbrev pub held_number : {Row Change : Type 0} → ℕ → Model Row Change → ℕ
held_number w m = count_held w (owners m.records)

-- the numbers of the records that a writer holds, rising, from the number i on
abbrev pub held_from : ℕ → ℕ → List (Hold (Unit {0})) → List ℕ
held_from w i [] = []
held_from w i (x ∷ xs) = cond (held_by w x) (i ∷ held_from w (suc i) xs) (held_from w (suc i) xs)

-- the list of versions kept for each record
abbrev pub kept_chains : {Row Change : Type 0} → List (Stored Row Change) → List (List (Version Change))
kept_chains xs = map (λ x. x.chain) xs

-- the first test that fails refuses; none: accepted
abbrev pub or_else : Bool → StoreFault → Option StoreFault → Option StoreFault
or_else b f o = cond b (Some f) o

-- 3, then the rest
abbrev pub refused_record : {Row Change : Type 0} → Model Row Change → ℕ → Option StoreFault → Option StoreFault
refused_record m i o = or_else (nat_le (length m.records) i) (no_record i) o

-- 4, then the rest
abbrev pub refused_lease : List ℕ → ℕ → Option StoreFault → Option StoreFault
refused_lease ls t o = or_else (count t ls == 0) (no_lease t) o

-- 8
abbrev pub refused_open : ℕ → List ℕ → Option StoreFault
refused_open cap ls = or_else (length ls == cap) (leases_used cap) None

-- 3, 4: a time and a record
abbrev pub refused_read : {Row Change : Type 0} → Model Row Change → List ℕ → ℕ → ℕ → Option StoreFault
refused_read m ls t i = refused_record m i (refused_lease ls t None)

-- 9, 8
abbrev pub refused_begin : {Row Change : Type 0} → ℕ → Model Row Change → List ℕ → Option StoreFault
refused_begin cap m ls = or_else (m.clock == limit) (clock_limit m.clock) (refused_open cap ls)

-- 4, 9
abbrev pub refused_commit : {Row Change : Type 0} → Model Row Change → List ℕ → ℕ → Option StoreFault
refused_commit m ls w = refused_lease ls w (or_else (nat_lt 0 (held_number w m) && m.clock == limit) (clock_limit m.clock) None)

-- 10, for a list of n places
abbrev pub refused_held : {Row Change : Type 0} → Model Row Change → ℕ → ℕ → Option StoreFault
refused_held m w n = or_else (nat_lt n (held_number w m)) (list_short (held_number w m)) None

module _ {Row Edit Change : Type 0} (k : Ops Row Edit Change) where
  abbrev pub new_stored : ℕ → Stored Row Change
  new_stored start = record { place = k.blank; holder = free; last = start; chain = [] }

  -- n records, room for v versions, and a start
  abbrev pub new_model : ℕ → ℕ → ℕ → Model Row Change
  new_model n v start = record { clock = start; room = v; records = replicate n (new_stored start) }

  abbrev pub record_at : Model Row Change → ℕ → Stored Row Change
  record_at m i = at_or (new_stored 0) m.records i

  abbrev pub finished_under : Row → Hold Change → Row
  finished_under place free = place
  finished_under place (held w c) = k.undo place c

  abbrev pub finished_row : Stored Row Change → Row
  finished_row x = finished_under x.place x.holder

  abbrev pub reading : Stored Row Change → ℕ → Row
  reading x t = reads k (finished_row x) x.chain t

  -- what a writer sees of a record: the held row if it holds it
  abbrev pub looks : Stored Row Change → ℕ → Row
  looks x w = cond (held_by w x.holder) x.place (reading x w)

  abbrev pub edit_change : ℕ → Change → Hold Change → Hold Change
  edit_change w c free = held w c
  edit_change w c (held v d) = held v (k.join c d)

  abbrev pub change_stored : ℕ → Edit → Stored Row Change → Stored Row Change
  change_stored w e x = record { place = k.edited x.place e; holder = edit_change w (k.before x.place e) x.holder; last = x.last; chain = x.chain }

  -- a writer's change of a record is finished at t, and stands first in the chain
  abbrev pub finish_under : ℕ → ℕ → Stored Row Change → Hold Change → Stored Row Change
  finish_under w t x free = x
  finish_under w t x (held v c) = cond (w == v) (record { place = x.place; holder = free; last = t; chain = record { time = t; change = c } ∷ x.chain }) x

  abbrev pub finish_stored : ℕ → ℕ → Stored Row Change → Stored Row Change
  finish_stored w t x = finish_under w t x x.holder

  -- a writer's change of a record is taken back
  abbrev pub free_under : ℕ → Stored Row Change → Hold Change → Stored Row Change
  free_under w x free = x
  free_under w x (held v c) = cond (w == v) (record { place = k.undo x.place c; holder = free; last = x.last; chain = x.chain }) x

  abbrev pub free_stored : ℕ → Stored Row Change → Stored Row Change
  free_stored w x = free_under w x x.holder

  abbrev pub pruned : (ℕ → ℕ) → Stored Row Change → Stored Row Change
  pruned os x = record { place = x.place; holder = x.holder; last = x.last; chain = prune k os (finished_row x) x.chain }

  -- 5, 6, 7
  abbrev pub refused_own : Model Row Change → ℕ → ℕ → Option StoreFault
  refused_own m w i =
      or_else (by_other w (record_at m i).holder) (held_by_other i)
      (or_else (nat_lt w (record_at m i).last) (row_newer i)
      (or_else (is_free (record_at m i).holder && nat_le m.room (in_use m.records)) (versions_used i) None))

  -- 3, 4, 5, 6, 7
  abbrev pub refused_change : Model Row Change → List ℕ → ℕ → ℕ → Option StoreFault
  refused_change m ls w i = refused_record m i (refused_lease ls w (refused_own m w i))

  -- 3, 10, for a list of n places
  abbrev pub refused_kept : Model Row Change → ℕ → ℕ → Option StoreFault
  refused_kept m i n = refused_record m i (or_else (nat_lt n (length (record_at m i).chain)) (list_short (length (record_at m i).chain)) None)

  -- the model with each record altered
  abbrev pub every : (Stored Row Change → Stored Row Change) → Model Row Change → Model Row Change
  every f m = record { clock = m.clock; room = m.room; records = map f m.records }

  abbrev pub all_pruned : (ℕ → ℕ) → Model Row Change → Model Row Change
  all_pruned os m = every (pruned os) m

  abbrev pub begun : Model Row Change → Model Row Change
  begun m = record { clock = m.clock + 1; room = m.room; records = m.records }

  -- after a writer's edit of a record
  abbrev pub changed : Model Row Change → ℕ → ℕ → Edit → Model Row Change
  changed m w i e = record { clock = m.clock; room = m.room; records = change_at (change_stored w e) m.records i }

  -- after the changes of a writer that holds n records are finished, one time later
  abbrev pub finished : ℕ → ℕ → Model Row Change → Model Row Change
  finished n w m = cond (nat_lt 0 n) (record { clock = m.clock + 1; room = m.room; records = map (finish_stored w (m.clock + 1)) m.records }) m

  abbrev pub committed : ℕ → Model Row Change → Model Row Change
  committed w m = finished (held_number w m) w m

  abbrev pub freed : ℕ → Model Row Change → Model Row Change
  freed w m = every (free_stored w) m

pub record Step (Row Change : Type 0) : Type 0 where
  pub told : Told Row
  pub model : Model Row Change
  pub leases : List ℕ

abbrev pub does : {Row Change : Type 0} → Told Row → Model Row Change → List ℕ → Step Row Change
does o m ls = record { told = o; model = m; leases = ls }

abbrev pub refusal : {Row : Type 0} → StoreFault → Told Row
refusal f = plain (Refused f)

-- a refused call leaves all as it was
abbrev pub decide : {Row Change : Type 0} → Option StoreFault → Model Row Change → List ℕ → Step Row Change → Step Row Change
decide None m ls st = st
decide (Some f) m ls st = does (refusal f) m ls

module _ {Row Edit Change : Type 0} (k : Ops Row Edit Change) where
  -- a call that ends a lease at t prunes every chain
  abbrev pub ends : Told Row → ℕ → Model Row Change → List ℕ → Step Row Change
  ends o t m ls = does o (all_pruned k (opens (delete t ls)) m) (delete t ls)

  abbrev pub step : ℕ → Model Row Change → List ℕ → ℕ → Call Edit → Step Row Change
  step cap m ls n call_open = decide (refused_open cap ls) m ls (does (plain (Opened m.clock)) m (insert m.clock ls))
  step cap m ls n (call_read t i) = decide (refused_read m ls t i) m ls (does (plain (Shown (reading k (record_at k m i) t))) m ls)
  step cap m ls n (call_close t) = decide (refused_lease ls t None) m ls (ends (plain Closed) t m ls)
  step cap m ls n call_begin = decide (refused_begin cap m ls) m ls (does (plain (Began (m.clock + 1))) (begun k m) (insert (m.clock + 1) ls))
  step cap m ls n (call_look w i) = decide (refused_read m ls w i) m ls (does (plain (Shown (looks k (record_at k m i) w))) m ls)
  step cap m ls n (call_change w i e) = decide (refused_change k m ls w i) m ls (does (plain Changed) (changed k m w i e) ls)
  step cap m ls n (call_commit w) = decide (refused_commit m ls w) m ls (ends (plain (Committed (committed k w m).clock (held_number w m))) w (committed k w m) ls)
  step cap m ls n (call_abandon w) = ends (plain (Abandoned (held_number w m))) w (freed k w m) ls
  step cap m ls n (call_held w) = decide (refused_held m w n) m ls (does (record { outcome = Held (held_number w m); written = held_from w 0 (owners m.records) }) m ls)
  step cap m ls n (call_kept i) =
      decide (refused_kept k m i n) m ls
      (does (record { outcome = Kept (length (record_at k m i).chain); written = times (record_at k m i).chain }) m ls)
  step cap m ls n call_in_use = does (plain (InUse (in_use m.records))) m ls

  -- the outcomes of calls made one after the other, and the model and the leases after them
  abbrev pub outcomes : ℕ → Model Row Change → List ℕ → List (Asked Edit) → List (Told Row)
  outcomes cap m ls [] = []
  outcomes cap m ls (c ∷ cs) = (step cap m ls c.given c.call).told ∷ outcomes cap (step cap m ls c.given c.call).model (step cap m ls c.given c.call).leases cs

  abbrev pub model_after : ℕ → Model Row Change → List ℕ → List (Asked Edit) → Model Row Change
  model_after cap m ls [] = m
  model_after cap m ls (c ∷ cs) = model_after cap (step cap m ls c.given c.call).model (step cap m ls c.given c.call).leases cs

  abbrev pub leases_after : ℕ → Model Row Change → List ℕ → List (Asked Edit) → List ℕ
  leases_after cap m ls [] = ls
  leases_after cap m ls (c ∷ cs) = leases_after cap (step cap m ls c.given c.call).model (step cap m ls c.given c.call).leases cs

  -- the law of a store of n records, room for v versions and this start, which after the calls has the model m and the leases ls
  abbrev pub Lawful : ℕ → ℕ → ℕ → ℕ → List (Asked Edit) → List (Told Row) → Model Row Change → List ℕ → Type 0
  Lawful cap n v start calls outs m ls = Law k cap v n start calls outs m.clock ls (kept_chains m.records) (in_use m.records)

  -- the model has the law, whatever the calls
  abbrev pub ModelLawful : Type 0
  ModelLawful =
      (cap n v start : ℕ) (calls : List (Asked Edit)) →
      Lawful cap n v start calls (outcomes cap (new_model k n v start) [] calls) (model_after cap (new_model k n v start) [] calls) (leases_after cap (new_model k n v start) [] calls)
