-- What the outcome of each call must be, said of the history alone, and the law of any run.
--     Told Row                  an outcome, and what it wrote at the front of the given list
--     Asked Edit                a call, and the length of the list that it was given
--     Check h fails f rest      the check fails, the call is refused for f, and the history is left alone; or it does not fail, and the rest decides.
--                               The number, the layer and the place of f stand in Card
--     Shortest os f n           n is the length of a shortest list of versions that serves the record f
--     Needed os fs n            n is the sum of these over all records, and one more for each held record
--     Answers h given c o h'    from the history h, the call c has the outcome o and leaves the history h'
--     Run h cs os h'            so do the calls cs, one after the other, have the outcomes os
--     AllRight os fs vss        each record's list of versions serves it, and every list of versions that serves it is at least as long
--     Law                       what holds of the calls made on a new store, their outcomes, and what the store then has
use Rattle.std.specs.Prelude.{◌≡◌, ℕ, ◌+◌, ◌<◌, ◌≤◌, cond, List, [], ◌∷◌, map, length}
use Rattle.kind.specs.Kinds.{Ops}
use Rattle.lease.specs.Times.{count, opens}
use Rattle.chain.specs.declared.version.Version.{Version}
use Rattle.chain.specs.Versions.{Serves, Least}
use Rattle.chain.specs.RecordLaw.{Right}
use Rattle.history.specs.declared.call.Call.{Call}
use Rattle.history.specs.declared.call.Call.TheVariants.{Open as call_open, Read as call_read, Close as call_close, Begin as call_begin, Look as call_look, Change as call_change, Commit as call_commit, Abandon as call_abandon, Held as call_held, Kept as call_kept, InUse as call_in_use}
use Rattle.history.specs.declared.call.Outcome.{Outcome}
use Rattle.history.specs.declared.call.Outcome.TheVariants.{Opened, Shown, Closed, Began, Changed, Committed, Abandoned, Held, Kept, InUse, Refused}
use Rattle.history.specs.declared.fault.StoreFault.{StoreFault}
use Rattle.history.specs.Card.{no_record, no_lease, held_by_other, row_newer, versions_used, leases_used, clock_limit, list_short}
use Rattle.history.specs.History.{Hold, free, held, Record, History, limit, held_by, count_held, at_or, holders, new_history, record_of, past, sees, opened_at, closed_at, changed_by, committed_by, abandoned_by}

pub record Told (Row : Type 0) : Type 0 where
  pub outcome : Outcome Row
  pub written : List ℕ

pub record Asked (Edit : Type 0) : Type 0 where
  pub call : Call Edit
  pub given : ℕ

-- an outcome that writes nothing
abbrev pub plain : {Row : Type 0} → Outcome Row → Told Row
plain o = record { outcome = o; written = [] }

abbrev pub Free : {V : Type 0} → Hold V → Type 0
Free free = Unit {0}
Free (held w x) = ⊥

abbrev pub ByOther : {V : Type 0} → ℕ → Hold V → Type 0
ByOther w free = ⊥
ByOther w (held v x) = w ≡ v → ⊥

-- 1 for a held record
abbrev pub is_held : {V : Type 0} → Hold V → ℕ
is_held free = 0
is_held (held w x) = 1

abbrev pub times : {Change : Type 0} → List (Version Change) → List ℕ
times vs = map (λ v. v.time) vs

-- each record that w holds stands once in rs, and no other number does
abbrev pub EachHeld : ℕ → List (Hold (Unit {0})) → List ℕ → Type 0
EachHeld w hs rs = (i : ℕ) → count i rs ≡ cond (held_by w (at_or free hs i)) 1 0

-- the call says just this, and leaves this history
abbrev pub Says : {Row : Type 0} → Outcome Row → History Row → Told Row → History Row → Type 0
Says out after o h' = (o ≡ plain out) × (h' ≡ after)

pub data Check {Row : Type 0} (h : History Row) (fails : Type 0) (f : StoreFault) (rest : Told Row → History Row → Type 0) (o : Told Row) (h' : History Row) : Type 0 where
  refuses : fails → o ≡ plain (Refused f) → h' ≡ h → Check h fails f rest o h'
  passes : (fails → ⊥) → rest o h' → Check h fails f rest o h'

module _ {Row : Type 0} (h : History Row) where
  -- 3
  abbrev pub NoSuchRecord : ℕ → (Told Row → History Row → Type 0) → Told Row → History Row → Type 0
  NoSuchRecord i = Check h (length h.records ≤ i) (no_record i)

  -- 4
  abbrev pub NoLeaseOpen : ℕ → (Told Row → History Row → Type 0) → Told Row → History Row → Type 0
  NoLeaseOpen t = Check h (count t h.leases ≡ 0) (no_lease t)

  -- 8
  abbrev pub LeasesFull : ℕ → (Told Row → History Row → Type 0) → Told Row → History Row → Type 0
  LeasesFull cap = Check h (length h.leases ≡ cap) (leases_used cap)

  -- 10
  abbrev pub TooShort : ℕ → ℕ → (Told Row → History Row → Type 0) → Told Row → History Row → Type 0
  TooShort given needed = Check h (given < needed) (list_short needed)

module _ {Row Edit Change : Type 0} (k : Ops Row Edit Change) where
  abbrev pub Shortest : (ℕ → ℕ) → Record Row → ℕ → Type 0
  Shortest os f n = (vs : List (Version Change)) × Serves k os f.newest.row (past k f) vs × Least k os f.newest.row (past k f) vs × (length vs ≡ n)

  pub data Needed (os : ℕ → ℕ) : List (Record Row) → ℕ → Type 0 where
    none_needed : Needed os [] 0
    more_needed : {f : Record Row} {fs : List (Record Row)} {m : ℕ} (n : ℕ) → Shortest os f n → Needed os fs m → Needed os (f ∷ fs) ((n + is_held f.holder) + m)

  module _ (h : History Row) where
    -- some row that tells this
    abbrev pub Shows : Row → Told Row → History Row → Type 0
    Shows q o h' = (r : Row) × (o ≡ plain (Shown r)) × (k.tells r ≡ k.tells q) × (h' ≡ h)

    -- the number and the times, newest first, of a list of versions that serves the record, where every list that serves it is at least as long
    abbrev pub Keeps : ℕ → Record Row → Told Row → History Row → Type 0
    Keeps given f o h' =
        (vs : List (Version Change)) × Right k (opens h.leases) f.newest.row (past k f) vs
        × TooShort h given (length vs) (λ p h''. (p ≡ record { outcome = Kept (length vs); written = times vs }) × (h'' ≡ h)) o h'

    -- the number of the records that w holds, and each of them once, in any order
    abbrev pub Holds : ℕ → Told Row → History Row → Type 0
    Holds w o h' = (rs : List ℕ) × (o ≡ record { outcome = Held (length rs); written = rs }) × (length rs ≡ count_held w (holders h.records)) × EachHeld w (holders h.records) rs × (h' ≡ h)

    abbrev pub Uses : Told Row → History Row → Type 0
    Uses o h' = (n : ℕ) × Needed (opens h.leases) h.records n × (o ≡ plain (InUse n)) × (h' ≡ h)

    -- cap leases and room versions are the most that can be; the refusals come in the order of their numbers, but that 9 is asked before 8
    abbrev pub Answers : ℕ → ℕ → ℕ → Call Edit → Told Row → History Row → Type 0
    Answers cap room given call_open = LeasesFull h cap (Says (Opened h.clock) (opened_at k h.clock h))
    Answers cap room given (call_read t i) = NoSuchRecord h i (NoLeaseOpen h t (Shows (past k (record_of k h i) t)))
    Answers cap room given (call_close t) = NoLeaseOpen h t (Says Closed (closed_at k t h))
    Answers cap room given call_begin =
        Check h (h.clock ≡ limit) (clock_limit h.clock)
        (LeasesFull h cap (Says (Began (h.clock + 1)) (opened_at k (h.clock + 1) h)))
    Answers cap room given (call_look w i) = NoSuchRecord h i (NoLeaseOpen h w (Shows (sees k w (record_of k h i))))
    Answers cap room given (call_change w i e) =
        NoSuchRecord h i (NoLeaseOpen h w
        (Check h (ByOther w (record_of k h i).holder) (held_by_other i)
        (Check h (w < (record_of k h i).newest.time) (row_newer i)
        (Check h (Free (record_of k h i).holder × Needed (opens h.leases) h.records room) (versions_used i)
        (Says Changed (changed_by k w i e h))))))
    Answers cap room given (call_commit w) =
        NoLeaseOpen h w
        (Check h ((0 < count_held w (holders h.records)) × (h.clock ≡ limit)) (clock_limit h.clock)
        (Says (Committed (committed_by k w h).clock (count_held w (holders h.records))) (committed_by k w h)))
    Answers cap room given (call_abandon w) = Says (Abandoned (count_held w (holders h.records))) (abandoned_by k w h)
    Answers cap room given (call_held w) = TooShort h given (count_held w (holders h.records)) (Holds w)
    Answers cap room given (call_kept i) = NoSuchRecord h i (Keeps given (record_of k h i))
    Answers cap room given call_in_use = Uses

  module _ (cap room : ℕ) where
    abbrev pub Run : History Row → List (Asked Edit) → List (Told Row) → History Row → Type 0
    Run h [] [] h' = h' ≡ h
    Run h [] (o ∷ os) h' = ⊥
    Run h (c ∷ cs) [] h' = ⊥
    Run h (c ∷ cs) (o ∷ os) h' = (mid : History Row) × Answers h cap room c.given c.call o mid × Run mid cs os h'

  abbrev pub AllRight : (ℕ → ℕ) → List (Record Row) → List (List (Version Change)) → Type 0
  AllRight os [] [] = Unit {0}
  AllRight os [] (x ∷ xs) = ⊥
  AllRight os (f ∷ fs) [] = ⊥
  AllRight os (f ∷ fs) (x ∷ xs) = Right k os f.newest.row (past k f) x × AllRight os fs xs

  -- a store: the leases and versions it has room for, the number of its records, and its start
  -- what it has in the end: its clock, its open leases, a list of versions for each record, and how many versions are in use
  pub record Law (cap room n start : ℕ) (calls : List (Asked Edit)) (outcomes : List (Told Row)) (clock : ℕ) (leases : List ℕ) (chains : List (List (Version Change))) (used : ℕ) : Type 0 where
    pub history : History Row
    pub run : Run cap room (new_history k start n) calls outcomes history
    pub time : clock ≡ history.clock
    pub open_leases : leases ≡ history.leases
    pub right : AllRight (opens history.leases) history.records chains
    pub needed : Needed (opens history.leases) history.records used
    pub fits : used ≤ room
