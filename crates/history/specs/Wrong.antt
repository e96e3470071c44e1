-- Wrong stores, each with calls and what it says to them, at the kind of one number: no history fits. And one run that goes right.
--     Wrong room calls outcomes    of 8 leases, `room` versions and one record, started at 0: the law has no run of these calls with these outcomes
use Rattle.std.specs.Prelude.{ℕ, List, [], ◌∷◌, map}
use Rattle.history.specs.declared.call.Call.{Call}
use Rattle.history.specs.declared.call.Call.TheVariants.{Open as call_open, Read as call_read, Close as call_close, Begin as call_begin, Look as call_look, Change as call_change, Commit as call_commit, Abandon as call_abandon, Held as call_held, Kept as call_kept, InUse as call_in_use}
use Rattle.history.specs.declared.call.Outcome.TheVariants.{Opened, Shown, Closed, Began, Changed, Committed, Abandoned, Held, Kept, InUse, Refused}
use Rattle.history.specs.declared.fault.StoreFault.{StoreFault}
use Rattle.history.specs.Card.{no_lease, versions_used}
use Rattle.history.specs.History.{History, new_history}
use Rattle.history.specs.Law.{Told, Asked, plain, Run}
use Rattle.history.specs.Cells.{cell}

-- a call given a list of nine places
abbrev pub ask : Call ℕ → Asked ℕ
ask c = record { call = c; given = 9 }

abbrev pub kept : ℕ → List ℕ → Told ℕ
kept n times = record { outcome = Kept n; written = times }

pub record Wrong (room : ℕ) (calls : List (Call ℕ)) (outcomes : List (Told ℕ)) : Type 0 where
  pub never : (h : History ℕ) → Run cell 8 room (new_history cell 0 1) (map ask calls) outcomes h → ⊥

pub record WrongStores : Type 0 where
  -- after a commit with no lease open below it, nothing is kept
  pub drops_nothing : Wrong 2 (call_begin ∷ call_change 1 0 5 ∷ call_commit 1 ∷ call_kept 0 ∷ []) (plain (Began 1) ∷ plain Changed ∷ plain (Committed 2 1) ∷ kept 1 (2 ∷ []) ∷ [])
  pub prunes_at_commit_alone :
      Wrong 2 (call_open ∷ call_begin ∷ call_change 1 0 5 ∷ call_commit 1 ∷ call_close 0 ∷ call_kept 0 ∷ [])
      (plain (Opened 0) ∷ plain (Began 1) ∷ plain Changed ∷ plain (Committed 2 1) ∷ plain Closed ∷ kept 1 (2 ∷ []) ∷ [])
  pub invents_the_number :
      Wrong 2 (call_open ∷ call_begin ∷ call_change 1 0 5 ∷ call_commit 1 ∷ call_kept 0 ∷ [])
      (plain (Opened 0) ∷ plain (Began 1) ∷ plain Changed ∷ plain (Committed 2 1) ∷ kept 2 (2 ∷ 1 ∷ []) ∷ [])
  pub newest_rows_only :
      Wrong 2 (call_open ∷ call_begin ∷ call_change 1 0 5 ∷ call_commit 1 ∷ call_read 0 0 ∷ [])
      (plain (Opened 0) ∷ plain (Began 1) ∷ plain Changed ∷ plain (Committed 2 1) ∷ plain (Shown 5) ∷ [])
  -- it prunes as if nothing were open; and it reads where nothing is open
  pub never_asks_the_registry :
      Wrong 2 (call_open ∷ call_begin ∷ call_change 1 0 5 ∷ call_commit 1 ∷ call_in_use ∷ [])
      (plain (Opened 0) ∷ plain (Began 1) ∷ plain Changed ∷ plain (Committed 2 1) ∷ plain (InUse 0) ∷ [])
  pub reads_without_a_lease : Wrong 2 (call_read 0 0 ∷ []) (plain (Shown 0) ∷ [])
  pub seven_too_soon : Wrong 1 (call_begin ∷ call_change 1 0 5 ∷ []) (plain (Began 1) ∷ plain (Refused (versions_used 0)) ∷ [])
  pub seven_too_late : Wrong 0 (call_begin ∷ call_change 1 0 5 ∷ []) (plain (Began 1) ∷ plain Changed ∷ [])
  -- a dropped version is not used again
  pub never_again :
      Wrong 1 (call_begin ∷ call_change 1 0 5 ∷ call_commit 1 ∷ call_begin ∷ call_change 3 0 6 ∷ [])
      (plain (Began 1) ∷ plain Changed ∷ plain (Committed 2 1) ∷ plain (Began 3) ∷ plain (Refused (versions_used 0)) ∷ [])
  -- whatever for
  pub refuses_always : (f : StoreFault) → Wrong 2 (call_open ∷ []) (plain (Refused f) ∷ [])
  pub does_nothing : Wrong 2 (call_begin ∷ call_change 1 0 5 ∷ call_look 1 0 ∷ []) (plain (Began 1) ∷ plain Changed ∷ plain (Shown 0) ∷ [])
  pub one_row_always :
      Wrong 2 (call_begin ∷ call_change 1 0 5 ∷ call_look 1 0 ∷ call_abandon 1 ∷ call_begin ∷ call_look 2 0 ∷ [])
      (plain (Began 1) ∷ plain Changed ∷ plain (Shown 5) ∷ plain (Abandoned 1) ∷ plain (Began 2) ∷ plain (Shown 5) ∷ [])
  -- fewer outcomes than calls
  pub says_less : Wrong 2 (call_open ∷ call_open ∷ []) (plain (Opened 0) ∷ [])

-- a run that goes right, of 32 leases, two versions and two records
abbrev pub right_calls : List (Call ℕ)
right_calls =
    call_begin ∷ call_change 1 0 8500 ∷ call_commit 1 ∷ call_open ∷ call_begin ∷ call_change 3 0 8700 ∷ call_held 3 ∷ call_commit 3
    ∷ call_read 2 0 ∷ call_kept 0 ∷ call_close 2 ∷ call_close 2 ∷ call_in_use ∷ []

abbrev pub right_outcomes : List (Told ℕ)
right_outcomes =
    plain (Began 1) ∷ plain Changed ∷ plain (Committed 2 1) ∷ plain (Opened 2) ∷ plain (Began 3) ∷ plain Changed ∷ record { outcome = Held 1; written = 0 ∷ [] } ∷ plain (Committed 4 1)
    ∷ plain (Shown 8500) ∷ kept 1 (4 ∷ []) ∷ plain Closed ∷ plain (Refused (no_lease 2)) ∷ plain (InUse 0) ∷ []

pub record RightRun : Type 0 where
  pub history : History ℕ
  pub run : Run cell 32 2 (new_history cell 0 2) (map ask right_calls) right_outcomes history
