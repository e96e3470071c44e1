-- The history: the reference that never prunes. It has a clock, the open leases, and every finished row of each record.
--     Hold V           a record's holder, with what goes with it, or none
--     Record Row       a record: its newest finished row, the older ones newest first, and its holder with the held row
--     History Row      the clock, the open leases, and the records
--     past f s         the reading of a record at s: its newest finished row whose time is at most s
--     sees w f         what the writer w sees of a record: the held row if it holds it, else the reading at its number
--     record_of h i    the record i
--     holders rs       who holds each record
--     count_held w hs  how many of the records w holds
-- and the steps, named by the calls that take them.
use Rattle.std.specs.Prelude.{ℕ, zero, suc, ◌+◌, Bool, false, cond, List, [], ◌∷◌, map, replicate, ◌==◌, nat_lt}
use Rattle.kind.specs.Kinds.{Ops}
use Rattle.lease.specs.Times.{insert, delete}
use Rattle.chain.specs.Versions.{Finished, reading}

pub data Hold (V : Type 0) : Type 0 where
  free : Hold V
  held : ℕ → V → Hold V

pub record Record (Row : Type 0) : Type 0 where
  pub newest : Finished Row
  pub older : List (Finished Row)
  pub holder : Hold Row

pub record History (Row : Type 0) : Type 0 where
  pub clock : ℕ
  pub leases : List ℕ
  pub records : List (Record Row)

-- the greatest time
abbrev pub limit : ℕ
limit = 4294967295

-- the holder alone
abbrev pub who : {V : Type 0} → Hold V → Hold (Unit {0})
who free = free
who (held w x) = held w tt

abbrev pub held_by : {V : Type 0} → ℕ → Hold V → Bool
held_by w free = false
held_by w (held v x) = w == v

abbrev pub count_held : ℕ → List (Hold (Unit {0})) → ℕ
count_held w [] = 0
count_held w (x ∷ xs) = cond (held_by w x) 1 0 + count_held w xs

-- the place i of a list, or d past its end
abbrev pub at_or : {V : Type 0} → V → List V → ℕ → V
at_or d [] i = d
at_or d (x ∷ xs) zero = x
at_or d (x ∷ xs) (suc i) = at_or d xs i

abbrev pub change_at : {V : Type 0} → (V → V) → List V → ℕ → List V
change_at f [] i = []
change_at f (x ∷ xs) zero = f x ∷ xs
change_at f (x ∷ xs) (suc i) = x ∷ change_at f xs i

abbrev pub holders : {Row : Type 0} → List (Record Row) → List (Hold (Unit {0}))
holders fs = map (λ f. who f.holder) fs

module _ {Row Edit Change : Type 0} (k : Ops Row Edit Change) where
  abbrev pub new_record : ℕ → Record Row
  new_record start = record { newest = record { time = start; row = k.blank }; older = []; holder = free }

  abbrev pub new_history : ℕ → ℕ → History Row
  new_history start n = record { clock = start; leases = []; records = replicate n (new_record start) }

  abbrev pub record_of : History Row → ℕ → Record Row
  record_of h i = at_or (new_record 0) h.records i

  abbrev pub past : Record Row → ℕ → Row
  past f = reading k.blank (f.newest ∷ f.older)

  abbrev pub sees_under : ℕ → Record Row → Hold Row → Row
  sees_under w f free = past f w
  sees_under w f (held v r) = cond (w == v) r (past f w)

  abbrev pub sees : ℕ → Record Row → Row
  sees w f = sees_under w f f.holder

  -- an edit of the held row, or of the newest finished one, which is then held by w
  abbrev pub edit_held : ℕ → Edit → Row → Hold Row → Hold Row
  edit_held w e newest free = held w (k.edited newest e)
  edit_held w e newest (held v r) = held v (k.edited r e)

  abbrev pub change_record : ℕ → Edit → Record Row → Record Row
  change_record w e f = record { newest = f.newest; older = f.older; holder = edit_held w e f.newest.row f.holder }

  abbrev pub finish_held : ℕ → ℕ → Record Row → Hold Row → Record Row
  finish_held w t f free = f
  finish_held w t f (held v r) = cond (w == v) (record { newest = record { time = t; row = r }; older = f.newest ∷ f.older; holder = free }) f

  -- the row that w holds, if it does, is finished at t
  abbrev pub finish_record : ℕ → ℕ → Record Row → Record Row
  finish_record w t f = finish_held w t f f.holder

  abbrev pub free_record : ℕ → Record Row → Record Row
  free_record w f = record { newest = f.newest; older = f.older; holder = cond (held_by w f.holder) free f.holder }

  abbrev pub opened_at : ℕ → History Row → History Row
  opened_at t h = record { clock = t; leases = insert t h.leases; records = h.records }

  abbrev pub closed_at : ℕ → History Row → History Row
  closed_at t h = record { clock = h.clock; leases = delete t h.leases; records = h.records }

  abbrev pub changed_by : ℕ → ℕ → Edit → History Row → History Row
  changed_by w i e h = record { clock = h.clock; leases = h.leases; records = change_at (change_record w e) h.records i }

  abbrev pub committed_by : ℕ → History Row → History Row
  committed_by w h =
      cond (nat_lt 0 (count_held w (holders h.records)))
      (record { clock = h.clock + 1; leases = delete w h.leases; records = map (finish_record w (h.clock + 1)) h.records })
      (closed_at w h)

  abbrev pub abandoned_by : ℕ → History Row → History Row
  abandoned_by w h = record { clock = h.clock; leases = delete w h.leases; records = map (free_record w) h.records }
