-- The pruning rule, newest version first.
--     open_in os a b       some open time is at least a and below b
--     join_versions k n o  one version for two: the newer's time, the changes joined
--     floor o              the time of the version that is next, or 0 where there is none: the gap below a version reaches down to it
--     absorb k p vs        the list with p joined into its newest version; p is dropped where there is none
--     prune k os r vs      the pruned list of a chain that leads back from the row r
--     prune_held k os r vs the same behind a first version, which is a holder's change and leads back from the row in place
-- A version below whose time no time is open is dropped; versions with the same open times below them are joined into
-- one, which has the newest of their times; a version, joined or single, whose undoing leaves the row reached telling
-- the same is dropped.
use Rattle.std.specs.Prelude.{ℕ, zero, suc, Bool, false, cond, ◌&&◌, ◌||◌, List, [], ◌∷◌, Some, None, Option, nat_le, nat_lt}
use Rattle.kind.specs.Kinds.{Ops, same}
use Rattle.chain.specs.declared.version.Version.{Version}

abbrev pub open_in : (ℕ → ℕ) → ℕ → ℕ → Bool
open_in os a zero = false
open_in os a (suc b) = (nat_le a b && nat_lt 0 (os b)) || open_in os a b

abbrev pub floor : {Change : Type 0} → Option (Version Change) → ℕ
floor None = 0
floor (Some v) = v.time

module _ {Row Edit Change : Type 0} (k : Ops Row Edit Change) where
  abbrev pub join_versions : Version Change → Version Change → Version Change
  join_versions newer older = record { time = newer.time; change = k.join newer.change older.change }

  abbrev pub absorb : Version Change → List (Version Change) → List (Version Change)
  absorb p [] = []
  absorb p (v ∷ vs) = join_versions p v ∷ vs

  -- r is the row reached, p the version at hand, perhaps joined already, and the list has the older ones
  abbrev pub prune_from : (ℕ → ℕ) → Row → Version Change → List (Version Change) → List (Version Change)
  prune_from os r p [] = cond (open_in os 0 p.time) (cond (same k r (k.undo r p.change)) [] (p ∷ [])) []
  prune_from os r p (v ∷ vs) =
      cond (open_in os v.time p.time)
      (cond (same k r (k.undo r p.change)) (prune_from os r v vs) (p ∷ prune_from os (k.undo r p.change) v vs))
      (prune_from os r (join_versions p v) vs)

  abbrev pub prune : (ℕ → ℕ) → Row → List (Version Change) → List (Version Change)
  prune os r [] = []
  prune os r (v ∷ vs) = prune_from os r v vs

  abbrev pub prune_held : (ℕ → ℕ) → Row → List (Version Change) → List (Version Change)
  prune_held os place [] = []
  prune_held os place (v ∷ vs) = v ∷ prune os (k.undo place v.change) vs
