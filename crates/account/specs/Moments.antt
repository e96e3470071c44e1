-- A row edited twice.
--     Told k first earlier later m    the rows and changes of m are those of the two edits, and undoing the changes tells the row of each moment
use Rattle.std.specs.Prelude.{◌≡◌}
use Rattle.kind.specs.Kinds.{Ops}
use Rattle.account.specs.declared.moments.Moments.{Moments}

pub record Told {Row Edit Change : Type 0} (k : Ops Row Edit Change) (first : Row) (earlier later : Edit) (m : Moments Row Change) : Type 0 where
  pub second : m.second ≡ k.edited first earlier
  pub third : m.third ≡ k.edited m.second later
  pub older : m.older ≡ k.before first earlier
  pub newer : m.newer ≡ k.before m.second later
  pub joined : m.joined ≡ k.join m.newer m.older
  pub back_one : k.tells (k.undo m.third m.newer) ≡ k.tells m.second
  pub back_two : k.tells (k.undo (k.undo m.third m.newer) m.older) ≡ k.tells first
  pub back_joined : k.tells (k.undo m.third m.joined) ≡ k.tells first
