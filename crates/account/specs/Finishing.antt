-- One record's versions.
--     finished k os r e t vs    the chain after an edit of the row r that is finished at t: its before-image in front, then pruned
--     points k r vs last ts     going over the times ts, how often the reading differs from the one before, which at first is `last`
use Rattle.std.specs.Prelude.{ℕ, ◌+◌, cond, List, [], ◌∷◌}
use Rattle.kind.specs.Kinds.{Ops, same}
use Rattle.chain.specs.declared.version.Version.{Version}
use Rattle.chain.specs.Versions.{reads}
use Rattle.chain.specs.Pruning.{prune}

module _ {Row Edit Change : Type 0} (k : Ops Row Edit Change) where
  abbrev pub finished : (ℕ → ℕ) → Row → Edit → ℕ → List (Version Change) → List (Version Change)
  finished os r e t vs = prune k os (k.edited r e) (record { time = t; change = k.before r e } ∷ vs)

  abbrev pub points : Row → List (Version Change) → Row → List ℕ → ℕ
  points r vs last [] = 0
  points r vs last (t ∷ ts) = cond (same k last (reads k r vs t)) 0 1 + points r vs (reads k r vs t) ts
