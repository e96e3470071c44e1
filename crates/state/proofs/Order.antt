-- The chain of a record of a state has falling times.
use Rattle.std.proofs.Common.{◌≡◌, ℕ, ◌<◌, true, [], length, get_or, vec_items, subst}
use Rattle.kind.specs.declared.Kind.{Ghosts}
use Rattle.chain.specs.Versions.{Falling}
use Rattle.version_table.specs.Chains.{chains}
use Rattle.history.specs.Model.{Stored}
use Rattle.state.specs.declared.entry.Entry.{Entry}
use Rattle.state.specs.declared.state.State.{State}
use Rattle.state.specs.Stored.{behind, falls}
use Rattle.state.specs.View.{view}
use Rattle.state.proofs.Falls.{all_at, falls_most}
use Rattle.state.proofs.Views.{view_at}

pub chain_falls : {K Row Edit C : Type 0} {G : Ghosts K Row Edit C} (s : State K Row Edit C G) (i : ℕ) (x : Entry Row) (d : Stored Row C) → i < length (view s).records → x ≡ get_or (vec_items s.records) i x → Falling (behind x.holder (get_or (chains s.table) i []))
unfolding view
chain_falls s i x d h e =
    (falls_most s.clock (behind x.holder (get_or (chains s.table) i []))
    (subst (λ (z : Stored _ _). falls s.clock z.chain ≡ true) (view_at s i d x h e) (all_at s.clock d (view s).records i s.falling h))).1
