-- What a store means.
--     view s    the model that the store s is
use Rattle.kind.specs.declared.Kind.{Ghosts}
use Rattle.history.specs.Model.{Model}
use Rattle.state.specs.View.{view as state_view}
use Rattle.store.specs.declared.store.Store.{Store}

-- the four types are the kind, its rows, edits and changes
abbrev pub view : {K Row Edit C : Type 0} {G : Ghosts K Row Edit C} → Store K Row Edit C G → Model Row C
view s = state_view s.state
