-- What performing a call promises: all of it is the model's step.
--     Performed st o m ls l l'    the outcome o, the model m and the leases ls after the call are those of the step st;
--                                 what it wrote stands at the front of the list l', whose rest is as it was in l
--     Plain st o m ls             the same of a call that is given no list
use Rattle.std.specs.Prelude.{◌≡◌, ℕ, List, [], ◌++◌, length, drop}
use Rattle.history.specs.declared.call.Outcome.{Outcome}
use Rattle.history.specs.Model.{Model, Step}

pub record Performed {Row Change : Type 0} (st : Step Row Change) (o : Outcome Row) (m : Model Row Change) (ls : List ℕ) (l l' : List ℕ) : Type 0 where
  pub outcome : o ≡ st.told.outcome
  pub model : m ≡ st.model
  pub leases : ls ≡ st.leases
  pub list : l' ≡ st.told.written ++ drop (length st.told.written) l

pub record Plain {Row Change : Type 0} (st : Step Row Change) (o : Outcome Row) (m : Model Row Change) (ls : List ℕ) : Type 0 where
  pub outcome : o ≡ st.told.outcome
  pub model : m ≡ st.model
  pub leases : ls ≡ st.leases
  pub quiet : st.told.written ≡ []
