use Rattle.history.proofs.Wrongs.{wrong_stores, right_run}
use Rattle.history.proofs.theorems.wrong_stores_fall.Goals as goal

pub returns : goal.returns
returns c = record { right = right_run; wrong = wrong_stores }
