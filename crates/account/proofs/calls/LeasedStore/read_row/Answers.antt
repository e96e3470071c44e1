use Rattle.std.proofs.lemmas.Result.{err_from_is_err_and}
use Rattle.store.specs.Calls.{Reads}
use Rattle.account.proofs.calls.LeasedStore.read_row.Goals as goal

pub returns-in_err-read : goal.returns-in_err-read
unfolding Reads
returns-in_err-read g c = let p = err_from_is_err_and c.from_residual.result c.from_residual.ensures.1 in rw (p.1, p.2) c.in_err-read.ensures.0

pub returns : goal.returns
unfolding Reads
returns g c = c.in_ok-read.ensures
