use Rattle.std.proofs.Common.{refl, ap}
use Rattle.history.specs.declared.call.Outcome.TheVariants.{InUse}
use Rattle.run.proofs.Decisions.{plain_performed}
use Rattle.run.proofs.perform.perform.Goals as goal

pub returns-in-Open : goal.returns-in-Open
returns-in-Open g c = rw c.in-Open.is (plain_performed _ _ _ _ _ c.open.ensures)

pub returns-in-Read : goal.returns-in-Read
returns-in-Read g c = rw c.in-Read.is (plain_performed _ _ _ _ _ c.read.ensures)

pub returns-in-Close : goal.returns-in-Close
returns-in-Close g c = rw c.in-Close.is (plain_performed _ _ _ _ _ c.close.ensures)

pub returns-in-Begin : goal.returns-in-Begin
returns-in-Begin g c = rw c.in-Begin.is (plain_performed _ _ _ _ _ c.begin.ensures)

pub returns-in-Look : goal.returns-in-Look
returns-in-Look g c = rw c.in-Look.is (plain_performed _ _ _ _ _ c.look.ensures)

pub returns-in-Change : goal.returns-in-Change
returns-in-Change g c = rw c.in-Change.is (plain_performed _ _ _ _ _ c.change.ensures)

pub returns-in-Commit : goal.returns-in-Commit
returns-in-Commit g c = rw c.in-Commit.is (plain_performed _ _ _ _ _ c.commit.ensures)

pub returns-in-Abandon : goal.returns-in-Abandon
returns-in-Abandon g c = rw c.in-Abandon.is (plain_performed _ _ _ _ _ c.abandon.ensures)

pub returns-in-Held : goal.returns-in-Held
returns-in-Held g c = rw c.in-Held.is c.held.ensures

pub returns-in-Kept : goal.returns-in-Kept
returns-in-Kept g c = rw c.in-Kept.is c.kept.ensures

pub returns-in-InUse : goal.returns-in-InUse
returns-in-InUse g c = rw c.in-InUse.is (record { outcome = ap InUse c.in_use.ensures; model = refl; leases = refl; list = refl })
