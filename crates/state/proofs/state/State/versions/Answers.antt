use Rattle.std.proofs.Common.{[], length, get_or, sym, ap, ◌∙◌, arith}
use Rattle.version_table.specs.Chains.{chains}
use Rattle.history.specs.Model.{Stored, new_stored, free_stored}
use Rattle.state.proofs.Views.{in_records, view_at}
use Rattle.state.proofs.Writes.{there}
use Rattle.state.proofs.Fresh.{behind_none, behind_some, one_fewer}
use Rattle.state.proofs.state.State.versions.Goals as goal

pub index-requires : goal.index-requires
index-requires g c = omega (arith, in_records c.args.self.now c.args.i c.requires, c.args.self.now.records.ok.0)

pub overflow_sub-result : goal.overflow_sub-result
overflow_sub-result g c =
    let k = g.K.Kind.ops in
    let s = c.args.self.now in
    let i = c.args.i in
    let x = c.index.result.now in
    let L = get_or (chains s.table) i [] in
    let b = there (free_stored k 0) s i x c.requires c.index.ensures in
    omega (arith, one_fewer x.holder c.in-Some.field-0 L c.in-Some.is b, c.len-all.ensures)

pub returns-in-Some : goal.returns-in-Some
returns-in-Some g c =
    let k = g.K.Kind.ops in
    let s = c.args.self.now in
    let i = c.args.i in
    let x = c.index.result.now in
    let L = get_or (chains s.table) i [] in
    let b = there (free_stored k 0) s i x c.requires c.index.ensures in
    let y = ap (λ (z : Stored g.row.K-Row.Denot g.row.K-Change.Denot). length z.chain) (view_at s i (new_stored k 0) x c.requires c.index.ensures) ∙ ap length (behind_some x.holder c.in-Some.field-0 L c.in-Some.is) in
    omega (arith, y, one_fewer x.holder c.in-Some.field-0 L c.in-Some.is b, c.len-all.ensures)

pub returns-in-None : goal.returns-in-None
returns-in-None g c =
    let k = g.K.Kind.ops in
    let s = c.args.self.now in
    let i = c.args.i in
    let x = c.index.result.now in
    let L = get_or (chains s.table) i [] in
    c.len-all.ensures ∙ sym (ap (λ (z : Stored g.row.K-Row.Denot g.row.K-Change.Denot). length z.chain) (view_at s i (new_stored k 0) x c.requires c.index.ensures) ∙ ap length (behind_none x.holder L c.in-None.is))
