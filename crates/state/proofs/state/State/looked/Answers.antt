use Rattle.std.proofs.Common.{◌≡◌, false, cond, [], get_or, sym, ap, ◌∙◌, arith}
use Rattle.version_table.specs.Chains.{chains}
use Rattle.state.specs.Stored.{stored}
use Rattle.history.specs.Model.{looks, reading, new_stored, free_stored}
use Rattle.state.proofs.Views.{in_records, view_at}
use Rattle.state.proofs.Writes.{there, owns, owns_is, own_yes, own_no}
use Rattle.state.proofs.state.State.looked.Goals.{in_default-via-in-Some+else-v-w, in_default-via-in_default}
use Rattle.state.proofs.state.State.looked.Goals as goal

pub index-entry-requires : goal.index-entry-requires
index-entry-requires g c = omega (arith, in_records c.args.self.now c.args.i c.requires, c.args.self.now.records.ok.0)

pub returns-in-Some : goal.returns-in-Some
returns-in-Some g c =
    let k = g.K.Kind.ops in
    let s = c.args.self.now in
    let i = c.args.i in
    let w = c.args.w in
    let x = c.index-entry.result.now in
    let L = get_or (chains s.table) i [] in
    let y = view_at s i (new_stored k 0) x c.requires c.index-entry.ensures in
    let b = there (free_stored k w) s i x c.requires c.index-entry.ensures in
    sym (ap (λ z. looks k z w) y ∙ ap (λ z. cond z x.row (reading k (stored x L) w)) (owns_is w x.holder L b ∙ own_yes w c.in-Some.v x.holder c.in-Some.is c.if-v-w.true))

pub returns-in_default : goal.returns-in_default
returns-in_default g c =
    let k = g.K.Kind.ops in
    let s = c.args.self.now in
    let i = c.args.i in
    let w = c.args.w in
    let x = c.index-entry.result.now in
    let L = get_or (chains s.table) i [] in
    let y = view_at s i (new_stored k 0) x c.requires c.index-entry.ensures in
    let b = there (free_stored k w) s i x c.requires c.index-entry.ensures in
    let other : owns w x.holder ≡ false =
    elim c.in_default.branch [
      | in_default-via-in-Some+else-v-w u ↦ own_no w u.in-Some.v x.holder u.in-Some.is u.if-v-w.false
      | in_default-via-in_default u ↦ ap (owns w) u.in_default.is
    ] in
    c.reading.ensures ∙ ap (λ z. reading k z w) y ∙ sym (ap (λ z. looks k z w) y ∙ ap (λ z. cond z x.row (reading k (stored x L) w)) (owns_is w x.holder L b ∙ other))
