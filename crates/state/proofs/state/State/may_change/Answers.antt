use Rattle.std.proofs.Common.{◌≡◌, false, cond, Some, None, sym, ap, ◌∙◌, arith}
use Rattle.history.specs.Card.{versions_used}
use Rattle.state.specs.View.{Owned}
use Rattle.state.proofs.Views.{in_records, by_other_of}
use Rattle.state.proofs.Owners.{own_is, full_up, own_five, own_six, own_free, own_held, not_other}
use Rattle.state.proofs.state.State.may_change.Goals.{in_default-via-in-Some+else-v-w, in_default-via-in-None}
use Rattle.state.proofs.state.State.may_change.Goals as goal

pub index-entry-requires : goal.index-entry-requires
index-entry-requires g c = omega (arith, in_records c.args.self.now c.args.i c.requires, c.args.self.now.records.ok.0)

pub returns-in-Some : goal.returns-in-Some
unfolding Owned
returns-in-Some g c =
    let s = c.args.self.now in
    let x = c.index-entry.result.now in
    own_is g.K.Kind.ops s c.args.i c.args.w x c.requires c.index-entry.ensures
    ∙ own_five c.args.w c.args.i x.last (full_up g.K.Kind.ops s) x.holder c.in-Some.v c.in-Some.is c.if-v-w.true ∙ ap Some (sym c.at.ensures)

pub returns-in_default : goal.returns-in_default
unfolding Owned
returns-in_default g c =
    let s = c.args.self.now in
    let w = c.args.w in
    let x = c.index-entry.result.now in
    let mine : by_other_of w x.holder ≡ false =
    elim c.in_default.branch [
      | in_default-via-in-Some+else-v-w u ↦ not_other w x.holder u.in-Some.v u.in-Some.is u.if-v-w.false
      | in_default-via-in-None u ↦ ap (by_other_of w) u.in_default.is
    ] in
    own_is g.K.Kind.ops s c.args.i w x c.requires c.index-entry.ensures
    ∙ own_six w c.args.i x.last (full_up g.K.Kind.ops s) x.holder mine c.if-w-last.true ∙ ap Some (sym c.at-in_default.ensures)

pub returns-in-None : goal.returns-in-None
unfolding Owned
returns-in-None g c =
    let s = c.args.self.now in
    let x = c.index-entry.result.now in
    own_is g.K.Kind.ops s c.args.i c.args.w x c.requires c.index-entry.ensures
    ∙ own_free c.args.w c.args.i x.last (full_up g.K.Kind.ops s) x.holder c.in-None.is c.if-w-last.false
    ∙ ap (λ b. cond b (Some (versions_used c.args.i)) None) (sym c.is_full.ensures ∙ c.if-is_full.true) ∙ ap Some (sym c.at-in-None.ensures)

pub returns-in_default-2 : goal.returns-in_default-2
unfolding Owned
returns-in_default-2 g c =
    let s = c.args.self.now in
    let x = c.index-entry.result.now in
    own_is g.K.Kind.ops s c.args.i c.args.w x c.requires c.index-entry.ensures
    ∙ own_free c.args.w c.args.i x.last (full_up g.K.Kind.ops s) x.holder c.in-None.is c.if-w-last.false
    ∙ ap (λ b. cond b (Some (versions_used c.args.i)) None) (sym c.is_full.ensures ∙ c.if-is_full.false)

pub returns-in_default-2-2 : goal.returns-in_default-2-2
unfolding Owned
returns-in_default-2-2 g c =
    let s = c.args.self.now in
    let w = c.args.w in
    let x = c.index-entry.result.now in
    let mine : by_other_of w x.holder ≡ false =
    elim c.in_default.branch [
      | in_default-via-in-Some+else-v-w u ↦ not_other w x.holder u.in-Some.v u.in-Some.is u.if-v-w.false
      | in_default-via-in-None u ↦ ap (by_other_of w) u.in_default.is
    ] in
    own_is g.K.Kind.ops s c.args.i w x c.requires c.index-entry.ensures
    ∙ own_held w c.args.i x.last (full_up g.K.Kind.ops s) x.holder c.in_default-2.field-0 c.in_default-2.is mine c.if-w-last.false
