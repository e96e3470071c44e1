use Rattle.std.proofs.Common.{◌≡◌, List, length, drop, sym, ap, ◌∙◌, subst, arith}
use Rattle.version_table.specs.Chains.{chain, Listed}
use Rattle.chain.specs.declared.version.Version.{Version}
use Rattle.history.specs.Model.{Stored, new_stored}
use Rattle.state.specs.Stored.{behind}
use Rattle.state.proofs.Views.{in_records, view_at}
use Rattle.state.proofs.Fresh.{behind_tested, behind_untested, first_taken}
use Rattle.state.proofs.state.State.write_times.Goals.{then-is_some, else-is_some}
use Rattle.state.proofs.state.State.write_times.Goals as goal

pub index-requires : goal.index-requires
index-requires g c = omega (arith, in_records c.args.self.now c.args.i c.requires.within, c.args.self.now.records.ok.0)

pub write_times-requires : goal.write_times-requires
write_times-requires g c =
    let s = c.args.self.now in
    let i = c.args.i in
    let x = c.index.result.now in
    let L = chain s.table i in
    let l = c.chain-versions.ensures in
    let y = ap (λ (z : Stored g.row.K-Row.Denot g.row.K-Change.Denot). z.chain) (view_at s i (new_stored g.K.Kind.ops 0) x c.requires.within c.index.ensures) in
    let h : c.if-is_some.versions ≡ behind x.holder L =
    elim c.if-is_some.branch [
      | then-is_some w ↦ w.versions-is ∙ first_taken w.next-own.result c.chain-versions.result w.next-own.new.self w.next-own.ensures.steps ∙ ap (drop 1) l ∙ sym (behind_tested x.holder L c.is_some.result c.is_some.ensures w.if-is_some.true)
      | else-is_some w ↦ w.versions-is ∙ l ∙ sym (behind_untested x.holder L c.is_some.result c.is_some.ensures w.if-is_some.false)
    ] in
    omega (arith, ap length (y ∙ sym h), c.requires.room)

pub returns : goal.returns
returns g c =
    let s = c.args.self.now in
    let i = c.args.i in
    let x = c.index.result.now in
    let L = chain s.table i in
    let l = c.chain-versions.ensures in
    let y = ap (λ (z : Stored g.row.K-Row.Denot g.row.K-Change.Denot). z.chain) (view_at s i (new_stored g.K.Kind.ops 0) x c.requires.within c.index.ensures) in
    let h : c.if-is_some.versions ≡ behind x.holder L =
    elim c.if-is_some.branch [
      | then-is_some w ↦ w.versions-is ∙ first_taken w.next-own.result c.chain-versions.result w.next-own.new.self w.next-own.ensures.steps ∙ ap (drop 1) l ∙ sym (behind_tested x.holder L c.is_some.result c.is_some.ensures w.if-is_some.true)
      | else-is_some w ↦ w.versions-is ∙ l ∙ sym (behind_untested x.holder L c.is_some.result c.is_some.ensures w.if-is_some.false)
    ] in
    subst (λ (vs : List (Version g.row.K-Change.Denot)). Listed vs c.args.out.now c.write_times.result c.write_times.new.out) (h ∙ sym y) c.write_times.ensures
