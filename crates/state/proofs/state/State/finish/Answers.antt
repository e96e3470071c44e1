use Rattle.std.proofs.Common.{◌≡◌, true, leb, [], get_or, set, None, vec_items, sym, refl, ap, ◌∙◌, subst, arith, length-set}
use Rattle.version_table.specs.Chains.{chains}
use Rattle.state.specs.Matched.{stamped}
use Rattle.state.specs.declared.entry.Entry.{Entry}
use Rattle.state.specs.Stored.{viewed, all_fall}
use Rattle.state.specs.View.{view}
use Rattle.history.specs.Model.{finish_stored, new_stored}
use Rattle.state.proofs.Views.{in_records, in_table}
use Rattle.state.proofs.Falls.{all_changed, finish_keeps}
use Rattle.state.proofs.Writes.{there, write_sound, write_view, unwritten, finish_one, finish_other}
use Rattle.state.proofs.state.State.finish.Goals as goal

pub index-requires : goal.index-requires
index-requires g c = omega (arith, in_records c.args.self.now c.args.i c.requires.within, c.args.self.now.records.ok.0)

pub index_mut-requires : goal.index_mut-requires
index_mut-requires g c = omega (arith, in_records c.args.self.now c.args.i c.requires.within, c.args.self.now.records.ok.0)

pub stamp-requires : goal.stamp-requires
stamp-requires g c = in_table c.args.self.now c.args.i c.requires.within

pub invariant_of-self : goal.invariant_of-self
unfolding view
invariant_of-self g c =
    let k = g.K.Kind.ops in
    let s = c.args.self.now in
    let i = c.args.i in
    let w = c.args.w in
    let t = c.args.t in
    let x = c.index.result.now in
    let L = get_or (chains s.table) i [] in
    let y : Entry g.row.K-Row.Denot = record { row = x.row; last = t; holder = None } in
    let old = viewed (vec_items s.records) (chains s.table) in
    let latest : t ≡ s.clock = c.requires.latest in
    let b = there (finish_stored k w t) s i x c.requires.within c.index.ensures in
    let v = write_view (finish_stored k w t) s i x y (stamped t L) c.stamp.new.table c.requires.within c.index.ensures c.stamp.ensures.lists (finish_one k w t x L (sym c.eq.ensures ∙ c.if-eq.true) b) in
    let falling = subst (λ z. all_fall z (viewed (set (vec_items s.records) i y) (chains c.stamp.new.table)) ≡ true) latest (ap (all_fall t) v ∙ all_changed t (finish_stored k w t) (finish_keeps k t w) old i (subst (λ z. all_fall z old ≡ true) (sym latest) s.falling)) in
    record { sound = write_sound (finish_stored k w t) s i x y (stamped t L) c.stamp.new.table c.requires.within c.index.ensures c.stamp.ensures.lists refl; falling = falling; few = ap (λ n. leb n 4096) (length-set (vec_items s.records) i _) ∙ s.few }

pub returns-then-eq : goal.returns-then-eq
unfolding view
returns-then-eq g c =
    let k = g.K.Kind.ops in
    let s = c.args.self.now in
    let i = c.args.i in
    let w = c.args.w in
    let t = c.args.t in
    let x = c.index.result.now in
    let L = get_or (chains s.table) i [] in
    let b = there (finish_stored k w t) s i x c.requires.within c.index.ensures in
    let v = write_view (finish_stored k w t) s i x (record { row = x.row; last = t; holder = None }) (stamped t L) c.stamp.new.table c.requires.within c.index.ensures c.stamp.ensures.lists (finish_one k w t x L (sym c.eq.ensures ∙ c.if-eq.true) b) in
    λ j. record { clock = s.clock; room = c.stamp.ensures.room j; records = v j }

pub returns-else-eq : goal.returns-else-eq
returns-else-eq g c =
    let k = g.K.Kind.ops in
    let s = c.args.self.now in
    let i = c.args.i in
    let w = c.args.w in
    let t = c.args.t in
    let x = c.index.result.now in
    let L = get_or (chains s.table) i [] in
    unwritten (finish_stored k w t) s i x (new_stored k 0) c.requires.within c.index.ensures (finish_other k w t x L (sym c.eq.ensures ∙ c.if-eq.false))
