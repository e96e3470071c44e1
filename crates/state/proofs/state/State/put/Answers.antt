use Rattle.std.proofs.Common.{leb, [], length, get_or, vec_items, sum_by, sym, ap, ◌∙◌, arith, length-set}
use Rattle.version_table.specs.Chains.{chains, capacity}
use Rattle.state.specs.View.{view}
use Rattle.history.specs.Model.{change_stored}
use Rattle.state.specs.Stored.{viewed, all_fall}
use Rattle.state.proofs.Falls.{all_changed, change_keeps}
use Rattle.state.proofs.Views.{in_records, in_table, put_sound, put_view}
use Rattle.state.proofs.Owners.{own_is, own_none, full_up, room_of}
use Rattle.state.proofs.state.State.put.Goals as goal

pub index-entry-requires : goal.index-entry-requires
index-entry-requires g c = omega (arith, in_records c.args.self.now c.args.i c.requires.within, c.args.self.now.records.ok.0)

pub index_mut-requires : goal.index_mut-requires
index_mut-requires g c = omega (arith, in_records c.args.self.now c.args.i c.requires.within, c.args.self.now.records.ok.0)

pub stack-requires : goal.stack-requires
stack-requires g c =
    let k = g.K.Kind.ops in
    let s = c.args.self.now in
    let i = c.args.i in
    let w = c.args.w in
    let x = c.index-entry.result.now in
    let o = own_none w i x.holder x.last (full_up k s) (sym (own_is k s i w x c.requires.within c.index-entry.ensures) ∙ c.requires.owned) in
    record { within = in_table s i c.requires.within; room = room_of x.holder (get_or (chains s.table) i []) (sum_by length (chains s.table)) (capacity s.table) o.1 }

pub invariant_of-self : goal.invariant_of-self
invariant_of-self g c =
    let k = g.K.Kind.ops in
    let s = c.args.self.now in
    let i = c.args.i in
    let w = c.args.w in
    let x = c.index-entry.result.now in
    let o = own_none w i x.holder x.last (full_up k s) (sym (own_is k s i w x c.requires.within c.index-entry.ensures) ∙ c.requires.owned) in
    let v = put_view k w c.args.edit s i x c.stack.new.table c.edit-row.result (in_records s i c.requires.within) c.index-entry.ensures c.edit-row.ensures o.0 c.stack.ensures.lists in
    record { sound = put_sound k w c.args.edit s i x c.stack.new.table c.edit-row.result (in_records s i c.requires.within) c.index-entry.ensures c.edit-row.ensures o.0 c.stack.ensures.lists; falling = ap (all_fall s.clock) v ∙ all_changed s.clock (change_stored k w c.args.edit) (change_keeps k s.clock w c.args.edit) (viewed (vec_items s.records) (chains s.table)) i s.falling; few = ap (λ n. leb n 4096) (length-set (vec_items s.records) i _) ∙ s.few }

pub returns : goal.returns
unfolding view
returns g c =
    let k = g.K.Kind.ops in
    let s = c.args.self.now in
    let i = c.args.i in
    let w = c.args.w in
    let x = c.index-entry.result.now in
    let o = own_none w i x.holder x.last (full_up k s) (sym (own_is k s i w x c.requires.within c.index-entry.ensures) ∙ c.requires.owned) in
    let v = put_view k w c.args.edit s i x c.stack.new.table c.edit-row.result (in_records s i c.requires.within) c.index-entry.ensures c.edit-row.ensures o.0 c.stack.ensures.lists in
    λ j. record { clock = s.clock; room = c.stack.ensures.room j; records = v j }
