use Rattle.std.proofs.Common.{leb, [], get_or, drop, None, vec_items, sym, refl, ap, ◌∙◌, arith, length-set}
use Rattle.version_table.specs.Chains.{chains}
use Rattle.state.specs.Stored.{stored, viewed, all_fall}
use Rattle.state.specs.View.{view}
use Rattle.history.specs.Model.{free_stored, new_stored}
use Rattle.state.proofs.Views.{in_records, in_table}
use Rattle.state.proofs.Falls.{all_changed, free_keeps}
use Rattle.state.proofs.Writes.{there, write_sound, write_view, unwritten, free_one, free_other}
use Rattle.state.proofs.state.State.free.Goals as goal

pub index-requires : goal.index-requires
index-requires g c = omega (arith, in_records c.args.self.now c.args.i c.requires, c.args.self.now.records.ok.0)

pub index_mut-requires : goal.index_mut-requires
index_mut-requires g c = omega (arith, in_records c.args.self.now c.args.i c.requires, c.args.self.now.records.ok.0)

pub take_back-row-requires : goal.take_back-row-requires
take_back-row-requires g c = in_table c.args.self.now c.args.i c.requires

pub invariant_of-self : goal.invariant_of-self
invariant_of-self g c =
    let k = g.K.Kind.ops in
    let s = c.args.self.now in
    let i = c.args.i in
    let w = c.args.w in
    let x = c.index.result.now in
    let L = get_or (chains s.table) i [] in
    let b = there (free_stored k w) s i x c.requires c.index.ensures in
    let v = write_view (free_stored k w) s i x (record { row = c.take_back-row.result; last = x.last; holder = None }) (drop 1 L) c.take_back-row.new.table c.requires c.index.ensures c.take_back-row.ensures.taken.lists (ap (λ q. stored (record { row = q; last = x.last; holder = None }) (drop 1 L)) c.take_back-row.ensures.row ∙ free_one k w x L (sym c.eq.ensures ∙ c.if-eq.true) b) in record { sound = write_sound (free_stored k w) s i x (record { row = c.take_back-row.result; last = x.last; holder = None }) (drop 1 L) c.take_back-row.new.table c.requires c.index.ensures c.take_back-row.ensures.taken.lists refl; falling = ap (all_fall s.clock) v ∙ all_changed s.clock (free_stored k w) (free_keeps k s.clock w) (viewed (vec_items s.records) (chains s.table)) i s.falling; few = ap (λ n. leb n 4096) (length-set (vec_items s.records) i _) ∙ s.few }

pub returns-then-eq : goal.returns-then-eq
unfolding view
returns-then-eq g c =
    let k = g.K.Kind.ops in
    let s = c.args.self.now in
    let i = c.args.i in
    let w = c.args.w in
    let x = c.index.result.now in
    let L = get_or (chains s.table) i [] in
    let b = there (free_stored k w) s i x c.requires c.index.ensures in
    let v = write_view (free_stored k w) s i x (record { row = c.take_back-row.result; last = x.last; holder = None }) (drop 1 L) c.take_back-row.new.table c.requires c.index.ensures c.take_back-row.ensures.taken.lists (ap (λ q. stored (record { row = q; last = x.last; holder = None }) (drop 1 L)) c.take_back-row.ensures.row ∙ free_one k w x L (sym c.eq.ensures ∙ c.if-eq.true) b) in
    λ j. record { clock = s.clock; room = c.take_back-row.ensures.taken.room j; records = v j }

pub returns-else-eq : goal.returns-else-eq
returns-else-eq g c =
    let k = g.K.Kind.ops in
    let s = c.args.self.now in
    let i = c.args.i in
    let w = c.args.w in
    let x = c.index.result.now in
    let L = get_or (chains s.table) i [] in
    unwritten (free_stored k w) s i x (new_stored k 0) c.requires c.index.ensures (free_other k w x L (sym c.eq.ensures ∙ c.if-eq.false))
