use Rattle.std.proofs.Common.{◌≡◌, ◌<◌, leb, ◌++◌, length, drop, set, replicate, None, vec_items, sym, ap, ◌∙◌, add-one, arith}
use lib.ListN.{length-replicate}
use Rattle.version_table.specs.Chains.{chains, capacity}
use Rattle.state.specs.declared.entry.Entry.{Entry}
use Rattle.state.specs.Matched.{matched}
use Rattle.state.specs.Stored.{viewed, all_fall}
use Rattle.state.proofs.Falls.{new_falls}
use Rattle.state.specs.View.{view}
use Rattle.state.proofs.Fresh.{blank_more, blank_end, all_unused, fresh_sound, fresh_view}
use Rattle.state.proofs.tables.Tables.start.Goals as goal

pub loop-i-preserved : goal.loop-i-preserved
loop-i-preserved g c =
    let xs = vec_items c.args.self.records in
    let i = c.loop-i.i in
    let v : Entry g.row.K-Row.Denot = record { row = g.K.Kind.ops.blank; last = c.args.start; holder = None } in
    let h : i < length xs = omega (arith, c.args.self.records.ok.0, c.loop-i-test.true, c.len-i-end.ensures) in
    ap (λ r. set (vec_items c.loop-i.records) i (record { row = r; last = c.args.start; holder = None })) c.blank.ensures
    ∙ ap (λ l. set l i v) c.loop-i.invariant ∙ blank_more v xs i h ∙ ap (λ n. replicate n v ++ drop n xs) (sym (add-one i))

pub invariant_of-result : goal.invariant_of-result
invariant_of-result g c =
    let xs = vec_items c.args.self.records in
    let n = length xs in
    let v : Entry g.row.K-Row.Denot = record { row = g.K.Kind.ops.blank; last = c.args.start; holder = None } in
    let done : c.loop-i.i ≡ n = omega (arith, c.args.self.records.ok.0, c.loop-i-test.false, c.len-i-end.ensures) in
    let rs = blank_end v xs (vec_items c.loop-i.records) c.loop-i.i c.loop-i.invariant done in
    let cs = all_unused (chains c.args.self.table) n c.args.self.unused c.args.self.paired in record {
      sound = ap (λ z. matched z (chains c.args.self.table)) rs ∙ ap (matched (replicate n v)) cs ∙ fresh_sound g.row.K-Change.Denot g.K.Kind.ops.blank c.args.start n;
      falling = ap (all_fall c.args.start) (ap (λ z. viewed z (chains c.args.self.table)) rs ∙ ap (viewed (replicate n v)) cs ∙ fresh_view g.row.K-Change.Denot g.K.Kind.ops.blank c.args.start n)
          ∙ new_falls g.K.Kind.ops c.args.start c.args.start n;
      few = ap (λ z. leb (length z) 4096) rs ∙ ap (λ z. leb z 4096) (length-replicate n v) ∙ c.args.self.few;
    }

pub returns : goal.returns
unfolding view
returns g c =
    let xs = vec_items c.args.self.records in
    let n = length xs in
    let v : Entry g.row.K-Row.Denot = record { row = g.K.Kind.ops.blank; last = c.args.start; holder = None } in
    let done : c.loop-i.i ≡ n = omega (arith, c.args.self.records.ok.0, c.loop-i-test.false, c.len-i-end.ensures) in
    let rs = blank_end v xs (vec_items c.loop-i.records) c.loop-i.i c.loop-i.invariant done in
    let cs = all_unused (chains c.args.self.table) n c.args.self.unused c.args.self.paired in
    let all = ap (λ z. viewed z (chains c.args.self.table)) rs ∙ ap (viewed (replicate n v)) cs ∙ fresh_view g.row.K-Change.Denot g.K.Kind.ops.blank c.args.start n in
    λ j. record { clock = c.args.start; room = capacity c.args.self.table; records = all j }
