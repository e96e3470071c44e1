use Rattle.std.proofs.Common.{◌≡◌, ◌+◌, List, [], ◌++◌, length, take, drop, set, sym, ap, ◌∙◌, arith}
use Rattle.std.proofs.lemmas.List.{set-get_or}
use Rattle.std.specs.List.{slice_get}
use Rattle.links.specs.Meaning.{size, list}
use Rattle.links.proofs.Places.{row_in_range}
use Rattle.chain.specs.declared.version.Version.{Version}
use Rattle.chain.specs.Pruning.{absorb}
use Rattle.version_table.specs.Chains.{chains, chain, capacity}
use Rattle.version_table.proofs.Picks.{chain_len}
use Rattle.version_table.proofs.Cursors.{inside_list}
use Rattle.version_table.proofs.Turns.{absorb_next, absorb_last, cut_again}
use Rattle.version_table.proofs.prune.join_down.Goals.{in-Some, in_default}
use Rattle.version_table.proofs.prune.join_down.Goals as goal

pub step-next-requires-clause-inside : goal.step-next-requires-clause-inside
step-next-requires-clause-inside g c = inside_list c.args.table.now c.args.cursor.list c.args.cursor.place c.requires.inside

pub cut-requires-clause-inside : goal.cut-requires-clause-inside
cut-requires-clause-inside g c =
    let t = c.args.table.now in
    let T = c.match-look.table in
    let r = c.args.cursor.list in
    let kept : T.links ≡ t.links = elim c.match-look.branch [ in-Some w ↦ ap (λ x. x.links) w.table-is ∙ w.write-written.ensures.links | in_default w ↦ ap (λ x. x.links) w.table-is ] in
    omega (arith, c.requires.inside, chain_len t r, chain_len T r, ap (λ l. length (list l r)) kept)

pub returns-clause-joined : goal.returns-clause-joined
unfolding capacity
returns-clause-joined g c =
    let k = g.K.Kind.ops in
    let t = c.args.table.now in
    let T = c.match-look.table in
    let r = c.args.cursor.list in
    let i = c.args.cursor.place in
    let p = c.args.hand in
    let C = chain t r in
    let Y = take i C ++ absorb k p (drop (i + 1) C) in
    let m = c.step-next.ensures in
    let older : slice_get (chain t c.step-next.result.list) c.step-next.result.place ≡ slice_get C (i + 1) = λ j. slice_get (chain t (m.list j)) (m.place j) in
    let w : (D : List (Version g.row.K-Change.Denot)) × (T.links ≡ t.links) × (chains T ≡ set (chains t) r D) × (take i D ++ drop (i + 1) D ≡ Y) =
    elim c.match-look.branch [
      | in-Some w ↦
          let j : Version g.row.K-Change.Denot = record { time = p.time; change = w.join-change.result } in (
            set C (i + 1) j,
            ap (λ x. x.links) w.table-is ∙ w.write-written.ensures.links,
            ap chains w.table-is ∙ w.write-written.ensures.written.lists ∙ (λ z. set (chains t) (m.list z) (set (chain t (m.list z)) (m.place z) j)),
            absorb_next k C i p w.in-Some.older j (sym (w.in-Some.ensures ∙ older)) (λ z. record { time = p.time; change = w.join-change.ensures z }),
          )
      | in_default w ↦ (
        C,
        ap (λ x. x.links) w.table-is,
        ap chains w.table-is ∙ sym (set-get_or (chains t) r []),
        absorb_last k C i p (sym (w.in_default.ensures ∙ older)),
      )
    ] in
    record {
      room = c.cut.ensures.cut.room ∙ ap size w.1;
      lists = cut_again (chains t) (chains T) (chains c.cut.new.self) r i w.0 Y (row_in_range (chains t) r i c.requires.inside) w.2 c.cut.ensures.cut.lists w.3;
    }
