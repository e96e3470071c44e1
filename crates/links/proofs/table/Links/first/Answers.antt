use Rattle.std.proofs.Common.{◌≡◌, ◌<◌, ◌≤◌, [], length, get_or, sym, ◌∙◌, arith}
use Rattle.std.proofs.lemmas.List.{get_or_past}
use Rattle.links.specs.Meaning.{slots}
use Rattle.links.proofs.Steps.{rows_are}
use Rattle.links.proofs.Ways.{first-onto, first_list, none_onto, from_none}
use Rattle.links.proofs.Places.{onto_head}
use Rattle.links.proofs.table.Links.first.Goals as goal

pub returns-then-r-len : goal.returns-then-r-len
returns-then-r-len c =
    let l = c.args.self.now in
    let h : c.args.r < length (slots l) = omega (arith, rows_are l, c.if-r-len.true, c.len.ensures, l.heads.ok.0) in
    let a = first-onto l c.args.r c.index.result.now h c.index.ensures in
    let b = first_list l c.args.r c.index.result.now h c.index.ensures in
    record { onto = a; list = b; head = onto_head l c.index.result.now _ a b }

pub returns-else-r-len : goal.returns-else-r-len
returns-else-r-len c =
    let l = c.args.self.now in
    let h : length (slots l) ≤ c.args.r = omega (arith, rows_are l, c.if-r-len.false, c.len.ensures, l.heads.ok.0) in
    let e : get_or (slots l) c.args.r [] ≡ [] = get_or_past (slots l) c.args.r [] h in
    let b = from_none l ∙ sym e in
    record { onto = none_onto l; list = b; head = onto_head l _ _ (none_onto l) b }
