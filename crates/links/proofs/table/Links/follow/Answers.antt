use Rattle.std.proofs.Common.{◌-◌, sym, ap, ◌∙◌, arith}
use Rattle.std.specs.List.{slice_get}
use Rattle.links.specs.Meaning.{list}
use Rattle.links.proofs.Places.{place_in, place_next, behind, behind_last}
use Rattle.links.proofs.table.Links.follow.Goals as goal

pub index-requires : goal.index-requires
index-requires c =
    let u = c.args.cursor in
    let b = behind (list c.args.self.now u.list) u.place c.in-Some.s u.before c.requires c.in-Some.is in
    omega (arith, place_in c.args.self.now u.list (u.place - 1) c.in-Some.s b.1, c.args.self.now.next.ok.0)

pub returns-in-None-2 : goal.returns-in-None-2
returns-in-None-2 c = behind_last (list c.args.self.now c.args.cursor.list) c.args.cursor.place c.args.cursor.before c.requires c.in-None-2.is c.if-cursor-eq0.false

pub returns-in-Some : goal.returns-in-Some
returns-in-Some c =
    let u = c.args.cursor in
    let b = behind (list c.args.self.now u.list) u.place c.in-Some.s u.before c.requires c.in-Some.is in
    place_next c.args.self.now u.list (u.place - 1) c.in-Some.s b.1 c.index.result.now c.index.ensures ∙ ap (slice_get (list c.args.self.now u.list)) (sym b.0)
