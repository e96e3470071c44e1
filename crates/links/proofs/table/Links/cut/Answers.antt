use Rattle.std.proofs.Common.{◌-◌}
use Rattle.links.specs.Meaning.{slots, size, list}
use Rattle.links.proofs.Places.{behind, later_cut, cut_stands}
use Rattle.links.proofs.table.Links.cut.Goals as goal

pub returns-in-Some : goal.returns-in-Some
returns-in-Some c =
    let u = c.args.cursor in
    let S = slots c.args.self.now in
    let T = slots c.cut_after-cut.new.self in
    let L = list c.args.self.now u.list in
    let b = behind L u.place c.in-Some.p u.before c.requires.stands c.in-Some.is in
    let e = later_cut S T u.list u.place (u.place - 1) L c.cut_after-cut.result (size c.args.self.now) b.0 c.requires.inside c.cut_after-cut.ensures.cut in
    record { cut = record { sized = c.cut_after-cut.ensures.size; lists = e }; stands = cut_stands S T u.list u.place u.before c.requires.inside c.requires.stands e }
