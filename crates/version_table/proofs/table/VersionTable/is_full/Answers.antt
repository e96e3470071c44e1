use Rattle.std.proofs.Common.{◌≡◌, leb, ap, ◌∙◌, arith}
use Rattle.links.specs.Meaning.{size}
use Rattle.version_table.specs.Chains.{capacity}
use Rattle.version_table.proofs.table.VersionTable.is_full.Goals as goal

pub returns : goal.returns
unfolding capacity
returns g c =
    let k = c.args.self.now in
    let a : c.len.result ≡ size k.links = omega (arith, c.len.ensures, k.versions.ok.0, k.sized) in
    ap (λ n. leb n c.used.result) a ∙ ap (λ n. leb (size k.links) n) c.used.ensures
