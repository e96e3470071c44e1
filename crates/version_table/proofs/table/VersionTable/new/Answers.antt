use Rattle.std.proofs.Common.{◌≡◌, IfOk, vec_len, ◌∙◌, subst, arith}
use Rattle.std.proofs.lemmas.Iterator.{length_from_collect, YieldsList-from_any_map, YieldsList-from_range}
use Rattle.std.proofs.lemmas.List.{length-map}
use Rattle.std.proofs.lemmas.List.FromFn.{length-range_with_len}
use Rattle.version_table.specs.Chains.{chains, capacity}
use Rattle.links.specs.Meaning.{slots}
use Rattle.version_table.proofs.Picks.{fresh_chains}
use Rattle.version_table.proofs.table.VersionTable.new.Goals as goal

pub invariant_of-result : goal.invariant_of-result
invariant_of-result g c =
    let made = length_from_collect c.collect.result c.args.versions c.collect.ensures.ran (YieldsList-from_any_map _ (YieldsList-from_range 0 _ c.args.versions c.map.ensures.source (omega arith))) (length-map _ _ ∙ length-range_with_len _ _) in
    let many = subst (λ r. IfOk r (λ v. vec_len v ≡ c.args.versions)) c.in_ok-versions.was made in
    record { sized = omega (arith, c.in_ok-versions.versions.ok, many, c.in_ok-links.ensures.1) }

pub returns : goal.returns
unfolding chains capacity
returns g c =
    let k = c.in_ok-links.ensures in
    (fresh_chains c.in_ok-versions.versions.items c.args.records (slots c.in_ok-links.links) k.0, k.1)
