use Rattle.std.proofs.Common.{◌≡◌, IfOk, [], length, vec_len, sym, ap, ◌∙◌, subst, arith}
use Rattle.std.proofs.lemmas.Bool.Decides.{nat_tests}
use Rattle.std.proofs.lemmas.Iterator.{length_from_collect, YieldsList-from_any_map, YieldsList-from_range}
use Rattle.std.proofs.lemmas.List.{length-map, length-replicate}
use Rattle.std.proofs.lemmas.List.FromFn.{length-range_with_len}
use Rattle.state.proofs.tables.Tables.make.Given as given
use Rattle.state.proofs.tables.Tables.make.Goals as goal

-- as many entries as records
entered : (g : given.Over) (c : goal.In_ok-table g) → length c.in_ok-all.all.items ≡ c.args.records
entered g c =
    let made = length_from_collect c.collect.result c.args.records c.collect.ensures.ran (YieldsList-from_any_map _ (YieldsList-from_range 0 _ c.args.records c.map.ensures.source (omega arith))) (length-map _ _ ∙ length-range_with_len _ _) in
    let many = subst (λ r. IfOk r (λ v. vec_len v ≡ c.args.records)) c.in_ok-all.was made in
    omega (arith, c.in_ok-all.all.ok, many)

pub invariant_of-result-clause-paired : goal.invariant_of-result-clause-paired
invariant_of-result-clause-paired g c = ap length c.in_ok-table.ensures.0 ∙ length-replicate c.args.records [] ∙ sym (entered g c)

pub invariant_of-result-clause-few : goal.invariant_of-result-clause-few
invariant_of-result-clause-few g c = let n = entered g c in let r = c.requires.0 in grind (arith, nat_tests)
