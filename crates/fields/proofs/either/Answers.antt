use Rattle.std.proofs.Common.{rules}
use Rattle.kind.proofs.Arrays.{made_table}
use Rattle.fields.specs.Bits.{has_tested}
use Rattle.fields.specs.Masks.{either_at}
use Rattle.fields.proofs.either.Goals as goal

pub returns : goal.returns
returns c = made_table _ _ 8 (either_at c.args.mask c.args.inside c.args.outside) (λ i y q below called. let tested = has_tested c.args.mask i in search rules) _ c.from_fn.ensures.items
