use Rattle.std.proofs.Common.{cond, [], ◌∷◌, get_or, set, sym, refl, ap, ◌∙◌}
use Rattle.lease.specs.Times.{opens}
use Rattle.version_table.specs.Chains.{chains}
use Rattle.account.proofs.Chains.{in_front}
use Rattle.account.proofs.finishing.Tracked.finish.Goals as goal

pub returns : goal.returns
returns g c =
    let k = g.K.Kind.ops in
    let cs = chains c.args.self.now.table in
    let made = c.edit-edited.ensures in
    let yes = c.if-not-push.false in
    record {
      row = ap (λ p. p.0) made;
      chain =
          in_front k (opens (g.R.Registry.leases c.args.self.now.registry)) c.args.self.now.row c.edit-edited.result.0 c.args.edit c.args.time c.edit-edited.result.1 _ cs (chains c.push.new.self) (chains c.prune_chain.new.table)
          made (sym yes ∙ c.push.ensures.done)
          (c.push.ensures.pushed ∙ ap (λ b. cond b (set cs 0 (record { time = c.args.time; change = c.edit-edited.result.1 } ∷ get_or cs 0 [])) cs) yes)
          c.prune_chain.ensures.lists;
      registry = refl;
    }
