use Rattle.std.proofs.Common.{replicate, string_bytes, refl}
use Rattle.std.proofs.lemmas.Result.{IfOk-weaker}
use Rattle.store.specs.View.{view}
use Rattle.transcript.proofs.OneLine.{refused_line, called_line}
use Rattle.transcript.proofs.lines.run_line.Goals as goal

pub returns-in-Err : goal.returns-in-Err
returns-in-Err g c =
    IfOk-weaker c.writeln.result _ _
    (λ _ e. refused_line g.K.Kind.ops g.K.ScriptKind.terms g.R.Registry.capacity c.args.number (view c.args.store.now) (g.R.Registry.leases c.args.registry.now) c.args.line.now
    (string_bytes c.args.out.now) (string_bytes c.writeln.new.self) c.in-Err.fault c.in-Err.ensures e)
    c.writeln.ensures.bytes

pub returns-in-Ok : goal.returns-in-Ok
returns-in-Ok g c =
    IfOk-weaker c.write.result _ _
    (λ _ e. called_line g.K.Kind.ops g.K.ScriptKind.terms g.R.Registry.capacity c.args.number (view c.args.store.now) (g.R.Registry.leases c.args.registry.now) c.args.line.now
    (string_bytes c.args.out.now) (string_bytes c.write.new.self) c.in-Ok.call c.perform-outcome.result (view c.perform-outcome.new.store) (g.R.Registry.leases c.perform-outcome.new.registry)
    (replicate 256 0) c.perform-outcome.new.list c.wrote.result c.in-Ok.ensures refl c.perform-outcome.ensures c.wrote.ensures e)
    c.write.ensures.bytes
