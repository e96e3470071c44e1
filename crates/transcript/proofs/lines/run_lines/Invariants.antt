use Rattle.std.proofs.Common.{◌≡◌, ◌+◌, ◌++◌, length, string_bytes}
use Rattle.store.specs.View.{view}
use Rattle.transcript.specs.Printing.{print_lines, left}
use Rattle.transcript.proofs.lines.run_lines.Given as goal

abbrev pub invariant-loop-line : goal.invariant-loop-line
invariant-loop-line g l =
    string_bytes l.out ++ print_lines g.K.Kind.ops g.K.ScriptKind.terms g.R.Registry.capacity (l.reader.line + 1) (view l.store) (g.R.Registry.leases l.registry) (left l.reader)
    ≡ string_bytes l.initial.out ++ print_lines g.K.Kind.ops g.K.ScriptKind.terms g.R.Registry.capacity (l.initial.reader.line + 1) (view l.initial.store) (g.R.Registry.leases l.initial.registry) (left l.initial.reader)

abbrev pub decreases-loop-line : goal.decreases-loop-line
decreases-loop-line g l = length (left l.reader)
