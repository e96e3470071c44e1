use Rattle.std.proofs.Common.{◌+◌, ◌++◌, string_bytes, ap, ◌∙◌}
use Rattle.transcript.specs.Printing.{left}
use Rattle.transcript.specs.Transcripts.{print_by}
use Rattle.transcript.proofs.Wholes.{begun}
use Rattle.transcript.proofs.whole.begin.Goals as goal

pub returns : goal.returns
returns c =
    let o = c.in-Ok.opening in
    let s = c.in-Ok-check.sizes in
    let r = c.args.reader.now in
    let sized = c.in-Ok-check.ensures in
    begun c.args.first.now o r.line s.records s.versions s.start (left r) (string_bytes c.run_opened.new.out) c.in-Ok.ensures sized.0 sized.1 sized.2 sized.3 c.requires
    (c.in_ok-run_opened.ensures ∙ ap (λ x. x ++ print_by o.kind o.registry (r.line + 1) s.records s.versions s.start (left r)) c.new-out.ensures.bytes)
