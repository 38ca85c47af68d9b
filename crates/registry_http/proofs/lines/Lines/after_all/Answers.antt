use Rattle.std.proofs.Common.{◌∙◌, sym, drop}
use Rattle.registry_http.proofs.HeadLines.{over_gone}
use Rattle.registry_http.proofs.lines.Lines.after_all.Goals as goal

pub returns-then-are_over : goal.returns-then-are_over
returns-then-are_over c = over_gone c.loop-byte.lines (drop c.loop-byte.byte-index c.args.bytes.now) (sym c.are_over.ensures ∙ c.if-are_over.true) ∙ c.loop-byte.invariant
