-- A spelling is short.
use Rattle.std.proofs.Common.{◌≡◌, ◌≤◌, ◌++◌, length, ap, subst, sym, ◌∙◌}
use Rattle.act_codec.specs.Spelling.{spelling}
use Rattle.act_codec.proofs.Lengths.{spelling_len}
use Rattle.act_codec.proofs.receipts.encode.Goals as goal

pub returns-clause-short : goal.returns-clause-short
returns-clause-short c =
    let r = c.args.receipt.now in
    let spelled : c.finish.result.items ≡ spelling r = c.finish.ensures ∙ c.in_ok-put_receipt.ensures.wrote ∙ ap (λ bs. bs ++ spelling r) c.in_ok-to.ensures in
    subst (λ bs. length bs ≤ 522) (sym spelled) (spelling_len r (c.in_ok-put_receipt.ensures.held, c.requires))
