use Rattle.std.proofs.Common.{◌∙◌}
use Rattle.desk_pool.proofs.PreparedRegisters.{register_left}
use Rattle.desk_pool.proofs.register_frames.RegisterFrame.into_register.Goals as goal

pub returns : goal.returns
returns c =
    register_left c.args.journal.now.receipts c.args.order.now c.args.self c.of_parts.result c.is_a_journal.ensures.journal (c.empty_register_is_kept.ensures.kept c.args.journal.now.receipts) c.requires.permitted
    c.requires.taken c.of_parts.ensures.parts c.of_parts.ensures.verdicts (c.of_parts.ensures.folios ∙ c.keep_open.ensures)
