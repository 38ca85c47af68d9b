-- Answers on the day of a text.
use Rattle.std.proofs.Common.{◌∙◌}
use Rattle.gb_base.proofs.DateTexts.{read_is_written}
use Rattle.gb_base.proofs.days.Day.from_text.Goals as goal

pub returns : goal.returns
returns c = c.day_read.ensures ∙ read_is_written c.args.text.now
