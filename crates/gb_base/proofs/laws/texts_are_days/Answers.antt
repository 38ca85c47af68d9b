-- Answers of the law on days and their texts.
use Rattle.gb_base.proofs.DateTexts.{text_once}
use Rattle.gb_base.proofs.laws.texts_are_days.Goals as goal

pub returns : goal.returns
returns c = text_once
