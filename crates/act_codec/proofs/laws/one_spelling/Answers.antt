use Rattle.act_codec.proofs.Again.{spelling_once}
use Rattle.act_codec.proofs.laws.one_spelling.Goals as goal

pub returns : goal.returns
returns c = spelling_once
