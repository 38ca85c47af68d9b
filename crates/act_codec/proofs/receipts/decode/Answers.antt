-- Each spelling is read, so where nothing is read the bytes are no spelling.
use Rattle.act_codec.proofs.Again.{none_spelled}
use Rattle.act_codec.proofs.receipts.decode.Goals as goal

pub returns-clause-none : goal.returns-clause-none
returns-clause-none c = none_spelled c.args.bytes.now c.read_whole.result c.read_whole.ensures.read c.read_whole.ensures.found
