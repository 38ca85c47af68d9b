-- Receipts after a filing change none of its keys.
use Rattle.act_model.proofs.KeysStay.{keys_of_filing_stay}
use Rattle.act_model.proofs.laws.keys_stay.Goals as goal

pub returns : goal.returns
returns c = keys_of_filing_stay
