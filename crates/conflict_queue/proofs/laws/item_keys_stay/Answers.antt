use Rattle.conflict_queue.proofs.ItemKeysStay.{item_keys_stay}
use Rattle.conflict_queue.proofs.laws.item_keys_stay.Goals as goal

pub returns : goal.returns
returns c = record { same = item_keys_stay }
