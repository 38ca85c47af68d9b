-- The keys at which a register has parts.
use Rattle.std.specs.Prelude.{ℕ, List, flat_map}
use Rattle.std.specs.List.{range_with_len}
use Rattle.gb_base.specs.declared.keys.Key.{Key}
use Rattle.act_model.specs.declared.receipts.Receipt.{Receipt}
use Rattle.conflict_queue.specs.ItemKeys.{keys_of_item}

-- the keys of the first n items of a journal, in the order of receipts; those that several items touch come as often
abbrev pub keys_of_first : List Receipt → ℕ → List Key
keys_of_first journal n = flat_map (keys_of_item journal) (range_with_len 1 n)
