-- An extension as the journal has it is the one of the item that is settled.
use Rattle.std.proofs.Common.{◌≡◌, ℕ, List, [], Option, Some, None, option_map, ap}
use Rattle.std.specs.Option.{option_map_or}
use Rattle.gb_base.specs.declared.keys.Key.{Key}
use Rattle.act_model.specs.Receiving.{item_at, receipt_at}
use Rattle.act_model.specs.declared.items.Item.{Item}
use Rattle.act_model.specs.declared.items.Item.TheVariants as item
use Rattle.act_model.specs.declared.receipts.Receipt.{Receipt}
use Rattle.folio_sections.specs.declared.entries.Entry.{Entry}
use Rattle.interim_orders.specs.Extensions.{answer_by_item, answer_to_extension, extended, extension_brought, extension_by_item, extension_by_receipt}
use Rattle.interim_orders.specs.declared.answers.Extension.TheVariants.{NotPending}

-- what is read of a receipt by its item is what is read of the item, where that is known
read_by_item : {X : Type 0} (f : Item → X) (else_so : X) (o : Option Receipt) (w : Item) → option_map (λ r. r.item) o ≡ Some w → option_map_or (λ r. f r.item) o else_so ≡ f w
read_by_item f else_so (Some r) w is = ap (λ x. option_map_or f x else_so) is
read_by_item f else_so None w is = ap (λ x. option_map_or f x else_so) is

pub answered_so : (journal : List Receipt) (m days i : ℕ) (at : Key → List Entry) → item_at journal i ≡ Some (item.Extend m days) → answer_to_extension journal i at ≡ extended journal m days i at
answered_so journal m days i at is = read_by_item (answer_by_item journal i at) NotPending (receipt_at journal i) (item.Extend m days) is

pub brought_so : (journal : List Receipt) (m days i : ℕ) (at : Key → List Entry) → item_at journal i ≡ Some (item.Extend m days) → extension_by_receipt journal i at ≡ extension_brought journal m days i at
brought_so journal m days i at is = read_by_item (extension_by_item journal i at) [] (receipt_at journal i) (item.Extend m days) is
