-- What an item takes of the room at one of its keys is no more than the room that it keeps.
use Rattle.std.proofs.Common.{◌≡◌, ℕ, ◌+◌, ◌<◌, ◌≤◌, All, true, List, [], ◌∷◌, length, Some, None, arith}
use Rattle.std.specs.List.{AllByRecursion}
use Rattle.std.specs.Option.{option_map_or}
use Rattle.std.proofs.lemmas.Bool.{false≢true}
use Rattle.gb_base.specs.declared.keys.Key.{Key}
use Rattle.gb_base.specs.declared.keys.Key.TheVariants.{Case}
use Rattle.act_model.proofs.KeyOrder.{has}
use Rattle.act_model.specs.Receiving.{IsJournal, receipt_at}
use Rattle.act_model.specs.SaleKeys.{keys_of_sale}
use Rattle.act_model.specs.declared.items.Item.{Item}
use Rattle.act_model.specs.declared.items.Item.TheVariants as item
use Rattle.act_model.specs.declared.receipts.Receipt.{Receipt}
use Rattle.auction_classes.specs.Sales.{sale_at}
use Rattle.conflict_queue.specs.ItemKeys.{keys_by_item}
use Rattle.consent_rules.specs.Judging.{judged_filing}
use Rattle.folio_sections.proofs.Unchanged.{all_at, all_weaker}
use Rattle.folio_sections.specs.Entries.{at as at_key}
use Rattle.folio_sections.specs.declared.entries.Entry.{Entry}
use Rattle.folio_sections.specs.declared.entries.What.{What}
use Rattle.folio_sections.specs.declared.entries.What.TheVariants as what
use Rattle.interim_orders.specs.Orders.{state_of}
use Rattle.kept_registers.specs.Kept.{Kept}
use Rattle.registrar.proofs.Dealing.{KeepsWaiting}
use Rattle.registrar.proofs.PermittedOrders.{touches}
use Rattle.registrar.proofs.SaleBrings.{IsOfItem, IsOfSale, award_is_of_item, call_is_of_item, distribution_is_of_item, registration_is_of_item, seizure_is_of_item}
use Rattle.registrar.specs.Brings.{brings, brought_by_item, nothing_pending}
use Rattle.registrar.specs.Rooms.{room_by_item, room_wanted}
use Rattle.sale_rules.specs.SaleGrounds.{refusal_of_call, refusal_of_distribution, refusal_of_registration, refusal_of_seizure}
use Rattle.desk_pool.proofs.FilingRoom.{cure_takes, extension_takes, filing_takes, lapse_takes}
use Rattle.desk_pool.proofs.RoomGrows.{FitWithNotices, TakesAtMost, takes_its_entries}
use Rattle.desk_pool.proofs.SaleRoom.{award_few, one_at_most}
use Rattle.desk_pool.proofs.WaitingBehind.{Starts, keeping, nobody}
use Rattle.desk_pool.specs.RoundRooms.{room_for, room_for_item}

-- ---- forced sales

keeps_waiting : (w : What) (k : Key) → IsOfSale w k → KeepsWaiting w
keeps_waiting what.Seized k is = tt
keeps_waiting what.Registered k is = tt
keeps_waiting (what.Bids costs) k is = tt
keeps_waiting (what.Awarded buyer bid) k is = tt
keeps_waiting (what.AwardOwner buyer) k is = tt
keeps_waiting (what.Remains capital) k is = tt
keeps_waiting what.Expired k is = tt
keeps_waiting what.Distributed k is = tt
keeps_waiting other k is = absurd is

sale_takes : (journal : List Receipt) (i : ℕ) (keys : List Key) (before es : List Entry) (k : Key) → length (at_key es k) ≤ 1 → AllByRecursion (IsOfItem journal i keys) es → TakesAtMost before (at_key es k) 1
sale_takes journal i keys before es k few all =
    takes_its_entries before (at_key es k) 1 few
    (all_at (λ e. Starts nobody e.what) es k
    (all_weaker (IsOfItem journal i keys) (λ e. Starts nobody e.what) es (λ e is. keeping e.what (keeps_waiting e.what e.key is.content)) all))

-- ---- any item

-- What an item takes of the room at a key is at most what it keeps there, on a kept register whose entries are all by earlier items.
item_takes : (journal : List Receipt) (i : ℕ) (at : Key → List Entry) (w : Item) (k : Key) → IsJournal journal → Kept journal at → ((j : Key) → All (λ e. e.receipt < i) (at j))
    → has k (keys_by_item journal i w) ≡ true → TakesAtMost (at k) (at_key (brought_by_item journal i at w).entries k) (room_for_item w)
item_takes journal i at (item.Filing f) k stands kept earlier own = filing_takes journal i at k (judged_filing journal i f i at) stands own
item_takes journal i at (item.Cure m docs) k stands kept earlier own = cure_takes journal m i at k (state_of journal m i at) stands own
item_takes journal i at (item.Lapse m) k stands kept earlier own = lapse_takes journal i at k
item_takes journal i at (item.Extend m days) k stands kept earlier own = extension_takes journal m days i at k kept own
item_takes journal i at (item.Seize folio basis served) k stands kept earlier own =
    sale_takes journal i (keys_of_sale journal i folio) (at k) _ k (one_at_most (refusal_of_seizure (sale_at journal at folio i) basis) _ k) (seizure_is_of_item journal at folio i basis)
item_takes journal i at (item.Register folio registered) k stands kept earlier own =
    sale_takes journal i (Case folio ∷ []) (at k) _ k (one_at_most (refusal_of_registration (sale_at journal at folio i) registered) _ k) (registration_is_of_item journal at folio i registered)
item_takes journal i at (item.OpenBids folio costs) k stands kept earlier own =
    sale_takes journal i (keys_of_sale journal i folio) (at k) _ k (one_at_most (refusal_of_call (sale_at journal at folio i)) _ k) (call_is_of_item journal at folio i costs)
item_takes journal i at (item.Award folio buyer bid) k stands kept earlier own =
    sale_takes journal i (keys_of_sale journal i folio) (at k) _ k (award_few journal at folio i buyer bid k stands kept earlier) (award_is_of_item journal at folio i buyer bid kept stands)
item_takes journal i at (item.Distribute folio) k stands kept earlier own =
    sale_takes journal i (keys_of_sale journal i folio) (at k) _ k (one_at_most (refusal_of_distribution (sale_at journal at folio i)) _ k) (distribution_is_of_item journal at folio i)

-- What receipt i takes of the room at a key is at most what it keeps there, on a kept register whose entries are all by earlier items.
pub receipt_takes : (journal : List Receipt) (i : ℕ) (at : Key → List Entry) (k : Key) → IsJournal journal → Kept journal at → ((j : Key) → All (λ e. e.receipt < i) (at j))
    → touches journal k i ≡ true → TakesAtMost (at k) (at_key (brings journal i at).entries k) (room_for journal i)
receipt_takes journal i at k stands kept earlier own =
    elim (receipt_at journal i) as (λ o. has k (option_map_or (λ r. keys_by_item journal i r.item) o []) ≡ true
    → TakesAtMost (at k) (at_key (option_map_or (λ r. brought_by_item journal i at r.item) o nothing_pending).entries k) (option_map_or (λ r. room_for_item r.item) o 0)) [
      | Some r ↦ λ touched. item_takes journal i at r.item k stands kept earlier touched
      | None ↦ λ none. absurd (false≢true none)
    ] own

-- ---- what an item needs

item_wants : (i : ℕ) (es : List Entry) (room : ℕ) (w : Item) → FitWithNotices es room → length es + room_by_item i w es ≤ room + room_for_item w
item_wants i es room (item.Filing f) fit = let fits = fit i in omega arith
item_wants i es room (item.Cure m docs) fit = let fits = fit m in omega arith
item_wants i es room other fit = let fits = fit 0 in omega arith

-- where the entries and the notices to come fit into a room, that room and what the item keeps are enough for what the item needs
pub receipt_wants : (journal : List Receipt) (i : ℕ) (es : List Entry) (room : ℕ) (k : Key) → FitWithNotices es room → touches journal k i ≡ true → length es + room_wanted journal i es ≤ room + room_for journal i
receipt_wants journal i es room k fit own =
    elim (receipt_at journal i) as (λ o. has k (option_map_or (λ r. keys_by_item journal i r.item) o []) ≡ true
    → length es + option_map_or (λ r. room_by_item i r.item es) o 1 ≤ room + option_map_or (λ r. room_for_item r.item) o 0) [
      | Some r ↦ λ touched. item_wants i es room r.item fit
      | None ↦ λ none. absurd (false≢true none)
    ] own
