-- Where each key of an item has the room that the item needs, there is room for what it brings.
use Rattle.std.proofs.Common.{◌≡◌, ℕ, ◌<◌, ◌≤◌, true, cond, nat_lt, List, [], Contains, Option, Some, None, option_and_then, option_map, refl, sym, ap, subst, ◌∙◌, arith}
use Rattle.std.specs.Option.{option_map_or}
use Rattle.std.proofs.lemmas.Bool.Decides.{nat_tests}
use Rattle.gb_base.specs.declared.keys.Key.{Key}
use Rattle.act_model.specs.Receiving.{IsJournal, receipt_at}
use Rattle.act_model.specs.Touches.{keys_of_filing}
use Rattle.act_model.specs.declared.items.Item.{Item}
use Rattle.act_model.specs.declared.items.Item.TheVariants as item
use Rattle.act_model.specs.declared.receipts.Receipt.{Receipt}
use Rattle.folio_sections.specs.Adding.{HasRoom}
use Rattle.consent_rules.specs.Judging.{judged, judged_filing}
use Rattle.folio_sections.specs.declared.entries.Entry.{Entry}
use Rattle.consent_rules.specs.declared.judgements.Judgement.{Judgement}
use Rattle.consent_rules.specs.declared.judgements.Judgement.TheVariants.{Enter, Interim, Reject}
use Rattle.interim_orders.proofs.Room.{extension_fits, lapse_fits}
use Rattle.interim_orders.specs.Lapses.{lapse_at, lapse_in}
use Rattle.interim_orders.specs.Orders.{deadline_of, state_of}
use Rattle.interim_orders.specs.declared.states.FilingState.{FilingState}
use Rattle.interim_orders.specs.declared.states.FilingState.TheVariants.{NotPending, Pending}
use Rattle.registrar.proofs.Rooms.{cure_fits, entry_fits, marks_fit_too}
use Rattle.registrar.proofs.WaitingStates.{found_waiting}
use Rattle.registrar.proofs.FiledItems.{IsFiled}
use Rattle.registrar.specs.Brings.{brought_by_cure, brought_by_filing, brought_by_item, brought_in_state, nothing_pending}
use Rattle.conflict_queue.specs.ItemKeys.{keys_by_item, keys_of_named}
use Rattle.registrar.specs.Rooms.{room_by_item, room_to_enter}
use Rattle.registrar.specs.inner.RoomToEnter.{HasRoomToEnter}

no_entry : (room : Key → ℕ) → HasRoom room []
no_entry room k = omega arith

filing_fits : (journal : List Receipt) (i : ℕ) (at : Key → List Entry) (room : Key → ℕ) (judgement : Judgement) → IsJournal journal → HasRoomToEnter journal i at room → HasRoom room (brought_by_filing journal i at judgement).entries
filing_fits journal i at room Enter stands roomy = entry_fits journal i i at room stands roomy
filing_fits journal i at room (Reject section) stands roomy = no_entry room
filing_fits journal i at room (Interim defects) stands roomy = marks_fit_too journal i i (Some (deadline_of journal i)) at room roomy

waiting_fits : (journal : List Receipt) (m i : ℕ) (at : Key → List Entry) (room : Key → ℕ) (judgement : Option Judgement) → IsJournal journal → HasRoomToEnter journal m at room → HasRoom room (option_map_or (brought_by_cure journal m i at) judgement nothing_pending).entries
waiting_fits journal m i at room (Some Enter) stands roomy = cure_fits journal m i at room stands roomy
waiting_fits journal m i at room (Some (Reject section)) stands roomy = marks_fit_too journal m i None at room roomy
waiting_fits journal m i at room (Some (Interim defects)) stands roomy = no_entry room
waiting_fits journal m i at room None stands roomy = no_entry room

-- the keys of an earlier filing are among those of the item that names it
pub named : (journal : List Receipt) (i m : ℕ) (k : Key) → m < i → Contains (keys_of_filing journal m) k → Contains (keys_of_named journal i m) k
named journal i m k earlier there =
    let less : nat_lt m i ≡ true = grind (arith, nat_tests, earlier) in
    subst (λ b. Contains (cond b (keys_of_filing journal m) []) k) (sym less) there

cure_in_state_fits : (journal : List Receipt) (m i : ℕ) (at : Key → List Entry) (room : Key → ℕ) (state : FilingState) → state_of journal m i at ≡ state → IsJournal journal
    → ((k : Key) → Contains (keys_of_named journal i m) k → room_to_enter m (at k) ≤ room k) → HasRoom room (brought_in_state journal m i at state).entries
cure_in_state_fits journal m i at room (Pending until) is stands roomy =
    let earlier = (found_waiting journal m i at until is).earlier in
    waiting_fits journal m i at room (judged journal m i at) stands (λ k there. roomy k (named journal i m k earlier there))
cure_in_state_fits journal m i at room NotPending is stands roomy = no_entry room

-- what is read of a receipt's item is what is read of the item, where that is known
pub read_of_item : {X : Type 0} (f : Item → Option X) (o : Option Receipt) (what : Item) → option_map (λ r. r.item) o ≡ Some what → option_and_then (λ r. f r.item) o ≡ f what
read_of_item f (Some r) what is = ap (λ x. option_and_then f x) is
read_of_item f None what is = ap (λ x. option_and_then f x) is

pub lapse_names : (journal : List Receipt) (i m n : ℕ) → option_map (λ r. r.item) (receipt_at journal i) ≡ Some (item.Lapse m) → lapse_at journal i ≡ Some n → m ≡ n
lapse_names journal i m n is names =
    let same : Some m ≡ Some n = sym (read_of_item lapse_in (receipt_at journal i) (item.Lapse m) is) ∙ names in
    ap (λ o. option_map_or (λ x. x) o 0) same

-- there is room for what an item about a filing brings
pub item_fits : (journal : List Receipt) (i : ℕ) (at : Key → List Entry) (room : Key → ℕ) (what : Item) → IsFiled what → IsJournal journal → option_map (λ r. r.item) (receipt_at journal i) ≡ Some what
    → ((k : Key) → Contains (keys_by_item journal i what) k → room_by_item i what (at k) ≤ room k) → HasRoom room (brought_by_item journal i at what).entries
item_fits journal i at room (item.Filing f) filed stands is roomy = filing_fits journal i at room (judged_filing journal i f i at) stands roomy
item_fits journal i at room (item.Cure m docs) filed stands is roomy = cure_in_state_fits journal m i at room (state_of journal m i at) refl stands roomy
item_fits journal i at room (item.Lapse m) filed stands is roomy =
    lapse_fits journal i at room (λ n names earlier k there.
    let same = lapse_names journal i m n is names in
    roomy k (subst (λ x. Contains (keys_of_named journal i x) k) (sym same) (named journal i n k earlier there)))
item_fits journal i at room (item.Extend m days) filed stands is roomy =
    extension_fits journal m days i at room (λ earlier k there. roomy k (named journal i m k earlier there))
item_fits journal i at room other filed stands is roomy = absurd filed
