-- What an item of any kind brings leaves a kept register.
use Rattle.std.proofs.Common.{◌≡◌, ℕ, List, Some, option_map, refl}
use Rattle.gb_base.specs.declared.keys.Key.{Key}
use Rattle.act_model.specs.Receiving.{IsJournal, receipt_at}
use Rattle.act_model.specs.declared.items.Item.{Item}
use Rattle.act_model.specs.declared.items.Item.TheVariants as item
use Rattle.act_model.specs.declared.receipts.Receipt.{Receipt}
use Rattle.conflict_queue.specs.ItemKeys.{keys_by_item}
use Rattle.consent_rules.specs.Judging.{judged_filing}
use Rattle.folio_sections.specs.declared.entries.Entry.{Entry}
use Rattle.interim_orders.specs.Orders.{state_of}
use Rattle.kept_registers.specs.Kept.{Kept}
use Rattle.registrar.proofs.CuresKeep.{AreEarlier, cure_in_state, filing_deals, lapse_leaves, there_is}
use Rattle.registrar.proofs.ItemsKeep.{filing_leaves}
use Rattle.registrar.proofs.ExtensionsKeep.{extension_leaves}
use Rattle.registrar.proofs.Keeping.{Leaves}
use Rattle.registrar.proofs.SalesKeep.{award_leaves, call_leaves, distribution_leaves, registration_leaves, seizure_leaves}
use Rattle.registrar.specs.Brings.{brought_by_item}

pub item_leaves : (journal : List Receipt) (i : ℕ) (at : Key → List Entry) (w : Item) → IsJournal journal → Kept journal at → option_map (λ r. r.item) (receipt_at journal i) ≡ Some w → AreEarlier i at (keys_by_item journal i w)
    → Leaves journal i at (brought_by_item journal i at w).entries
item_leaves journal i at (item.Filing f) stands kept is before =
    filing_leaves journal i f at (judged_filing journal i f i at) (filing_deals journal i f at stands kept before is) refl
item_leaves journal i at (item.Cure m docs) stands kept is before = cure_in_state journal m i at (state_of journal m i at) (there_is (receipt_at journal i) (item.Cure m docs) is) stands kept before refl
item_leaves journal i at (item.Lapse m) stands kept is before = lapse_leaves journal i m at stands kept before is
item_leaves journal i at (item.Extend m days) stands kept is before = extension_leaves journal i m days at stands kept before is
item_leaves journal i at (item.Seize folio basis served) stands kept is before = seizure_leaves journal at folio i stands kept basis served is before
item_leaves journal i at (item.Register folio registered) stands kept is before = registration_leaves journal at folio i stands kept registered is before
item_leaves journal i at (item.OpenBids folio costs) stands kept is before = call_leaves journal at folio i stands kept costs is before
item_leaves journal i at (item.Award folio buyer bid) stands kept is before = award_leaves journal at folio i stands kept buyer bid is before
item_leaves journal i at (item.Distribute folio) stands kept is before = distribution_leaves journal at folio i stands kept is before
