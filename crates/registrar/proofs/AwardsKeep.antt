-- What an item brings to a register that keeps its awards leaves one that keeps them.
use Rattle.std.proofs.Common.{◌≡◌, ℕ, List, [], Some, None, option_map, refl, sym, subst}
use Rattle.std.specs.Option.{option_map_or}
use Rattle.std.proofs.lemmas.List.{append-nil}
use Rattle.std.proofs.lemmas.List.Elements.{All-from_recursion, All-nil, recursion_from_All}
use Rattle.gb_base.specs.declared.keys.Key.{Key}
use Rattle.gb_base.specs.declared.keys.Key.TheVariants.{Case}
use Rattle.act_model.specs.Receiving.{IsJournal, item_at, receipt_at}
use Rattle.act_model.specs.declared.items.Item.{Item}
use Rattle.act_model.specs.declared.receipts.Receipt.{Receipt}
use Rattle.conflict_queue.specs.ItemKeys.{keys_by_item, keys_of_item}
use Rattle.folio_sections.specs.Adding.{AddsAll}
use Rattle.folio_sections.specs.Entries.{with_entries}
use Rattle.folio_sections.specs.declared.entries.Entry.{Entry}
use Rattle.kept_registers.specs.Kept.{Kept}
use Rattle.registrar.specs.Brings.{brings, brought_by_item, nothing_pending}
use Rattle.registrar.specs.KeptAwards.{AwardsAsKept, AwardsKept}
use Rattle.registrar.proofs.AwardsAsBefore.{BringsAtKeys, awards_stay}
use Rattle.registrar.proofs.CasesEnd.{awards_behind, ends_behind, item_adds, none_around}
use Rattle.registrar.proofs.CuresKeep.{AreEarlier}
use Rattle.registrar.proofs.EachItemKeeps.{item_leaves}
use Rattle.registrar.proofs.Elsewhere.{nothing_elsewhere}
use Rattle.registrar.proofs.UnreadThere.{item_unread}

-- the empty register has no award
pub none_kept : (journal : List Receipt) → AwardsKept journal (λ _. [])
none_kept journal = record {
  awards = λ folio. All-nil (λ e. AwardsAsKept journal (λ _. []) folio e.receipt e.what);
  ends = λ folio before after e is wants. absurd (none_around before after e is);
}

brings_at_keys : (journal : List Receipt) (i : ℕ) (register : Key → List Entry) (w : Item) → IsJournal journal → Kept journal register → item_at journal i ≡ Some w → AreEarlier i register (keys_by_item journal i w)
    → BringsAtKeys i (keys_by_item journal i w) register (brought_by_item journal i register w).entries
brings_at_keys journal i register w stands kept is before = record {
  earlier = before;
  by_item = (item_leaves journal i register w stands kept is before).by_item;
  elsewhere = λ k lacks. nothing_elsewhere journal i register w k stands kept is lacks;
  unread = λ folio right named. item_unread journal i register w folio right stands kept is before named;
}

item_keeps : (journal : List Receipt) (i : ℕ) (register : Key → List Entry) (w : Item) → IsJournal journal → Kept journal register → AwardsKept journal register → item_at journal i ≡ Some w
    → AreEarlier i register (keys_by_item journal i w) → AwardsKept journal (with_entries register (brought_by_item journal i register w).entries)
item_keeps journal i register w stands kept awards is before =
    let es = (brought_by_item journal i register w).entries in
    let brings = brings_at_keys journal i register w stands kept is before in
    record {
      awards = λ folio.
          awards_behind journal register es folio (item_adds journal i register w folio stands kept is before)
          (All-from_recursion (λ e. AwardsAsKept journal (with_entries register es) folio e.receipt e.what) (register (Case folio))
          (awards_stay journal i folio (keys_by_item journal i w) register es brings
          (recursion_from_All (λ (e : Entry). AwardsAsKept journal register folio e.receipt e.what) (register (Case folio)) (awards.awards folio))));
      ends = λ folio. ends_behind journal register es folio (item_adds journal i register w folio stands kept is before) (awards.ends folio);
    }

-- what receipt i brings leaves the awards kept; where there is no receipt i, nothing is brought
pub brings_keep : (journal : List Receipt) (i : ℕ) (register : Key → List Entry) → IsJournal journal → Kept journal register → AwardsKept journal register → AreEarlier i register (keys_of_item journal i)
    → AwardsKept journal (with_entries register (brings journal i register).entries)
brings_keep journal i register stands kept awards =
    elim (receipt_at journal i) as (λ o. receipt_at journal i ≡ o → AreEarlier i register (option_map_or (λ r. keys_by_item journal i r.item) o [])
    → AwardsKept journal (with_entries register (option_map_or (λ r. brought_by_item journal i register r.item) o nothing_pending).entries)) [
      | Some r ↦ λ is before. item_keeps journal i register r.item stands kept awards (λ j. option_map (λ x. x.item) (is j)) before
      | None ↦ λ is before. subst (AwardsKept journal) (λ j k. sym (append-nil (register k)) j) awards
    ] refl

pub step_keeps : (journal : List Receipt) (i : ℕ) (at0 at1 : Key → List Entry) → IsJournal journal → Kept journal at0 → AwardsKept journal at0 → AreEarlier i at0 (keys_of_item journal i)
    → AddsAll at0 at1 (brings journal i at0).entries → AwardsKept journal at1
step_keeps journal i at0 at1 stands kept awards before added =
    let same : at1 ≡ with_entries at0 (brings journal i at0).entries = λ j k. added k j in
    subst (AwardsKept journal) (sym same) (brings_keep journal i at0 stands kept awards before)
