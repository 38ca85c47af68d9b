-- What an item is settled on, and what settling it comes to.
use Rattle.std.specs.Prelude.{◌≡◌, ℕ, ◌≤◌, Bool, List, Contains, Some, length}
use Rattle.gb_base.specs.declared.keys.Key.{Key}
use Rattle.act_model.specs.Receiving.{IsJournal, item_at}
use Rattle.act_model.specs.declared.items.Filing.{Filing}
use Rattle.act_model.specs.declared.items.Item.{Item}
use Rattle.act_model.specs.declared.items.Item.TheVariants as item
use Rattle.act_model.specs.declared.receipts.Receipt.{Receipt}
use Rattle.conflict_queue.specs.ItemKeys.{keys_by_item}
use Rattle.folio_sections.specs.Adding.{AddsList}
use Rattle.folio_sections.specs.declared.entries.Entry.{Entry}
use Rattle.registrar.specs.Brings.{brought_by_item}
use Rattle.registrar.specs.Rooms.{room_by_item}
use Rattle.registrar.specs.declared.verdicts.Verdict.{Verdict}
use Rattle.sale_rules.specs.SaleParts.{CanSettle, OfEachKept}

-- these items, as contracts name them
abbrev pub filing_item : Filing → Item
filing_item f = item.Filing f

abbrev pub lapse_item : ℕ → Item
lapse_item m = item.Lapse m

-- The list is a journal, the item is that of its receipt i, its keys are held with the room that it needs, all that stands there is by earlier items, and the
-- parts stand for a kept register.
pub record CanStep (journal : List Receipt) (i : ℕ) (w : Item) (holds : Key → Bool) (at : Key → List Entry) (spare : Key → ℕ) : Type 0 where
  pub receives : IsJournal journal
  pub within : i ≤ length journal
  pub item : item_at journal i ≡ Some w
  pub parts : CanSettle journal i (keys_by_item journal i w) holds at spare
  pub wanted : (k : Key) → Contains (keys_by_item journal i w) k → room_by_item i w (at k) ≤ spare k

-- The verdict, and what is added, are those of the item on each kept register that the parts stand for.
pub record Settles (journal : List Receipt) (i : ℕ) (w : Item) (holds : Key → Bool) (at0 at1 : Key → List Entry) (room0 room1 : Key → ℕ) (became : Verdict) : Type 0 where
  pub verdict : OfEachKept journal holds at0 (λ register. became ≡ (brought_by_item journal i register w).verdict)
  pub added : OfEachKept journal holds at0 (λ register. AddsList at0 at1 room0 room1 (brought_by_item journal i register w).entries)
