-- What an item does with a filing leaves a kept register.
use Rattle.std.proofs.Common.{◌≡◌, ℕ, ◌<◌, ◌≤◌, List, [], ◌++◌, All, sym, subst, arith}
use Rattle.std.specs.List.{AllByRecursion}
use Rattle.std.proofs.lemmas.List.{append-nil}
use Rattle.gb_base.specs.declared.keys.Key.{Key}
use Rattle.act_model.specs.Touches.{acts_of}
use Rattle.act_model.specs.declared.items.Filing.{Filing}
use Rattle.act_model.specs.declared.receipts.Receipt.{Receipt}
use Rattle.registrar.specs.Enters.{enters}
use Rattle.folio_sections.specs.Entries.{with_entries}
use Rattle.kept_registers.specs.Kept.{Kept}
use Rattle.kept_registers.specs.KeptPlaces.{NamesEarlier}
use Rattle.folio_sections.specs.declared.entries.Entry.{Entry}
use Rattle.folio_sections.proofs.Unchanged.{all_both, all_weaker}
use Rattle.interim_orders.specs.Orders.{end_brought, order_brought, waiting_brought}
use Rattle.registrar.proofs.ByItem.{end_by_item, enters_by_item, order_by_item, waiting_by_item}
use Rattle.registrar.proofs.CasesKept.{case_in_order}
use Rattle.registrar.proofs.CreatedKept.{created_cured, created_entered, created_stays}
use Rattle.registrar.proofs.Dealing.{Deals, IsBrought, IsFit}
use Rattle.registrar.proofs.EntriesKept.{receipts_rise}
use Rattle.registrar.proofs.ExchangedKept.{exchanged_cured, exchanged_entered, exchanged_stays}
use Rattle.registrar.proofs.InPlaceKept.{in_place_cured, in_place_entered, in_place_stays}
use Rattle.registrar.proofs.LeavingRights.{end_leaves_rights, order_leaves_rights, waiting_leaves_rights}
use Rattle.registrar.proofs.PlacesKept.{places_cured, places_ended, places_entered, places_ordered, places_waiting_on}
use Rattle.registrar.proofs.WaitingKept.{waiting_cured, waiting_ended, waiting_entered, waiting_on, waiting_ordered}

-- the register with these entries of item i is kept
pub record Leaves (journal : List Receipt) (i : ℕ) (at : Key → List Entry) (es : List Entry) : Type 0 where
  pub kept : Kept journal (with_entries at es)
  pub by_item : AllByRecursion (λ e. e.receipt ≡ i) es

-- where nothing is brought, the register stays kept
pub none_leave : (journal : List Receipt) (i : ℕ) (at : Key → List Entry) → Kept journal at → Leaves journal i at []
none_leave journal i at kept =
    let same : at ≡ with_entries at [] = λ j k. sym (append-nil (at k)) j in
    record { kept = subst (Kept journal) same kept; by_item = tt }

all_by_item : (journal : List Receipt) (m i : ℕ) (es : List Entry) → AllByRecursion (IsBrought journal m i) es → AllByRecursion (λ e. e.receipt ≡ i) es
all_by_item journal m i es all = all_weaker (IsBrought journal m i) (λ e. e.receipt ≡ i) es (λ e brought. brought.by_item) all

-- the register stays kept where the filing is set to wait
pub order_leaves : (journal : List Receipt) (m : ℕ) (f : Filing) (at : Key → List Entry) → Deals journal m f m at → IsFit journal m f at → Leaves journal m at (order_brought journal m)
order_leaves journal m f at deals fit =
    let es = order_brought journal m in
    let brought = order_by_item journal m f at deals in
    record {
      kept = record {
        receipts_rise = receipts_rise journal m f m at es deals brought;
        places_ascend = places_ordered journal m f at deals;
        pending_everywhere = waiting_ordered journal m f at deals fit.earlier;
        created_as_filed = created_stays journal at es (order_leaves_rights journal m) deals.kept.created_as_filed;
        entered_in_place = in_place_stays journal at es (order_leaves_rights journal m) deals.kept.entered_in_place;
        exchanged_are_untied = exchanged_stays journal at es (order_leaves_rights journal m) deals.kept.exchanged_are_untied;
        case_in_order = case_in_order journal m f m at es deals brought;
      };
      by_item = all_by_item journal m m es brought;
    }

-- the register stays kept where a filing that waits is to wait until another day
pub wait_leaves : (journal : List Receipt) (m : ℕ) (f : Filing) (i until : ℕ) (at : Key → List Entry) → Deals journal m f i at → m < i → All (NamesEarlier m) (acts_of journal m)
    → Leaves journal i at (waiting_brought journal m i until)
wait_leaves journal m f i until at deals later names =
    let es = waiting_brought journal m i until in
    let brought = waiting_by_item journal m i until (omega arith) in
    record {
      kept = record {
        receipts_rise = receipts_rise journal m f i at es deals brought;
        places_ascend = places_waiting_on journal m f i until at deals later;
        pending_everywhere = waiting_on journal m i until at deals.kept.pending_everywhere names;
        created_as_filed = created_stays journal at es (waiting_leaves_rights journal m i until) deals.kept.created_as_filed;
        entered_in_place = in_place_stays journal at es (waiting_leaves_rights journal m i until) deals.kept.entered_in_place;
        exchanged_are_untied = exchanged_stays journal at es (waiting_leaves_rights journal m i until) deals.kept.exchanged_are_untied;
        case_in_order = case_in_order journal m f i at es deals brought;
      };
      by_item = all_by_item journal m i es brought;
    }

-- the register stays kept where the filing's waiting ends
pub end_leaves : (journal : List Receipt) (m : ℕ) (f : Filing) (i : ℕ) (at : Key → List Entry) → Deals journal m f i at → Leaves journal i at (end_brought journal m i)
end_leaves journal m f i at deals =
    let es = end_brought journal m i in
    let brought = end_by_item journal m f i at deals in
    record {
      kept = record {
        receipts_rise = receipts_rise journal m f i at es deals brought;
        places_ascend = places_ended journal m f i at deals;
        pending_everywhere = waiting_ended journal m f i at deals;
        created_as_filed = created_stays journal at es (end_leaves_rights journal m i) deals.kept.created_as_filed;
        entered_in_place = in_place_stays journal at es (end_leaves_rights journal m i) deals.kept.entered_in_place;
        exchanged_are_untied = exchanged_stays journal at es (end_leaves_rights journal m i) deals.kept.exchanged_are_untied;
        case_in_order = case_in_order journal m f i at es deals brought;
      };
      by_item = all_by_item journal m i es brought;
    }

-- the register stays kept where the filing is entered at once
pub entry_leaves : (journal : List Receipt) (m : ℕ) (f : Filing) (at : Key → List Entry) → Deals journal m f m at → IsFit journal m f at → Leaves journal m at (enters journal m m at)
entry_leaves journal m f at deals fit =
    let es = enters journal m m at in
    let brought = enters_by_item journal m f m at deals in
    record {
      kept = record {
        receipts_rise = receipts_rise journal m f m at es deals brought;
        places_ascend = places_entered journal m f at deals;
        pending_everywhere = waiting_entered journal m f m at deals;
        created_as_filed = created_entered journal m f m at deals fit;
        entered_in_place = in_place_entered journal m f m at deals;
        exchanged_are_untied = exchanged_entered journal m f m at deals fit;
        case_in_order = case_in_order journal m f m at es deals brought;
      };
      by_item = all_by_item journal m m es brought;
    }

-- the register stays kept where a cure enters the filing and ends its waiting
pub cure_leaves : (journal : List Receipt) (m : ℕ) (f : Filing) (i : ℕ) (at : Key → List Entry) → Deals journal m f i at → m < i → IsFit journal m f at → Leaves journal i at (enters journal m i at ++ end_brought journal m i)
cure_leaves journal m f i at deals earlier fit =
    let es = enters journal m i at ++ end_brought journal m i in
    let brought = all_both (IsBrought journal m i) (enters journal m i at) (end_brought journal m i) (enters_by_item journal m f i at deals) (end_by_item journal m f i at deals) in
    record {
      kept = record {
        receipts_rise = receipts_rise journal m f i at es deals brought;
        places_ascend = places_cured journal m f i at deals earlier;
        pending_everywhere = waiting_cured journal m f i at deals;
        created_as_filed = created_cured journal m f i at deals fit;
        entered_in_place = in_place_cured journal m f i at deals;
        exchanged_are_untied = exchanged_cured journal m f i at deals fit;
        case_in_order = case_in_order journal m f i at es deals brought;
      };
      by_item = all_by_item journal m i es brought;
    }
