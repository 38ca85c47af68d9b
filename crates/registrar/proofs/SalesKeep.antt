-- What an item of a forced sale brings leaves a kept register.
use Rattle.std.proofs.Common.{◌≡◌, ℕ, ◌<◌, eqb, true, false, cond, ◌&&◌, List, [], ◌∷◌, ◌++◌, All, IsSomeAnd, IsTrue, Some, None, refl, sym, ap, subst, ◌∙◌}
use Rattle.std.specs.List.{AllByRecursion}
use Rattle.std.specs.Option.{option_map_or}
use Rattle.std.proofs.lemmas.Bool.{false≢true}
use Rattle.std.proofs.lemmas.List.{append-nil}
use Rattle.std.proofs.lemmas.List.Elements.{recursion_from_All}
use Rattle.gb_base.specs.Keys.{same_key}
use Rattle.gb_base.specs.declared.keys.Key.{Key}
use Rattle.gb_base.specs.declared.keys.Key.TheVariants.{Case, Right, Title}
use Rattle.act_model.proofs.KeyOrder.{same_is}
use Rattle.act_model.specs.Receiving.{IsJournal, item_at, receipt_at}
use Rattle.act_model.specs.SaleKeys.{keys_of_sale}
use Rattle.act_model.specs.declared.items.Item.{Item}
use Rattle.act_model.specs.declared.items.Item.TheVariants as item
use Rattle.act_model.specs.declared.receipts.Receipt.{Receipt}
use Rattle.act_model.specs.declared.sales.Basis.{Basis}
use Rattle.act_model.specs.declared.sales.Registration.{Registration}
use Rattle.auction_classes.specs.Sales.{sale_at}
use Rattle.auction_classes.specs.declared.lowest_bids.Lowest.{Lowest}
use Rattle.folio_line.specs.FolioRights.{live_by_act}
use Rattle.folio_line.specs.declared.folio_rights.CreatedRight.{CreatedRight}
use Rattle.folio_sections.specs.Cases.{case, is_seizure}
use Rattle.folio_sections.specs.Entries.{at, entry_by, with_entries}
use Rattle.folio_sections.specs.Fronts.{below}
use Rattle.folio_sections.specs.declared.entries.Entry.{Entry}
use Rattle.folio_sections.specs.declared.entries.What.{What}
use Rattle.folio_sections.specs.declared.entries.What.TheVariants as what
use Rattle.folio_sections.proofs.Additions.{none_at}
use Rattle.kept_registers.specs.Kept.{Kept}
use Rattle.folio_sections.proofs.Unchanged.{all_weaker}
use Rattle.folio_sections.specs.Titles.{is_opening}
use Rattle.kept_registers.specs.KeptCases.{CaseInOrder, IsItsItem, IsOpenedBefore, LeavesCents, StandsByItem}
use Rattle.registrar.proofs.CasesKept.{opened_stays}
use Rattle.registrar.proofs.CasesPushed.{CaseHolds, SaleStands, all_are_below, case_ends, goes_behind, sale_with}
use Rattle.registrar.proofs.ContainedParts.{any_in_first, contains_first, each_mapped}
use Rattle.registrar.proofs.CreatedKept.{created_stays}
use Rattle.registrar.proofs.CuresKeep.{AreEarlier, there_is}
use Rattle.registrar.proofs.ExchangedKept.{exchanged_stays}
use Rattle.registrar.proofs.InPlaceKept.{in_place_stays}
use Rattle.registrar.proofs.Keeping.{Leaves, none_leave}
use Rattle.registrar.proofs.LeavingRights.{LeavesRights}
use Rattle.registrar.proofs.SaleBrings.{IsOfItem, award_is_of_item, call_is_of_item, case_is_key, distribution_is_of_item, registration_is_of_item, seizure_is_of_item}
use Rattle.registrar.proofs.SaleCases.{goes_on, registration_goes, seizure_goes, seizure_opened}
use Rattle.registrar.proofs.SaleEntriesKept.{IsSaleStep, all_behind, each_says, leaves_cents, leaves_rights, sale_places, sale_receipts_rise, sale_waiting}
use Rattle.registrar.proofs.SaleGroundsFail.{award_let_in, call_let_in, registration_let_in, seizure_let_in}
use Rattle.sale_rules.specs.SaleEntries.{award_brought, award_entries, call_brought, distribution_brought, left_of, registration_brought, rights_left, seizure_brought, unless_refused}
use Rattle.sale_rules.specs.SaleGrounds.{lowest, refusal_of_award, refusal_of_call, refusal_of_distribution, refusal_of_registration, refusal_of_seizure}

-- ---- the forced sales of all folios

-- what a kept register says of the forced sale of each folio, gathered for one of them
sale_stands : (journal : List Receipt) (register : Key → List Entry) → CaseInOrder journal register → (folio : ℕ) → SaleStands journal folio (register (Title folio)) (register (Case folio))
sale_stands journal register was folio = record {
  opened = was.opened folio;
  items = was.items folio;
  cases = λ n. record {
    begins = was.begins folio n;
    seizures = was.seizures folio n;
    registrations = was.registrations folio n;
    arrears = was.arrears folio n;
    older = was.older folio n;
  };
}

-- where it holds of each folio's forced sale, and rights have so much left as they may, all cases are in order
in_order : (journal : List Receipt) (register : Key → List Entry) → ((folio : ℕ) (right : _) → All (λ e. LeavesCents e.what) (register (Right folio right)))
    → ((folio : ℕ) → SaleStands journal folio (register (Title folio)) (register (Case folio))) → CaseInOrder journal register
in_order journal register remains each = record {
  remains = remains;
  opened = λ folio. (each folio).opened;
  items = λ folio. (each folio).items;
  begins = λ folio n. ((each folio).cases n).begins;
  seizures = λ folio n. ((each folio).cases n).seizures;
  registrations = λ folio n. ((each folio).cases n).registrations;
  arrears = λ folio n. ((each folio).cases n).arrears;
  older = λ folio n. ((each folio).cases n).older;
}

-- ---- an entry at a case, with others elsewhere

-- An item that is let in adds this entry to its case, and the others stand at no case.
record AddsToCase (journal : List Receipt) (i folio : ℕ) (register : Key → List Entry) (w : What) (rest : List Entry) : Type 0 where
  apart : (f : ℕ) → at rest (Case f) ≡ []
  opened : IsTrue (is_seizure w) → IsOpenedBefore i (register (Title folio))
  item : StandsByItem journal folio i w
  behind : CaseHolds journal (case (register (Case folio))) → CaseHolds journal (case (register (Case folio) ++ entry_by journal i (Case folio) w ∷ []))

pub same_case : (a b : ℕ) → same_key (Case a) (Case b) ≡ true → a ≡ b
same_case a b same = ap folio_of (same_is (Case a) (Case b) same)
  where
    folio_of : Key → ℕ
    folio_of (Title folio) = folio
    folio_of (Right folio right) = folio
    folio_of (Case folio) = folio

sales_behind : (journal : List Receipt) (i folio : ℕ) (keys : List Key) (register : Key → List Entry) (w : What) (rest : List Entry)
    → IsSaleStep journal i keys register (entry_by journal i (Case folio) w ∷ rest) → All (λ e. e.receipt < i) (register (Case folio)) → AddsToCase journal i folio register w rest
    → (f : ℕ) → SaleStands journal f (with_entries register (entry_by journal i (Case folio) w ∷ rest) (Title f)) (with_entries register (entry_by journal i (Case folio) w ∷ rest) (Case f))
sales_behind journal i folio keys register w rest step earlier adds f =
    let e = entry_by journal i (Case folio) w in
    let es = e ∷ rest in
    let was = sale_stands journal register step.kept.case_in_order f in
    let title = with_entries register es (Title f) in
    let old : SaleStands journal f title (register (Case f)) = record { opened = opened_stays journal f register es (register (Case f)) was.opened; items = was.items; cases = was.cases } in
    elim (same_key (Case folio) (Case f)) as (λ b. same_key (Case folio) (Case f) ≡ b → SaleStands journal f title (register (Case f) ++ cond b (e ∷ at rest (Case f)) (at rest (Case f)))) [
      | true ↦ λ same.
          subst (λ ys. SaleStands journal f title (register (Case f) ++ e ∷ ys)) (sym (adds.apart f))
          (subst (λ g. SaleStands journal g (with_entries register es (Title g)) (register (Case g)) → SaleStands journal g (with_entries register es (Title g)) (register (Case g) ++ e ∷ [])) (same_case folio f same)
          (λ own. sale_with journal folio i (with_entries register es (Title folio)) (register (Case folio)) e own
          (recursion_from_All (λ (d : Entry). d.receipt < i) (register (Case folio)) earlier) refl (λ seizes. opened_too (adds.opened seizes)) adds.item adds.behind) old)
      | false ↦ λ other. subst (SaleStands journal f title) (sym (ap (λ ys. register (Case f) ++ ys) (adds.apart f) ∙ append-nil (register (Case f)))) old
    ] refl
  where
    opened_too : IsOpenedBefore i (register (Title folio)) → IsOpenedBefore i (with_entries register (entry_by journal i (Case folio) w ∷ rest) (Title folio))
    opened_too was_open = any_in_first (λ o. IsTrue (is_opening o.what) × (o.receipt < i)) (register (Title folio)) (at (entry_by journal i (Case folio) w ∷ rest) (Title folio)) was_open

-- ---- together

step_leaves : (journal : List Receipt) (i folio : ℕ) (keys : List Key) (register : Key → List Entry) (w : What) (rest : List Entry)
    → IsSaleStep journal i keys register (entry_by journal i (Case folio) w ∷ rest) → All (λ e. e.receipt < i) (register (Case folio)) → AddsToCase journal i folio register w rest
    → Leaves journal i register (entry_by journal i (Case folio) w ∷ rest)
step_leaves journal i folio keys register w rest step earlier adds =
    let es = entry_by journal i (Case folio) w ∷ rest in
    let leaves = each_says journal i keys register es step LeavesRights leaves_rights in
    record {
      kept = record {
        receipts_rise = sale_receipts_rise journal i keys register es step;
        places_ascend = sale_places journal i keys register es step;
        pending_everywhere = sale_waiting journal i keys register es step;
        created_as_filed = created_stays journal register es leaves step.kept.created_as_filed;
        entered_in_place = in_place_stays journal register es leaves step.kept.entered_in_place;
        exchanged_are_untied = exchanged_stays journal register es leaves step.kept.exchanged_are_untied;
        case_in_order =
            in_order journal (with_entries register es)
            (λ f right. all_behind journal i keys register es step (λ k e. LeavesCents e.what) (λ e is. leaves_cents e.what e.key is.content) (Right f right) (step.kept.case_in_order.remains f right))
            (sales_behind journal i folio keys register w rest step earlier adds);
      };
      by_item = all_weaker (IsOfItem journal i keys) (λ e. e.receipt ≡ i) es (λ e is. is.by_item) step.brought;
    }

-- ---- each kind

-- where all entries at a key are by earlier receipts, what is read of those before the item is all that stands
pub whole : (register : Key → List Entry) (i : ℕ) (k : Key) → All (λ e. e.receipt < i) (register k) → below i (register k) ≡ register k
whole register i k earlier = all_are_below i (register k) (recursion_from_All (λ (e : Entry). e.receipt < i) (register k) earlier)

by_item_at : (P : Item → Type 0) (journal : List Receipt) (i : ℕ) (w : Item) → item_at journal i ≡ Some w → P w → IsSomeAnd (item_at journal i) P
by_item_at P journal i w is has = subst (λ o. IsSomeAnd o P) (sym is) has

module _ (journal : List Receipt) (register : Key → List Entry) (folio i : ℕ) (stands : IsJournal journal) (kept : Kept journal register) where
  pub seizure_leaves : (b : Basis) (served : ℕ) → item_at journal i ≡ Some (item.Seize folio b served) → AreEarlier i register (keys_of_sale journal i folio)
      → Leaves journal i register (seizure_brought (sale_at journal register folio i) b)
  seizure_leaves b served is before =
      let s = sale_at journal register folio i in
      let keys = keys_of_sale journal i folio in
      let earlier = before (Case folio) (case_is_key journal i folio) in
      let at_case = whole register i (Case folio) earlier in
      elim (refusal_of_seizure s b) as (λ o. refusal_of_seizure s b ≡ o → AllByRecursion (IsOfItem journal i keys) (unless_refused o (entry_by journal i (Case folio) what.Seized ∷ []))
      → Leaves journal i register (unless_refused o (entry_by journal i (Case folio) what.Seized ∷ []))) [
        | Some section ↦ λ _ _. none_leave journal i register kept
        | None ↦ λ none brought.
            let let_in = seizure_let_in s b none in
            step_leaves journal i folio keys register what.Seized []
            (record { received = there_is (receipt_at journal i) (item.Seize folio b served) is; kept = kept; earlier = before; brought = brought }) earlier
            (record {
              apart = λ f. refl;
              opened = λ _. seizure_opened journal register folio i kept stands at_case b let_in;
              item = by_item_at (IsItsItem folio what.Seized) journal i (item.Seize folio b served) is refl;
              behind = goes_behind journal (register (Case folio)) _ refl (seizure_goes journal register folio i kept stands at_case b served is let_in);
            })
      ] refl (seizure_is_of_item journal register folio i b)

  pub registration_leaves : (r : Registration) → item_at journal i ≡ Some (item.Register folio r) → AreEarlier i register (Case folio ∷ [])
      → Leaves journal i register (registration_brought (sale_at journal register folio i) r)
  registration_leaves r is before =
      let s = sale_at journal register folio i in
      let keys = Case folio ∷ [] in
      let earlier = before (Case folio) (contains_first (Case folio) []) in
      let at_case = whole register i (Case folio) earlier in
      elim (refusal_of_registration s r) as (λ o. refusal_of_registration s r ≡ o → AllByRecursion (IsOfItem journal i keys) (unless_refused o (entry_by journal i (Case folio) what.Registered ∷ []))
      → Leaves journal i register (unless_refused o (entry_by journal i (Case folio) what.Registered ∷ []))) [
        | Some section ↦ λ _ _. none_leave journal i register kept
        | None ↦ λ none brought.
            step_leaves journal i folio keys register what.Registered []
            (record { received = there_is (receipt_at journal i) (item.Register folio r) is; kept = kept; earlier = before; brought = brought }) earlier
            (record {
              apart = λ f. refl;
              opened = λ seizes. absurd (false≢true seizes);
              item = by_item_at (IsItsItem folio what.Registered) journal i (item.Register folio r) is refl;
              behind = goes_behind journal (register (Case folio)) _ refl (registration_goes journal register folio i kept stands at_case r is (registration_let_in s r none));
            })
      ] refl (registration_is_of_item journal register folio i r)

  pub call_leaves : (costs : ℕ) → item_at journal i ≡ Some (item.OpenBids folio costs) → AreEarlier i register (keys_of_sale journal i folio)
      → Leaves journal i register (call_brought (sale_at journal register folio i) costs)
  call_leaves costs is before =
      let s = sale_at journal register folio i in
      let keys = keys_of_sale journal i folio in
      let earlier = before (Case folio) (case_is_key journal i folio) in
      let at_case = whole register i (Case folio) earlier in
      let e = entry_by journal i (Case folio) (what.Bids costs) in
      elim (refusal_of_call s) as (λ o. refusal_of_call s ≡ o → AllByRecursion (IsOfItem journal i keys) (unless_refused o (e ∷ [])) → Leaves journal i register (unless_refused o (e ∷ []))) [
        | Some section ↦ λ _ _. none_leave journal i register kept
        | None ↦ λ none brought.
            step_leaves journal i folio keys register (what.Bids costs) []
            (record { received = there_is (receipt_at journal i) (item.OpenBids folio costs) is; kept = kept; earlier = before; brought = brought }) earlier
            (record {
              apart = λ f. refl;
              opened = λ seizes. absurd (false≢true seizes);
              item = by_item_at (IsItsItem folio (what.Bids costs)) journal i (item.OpenBids folio costs) is (refl, refl);
              behind = goes_behind journal (register (Case folio)) _ refl (goes_on journal register folio i kept stands at_case e refl refl (call_let_in s none).runs);
            })
      ] refl (call_is_of_item journal register folio i costs)

  -- what an award brings beside the case stands at the title and at rights
  pub award_apart : (least : Lowest) (buyer f : ℕ)
      → at (entry_by journal i (Title folio) (what.AwardOwner buyer) ∷ rights_left (sale_at journal register folio i) least) (Case f) ≡ []
  award_apart least buyer f =
      let s = sale_at journal register folio i in
      none_at (entry_by journal i (Title folio) (what.AwardOwner buyer) ∷ rights_left s least) (Case f)
      (no_title folio f, each_mapped (λ (e : Entry). same_key e.key (Case f) ≡ false) (λ (x : CreatedRight). left_of s least.cover x.id) (live_by_act s.at folio) (λ x. no_right folio x.id f))
    where
      and_no : (b : _) → (b && false) ≡ false
      and_no true = refl
      and_no false = refl

      no_title : (a b : ℕ) → same_key (Title a) (Case b) ≡ false
      no_title a b = and_no (eqb a b)

      no_right : (a : ℕ) (id : _) (b : ℕ) → same_key (Right a id) (Case b) ≡ false
      no_right a id b = and_no (eqb a b)

  pub award_leaves : (buyer bid : ℕ) → item_at journal i ≡ Some (item.Award folio buyer bid) → AreEarlier i register (keys_of_sale journal i folio)
      → Leaves journal i register (award_brought (sale_at journal register folio i) buyer bid)
  award_leaves buyer bid is before =
      let s = sale_at journal register folio i in
      let keys = keys_of_sale journal i folio in
      let earlier = before (Case folio) (case_is_key journal i folio) in
      let at_case = whole register i (Case folio) earlier in
      elim (refusal_of_award s bid) as (λ o. refusal_of_award s bid ≡ o → AllByRecursion (IsOfItem journal i keys) (unless_refused o (option_map_or (award_entries s buyer bid) (lowest s) []))
      → Leaves journal i register (unless_refused o (option_map_or (award_entries s buyer bid) (lowest s) []))) [
        | Some refusal ↦ λ _ _. none_leave journal i register kept
        | None ↦ λ none.
            elim (lowest s) as (λ o. AllByRecursion (IsOfItem journal i keys) (option_map_or (award_entries s buyer bid) o []) → Leaves journal i register (option_map_or (award_entries s buyer bid) o [])) [
              | None ↦ λ _. none_leave journal i register kept
              | Some least ↦ λ brought.
                  step_leaves journal i folio keys register (what.Awarded buyer bid) (entry_by journal i (Title folio) (what.AwardOwner buyer) ∷ rights_left s least)
                  (record { received = there_is (receipt_at journal i) (item.Award folio buyer bid) is; kept = kept; earlier = before; brought = brought }) earlier
                  (record {
                    apart = λ f. award_apart least buyer f;
                    opened = λ seizes. absurd (false≢true seizes);
                    item = by_item_at (IsItsItem folio (what.Awarded buyer bid)) journal i (item.Award folio buyer bid) is (refl, refl, refl);
                    behind = goes_behind journal (register (Case folio)) _ refl (goes_on journal register folio i kept stands at_case (entry_by journal i (Case folio) (what.Awarded buyer bid)) refl refl (award_let_in s bid none).runs);
                  })
            ]
      ] refl (award_is_of_item journal register folio i buyer bid kept stands)

  pub distribution_leaves : item_at journal i ≡ Some (item.Distribute folio) → AreEarlier i register (keys_of_sale journal i folio)
      → Leaves journal i register (distribution_brought (sale_at journal register folio i))
  distribution_leaves is before =
      let s = sale_at journal register folio i in
      let keys = keys_of_sale journal i folio in
      let e = entry_by journal i (Case folio) what.Distributed in
      elim (refusal_of_distribution s) as (λ o. AllByRecursion (IsOfItem journal i keys) (unless_refused o (e ∷ [])) → Leaves journal i register (unless_refused o (e ∷ []))) [
        | Some section ↦ λ _. none_leave journal i register kept
        | None ↦ λ brought.
            step_leaves journal i folio keys register what.Distributed []
            (record { received = there_is (receipt_at journal i) (item.Distribute folio) is; kept = kept; earlier = before; brought = brought }) (before (Case folio) (case_is_key journal i folio))
            (record {
              apart = λ f. refl;
              opened = λ seizes. absurd (false≢true seizes);
              item = tt;
              behind = λ _. case_ends journal (register (Case folio)) e refl;
            })
      ] (distribution_is_of_item journal register folio i)
