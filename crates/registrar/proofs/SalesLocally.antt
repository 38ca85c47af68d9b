-- An item of a forced sale looks at its own keys alone: it brings the same to each kept register that says the same as another
-- at these keys.
use Rattle.std.proofs.Common.{◌≡◌, ⊎_elim, inl, inr, ℕ, true, false, not, ◌&&◌, ◌||◌, List, [], ◌∷◌, filter_map, flat_map, map, nat_lt, nat_le, slice_get, Some, None, is_none, is_some, option_and_then, refl, sym, ap, subst, ◌∙◌, ◌≤◌, arith}
use Rattle.std.specs.List.{list_any}
use Rattle.std.specs.Option.{option_map_or}
use Rattle.std.proofs.lemmas.Bool.{false≢true}
use Rattle.gb_base.specs.RightNo.{RightNo}
use Rattle.gb_base.specs.declared.keys.Key.{Key}
use Rattle.gb_base.specs.declared.keys.Key.TheVariants.{Case, Right, Title}
use Rattle.gb_base.specs.declared.sections.Section.TheVariants as section
use Rattle.act_model.proofs.KeyOrder.{has, has_decides}
use Rattle.act_model.specs.Acts.{is_in_division_three}
use Rattle.act_model.specs.Receiving.{IsJournal}
use Rattle.act_model.specs.SaleKeys.{keys_of_sale}
use Rattle.act_model.specs.declared.receipts.Receipt.{Receipt}
use Rattle.act_model.specs.declared.sales.Basis.{Basis}
use Rattle.act_model.specs.declared.sales.Basis.TheVariants as basis
use Rattle.act_model.specs.declared.sales.Registration.{Registration}
use Rattle.act_model.specs.declared.sales.Registration.TheVariants as registration
use Rattle.auction_classes.specs.LowestBid.{lowest_bid, remaining}
use Rattle.auction_classes.specs.SaleClaims.{claimed_in}
use Rattle.auction_classes.specs.Sales.{read, read_before, sale_at}
use Rattle.auction_classes.specs.declared.lowest_bids.Lowest.{Lowest}
use Rattle.auction_classes.proofs.ClaimsAlike.{claimed_alike}
use Rattle.auction_classes.proofs.KeptSales.{below_twice, read_within}
use Rattle.auction_classes.proofs.ReadAlike.{AreAlike, ReadAlike, never_full, same_where}
use Rattle.folio_line.specs.FolioRights.{is_live_with, live_by_act}
use Rattle.folio_sections.specs.Cases.{award, call, is_running, registration_numbers, registrations, seizure_numbers, seizures}
use Rattle.folio_sections.specs.Entries.{entry_by}
use Rattle.folio_sections.specs.Fronts.{below}
use Rattle.folio_sections.specs.HeldRights.{receipt_numbers, rights_of_filing}
use Rattle.folio_sections.specs.Limits.{most_registrations, most_seizures}
use Rattle.folio_sections.specs.Rights.{created, live_right}
use Rattle.folio_sections.specs.Titles.{is_open}
use Rattle.folio_sections.specs.declared.entries.Created.{Created}
use Rattle.folio_sections.specs.declared.entries.Entry.{Entry}
use Rattle.folio_sections.specs.declared.entries.What.TheVariants as what
use Rattle.kept_registers.specs.Kept.{Kept}
use Rattle.registrar.proofs.Agreeing.{AgreesAt}
use Rattle.registrar.proofs.ContainedParts.{contains_first}
use Rattle.registrar.proofs.SaleBrings.{case_is_key, created_is_key_before, title_is_key}
use Rattle.registrar.specs.Brings.{Brought, brought_by_award, brought_by_call, brought_by_distribution, brought_by_registration, brought_by_seizure, lowest_said, verdict_on_award, verdict_unless}
use Rattle.registrar.specs.declared.verdicts.Verdict.TheVariants as verdict
use Rattle.sale_rules.specs.SaleEntries.{left_with, unless_refused}
use Rattle.sale_rules.specs.SaleGrounds.{first_ground, is_filed_later, is_seizable, lacks_right, refusal_by, registers_arrears, repeats_arrears, short_of_cash}
use Rattle.sale_rules.specs.SaleMoney.{money_awarded}

-- a right from which may be seized is one in both readings, or in neither
seizable_alike : (x y : List Entry) → AreAlike x y → is_seizable y ≡ is_seizable x
seizable_alike x y alike = ⊎_elim (λ same. ap is_seizable (sym same)) (λ none. none_of y none.1 ∙ sym (none_of x none.0)) alike
  where
    none_of : (es : List Entry) → created es ≡ None → is_seizable es ≡ false
    none_of es none = ap (λ b. b && option_map_or (λ (made : Created). is_in_division_three made.spec.kind) (live_right es) false) (never_full es none)

module _ (journal : List Receipt) (at0 at1 : Key → List Entry) (folio i : ℕ) (kept0 : Kept journal at0) (kept1 : Kept journal at1) (stands : IsJournal journal)
    (agrees : AgreesAt (keys_of_sale journal i folio) at0 at1) where
  same_case : below i (at1 (Case folio)) ≡ below i (at0 (Case folio))
  same_case = ap (below i) (agrees (Case folio) (case_is_key journal i folio))

  same_title : below i (at1 (Title folio)) ≡ below i (at0 (Title folio))
  same_title = ap (below i) (agrees (Title folio) (title_is_key journal i folio))

  -- a right whose key is none of the sale's was not created by an earlier receipt than the item
  not_created : (n : ℕ) (at : Key → List Entry) (id : RightNo) → n ≤ i → Kept journal at → has (Right folio id) (keys_of_sale journal i folio) ≡ false
      → created (below n (below i (at (Right folio id)))) ≡ None
  not_created n at id within kept lacks =
      elim (created (below n (below i (at (Right folio id))))) as (λ o. created (below n (below i (at (Right folio id)))) ≡ o → o ≡ None) [
        | None ↦ λ _. refl
        | Some made ↦ λ is. absurd
            (false≢true (sym lacks ∙ (has_decides (Right folio id) (keys_of_sale journal i folio)).1 (created_is_key_before journal at folio n i id made kept stands within is)))
      ] refl

  -- so the rights read alike in both, as they stood before any receipt up to the item
  alike_before : (n : ℕ) → n ≤ i → ReadAlike folio (λ k. below n (below i (at0 k))) (λ k. below n (below i (at1 k)))
  alike_before n within id =
      elim (has (Right folio id) (keys_of_sale journal i folio)) as (λ b. has (Right folio id) (keys_of_sale journal i folio) ≡ b
      → AreAlike (below n (below i (at0 (Right folio id)))) (below n (below i (at1 (Right folio id))))) [
        | true ↦ λ there. inl (sym (ap (λ es. below n (below i es)) (agrees (Right folio id) ((has_decides (Right folio id) (keys_of_sale journal i folio)).0 there))))
        | false ↦ λ lacks. inr (not_created n at0 id within kept0 lacks, not_created n at1 id within kept1 lacks)
      ] refl

  -- they read alike as the item finds them
  alike : ReadAlike folio (λ k. below i (at0 k)) (λ k. below i (at1 k))
  alike id =
      let first = below_twice i i (at0 (Right folio id)) (omega arith) in
      let second = below_twice i i (at1 (Right folio id)) (omega arith) in
      subst (AreAlike (below i (at0 (Right folio id)))) second
      (subst (λ es. AreAlike es (below i (below i (at1 (Right folio id))))) first (alike_before i (omega arith) id))

  -- they read alike as the sale reads them
  read_alike : ReadAlike folio (read (sale_at journal at0 folio i)) (read (sale_at journal at1 folio i))
  read_alike =
      let from : read_before (sale_at journal at0 folio i) ≡ read_before (sale_at journal at1 folio i) = ap (λ es. option_map_or (λ (n : ℕ). n) (award es) i) (sym same_case) in
      subst (λ n. ReadAlike folio (read (sale_at journal at0 folio i)) (λ k. below n (below i (at1 k)))) from
      (alike_before (read_before (sale_at journal at0 folio i)) (read_within journal at0 folio i))

  -- ---- seizures

  right_locally : (b : Basis) → lacks_right (sale_at journal at1 folio i) b ≡ lacks_right (sale_at journal at0 folio i) b
  right_locally (basis.Personal creditor claim) = refl
  right_locally (basis.FromRight right) = ap not (seizable_alike _ _ (alike right))

  behind_locally : (b : Basis) → is_filed_later (sale_at journal at1 folio i) b ≡ is_filed_later (sale_at journal at0 folio i) b
  behind_locally (basis.Personal creditor claim) = refl
  behind_locally (basis.FromRight right) = ap (λ es. option_map_or (λ first. nat_lt first right.receipt) (slice_get (seizure_numbers es) 0) false) same_case

  pub seizure_locally : (b : Basis) → brought_by_seizure (sale_at journal at1 folio i) b ≡ brought_by_seizure (sale_at journal at0 folio i) b
  seizure_locally b =
      let case = same_case in
      let title = same_title in
      let right = right_locally b in
      let behind = behind_locally b in
      ap {B = Brought} (λ refused. record { entries = unless_refused refused (entry_by journal i (Case folio) what.Seized ∷ []); verdict = verdict_unless refused verdict.Seized })
      (λ j. first_ground ((not (is_open (title j)), section.Gbo3) ∷ (is_some (award (case j)), section.Zvg81) ∷ (nat_le most_seizures (seizures (case j)), section.Limit)
      ∷ (right j, section.Bgb873) ∷ (behind j, section.Zvg23) ∷ []))

  -- ---- calls to bid and awards

  claimed_locally : claimed_in (sale_at journal at1 folio i) ≡ claimed_in (sale_at journal at0 folio i)
  claimed_locally = claimed_alike journal at0 at1 folio i same_case same_title read_alike

  pub call_locally : (costs : ℕ) → brought_by_call (sale_at journal at1 folio i) costs ≡ brought_by_call (sale_at journal at0 folio i) costs
  call_locally costs =
      let case = same_case in
      let claimed = claimed_locally in
      λ j.
      let least = lowest_bid (claimed j) in
      let refused = first_ground ((not (is_running (case j)), section.Zvg15) ∷ (is_some (award (case j)), section.Zvg81) ∷ (is_none least, section.Zvg43) ∷ []) in
      record { entries = unless_refused refused (entry_by journal i (Case folio) (what.Bids costs) ∷ []); verdict = verdict_unless refused (lowest_said least) }

  -- the live rights are the same
  live_locally : live_by_act (λ k. below i (at1 k)) folio ≡ live_by_act (λ k. below i (at0 k)) folio
  live_locally = λ j. flat_map (λ m. filter_map (λ id. sym (same_where is_live_with (λ k. below i (at0 k)) (λ k. below i (at1 k)) folio alike id) j) (rights_of_filing m)) receipt_numbers

  pub award_locally : (buyer bid : ℕ) → brought_by_award (sale_at journal at1 folio i) buyer bid ≡ brought_by_award (sale_at journal at0 folio i) buyer bid
  award_locally buyer bid =
      let case = same_case in
      let claimed = claimed_locally in
      let live = live_locally in
      λ j.
      let least = lowest_bid (claimed j) in
      let refused = refusal_by (first_ground ((not (is_running (case j)), section.Zvg15) ∷ (is_some (award (case j)), section.Zvg81) ∷ (is_none (call (case j)), section.Zvg66) ∷ (is_none least, section.Zvg43) ∷ []))
      (option_and_then (short_of_cash bid) least) in
      record {
        entries = unless_refused refused
            (option_map_or (λ (found : Lowest). entry_by journal i (Case folio) (what.Awarded buyer bid) ∷ entry_by journal i (Title folio) (what.AwardOwner buyer)
            ∷ map (λ x. entry_by journal i (Right folio x.id) (left_with (remaining (claimed j) found.cover x.id))) (live j)) least []);
        verdict = verdict_on_award bid refused;
      }

  -- ---- distributions

  pub distribution_locally : brought_by_distribution (sale_at journal at1 folio i) ≡ brought_by_distribution (sale_at journal at0 folio i)
  distribution_locally =
      let case = same_case in
      λ j.
      let refused = first_ground ((not (is_running (case j)), section.Zvg15) ∷ (not (is_some (award (case j))), section.Zvg113) ∷ []) in
      record {
        entries = unless_refused refused (entry_by journal i (Case folio) what.Distributed ∷ []);
        verdict = verdict_unless refused (verdict.Distributed (option_map_or (money_awarded (sale_at journal at0 folio i)) (award (case j)) 0));
      }

-- ---- registrations, which touch the case alone

again_locally : (journal : List Receipt) (at0 at1 : Key → List Entry) (folio i : ℕ) (r : Registration) → below i (at1 (Case folio)) ≡ below i (at0 (Case folio))
    → repeats_arrears (sale_at journal at1 folio i) r ≡ repeats_arrears (sale_at journal at0 folio i) r
again_locally journal at0 at1 folio i (registration.Advance person amount) same = refl
again_locally journal at0 at1 folio i (registration.PublicCharge person amount due) same = refl
again_locally journal at0 at1 folio i (registration.Arrears right from until) same = ap (λ es. list_any (registers_arrears (sale_at journal at0 folio i) right) (registration_numbers es)) same

pub registration_locally : (journal : List Receipt) (at0 at1 : Key → List Entry) (folio i : ℕ) (r : Registration) → AgreesAt (Case folio ∷ []) at0 at1
    → brought_by_registration (sale_at journal at1 folio i) r ≡ brought_by_registration (sale_at journal at0 folio i) r
registration_locally journal at0 at1 folio i r agrees =
    let case = ap (below i) (agrees (Case folio) (contains_first (Case folio) [])) in
    let again = again_locally journal at0 at1 folio i r case in
    ap {B = Brought} (λ refused. record { entries = unless_refused refused (entry_by journal i (Case folio) what.Registered ∷ []); verdict = verdict_unless refused verdict.Registered })
    (λ j. first_ground ((not (is_running (case j)), section.Zvg15) ∷ (nat_le most_registrations (registrations (case j)) || again j, section.Limit) ∷ []))
