-- What an item of a forced sale brings stays when more receipts come: a sale looks at receipts up to its item alone.
use Rattle.std.proofs.Common.{◌≡◌, ℕ, ◌≤◌, false, ◌||◌, List, [], ◌∷◌, ◌++◌, length, map, is_none, Option, Some, None, option_and_then, refl, ap, arith}
use Rattle.std.specs.List.{AllByRecursion}
use Rattle.std.specs.Option.{option_map_or}
use Rattle.gb_base.specs.declared.keys.Key.{Key}
use Rattle.gb_base.specs.declared.keys.Key.TheVariants.{Case, Right, Title}
use Rattle.act_model.specs.Receiving.{item_at}
use Rattle.act_model.specs.declared.receipts.Receipt.{Receipt}
use Rattle.act_model.specs.declared.sales.Basis.{Basis}
use Rattle.act_model.specs.declared.sales.Registration.{Registration}
use Rattle.act_model.specs.declared.sales.Registration.TheVariants as registration
use Rattle.auction_classes.specs.Sales.{sale_at}
use Rattle.auction_classes.specs.LowestBid.{lowest_bid, remaining}
use Rattle.auction_classes.specs.declared.lowest_bids.Lowest.{Lowest}
use Rattle.auction_classes.proofs.ClaimsStay.{all_inside, case_is_below, claimed_stays, item_stays, numbers_below, numbers_of, same_any}
use Rattle.auction_classes.proofs.KeptSales.{read_within}
use Rattle.folio_line.specs.FolioRights.{live_by_act}
use Rattle.folio_sections.specs.Cases.{award, case, is_registration}
use Rattle.folio_sections.specs.Fronts.{below}
use Rattle.folio_sections.specs.declared.entries.Entry.{Entry}
use Rattle.folio_sections.specs.declared.entries.What.TheVariants as what
use Rattle.gb_base.specs.RightNo.{same_right}
use Rattle.gb_base.specs.declared.sections.Section.TheVariants as section
use Rattle.kept_registers.specs.KeptCases.{arrears_of}
use Rattle.registrar.proofs.LaterReceipts.{day_stays, entry_stays}
use Rattle.registrar.specs.Brings.{brought_by_award, brought_by_call, brought_by_distribution, brought_by_registration, brought_by_seizure, lowest_said, verdict_on_award, verdict_unless}
use Rattle.registrar.specs.declared.verdicts.Verdict.TheVariants as verdict
use Rattle.sale_rules.specs.SaleEntries.{left_with, unless_refused}
use Rattle.sale_rules.specs.SaleGrounds.{first_ground, has_all_registrations, is_awarded, lacks_call, lacks_case, lowest, refusal_by, refusal_of_award, refusal_of_call, refusal_of_distribution, refusal_of_registration, refusal_of_seizure, registers_arrears, repeats_arrears, short_of_cash}
use Rattle.sale_rules.specs.SaleMoney.{bid_named, bid_with_interest, money, money_awarded}

module _ (journal more : List Receipt) (stands : Key → List Entry) (folio i : ℕ) (within : i ≤ length journal) where
  -- ---- each kind

  pub seizure_as_before : (b : Basis) → brought_by_seizure (sale_at (journal ++ more) stands folio i) b ≡ brought_by_seizure (sale_at journal stands folio i) b
  seizure_as_before b =
      let entry = entry_stays journal more i within in
      let refused = refusal_of_seizure (sale_at journal stands folio i) b in
      λ j. record { entries = unless_refused refused (entry j (Case folio) what.Seized ∷ []); verdict = verdict_unless refused verdict.Seized }

  again_stays : (r : Registration) → repeats_arrears (sale_at (journal ++ more) stands folio i) r ≡ repeats_arrears (sale_at journal stands folio i) r
  again_stays (registration.Advance person amount) = refl
  again_stays (registration.PublicCharge person amount due) = refl
  again_stays (registration.Arrears right from until) =
      same_any (registers_arrears (sale_at (journal ++ more) stands folio i) right) (registers_arrears (sale_at journal stands folio i) right) (numbers_of stands folio i (λ e. is_registration e.what))
      (each (numbers_of stands folio i (λ e. is_registration e.what))
      (all_inside journal more stands folio i within (numbers_of stands folio i (λ e. is_registration e.what)) (numbers_below (λ e. is_registration e.what) i (case (below i (stands (Case folio)))) (case_is_below i (stands (Case folio))))))
    where
      each : (ns : List ℕ) → AllByRecursion (λ n. item_at (journal ++ more) n ≡ item_at journal n) ns
          → AllByRecursion (λ n. registers_arrears (sale_at (journal ++ more) stands folio i) right n ≡ registers_arrears (sale_at journal stands folio i) right n) ns
      each [] all = tt
      each (n ∷ ns) all = (ap (λ o. option_map_or (same_right right) (option_and_then arrears_of o) false) all.0, each ns all.1)

  refused_registration : (r : Registration) → refusal_of_registration (sale_at (journal ++ more) stands folio i) r ≡ refusal_of_registration (sale_at journal stands folio i) r
  refused_registration r =
      let s = sale_at journal stands folio i in
      ap (λ again. first_ground ((lacks_case s, section.Zvg15) ∷ (has_all_registrations s || again, section.Limit) ∷ [])) (again_stays r)

  pub registration_as_before : (r : Registration) → brought_by_registration (sale_at (journal ++ more) stands folio i) r ≡ brought_by_registration (sale_at journal stands folio i) r
  registration_as_before r =
      let entry = entry_stays journal more i within in
      let refused = refused_registration r in
      λ j. record { entries = unless_refused (refused j) (entry j (Case folio) what.Registered ∷ []); verdict = verdict_unless (refused j) verdict.Registered }

  lowest_stays : lowest (sale_at (journal ++ more) stands folio i) ≡ lowest (sale_at journal stands folio i)
  lowest_stays = ap lowest_bid (claimed_stays journal more stands folio i within)

  refused_call : refusal_of_call (sale_at (journal ++ more) stands folio i) ≡ refusal_of_call (sale_at journal stands folio i)
  refused_call =
      let s = sale_at journal stands folio i in
      ap (λ o. first_ground ((lacks_case s, section.Zvg15) ∷ (is_awarded s, section.Zvg81) ∷ (is_none o, section.Zvg43) ∷ [])) lowest_stays

  pub call_as_before : (costs : ℕ) → brought_by_call (sale_at (journal ++ more) stands folio i) costs ≡ brought_by_call (sale_at journal stands folio i) costs
  call_as_before costs =
      let entry = entry_stays journal more i within in
      let refused = refused_call in
      let least = lowest_stays in
      λ j. record { entries = unless_refused (refused j) (entry j (Case folio) (what.Bids costs) ∷ []); verdict = verdict_unless (refused j) (lowest_said (least j)) }

  refused_award : (bid : ℕ) → refusal_of_award (sale_at (journal ++ more) stands folio i) bid ≡ refusal_of_award (sale_at journal stands folio i) bid
  refused_award bid =
      let s = sale_at journal stands folio i in
      ap (λ o. refusal_by (first_ground ((lacks_case s, section.Zvg15) ∷ (is_awarded s, section.Zvg81) ∷ (lacks_call s, section.Zvg66) ∷ (is_none o, section.Zvg43) ∷ [])) (option_and_then (short_of_cash bid) o)) lowest_stays

  pub award_as_before : (buyer bid : ℕ) → brought_by_award (sale_at (journal ++ more) stands folio i) buyer bid ≡ brought_by_award (sale_at journal stands folio i) buyer bid
  award_as_before buyer bid =
      let entry = entry_stays journal more i within in
      let refused = refused_award bid in
      let least = lowest_stays in
      let claimed = claimed_stays journal more stands folio i within in
      let live = live_by_act (sale_at journal stands folio i).at folio in
      λ j. record {
        entries = unless_refused (refused j)
            (option_map_or (λ (found : Lowest). entry j (Case folio) (what.Awarded buyer bid) ∷ entry j (Title folio) (what.AwardOwner buyer)
            ∷ map (λ x. entry j (Right folio x.id) (left_with (remaining (claimed j) found.cover x.id))) live) (least j) []);
        verdict = verdict_on_award bid (refused j);
      }

  money_stays : money (sale_at (journal ++ more) stands folio i) ≡ money (sale_at journal stands folio i)
  money_stays = by (award (below i (stands (Case folio)))) (read_within journal stands folio i)
    where
      by : (o : Option ℕ) → option_map_or (λ (n : ℕ). n) o i ≤ i
          → option_map_or (money_awarded (sale_at (journal ++ more) stands folio i)) o 0 ≡ option_map_or (money_awarded (sale_at journal stands folio i)) o 0
      by None inside = refl
      by (Some n) inside =
          let there : n ≤ length journal = omega (arith, inside, within) in
          λ j. option_map_or (bid_with_interest (day_stays journal more n there j) (day_stays journal more i within j)) (option_and_then bid_named (item_stays journal more stands folio i within n there j)) 0

  pub distribution_as_before : brought_by_distribution (sale_at (journal ++ more) stands folio i) ≡ brought_by_distribution (sale_at journal stands folio i)
  distribution_as_before =
      let entry = entry_stays journal more i within in
      let refused = refusal_of_distribution (sale_at journal stands folio i) in
      let cents = money_stays in
      λ j. record { entries = unless_refused refused (entry j (Case folio) what.Distributed ∷ []); verdict = verdict_unless refused (verdict.Distributed (cents j)) }
