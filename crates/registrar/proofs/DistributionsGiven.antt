-- A distribution that is not refused is covered by its money: the award was given at no less than the part in cash, and after it nothing
-- changes that.
use Rattle.std.proofs.Common.{◌≡◌, ℕ, ◌+◌, ◌<◌, ◌≤◌, Bool, true, false, cond, not, ◌||◌, ◌==◌, List, [], ◌∷◌, All, filter, length, map, slice_get, IsSome, IsSomeAnd, IsTrue, Option, Some, None, is_none, is_some, option_and_then, refl, sym, ap, subst, ◌∙◌, arith}
use Rattle.std.specs.List.{AllByRecursion, list_any}
use Rattle.std.specs.Option.{option_map_or}
use Rattle.std.proofs.lemmas.Bool.{false≢true}
use Rattle.std.proofs.lemmas.Bool.Decides.{nat_tests}
use Rattle.std.proofs.lemmas.List.Elements.{recursion_from_All}
use Rattle.gb_base.specs.Interest.{days360, interest}
use Rattle.gb_base.specs.declared.keys.Key.{Key}
use Rattle.gb_base.specs.declared.keys.Key.TheVariants.{Case}
use Rattle.gb_base.specs.declared.sections.Section.TheVariants as section
use Rattle.act_model.specs.Receiving.{day_of, item_at}
use Rattle.act_model.specs.declared.items.Item.{Item}
use Rattle.act_model.specs.declared.items.Item.TheVariants as item
use Rattle.act_model.specs.declared.receipts.Receipt.{Receipt}
use Rattle.auction_classes.specs.Sales.{Sale, costs_named, is_of_sale, number_called, sale_at}
use Rattle.auction_classes.specs.declared.lowest_bids.Lowest.{Lowest}
use Rattle.auction_classes.proofs.BehindAward.{IsAwardedIn, called, lowest_behind_award}
use Rattle.folio_sections.specs.Cases.{award, call, case, is_seizure}
use Rattle.folio_sections.specs.Fronts.{below}
use Rattle.folio_sections.specs.declared.entries.Entry.{Entry}
use Rattle.folio_sections.specs.declared.entries.What.TheVariants as what
use Rattle.kept_registers.specs.Kept.{Kept}
use Rattle.kept_registers.specs.KeptCases.{IsItsItem, StandsByItem}
use Rattle.registrar.specs.KeptAwards.{AwardsAsKept, AwardsKept, IsAwardKept}
use Rattle.registrar.specs.KeptDistributions.{IsDistributionKept}
use Rattle.registrar.specs.inner.CasesRise.{CasesRise}
use Rattle.registrar.proofs.AwardedCases.{cut_at_award, second_of_both}
use Rattle.registrar.proofs.SaleGroundsFail.{all_fail}
use Rattle.registrar.proofs.SalesKeep.{whole}
use Rattle.sale_rules.specs.SaleGrounds.{is_awarded, lacks_case, lowest, refusal_of_distribution}
use Rattle.sale_rules.specs.SaleMoney.{bid_named, bid_with_interest, legal_rate, money, money_awarded}

-- the grounds of a distribution
pub record IsDistributionLetIn (s : Sale) : Type 0 where
  pub runs : lacks_case s ≡ false
  pub awarded : not (is_awarded s) ≡ false

pub distribution_let_in : (s : Sale) → refusal_of_distribution s ≡ None → IsDistributionLetIn s
distribution_let_in s none =
    let all = all_fail ((lacks_case s, section.Zvg15) ∷ (not (is_awarded s), section.Zvg113) ∷ []) none in
    record { runs = all.0; awarded = all.1.0 }

-- ---- options and lists

some_weaker : (P Q : Lowest → Type 0) → ((l : Lowest) → P l → Q l) → (o : Option Lowest) → IsSomeAnd o P → IsSomeAnd o Q
some_weaker P Q weaker (Some l) has = weaker l has
some_weaker P Q weaker None has = has

some_of : (o : Option ℕ) → is_none o ≡ false → is_some o ≡ true
some_of (Some n) is = refl
some_of None is = sym is

-- where some entry passes, there is a first among the receipts of those that pass
first_number : (p : Entry → Bool) (xs : List Entry) → not (list_any p xs) ≡ false → IsSome (slice_get (map (λ (e : Entry). e.receipt) (filter p xs)) 0)
first_number p [] none = sym none
first_number p (x ∷ xs) some =
    elim (p x) as (λ b. not (b || list_any p xs) ≡ false → IsSome (slice_get (map (λ (e : Entry). e.receipt) (cond b (x ∷ filter p xs) (filter p xs))) 0)) [
      | true ↦ λ _. refl
      | false ↦ λ more. first_number p xs more
    ] some

-- the item of an award
pub record IsAwardItem (o : Option Item) (bid : ℕ) : Type 0 where
  pub bids : option_and_then bid_named o ≡ Some bid
  pub calls_none : option_and_then costs_named o ≡ None

award_item : (folio buyer bid : ℕ) (o : Option Item) → IsSomeAnd o (IsItsItem folio (what.Awarded buyer bid)) → IsAwardItem o bid
award_item folio buyer bid None is = absurd is
award_item folio buyer bid (Some (item.Award f b c)) is = record { bids = ap Some is.2; calls_none = refl }
award_item folio buyer bid (Some other) is = absurd is

-- ---- the distribution

module _ (journal : List Receipt) (register : Key → List Entry) (folio n : ℕ) (kept : Kept journal register) (awards : AwardsKept journal register) (rise : CasesRise register)
    (earlier : All (λ e. e.receipt < n) (register (Case folio))) (distributes : item_at journal n ≡ Some (item.Distribute folio)) where
  -- the case has an award, by receipt a
  module _ (a : ℕ) (award_is : award (below n (register (Case folio))) ≡ Some a) (runs : lacks_case (sale_at journal register folio n) ≡ false) where
    now : below n (register (Case folio)) ≡ register (Case folio)
    now = whole register n (Case folio) earlier

    awarded : IsAwardedIn (register (Case folio)) a
    awarded = cut_at_award (register (Case folio)) (rise folio) (awards.ends folio) a (ap award (sym now) ∙ award_is)

    -- what holds of each entry at the case holds of the entry of the award
    of_award : (P : Entry → Type 0) → All P (register (Case folio)) → P awarded.entry
    of_award P all =
        (second_of_both P awarded.before (awarded.entry ∷ awarded.after) (subst (λ xs. AllByRecursion P xs) awarded.is (recursion_from_All P (register (Case folio)) all))).0

    less : a < n
    less = subst (λ m. m < n) awarded.by (of_award (λ (e : Entry). e.receipt < n) earlier)

    stands : IsAwardKept journal register folio a awarded.bid
    stands =
        subst (λ w. AwardsAsKept journal register folio a w) awarded.awards
        (subst (λ m. AwardsAsKept journal register folio m awarded.entry.what) awarded.by (of_award (λ (e : Entry). AwardsAsKept journal register folio e.receipt e.what) (awards.awards folio)))

    by_item : IsAwardItem (item_at journal a) awarded.bid
    by_item =
        award_item folio awarded.buyer awarded.bid (item_at journal a)
        (subst (λ w. StandsByItem journal folio a w) awarded.awards
        (subst (λ m. StandsByItem journal folio m awarded.entry.what) awarded.by (of_award (λ (e : Entry). StandsByItem journal folio e.receipt e.what) (kept.case_in_order.items folio))))

    no_call : option_and_then costs_named (item_at journal n) ≡ None
    no_call = ap (option_and_then costs_named) distributes

    awarded_now : IsAwardedIn (below n (register (Case folio))) a
    awarded_now = subst (λ xs. IsAwardedIn xs a) (sym now) awarded

    lowest_then : lowest (sale_at journal register folio n) ≡ lowest (sale_at journal register folio a)
    lowest_then = lowest_behind_award journal register folio n a less awarded_now award_is no_call by_item.calls_none

    money_is : money (sale_at journal register folio n) ≡ bid_with_interest (day_of journal a) (day_of journal n) awarded.bid
    money_is =
        ap (λ o. option_map_or (money_awarded (sale_at journal register folio n)) o 0) award_is
        ∙ ap (λ o. option_map_or (bid_with_interest (day_of journal a) (day_of journal n)) o 0) by_item.bids

    enough : awarded.bid ≤ money (sale_at journal register folio n)
    enough = let more = interest awarded.bid legal_rate (days360 (day_of journal a) (day_of journal n)) in
        let is : money (sale_at journal register folio n) ≡ awarded.bid + more = money_is in
        omega (arith, is)

    called_then : IsSome (number_called (sale_at journal register folio n))
    called_then =
        ap is_some (called journal register folio n a less awarded_now award_is no_call by_item.calls_none
        ∙ ap (λ o. option_map_or (λ costs. Some a) o (call (below a (register (Case folio))))) by_item.calls_none) ∙ some_of (call (below a (register (Case folio)))) stands.called

    behind_award : IsDistributionKept journal register folio n
    behind_award = record {
      item = distributes;
      found = record {
        item = subst (λ o. IsTrue (option_map_or (is_of_sale folio) o (n == length journal + 1))) (sym distributes) (grind (arith, nat_tests));
        runs = first_number (λ e. is_seizure e.what) (case (below n (register (Case folio)))) runs;
        called = called_then;
      };
      covered =
          some_weaker (λ l. l.cash ≤ awarded.bid) (λ l. l.cash ≤ money (sale_at journal register folio n)) (λ l paid. omega (arith, paid, enough)) (lowest (sale_at journal register folio n))
          (subst (λ o. IsSomeAnd o (λ l. l.cash ≤ awarded.bid)) (sym lowest_then) stands.paid);
    }

  pub distribution_given : refusal_of_distribution (sale_at journal register folio n) ≡ None → IsDistributionKept journal register folio n
  distribution_given none =
      let let_in = distribution_let_in (sale_at journal register folio n) none in
      elim (award (below n (register (Case folio)))) as (λ o. award (below n (register (Case folio))) ≡ o → not (is_some o) ≡ false → IsDistributionKept journal register folio n) [
        | None ↦ λ _ none. absurd (false≢true (sym none))
        | Some a ↦ λ is _. behind_award a is let_in.runs
      ] refl let_in.awarded
