-- A case with an award, cut at it: what stood before it, and after it nothing that seizes, calls or awards.
use Rattle.std.proofs.Common.{◌≡◌, ⊎_elim, ℕ, ◌<◌, nat_lt, Bool, true, false, List, [], ◌∷◌, ◌++◌, fold, Option, Some, None, is_some, refl, sym, ap, subst, ◌∙◌, append_assoc, arith}
use Rattle.std.specs.List.{AllByRecursion}
use Rattle.std.specs.Option.{option_map_or}
use Rattle.std.proofs.lemmas.Bool.{cases_Bool, false≢true}
use Rattle.std.proofs.lemmas.Bool.Decides.{nat_tests}
use Rattle.std.proofs.lemmas.List.{append-nil}
use Rattle.std.proofs.lemmas.List.Elements.{filter-append}
use Rattle.std.proofs.lemmas.List.Sums.{fold-append}
use Rattle.auction_classes.proofs.BehindAward.{IsAwardedIn, leaves_award}
use Rattle.folio_sections.specs.Cases.{award, award_by, case, is_distribution}
use Rattle.folio_sections.specs.Fronts.{below}
use Rattle.folio_sections.specs.declared.entries.Entry.{Entry}
use Rattle.folio_sections.specs.declared.entries.What.{What}
use Rattle.folio_sections.specs.declared.entries.What.TheVariants as what
use Rattle.folio_sections.proofs.Cases.{behind_another, behind_more}
use Rattle.folio_sections.proofs.FilteredLists.{filter_skips}
use Rattle.folio_sections.proofs.Unchanged.{all_both}
use Rattle.registrar.specs.KeptAwards.{EndWithAward, ends_with_award}
use Rattle.registrar.specs.inner.CasesRise.{RisesAt}
use Rattle.registrar.proofs.CasesEnd.{in_pushed}
use Rattle.registrar.proofs.CasesPushed.{all_are_below}

-- ---- lists that grow

-- what holds of the empty list, and still holds with one entry more, holds of all lists
by_pushes : (P : List Entry → Type 0) → P [] → ((xs : List Entry) (x : Entry) → P xs → P (xs ++ x ∷ [])) → (xs : List Entry) → P xs
by_pushes P start step xs = from [] xs start
  where
    from : (done rest : List Entry) → P done → P (done ++ rest)
    from done [] so = subst P (sym (append-nil done)) so
    from done (x ∷ rest) so = subst P (append_assoc done (x ∷ []) rest) (from (done ++ x ∷ []) rest (step done x so))

pub second_of_both : {X : Type 0} (P : X → Type 0) (xs ys : List X) → AllByRecursion P (xs ++ ys) → AllByRecursion P ys
second_of_both P [] ys all = all
second_of_both P (x ∷ xs) ys all = second_of_both P xs ys all.1

rises_first : (xs : List Entry) (x : Entry) → RisesAt (xs ++ x ∷ []) → RisesAt xs
rises_first xs x rises = λ before after e is. rises before (after ++ x ∷ []) e (ap (λ ys. ys ++ x ∷ []) is ∙ append_assoc before (e ∷ after) (x ∷ []))

ends_first : (xs : List Entry) (x : Entry) → EndWithAward (xs ++ x ∷ []) → EndWithAward xs
ends_first xs x ends = λ before after e is. ends before (after ++ x ∷ []) e (ap (λ ys. ys ++ x ∷ []) is ∙ append_assoc before (e ∷ after) (x ∷ []))

-- receipts still rise where one of a later receipt than all is put at the end
pub rises_with : (xs : List Entry) (last : Entry) → RisesAt xs → AllByRecursion (λ (d : Entry). d.receipt < last.receipt) xs → RisesAt (xs ++ last ∷ [])
rises_with xs last rises all = λ before after e is.
    ⊎_elim (λ old. rises before old.0 e old.1)
    (λ own. subst (λ (d : Entry). AllByRecursion (λ (b : Entry). b.receipt < d.receipt) before) own.1 (subst (λ ys. AllByRecursion (λ (b : Entry). b.receipt < last.receipt) ys) own.0 all))
    (in_pushed xs before after last e is)

-- ---- the award of a case

-- the receipt of the last award of some entries, from one on
abbrev walk : Option ℕ → Entry → Option ℕ
walk before e = award_by e.receipt before e.what

abbrev distributes : Entry → Bool
distributes e = is_distribution e.what

leaves_of : (w : What) → ends_with_award w ≡ false → leaves_award w ≡ true
leaves_of what.Seized fails = absurd (false≢true (sym fails))
leaves_of (what.Bids costs) fails = absurd (false≢true (sym fails))
leaves_of (what.Awarded buyer bid) fails = absurd (false≢true (sym fails))
leaves_of other fails = refl

-- where the entries rise and none after an award seizes, calls or awards, the case can be cut at its award in this way
abbrev IsCut : List Entry → Type 0
IsCut xs = RisesAt xs → EndWithAward xs → (a : ℕ) → award xs ≡ Some a → IsAwardedIn xs a

module _ (xs : List Entry) (x : Entry) (rises : RisesAt (xs ++ x ∷ [])) (ends : EndWithAward (xs ++ x ∷ [])) (a : ℕ) (goes_on : is_distribution x.what ≡ false) where
  earlier : AllByRecursion (λ (d : Entry). d.receipt < x.receipt) xs
  earlier = rises xs [] x refl

  case_more : case (xs ++ x ∷ []) ≡ case xs ++ x ∷ []
  case_more = behind_more distributes xs x goes_on

  skips : nat_lt x.receipt a ≡ false → below a (xs ++ x ∷ []) ≡ below a xs
  skips later =
      filter-append (λ (e : Entry). nat_lt e.receipt a) xs (x ∷ []) ∙ ap (λ ys. below a xs ++ ys) (filter_skips (λ (e : Entry). nat_lt e.receipt a) x [] later) ∙ append-nil (below a xs)

  new_award : (buyer bid : ℕ) → x.what ≡ what.Awarded buyer bid → x.receipt ≡ a → IsAwardedIn (xs ++ x ∷ []) a
  new_award buyer bid awards by = record {
    before = xs;
    entry = x;
    after = [];
    buyer = buyer;
    bid = bid;
    is = refl;
    case_is = case_more;
    by = by;
    awards = awards;
    found = skips (grind (arith, nat_tests, by)) ∙ all_are_below a xs (subst (λ n. AllByRecursion (λ (d : Entry). d.receipt < n) xs) by earlier);
    none_yet = ends xs [] x refl (ap ends_with_award awards);
    later = tt;
  }

  old_award : leaves_award x.what ≡ true → IsAwardedIn xs a → IsAwardedIn (xs ++ x ∷ []) a
  old_award leaves old =
      let first = (second_of_both (λ (d : Entry). d.receipt < x.receipt) old.before (old.entry ∷ old.after) (subst (λ ys. AllByRecursion (λ (d : Entry). d.receipt < x.receipt) ys) old.is earlier)).0 in
      let later : a < x.receipt = subst (λ n. n < x.receipt) old.by first in
      record {
        before = old.before;
        entry = old.entry;
        after = old.after ++ x ∷ [];
        buyer = old.buyer;
        bid = old.bid;
        is = ap (λ ys. ys ++ x ∷ []) old.is ∙ append_assoc old.before (old.entry ∷ old.after) (x ∷ []);
        case_is = case_more ∙ ap (λ ys. ys ++ x ∷ []) old.case_is ∙ append_assoc (case old.before) (old.entry ∷ old.after) (x ∷ []);
        by = old.by;
        awards = old.awards;
        found = skips (grind (arith, nat_tests, later)) ∙ old.found;
        none_yet = old.none_yet;
        later = all_both (λ (e : Entry). (a < e.receipt) × (leaves_award e.what ≡ true)) old.after (x ∷ []) old.later ((later, leaves), tt);
      }

  by_content : (w : What) → x.what ≡ w → award_by x.receipt (award xs) w ≡ Some a → IsCut xs → IsAwardedIn (xs ++ x ∷ []) a
  by_content (what.Awarded buyer bid) same is so = new_award buyer bid same (ap (λ o. option_map_or (λ (n : ℕ). n) o 0) is)
  by_content other same is so =
      old_award
      (leaves_of x.what
      (⊎_elim (λ stands. absurd (false≢true (ap is_some (sym (ends xs [] x refl stands) ∙ is)))) (λ fails. fails) (cases_Bool (ends_with_award x.what))))
      (so (rises_first xs x rises) (ends_first xs x ends) a is)

pushed : (xs : List Entry) (x : Entry) → IsCut xs → IsCut (xs ++ x ∷ [])
pushed xs x so rises ends a is =
    elim (is_distribution x.what) as (λ b. is_distribution x.what ≡ b → IsAwardedIn (xs ++ x ∷ []) a) [
      | true ↦ λ last. absurd (false≢true (ap is_some (sym (ap (fold walk None) (behind_another distributes xs x last)) ∙ is)))
      | false ↦ λ goes_on.
          by_content xs x rises ends a goes_on x.what refl (sym (ap (fold walk None) (behind_more distributes xs x goes_on) ∙ fold-append walk None (case xs) (x ∷ [])) ∙ is) so
    ] refl

pub cut_at_award : (entries : List Entry) → RisesAt entries → EndWithAward entries → (a : ℕ) → award entries ≡ Some a → IsAwardedIn entries a
cut_at_award entries = by_pushes IsCut (λ rises ends a is. absurd (false≢true (ap is_some is))) pushed entries
