-- On which grounds a call to bid or an award is refused, from what was found in the parts.
use Rattle.std.proofs.Common.{◌≡◌, ℕ, Bool, true, false, cond, not, List, [], ◌∷◌, IsTrue, IfOk, Ok, Err, Option, Some, None, is_none, is_some, option_and_then, refl, sym, ap, ◌∙◌}
use Rattle.std.specs.declared.result.Result.{Result}
use Rattle.gb_base.specs.declared.keys.Key.{Key}
use Rattle.gb_base.specs.declared.keys.Key.TheVariants.{Case}
use Rattle.gb_base.specs.declared.sections.Section.{Section}
use Rattle.gb_base.specs.declared.sections.Section.TheVariants as section
use Rattle.act_model.specs.declared.receipts.Receipt.{Receipt}
use Rattle.folio_sections.specs.Cases.{award, call, is_running}
use Rattle.folio_sections.specs.Fronts.{below}
use Rattle.folio_sections.specs.declared.entries.Entry.{Entry}
use Rattle.kept_registers.specs.Standing.{StandsFor}
use Rattle.auction_classes.specs.Sales.{sale_at}
use Rattle.auction_classes.specs.declared.lowest_bids.Lowest.{Lowest}
use Rattle.sale_rules.specs.SaleGrounds.{first_ground, lowest, refusal_by, refusal_of_award, refusal_of_call, short_of_cash}
use Rattle.sale_rules.specs.declared.awards.AwardRefusal.{AwardRefusal}
use Rattle.sale_rules.specs.inner.SalesRead.{found_at}
use Rattle.sale_rules.proofs.FoundAsKept.{found_as_kept}

-- the section under which a call is refused, by the tests of its grounds
abbrev call_refused : Bool → Bool → Bool → Option Section
call_refused lacks awarded unserved = first_ground ((lacks, section.Zvg15) ∷ (awarded, section.Zvg81) ∷ (unserved, section.Zvg43) ∷ [])

-- where no ground before the lowest bid holds, a call is refused exactly where there is no lowest bid
pub call_as_kept : (journal : List Receipt) (holds : Key → Bool) (at register : Key → List Entry) (folio item : ℕ) (bid : Option Lowest)
    → StandsFor holds at register → IsTrue (holds (Case folio)) → not (is_running (found_at holds at item (Case folio))) ≡ false
    → is_some (award (found_at holds at item (Case folio))) ≡ false → bid ≡ lowest (sale_at journal register folio item)
    → cond (is_none bid) (Some section.Zvg43) None ≡ refusal_of_call (sale_at journal register folio item)
call_as_kept journal holds at register folio item bid stands held runs awarded is =
    let case = found_as_kept holds at register item (Case folio) stands held in
    let lacks : not (is_running (below item (register (Case folio)))) ≡ false = ap (λ es. not (is_running es)) (sym case) ∙ runs in
    let award_there : is_some (award (below item (register (Case folio)))) ≡ false = ap (λ es. is_some (award es)) (sym case) ∙ awarded in
    by (is_none bid) ∙ (λ i. call_refused (sym lacks i) (sym award_there i) (is_none (is i)))
  where
    by : (b : Bool) → cond b (Some section.Zvg43) None ≡ call_refused false false b
    by true = refl
    by false = refl

-- ---- awards

abbrev section_refused : Bool → Bool → Bool → Bool → Option Section
section_refused lacks awarded uncalled unserved =
    first_ground ((lacks, section.Zvg15) ∷ (awarded, section.Zvg81) ∷ (uncalled, section.Zvg66) ∷ (unserved, section.Zvg43) ∷ [])

-- why an award is refused, by the lowest bid that was found
abbrev pub refused_by : ℕ → Option Lowest → Option AwardRefusal
refused_by bid found = refusal_by (cond (is_none found) (Some section.Zvg43) None) (option_and_then (short_of_cash bid) found)

-- where no ground before the lowest bid holds, the lowest bid and the bid decide
pub award_as_kept : (journal : List Receipt) (holds : Key → Bool) (at register : Key → List Entry) (folio item bid : ℕ) (found : Option Lowest)
    → StandsFor holds at register → IsTrue (holds (Case folio)) → not (is_running (found_at holds at item (Case folio))) ≡ false
    → is_some (award (found_at holds at item (Case folio))) ≡ false → is_none (call (found_at holds at item (Case folio))) ≡ false
    → found ≡ lowest (sale_at journal register folio item)
    → refused_by bid found ≡ refusal_of_award (sale_at journal register folio item) bid
award_as_kept journal holds at register folio item bid found stands held runs awarded called is =
    let case = found_as_kept holds at register item (Case folio) stands held in
    let lacks : not (is_running (below item (register (Case folio)))) ≡ false = ap (λ es. not (is_running es)) (sym case) ∙ runs in
    let award_there : is_some (award (below item (register (Case folio)))) ≡ false = ap (λ es. is_some (award es)) (sym case) ∙ awarded in
    let call_there : is_none (call (below item (register (Case folio)))) ≡ false = ap (λ es. is_none (call es)) (sym case) ∙ called in
    ap (λ o. refusal_by o (option_and_then (short_of_cash bid) found)) (by (is_none found))
    ∙ (λ i. refusal_by (section_refused (sym lacks i) (sym award_there i) (sym call_there i) (is_none (is i))) (option_and_then (short_of_cash bid) (is i)))
  where
    by : (b : Bool) → cond b (Some section.Zvg43) None ≡ section_refused false false false b
    by true = refl
    by false = refl

-- the lowest bid that is answered is the one that was found
pub least_found : (r : Result Lowest AwardRefusal) (low found : Option Lowest) (bid : Lowest) → found ≡ low → found ≡ Some bid → IfOk r (λ x. x ≡ bid) → IfOk r (λ x. low ≡ Some x)
least_found (Ok x) low found bid is some same = sym is ∙ some ∙ ap Some (sym same)
least_found (Err e) low found bid is some same = tt
