-- Where an item of a forced sale is not refused, each of its grounds fails.
use Rattle.std.proofs.Common.{◌≡◌, ℕ, Bool, true, false, cond, ◌||◌, List, [], ◌∷◌, find, Option, Some, None, is_some, option_and_then, option_map, refl, sym, ap}
use Rattle.std.specs.List.{AllByRecursion}
use Rattle.std.proofs.lemmas.Bool.{false≢true}
use Rattle.act_model.specs.declared.sales.Basis.{Basis}
use Rattle.act_model.specs.declared.sales.Registration.{Registration}
use Rattle.auction_classes.specs.Sales.{Sale}
use Rattle.gb_base.specs.declared.sections.Section.{Section}
use Rattle.gb_base.specs.declared.sections.Section.TheVariants as section
use Rattle.sale_rules.specs.SaleGrounds.{first_ground, has_all_registrations, has_all_seizures, is_awarded, is_filed_later, lacks_call, lacks_case, lacks_folio, lacks_right, lacks_served_claim, lowest, refusal_by, refusal_of_award, refusal_of_call, refusal_of_registration, refusal_of_seizure, repeats_arrears, section_against_award, short_of_cash}
use Rattle.sale_rules.specs.declared.awards.AwardRefusal.{AwardRefusal}

-- where no ground is named, each fails
pub all_fail : (grounds : List (Bool × Section)) → first_ground grounds ≡ None → AllByRecursion (λ (g : Bool × Section). g.0 ≡ false) grounds
all_fail [] none = tt
all_fail (g ∷ gs) none =
    elim g.0 as (λ b. g.0 ≡ b → option_map (λ (h : Bool × Section). h.1) (cond b (Some g) (find (λ (h : Bool × Section). h.0) gs)) ≡ None → AllByRecursion (λ (h : Bool × Section). h.0 ≡ false) (g ∷ gs)) [
      | true ↦ λ _ never. absurd (false≢true (sym (ap is_some never)))
      | false ↦ λ fails rest. (fails, all_fail gs rest)
    ] refl none

or_fails : (a b : Bool) → (a || b) ≡ false → (a ≡ false) × (b ≡ false)
or_fails true b fails = absurd (false≢true (sym fails))
or_fails false b fails = (refl, fails)

-- the grounds of a seizure
pub record IsSeizureLetIn (s : Sale) (b : Basis) : Type 0 where
  pub folio : lacks_folio s ≡ false
  pub awarded : is_awarded s ≡ false
  pub many : has_all_seizures s ≡ false
  pub right : lacks_right s b ≡ false
  pub behind : is_filed_later s b ≡ false

pub seizure_let_in : (s : Sale) (b : Basis) → refusal_of_seizure s b ≡ None → IsSeizureLetIn s b
seizure_let_in s b none =
    let all = all_fail
    ((lacks_folio s, section.Gbo3) ∷ (is_awarded s, section.Zvg81) ∷ (has_all_seizures s, section.Limit) ∷ (lacks_right s b, section.Bgb873) ∷ (is_filed_later s b, section.Zvg23) ∷ []) none in
    record { folio = all.0; awarded = all.1.0; many = all.1.1.0; right = all.1.1.1.0; behind = all.1.1.1.1.0 }

-- the grounds of a registration
pub record IsRegistrationLetIn (s : Sale) (r : Registration) : Type 0 where
  pub runs : lacks_case s ≡ false
  pub many : has_all_registrations s ≡ false
  pub again : repeats_arrears s r ≡ false

pub registration_let_in : (s : Sale) (r : Registration) → refusal_of_registration s r ≡ None → IsRegistrationLetIn s r
registration_let_in s r none =
    let all = all_fail ((lacks_case s, section.Zvg15) ∷ (has_all_registrations s || repeats_arrears s r, section.Limit) ∷ []) none in
    let limit = or_fails (has_all_registrations s) (repeats_arrears s r) all.1.0 in
    record { runs = all.0; many = limit.0; again = limit.1 }

-- the grounds of a call to bid
pub record IsCallLetIn (s : Sale) : Type 0 where
  pub runs : lacks_case s ≡ false
  pub awarded : is_awarded s ≡ false
  pub served : lacks_served_claim s ≡ false

pub call_let_in : (s : Sale) → refusal_of_call s ≡ None → IsCallLetIn s
call_let_in s none =
    let all = all_fail ((lacks_case s, section.Zvg15) ∷ (is_awarded s, section.Zvg81) ∷ (lacks_served_claim s, section.Zvg43) ∷ []) none in
    record { runs = all.0; awarded = all.1.0; served = all.1.1.0 }

-- the grounds of an award
pub record IsAwardLetIn (s : Sale) (bid : ℕ) : Type 0 where
  pub runs : lacks_case s ≡ false
  pub awarded : is_awarded s ≡ false
  pub called : lacks_call s ≡ false
  pub served : lacks_served_claim s ≡ false
  pub enough : option_and_then (short_of_cash bid) (lowest s) ≡ None

no_section : (o : Option Section) (low : Option AwardRefusal) → refusal_by o low ≡ None → (o ≡ None) × (low ≡ None)
no_section None low none = (refl, none)
no_section (Some s) low none = absurd (false≢true (sym (ap is_some none)))

pub award_let_in : (s : Sale) (bid : ℕ) → refusal_of_award s bid ≡ None → IsAwardLetIn s bid
award_let_in s bid none =
    let both = no_section (section_against_award s) (option_and_then (short_of_cash bid) (lowest s)) none in
    let all = all_fail ((lacks_case s, section.Zvg15) ∷ (is_awarded s, section.Zvg81) ∷ (lacks_call s, section.Zvg66) ∷ (lacks_served_claim s, section.Zvg43) ∷ []) both.0 in
    record { runs = all.0; awarded = all.1.0; called = all.1.1.0; served = all.1.1.1.0; enough = both.1 }
