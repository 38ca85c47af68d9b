-- How many seizures and registrations a case has, counted among the first of them.
use Rattle.std.proofs.Common.{◌≡◌, ℕ, ◌≤◌, false, ◌||◌, nat_le, List, length, take, sym, ap, ◌∙◌, arith}
use Rattle.std.proofs.lemmas.Bool.Decides.{nat_tests}
use Rattle.std.proofs.lemmas.List.{length-map, length-take, take_all}
use Rattle.std.proofs.lemmas.List.Sums.{length-filter}
use Rattle.act_model.specs.declared.receipts.Receipt.{Receipt}
use Rattle.act_model.specs.declared.sales.Registration.{Registration}
use Rattle.folio_sections.specs.Cases.{case, is_registration, is_seizure, registration_numbers, registrations, seizure_numbers, seizures}
use Rattle.folio_sections.specs.Limits.{most_registrations}
use Rattle.folio_sections.specs.declared.entries.Entry.{Entry}
use Rattle.sale_rules.specs.inner.Arrears.{fills_case, repeats_in}

seizures_are : (es : List Entry) → length (seizure_numbers es) ≡ seizures es
seizures_are es = length-map _ (λ (e : Entry). e.receipt) ∙ length-filter (λ (e : Entry). is_seizure e.what) (case es)

registrations_are : (es : List Entry) → length (registration_numbers es) ≡ registrations es
registrations_are es = length-map _ (λ (e : Entry). e.receipt) ∙ length-filter (λ (e : Entry). is_registration e.what) (case es)

-- a list has n elements or more exactly where its first n are n
as_many : (n : ℕ) (xs : List ℕ) → nat_le n (length (take n xs)) ≡ nat_le n (length xs)
as_many n xs = let taken = length-take n xs in grind (arith, nat_tests, taken)

pub eight : (es : List Entry) → nat_le 8 (length (take 8 (seizure_numbers es))) ≡ nat_le 8 (seizures es)
eight es = as_many 8 (seizure_numbers es) ∙ ap (nat_le 8) (seizures_are es)

pub thirty_two : (es : List Entry) → nat_le 32 (length (take 32 (registration_numbers es))) ≡ nat_le 32 (registrations es)
thirty_two es = as_many 32 (registration_numbers es) ∙ ap (nat_le 32) (registrations_are es)

-- where the case has fewer registrations than it may, the first so many are all
pub few_repeat : (journal : List Receipt) (es : List Entry) (r : Registration) → nat_le most_registrations (registrations es) ≡ false
    → repeats_in journal (take most_registrations (registration_numbers es)) r ≡ fills_case journal es r
few_repeat journal es r few =
    let number = registrations_are es in
    let within : length (registration_numbers es) ≤ most_registrations = grind (arith, nat_tests, few, number) in
    ap (λ ns. repeats_in journal ns r) (take_all most_registrations (registration_numbers es) within)
    ∙ ap (λ b. b || repeats_in journal (registration_numbers es) r) (sym few)
