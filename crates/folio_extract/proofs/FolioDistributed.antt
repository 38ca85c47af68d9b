-- The folio whose proceeds a receipt distributes, in a register that tells of distributions.
use Rattle.std.proofs.Common.{◌≡◌, ℕ, List, IsTrue, Option, Some, None, is_some, option_and_then, refl, sym, ap, subst, ◌∙◌}
use Rattle.std.specs.Option.{option_map_or}
use Rattle.act_model.specs.Receiving.{item_at}
use Rattle.act_model.specs.declared.receipts.Receipt.{Receipt}
use Rattle.folio_sections.specs.Cases.{is_distribution}
use Rattle.folio_sections.specs.Held.{entries_at}
use Rattle.folio_sections.specs.declared.entries.Entry.{Entry}
use Rattle.registrar.specs.KeptDistributions.{IsDistributed, IsDistributionKept}
use Rattle.registrar.specs.RegisterState.{RegisterState}
use Rattle.folio_extract.specs.Plans.{distributed_by, folio_distributed, folio_named}
use Rattle.folio_extract.specs.inner.TellsPlans.{TellsPlans}

-- a distribution that stands is covered by its money
stands_kept : (journal : List Receipt) (register : RegisterState) (folio n cents : ℕ) → TellsPlans journal register
    → IsDistributed journal (entries_at register.parts) folio n cents → IsDistributionKept journal (entries_at register.parts) folio n
stands_kept journal register folio n cents told here =
    let at = entries_at register.parts in
    let e = here.stands.1 in
    let kept = told.distributions folio here.stands.0 e here.stands.2 in
    subst (IsDistributionKept journal at folio) here.stands.4.0
    (subst (λ (x : Entry). IsTrue (is_distribution x.what) → IsDistributionKept journal at folio x.receipt) here.stands.3 kept here.stands.4.1)

-- the distribution that a receipt's verdict tells is covered by its money
pub kept_of_folio : (journal : List Receipt) (register : RegisterState) (n folio : ℕ) → TellsPlans journal register
    → folio_distributed journal register.verdicts n ≡ Some folio → IsDistributionKept journal (entries_at register.parts) folio n
kept_of_folio journal register n folio told = by (distributed_by register.verdicts n) refl
  where
    by : (o : Option ℕ) → distributed_by register.verdicts n ≡ o → option_and_then (λ (c : ℕ). option_and_then folio_named (item_at journal n)) o ≡ Some folio
        → IsDistributionKept journal (entries_at register.parts) folio n
    by (Some cents) tells is =
        let found = told.verdicts n cents tells in
        let same : found.0 ≡ folio = ap (λ o. option_map_or (λ (x : ℕ). x) o folio) (sym (ap (option_and_then folio_named) found.1.item) ∙ is) in
        subst (λ f. IsDistributionKept journal (entries_at register.parts) f n) same (stands_kept journal register found.0 n cents told found.1)
    by None tells is = absurd (cc is)

-- a receipt has a folio whose proceeds it distributes exactly where a verdict says so
pub told_of_folio : (journal : List Receipt) (register : RegisterState) (n : ℕ) → TellsPlans journal register
    → is_some (folio_distributed journal register.verdicts n) ≡ is_some (distributed_by register.verdicts n)
told_of_folio journal register n told = by (distributed_by register.verdicts n) refl
  where
    by : (o : Option ℕ) → distributed_by register.verdicts n ≡ o → is_some (option_and_then (λ (c : ℕ). option_and_then folio_named (item_at journal n)) o) ≡ is_some o
    by (Some cents) tells = ap (λ o. is_some (option_and_then folio_named o)) ((told.verdicts n cents tells).1.item)
    by None tells = refl
