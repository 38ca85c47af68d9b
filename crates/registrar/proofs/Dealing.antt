-- What is known where an item deals with a filing, and what holds of each entry that it brings.
use Rattle.std.proofs.Common.{◌≡◌, ℕ, ◌<◌, ◌≤◌, false, List, All, Contains, IsTrue, IfSome, IsSome, Some}
use Rattle.std.specs.List.{AllByRecursion, enumerate_from}
use Rattle.gb_base.specs.declared.keys.Key.{Key}
use Rattle.act_model.specs.Receiving.{day_of, receipt_at}
use Rattle.act_model.specs.Creations.{creating_rank}
use Rattle.act_model.specs.Touches.{filing_at, keys_of_filing, new_right}
use Rattle.act_model.specs.WellFormed.{is_filing}
use Rattle.act_model.specs.declared.items.Filing.{Filing}
use Rattle.act_model.specs.declared.receipts.Receipt.{Receipt}
use Rattle.consent_rules.specs.Judging.{exchanges_unfit_right, lacks_reservation, lacks_right}
use Rattle.kept_registers.specs.Kept.{Kept}
use Rattle.kept_registers.specs.KeptCases.{LeavesCents}
use Rattle.kept_registers.specs.KeptPlaces.{NamesEarlier}
use Rattle.kept_registers.specs.KeptEntries.{IsCreatedInTime, IsPlacedInTime, WaitsInTime}
use Rattle.act_model.specs.Limits.{most_creations}
use Rattle.folio_sections.specs.Waiting.{is_pending}
use Rattle.folio_sections.specs.declared.entries.Entry.{Entry}
use Rattle.folio_sections.specs.declared.entries.What.{What}
use Rattle.folio_sections.specs.declared.entries.What.TheVariants as what

-- Item i is filing m, or it comes later and finds it waiting at each of its keys.
pub data Turn (journal : List Receipt) (m i : ℕ) (at : Key → List Entry) : Type 0 where
  is_it : m ≡ i → Turn journal m i at
  finds : m < i → ((k : Key) → Contains (keys_of_filing journal m) k → IsTrue (is_pending m (at k))) → Turn journal m i at

-- Item i deals with filing m, which is f, on a kept register whose entries at the filing's keys are of earlier items.
pub record Deals (journal : List Receipt) (m : ℕ) (f : Filing) (i : ℕ) (at : Key → List Entry) : Type 0 where
  pub received : IsSome (receipt_at journal i)
  pub kept : Kept journal at
  pub filing : filing_at journal m ≡ Some f
  pub well : IsTrue (is_filing f)
  pub earlier : (k : Key) → Contains (keys_of_filing journal m) k → All (λ e. e.receipt < i) (at k)
  pub turn : Turn journal m i at

-- An entry that item i brings for filing m: by this item, at one of the filing's keys, and of nothing later.
pub record IsBrought (journal : List Receipt) (m i : ℕ) (e : Entry) : Type 0 where
  pub by_item : e.receipt ≡ i
  pub on_day : e.day ≡ day_of journal i
  pub there : Contains (keys_of_filing journal m) e.key
  pub placed : IsPlacedInTime journal e e.key
  pub waits : WaitsInTime e.receipt e.what
  pub created : IsCreatedInTime e.receipt e.key e.what
  pub cents : LeavesCents e.what

-- a content that neither sets a filing to wait nor ends its waiting
abbrev pub KeepsWaiting : What → Type 0
KeepsWaiting (what.Pending filing until) = ⊥
KeepsWaiting (what.Settled filing) = ⊥
KeepsWaiting other = Unit {0}

-- What holds of the acts of filing m, which is f, where it is not rejected.
pub record IsFit (journal : List Receipt) (m : ℕ) (f : Filing) (at : Key → List Entry) : Type 0 where
  pub live : AllByRecursion (λ act. lacks_right at act ≡ false) f.acts
  pub plain : AllByRecursion (λ act. exchanges_unfit_right journal at act ≡ false) f.acts
  pub reserved : AllByRecursion (λ act. lacks_reservation at act ≡ false) f.acts
  pub few : AllByRecursion (λ numbered. IfSome (creating_rank journal (new_right m numbered.0)) (λ n. n ≤ most_creations)) (enumerate_from 1 f.acts)
  pub earlier : AllByRecursion (NamesEarlier m) f.acts
