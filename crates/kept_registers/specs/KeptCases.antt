-- What holds of the forced sales of a register that comes about (ZVG).
use Rattle.std.specs.Prelude.{◌≡◌, ℕ, ◌<◌, ◌≤◌, Bool, false, ◌&&◌, List, All, Any, AllPairs, count_by, slice_get, IfSome, IsTrue, IsSomeAnd, Option, Some, None, option_and_then}
use Rattle.std.specs.Option.{option_map_or}
use Rattle.gb_base.specs.Limits.{most_cents}
use Rattle.gb_base.specs.RightNo.{RightNo, same_right}
use Rattle.gb_base.specs.declared.keys.Key.{Key}
use Rattle.gb_base.specs.declared.keys.Key.TheVariants.{Title, Right, Case}
use Rattle.act_model.specs.declared.items.Item.{Item}
use Rattle.act_model.specs.declared.receipts.Receipt.{Receipt}
use Rattle.act_model.specs.Receiving.{item_at}
use Rattle.folio_sections.specs.Cases.{case_below, is_registration, is_seizure}
use Rattle.folio_sections.specs.Limits.{most_registrations, most_seizures}
use Rattle.folio_sections.specs.Titles.{is_opening}
use Rattle.folio_sections.specs.declared.entries.Entry.{Entry}
use Rattle.folio_sections.specs.declared.entries.What.{What}
use Rattle.act_model.specs.declared.sales.Basis.TheVariants as basis
use Rattle.act_model.specs.declared.sales.Registration.TheVariants as registration
use Rattle.act_model.specs.declared.items.Item.TheVariants as item
use Rattle.folio_sections.specs.declared.entries.What.TheVariants as what

-- the item is this content's, of the folio
abbrev pub IsItsItem : ℕ → What → Item → Type 0
IsItsItem folio what.Seized (item.Seize f basis served) = f ≡ folio
IsItsItem folio what.Registered (item.Register f registered) = f ≡ folio
IsItsItem folio (what.Bids costs) (item.OpenBids f c) = (f ≡ folio) × (c ≡ costs)
IsItsItem folio (what.Awarded buyer bid) (item.Award f b c) = (f ≡ folio) × (b ≡ buyer) × (c ≡ bid)
IsItsItem folio other its = ⊥

-- the content, where it is one of a forced sale, was entered by its own item
abbrev pub StandsByItem : List Receipt → ℕ → ℕ → What → Type 0
StandsByItem journal folio receipt what.Seized = IsSomeAnd (item_at journal receipt) (IsItsItem folio what.Seized)
StandsByItem journal folio receipt what.Registered = IsSomeAnd (item_at journal receipt) (IsItsItem folio what.Registered)
StandsByItem journal folio receipt (what.Bids costs) = IsSomeAnd (item_at journal receipt) (IsItsItem folio (what.Bids costs))
StandsByItem journal folio receipt (what.Awarded buyer bid) = IsSomeAnd (item_at journal receipt) (IsItsItem folio (what.Awarded buyer bid))
StandsByItem journal folio receipt other = Unit {0}

-- the right for which an item registers arrears
abbrev pub arrears_of : Item → Option RightNo
arrears_of (item.Register folio (registration.Arrears right from until)) = Some right
arrears_of other = None

-- both entries register arrears for one right
abbrev pub register_same_arrears : List Receipt → Entry → Entry → Bool
register_same_arrears journal e later =
    is_registration e.what && is_registration later.what
    && option_map_or (λ r. option_map_or (same_right r) (option_and_then arrears_of (item_at journal later.receipt)) false)
    (option_and_then arrears_of (item_at journal e.receipt)) false

-- the right from which an item seizes
abbrev pub seized_right : Item → Option RightNo
seized_right (item.Seize folio (basis.FromRight right) served) = Some right
seized_right other = None

-- where the entry seizes from a right, this right is older than receipt n
abbrev pub SeizesFromOlder : List Receipt → ℕ → Entry → Type 0
SeizesFromOlder journal n e =
    IsTrue (is_seizure e.what) → IfSome (option_and_then seized_right (item_at journal e.receipt)) (λ right. right.receipt < n)

-- a content leaves a right an amount
abbrev pub LeavesCents : What → Type 0
LeavesCents (what.Remains capital) = (1 ≤ capital) × (capital ≤ most_cents)
LeavesCents other = Unit {0}

-- the folio was opened before this receipt
abbrev pub IsOpenedBefore : ℕ → List Entry → Type 0
IsOpenedBefore n entries = Any (λ o. IsTrue (is_opening o.what) × (o.receipt < n)) entries

-- A case, as it stood before any receipt, begins with a seizure of an open folio. Its entries are of their items, and its
-- seizures and registrations keep their limits. No two of its registrations are of arrears for one right. Each right from
-- which the land is seized is older than the case's first entry. What remains of a right is an amount.
pub record CaseInOrder (journal : List Receipt) (at : Key → List Entry) : Type 0 where
  pub remains : (folio : ℕ) (right : RightNo) → All (λ e. LeavesCents e.what) (at (Right folio right))
  pub opened : (folio : ℕ) → All (λ e. IsTrue (is_seizure e.what) → IsOpenedBefore e.receipt (at (Title folio))) (at (Case folio))
  pub items : (folio : ℕ) → All (λ e. StandsByItem journal folio e.receipt e.what) (at (Case folio))
  pub begins : (folio n : ℕ) → IfSome (slice_get (case_below n (at (Case folio))) 0) (λ e. IsTrue (is_seizure e.what))
  pub seizures : (folio n : ℕ) → count_by (λ e. is_seizure e.what) (case_below n (at (Case folio))) ≤ most_seizures
  pub registrations : (folio n : ℕ) → count_by (λ e. is_registration e.what) (case_below n (at (Case folio))) ≤ most_registrations
  pub arrears : (folio n : ℕ) → AllPairs (λ e later. register_same_arrears journal e later ≡ false) (case_below n (at (Case folio)))
  pub older : (folio n : ℕ) → IfSome (slice_get (case_below n (at (Case folio))) 0)
      (λ first. All (SeizesFromOlder journal first.receipt) (case_below n (at (Case folio))))
