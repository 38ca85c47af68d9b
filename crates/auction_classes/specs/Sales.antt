-- The forced sale of a folio, as a call to bid, an award or a distribution finds it (ZVG §§ 20, 37, 66, 81).
use Rattle.std.specs.Prelude.{ℕ, ◌+◌, Bool, true, false, ◌==◌, nat_le, List, filter_map, length, slice_get, IsSome, IsTrue, Option, Some, None, option_and_then}
use Rattle.std.specs.Option.{option_map_or}
use Rattle.gb_base.specs.Calendar.{date_of}
use Rattle.gb_base.specs.declared.keys.Key.{Key}
use Rattle.gb_base.specs.declared.keys.Key.TheVariants.{Case}
use Rattle.act_model.specs.Receiving.{day_of, item_at}
use Rattle.act_model.specs.declared.items.Item.{Item}
use Rattle.act_model.specs.declared.items.Item.TheVariants as item
use Rattle.act_model.specs.declared.receipts.Receipt.{Receipt}
use Rattle.folio_sections.specs.Cases.{award, call, registration_numbers, seizure_numbers}
use Rattle.folio_sections.specs.Fronts.{below}
use Rattle.folio_sections.specs.declared.entries.Entry.{Entry}
use Rattle.auction_classes.specs.declared.case_items.Registered.{Registered}
use Rattle.auction_classes.specs.declared.case_items.Seizure.{Seizure}

-- The journal, what stands at each key by items below the one that finds the sale, the folio, and the number of that item.
pub record Sale : Type 0 where
  pub journal : List Receipt
  pub at : Key → List Entry
  pub folio : ℕ
  pub item : ℕ

-- the sale of a folio as item a of the journal finds it
abbrev pub sale_at : List Receipt → (Key → List Entry) → ℕ → ℕ → Sale
sale_at journal at folio a = record { journal = journal; at = λ k. below a (at k); folio = folio; item = a }

-- the entries at the folio's forced sale
abbrev pub at_case : Sale → List Entry
at_case s = s.at (Case s.folio)

-- ---- the call to bid

-- the costs of the proceedings that a call to bid names (ZVG § 109)
abbrev pub costs_named : Item → Option ℕ
costs_named (item.OpenBids folio costs) = Some costs
costs_named other = None

-- the costs that receipt n names, where it calls to bid
abbrev pub costs_named_by : Sale → ℕ → Option ℕ
costs_named_by s n = option_and_then costs_named (item_at s.journal n)

-- the number of the call: the item itself where it is one, else the last call of the case (ZVG § 66)
abbrev pub number_called : Sale → Option ℕ
number_called s = option_map_or (λ costs. Some s.item) (costs_named_by s s.item) (call (at_case s))

-- the costs of the proceedings, as the call names them
abbrev pub costs_found : Sale → ℕ
costs_found s = option_map_or (λ costs. costs) (option_and_then (costs_named_by s) (number_called s)) 0

-- the day of the sale: the stamp day of the call
abbrev pub sale_day : Sale → ℕ
sale_day s = option_map_or (day_of s.journal) (number_called s) 0

-- a registration of this number is late: it did not come before the call (ZVG §§ 45, 110)
abbrev pub is_late : Sale → ℕ → Bool
is_late s n = option_map_or (λ call. nat_le call n) (number_called s) true

-- ---- seizures

abbrev pub seizure_by : Item → Option Seizure
seizure_by (item.Seize folio basis served) = Some (record { basis = basis; served = served })
seizure_by other = None

-- the seizures of the case, in order: what each rests on, and the day on which it was served
abbrev pub seizures_found : Sale → List Seizure
seizures_found s = filter_map (λ n. option_and_then seizure_by (item_at s.journal n)) (seizure_numbers (at_case s))

-- the number of the first seizure of the case, which decides the classes of rights; 0 where there is none
abbrev pub number_seized : Sale → ℕ
number_seized s = option_map_or (λ n. n) (slice_get (seizure_numbers (at_case s)) 0) 0

-- the year of the first seizure, from which the years of interest and of charges are counted
abbrev pub year_seized : Sale → ℕ
year_seized s = (date_of (day_of s.journal (number_seized s))).year

-- ---- registrations

abbrev pub registered_by : Bool → Item → Option Registered
registered_by late (item.Register folio what) = Some (record { late = late; what = what })
registered_by late other = None

-- the registrations of the case, in order; one is timely that came before the call (ZVG §§ 45, 110)
abbrev pub registrations_found : Sale → List Registered
registrations_found s = filter_map (λ n. option_and_then (registered_by (is_late s n)) (item_at s.journal n)) (registration_numbers (at_case s))

-- ---- as of when the folio is read

-- Rights and owners are read as they stood just before the award, where there is one, else before the item.
abbrev pub read_before : Sale → ℕ
read_before s = option_map_or (λ n. n) (award (at_case s)) s.item

-- what the sale reads at each key: the entries there by receipts below `read_before`
abbrev pub read : Sale → Key → List Entry
read s k = below (read_before s) (s.at k)

-- ---- where a sale is found

-- the item calls to bid, awards or distributes in the folio
abbrev pub is_of_sale : ℕ → Item → Bool
is_of_sale folio (item.OpenBids f costs) = f == folio
is_of_sale folio (item.Award f buyer bid) = f == folio
is_of_sale folio (item.Distribute f) = f == folio
is_of_sale folio other = false

-- Such an item, or the end of the journal, finds a sale that runs and has a call.
pub record IsFound (s : Sale) : Type 0 where
  pub item : IsTrue (option_map_or (is_of_sale s.folio) (item_at s.journal s.item) (s.item == length s.journal + 1))
  pub runs : IsSome (slice_get (seizure_numbers (at_case s)) 0)
  pub called : IsSome (number_called s)
