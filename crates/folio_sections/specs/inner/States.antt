-- What each part keeps beside its entries.
use Rattle.std.specs.Prelude.{◌≡◌, ℕ, ◌+◌, ◌≤◌, nat_lt, min, ◌||◌, Bool, true, false, if◌then◌else◌, List, [], ◌∷◌, ◌++◌, length, drop, filter, fold, map, take, is_none, Option, Some, None}
use Rattle.std.specs.List.{list_any}
use Rattle.act_model.specs.declared.land.Inventory.{Inventory}
use Rattle.folio_sections.specs.Cases.{award, call, case, is_distribution, registration_numbers, registrations, seizure_numbers, seizures}
use Rattle.folio_sections.specs.Limits.{most_registrations, most_seizures}
use Rattle.folio_sections.specs.Rights.{created, created_by, entered_by, entered_on, exchanges, holder, is_conversion, is_exercise, is_live, is_spent, live_by, new_holder_by, remaining_by}
use Rattle.folio_sections.specs.Titles.{inventory, is_award_owner, is_open, owners, owners_by}
use Rattle.folio_sections.specs.declared.case_part.Running.{Running}
use Rattle.folio_sections.specs.declared.entries.Entry.{Entry}
use Rattle.folio_sections.specs.declared.entries.What.{What}
use Rattle.folio_sections.specs.declared.entries.What.TheVariants as what
use Rattle.folio_sections.specs.declared.right_state.RightState.{RightState}
use Rattle.folio_sections.specs.inner.Listed.{Listed}
use Rattle.folio_sections.specs.inner.Naming.{AreNamedAt}

-- there is such an entry, and more than n stand before it
abbrev pub stands_behind : ℕ → Option ℕ → Bool
stands_behind n None = false
stands_behind n (Some ahead) = nat_lt n ahead

-- so many entries stand before the last award's owner
abbrev pub IsLastAward : Option ℕ → List Entry → Type 0
IsLastAward last entries = (n : ℕ) → list_any (λ e. is_award_owner e.what) (drop (n + 1) entries) ≡ stands_behind n last

-- how many entries stand before the last award's owner, after a content that has so many before it
abbrev pub award_by : ℕ → Option ℕ → What → Option ℕ
award_by ahead before (what.AwardOwner buyer) = Some ahead
award_by ahead before other = before

-- a title keeps what is read from its entries
pub record IsTitle (list : Listed) (is_opened : Bool) (parcel : Option Inventory) (last : Option ℕ) : Type 0 where
  pub opened : is_opened ≡ is_open list.entries
  pub inventory : parcel ≡ inventory list.entries
  pub award : IsLastAward last list.entries
  pub owners : AreNamedAt owners (owners_by None) list.naming list.entries

-- the holder whom a content names
abbrev pub holder_named : What → Option ℕ
holder_named (what.Created made) = Some made.spec.holder
holder_named (what.Holder person) = Some person
holder_named other = None

-- A content names who is the holder after it: a new holder always does, a creation where there was no new holder before.
abbrev pub names_holder : Option ℕ → What → Bool
names_holder before (what.Created made) = is_none before
names_holder before (what.Holder person) = true
names_holder before other = false

-- the right after an entry
abbrev pub state_by : RightState → Entry → RightState
state_by before e = record {
  live = live_by before.live e.what;
  created = created_by before.created e.what;
  entered = entered_by e.day before.entered e.what;
  converted = before.converted || is_conversion e.what;
  new_holder = new_holder_by before.new_holder e.what;
  remaining = remaining_by before.remaining e.what;
  spent = before.spent || is_exercise e.what;
}

-- the right before its first entry
abbrev pub never_created : RightState
never_created = record { live = false; created = None; entered = None; converted = false; new_holder = None; remaining = None; spent = false }

-- the right after these entries
abbrev pub state_on : RightState → List Entry → RightState
state_on start entries = fold state_by start entries

-- the state is what is read from the entries
pub record IsRightState (is : RightState) (entries : List Entry) : Type 0 where
  pub live : is.live ≡ is_live entries
  pub created : is.created ≡ created entries
  pub entered : is.entered ≡ entered_on entries
  pub converted : is.converted ≡ list_any (λ e. is_conversion e.what) entries
  pub new_holder : is.new_holder ≡ fold (λ before e. new_holder_by before e.what) None entries
  pub remaining : is.remaining ≡ fold (λ before e. remaining_by before e.what) None entries
  pub spent : is.spent ≡ is_spent entries

-- a right keeps its state, how many exchanges it is in, and at which places the holder is named after each number of entries
pub record IsRight (is : RightState) (count : ℕ) (entries : List Entry) (naming : List ℕ) : Type 0 where
  pub state : IsRightState is entries
  pub counted : count ≡ exchanges entries
  pub holder : AreNamedAt holder holder_named naming entries

-- the receipts of the entries whose contents pass, in order
abbrev pub numbers_that : (What → Bool) → List Entry → List ℕ
numbers_that t entries = map (λ e. e.receipt) (filter (λ e. t e.what) entries)

-- The first n numbers of a case after an entry by item i: none after a distribution, and one more after a content that
-- passes, where there were fewer.
abbrev pub numbers_behind : ℕ → (What → Bool) → List ℕ → ℕ → What → List ℕ
numbers_behind n t before i w = if is_distribution w then [] else if t w then take n (before ++ i ∷ []) else before

-- the most that is counted of a case's seizures and registrations
abbrev pub most_counted : ℕ
most_counted = 4294967295

-- this is the case of the entries
pub record IsRunning (case_is : Running) (entries : List Entry) : Type 0 where
  pub begin : case entries ≡ drop case_is.begin entries
  pub within : case_is.begin ≤ length entries
  pub seizures : case_is.seizures ≡ min (seizures entries) most_counted
  pub registrations : case_is.registrations ≡ min (registrations entries) most_counted
  pub award : case_is.award ≡ award entries
  pub called : case_is.called ≡ call entries

-- a part keeps its case, and the numbers of the case's first seizures and registrations
pub record IsCase (case_is : Running) (first_seized first_registered : List ℕ) (entries : List Entry) : Type 0 where
  pub running : IsRunning case_is entries
  pub seized : first_seized ≡ take most_seizures (seizure_numbers entries)
  pub registered : first_registered ≡ take most_registrations (registration_numbers entries)

-- the case after a further entry by item i, with so many entries before that one
abbrev pub running_behind : ℕ → Running → ℕ → What → Running
running_behind ahead before i what.Distributed = record { begin = ahead + 1; seizures = 0; registrations = 0; award = None; called = None }
running_behind ahead before i what.Seized =
    record { begin = before.begin; seizures = min (before.seizures + 1) most_counted; registrations = before.registrations; award = before.award; called = before.called }
running_behind ahead before i what.Registered =
    record { begin = before.begin; seizures = before.seizures; registrations = min (before.registrations + 1) most_counted; award = before.award; called = before.called }
running_behind ahead before i (what.Awarded buyer bid) =
    record { begin = before.begin; seizures = before.seizures; registrations = before.registrations; award = Some i; called = before.called }
running_behind ahead before i (what.Bids costs) =
    record { begin = before.begin; seizures = before.seizures; registrations = before.registrations; award = before.award; called = Some i }
running_behind ahead before i other = before
