-- What is read from the entries at a right.
use Rattle.std.specs.Prelude.{ℕ, Bool, true, false, if◌then◌else◌, List, count_by, fold, Option, Some, None, option_map, is_some}
use Rattle.std.specs.Option.{option_or}
use Rattle.std.specs.List.{list_any}
use Rattle.folio_sections.specs.Waiting.{notice, before_notice}
use Rattle.folio_sections.specs.declared.entries.Created.{Created}
use Rattle.folio_sections.specs.declared.entries.Entry.{Entry}
use Rattle.folio_sections.specs.declared.entries.RightForm.{RightForm}
use Rattle.folio_sections.specs.declared.entries.RightForm.TheVariants as form
use Rattle.folio_sections.specs.declared.entries.What.{What}
use Rattle.folio_sections.specs.declared.entries.What.TheVariants as what

-- the right as created, after a content: the one that it creates, else the one before
abbrev pub created_by : Option Created → What → Option Created
created_by before (what.Created made) = Some made
created_by before other = before

-- the right as it was created (BGB § 873)
abbrev pub created : List Entry → Option Created
created entries = fold (λ before e. created_by before e.what) None entries

-- the day on which a right was entered, after a content: the content's day where it creates the right, else the one before
abbrev pub entered_by : ℕ → Option ℕ → What → Option ℕ
entered_by day before (what.Created made) = Some day
entered_by day before other = before

-- the day on which the right was entered (BGB § 873)
abbrev pub entered_on : List Entry → Option ℕ
entered_on entries = fold (λ before e. entered_by e.day before e.what) None entries

-- whether the right is live after a content
abbrev pub live_by : Bool → What → Bool
live_by before (what.Created made) = true
live_by before (what.Cancelled expired) = false
live_by before what.Expired = false
live_by before other = before

-- the right is live: it was created, and neither cancelled nor expired since (BGB § 875, ZVG § 91)
abbrev pub is_live : List Entry → Bool
is_live entries = fold (λ before e. live_by before e.what) false entries

-- the right as it was created, where it is live
abbrev pub live_right : List Entry → Option Created
live_right entries = if is_live entries then created entries else None

-- a content enters the right of a priority notice (BGB § 883(3))
abbrev pub is_conversion : What → Bool
is_conversion what.Converted = true
is_conversion other = false

-- the form of the right: full once it is converted (BGB § 883(3)), else the one in which it was created
abbrev pub form_of : List Entry → Option RightForm
form_of entries =
    option_map (λ made. if list_any (λ e. is_conversion e.what) entries then form.Full else made.form) (created entries)

-- the form is the full one
abbrev pub is_full_form : Option RightForm → Bool
is_full_form (Some form.Full) = true
is_full_form (Some form.Notice) = false
is_full_form None = false

-- the right itself is entered, and not only a priority notice for it (BGB § 883)
abbrev pub is_full : List Entry → Bool
is_full entries = is_full_form (form_of entries)

-- the last new holder, after a content: the one that it names, else the one before
abbrev pub new_holder_by : Option ℕ → What → Option ℕ
new_holder_by before (what.Holder person) = Some person
new_holder_by before other = before

-- the holder: the last new one, else the one with whom the right was created (BGB § 873)
abbrev pub holder : List Entry → Option ℕ
holder entries =
    option_or (fold (λ before e. new_holder_by before e.what) None entries) (option_map (λ made. made.spec.holder) (created entries))

-- the holder whom filing m concerns (GBO § 18(2)): that of the moment of its official notice, where it stands, else the holder
abbrev pub holder_for : ℕ → List Entry → Option ℕ
holder_for m entries = if is_some (notice m entries) then holder (before_notice m entries) else holder entries

-- the capital that the last award left, after a content: the one that it leaves, else the one before
abbrev pub remaining_by : Option ℕ → What → Option ℕ
remaining_by before (what.Remains capital) = Some capital
remaining_by before other = before

-- the capital: the one that the last award left, else the one with which the right was created (ZVG § 52)
abbrev pub capital : List Entry → Option ℕ
capital entries =
    option_or (fold (λ before e. remaining_by before e.what) None entries) (option_map (λ made. made.spec.capital) (created entries))

-- a content spends the right's reservation (BGB § 881)
abbrev pub is_exercise : What → Bool
is_exercise (what.Exercised by) = true
is_exercise other = false

-- the right's reservation is spent (BGB § 881)
abbrev pub is_spent : List Entry → Bool
is_spent entries = list_any (λ e. is_exercise e.what) entries

-- a content exchanges the right's rank with that of another (BGB § 880)
abbrev pub is_exchange : What → Bool
is_exchange (what.Exchanged recede rise act) = true
is_exchange other = false

-- how many exchanges the right is in, whether they count or not (BGB § 880)
abbrev pub exchanges : List Entry → ℕ
exchanges entries = count_by (λ e. is_exchange e.what) entries
