-- Open folios in a list, in any order.
use Rattle.std.specs.Prelude.{◌≡◌, ℕ, ◌==◌, Bool, if◌then◌else◌, List, Option, Some, None}
use Rattle.std.specs.List.{list_any}
use Rattle.gb_base.specs.declared.keys.Key.{Key}
use Rattle.gb_base.specs.declared.keys.Key.TheVariants.{Title, Right, Case}
use Rattle.folio_sections.specs.Titles.{is_open}
use Rattle.folio_sections.specs.declared.entries.Entry.{Entry}

-- the folio whose title has this key, where it is not open
abbrev pub closed_folio_of_title : (Key → List Entry) → Key → Option ℕ
closed_folio_of_title at (Title folio) = if is_open (at (Title folio)) then None else Some folio
closed_folio_of_title at (Right folio right) = None
closed_folio_of_title at (Case folio) = None

-- the folio is among these
abbrev pub is_listed : List ℕ → ℕ → Bool
is_listed folios folio = list_any (λ f. f == folio) folios

-- just the open folios are listed
abbrev pub AreListed : List ℕ → (Key → List Entry) → Type 0
AreListed folios at = (folio : ℕ) → is_listed folios folio ≡ is_open (at (Title folio))
