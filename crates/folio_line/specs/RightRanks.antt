-- The rank of a right in its folio (BGB § 879).
use Rattle.std.specs.Prelude.{ℕ, ◌+◌, Bool, if◌then◌else◌, List, [], ◌∷◌, filter}
use Rattle.std.specs.List.{list_any}
use Rattle.folio_sections.specs.declared.title_places.TitlePlace.{TitlePlace}
use Rattle.kept_registers.specs.Ranks.{is_ahead, ranked}
use Rattle.folio_line.specs.FolioRights.{has_same_place}
use Rattle.folio_line.specs.declared.folio_rights.CreatedRight.{CreatedRight}

-- how many different places, each a filing and a group, these rights have
abbrev pub different_places : List CreatedRight → ℕ
different_places [] = 0
different_places (x ∷ xs) = if list_any (has_same_place x) xs then different_places xs else different_places xs + 1

-- right x stands ahead of right y on these places
abbrev pub stands_ahead : List TitlePlace → CreatedRight → CreatedRight → Bool
stands_ahead standing x y = is_ahead standing (ranked x.id x.made) (ranked y.id y.made)

-- the rank of right y: one more than the number of different places ahead of it
abbrev pub rank_of : List TitlePlace → List CreatedRight → CreatedRight → ℕ
rank_of standing rights y = 1 + different_places (filter (λ x. stands_ahead standing x y) rights)
