-- The ranks of rights that stand in the order of filing and group, found in one walk.
use Rattle.std.specs.Prelude.{ℕ, ◌+◌, if◌then◌else◌, List, [], ◌∷◌, ◌++◌, Option, Some, None}
use Rattle.folio_line.specs.FolioRights.{has_same_place}
use Rattle.folio_extract.specs.RankTables.{rank_line}
use Rattle.folio_line.specs.declared.folio_rights.CreatedRight.{CreatedRight}

-- the rank of a right, from that of the right before it
abbrev pub rank_behind : ℕ → Option CreatedRight → CreatedRight → ℕ
rank_behind rank None x = rank + 1
rank_behind rank (Some before) x = if has_same_place before x then rank else rank + 1

-- the lines of these rights with their ranks, from the rank of the right before them
abbrev pub ranked_lines : ℕ → Option CreatedRight → List CreatedRight → List ℕ
ranked_lines rank before [] = []
ranked_lines rank before (x ∷ xs) = rank_line (rank_behind rank before x) x ++ ranked_lines (rank_behind rank before x) (Some x) xs
