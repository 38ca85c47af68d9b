-- The rank table of a folio: the ranks of its rights, the exchanges and exercised reservations that count, and the cents after the exchanges.
-- Why so: docs/DECISIONS.md, "Printed ranks are those of the places".
use Rattle.std.specs.Prelude.{ℕ, if◌then◌else◌, List, ◌++◌, codes, flat_map, Option, Some, None}
use Rattle.std.specs.Fmt.{decimal}
use Rattle.gb_base.specs.RightNo.{RightNo}
use Rattle.gb_base.specs.Texts.{right_text}
use Rattle.gb_base.specs.declared.keys.Key.{Key}
use Rattle.gb_base.specs.declared.keys.Key.TheVariants.{Title}
use Rattle.act_model.specs.declared.receipts.Receipt.{Receipt}
use Rattle.folio_sections.specs.Places.{places}
use Rattle.folio_sections.specs.Titles.{is_open}
use Rattle.folio_sections.specs.declared.entries.Entry.{Entry}
use Rattle.folio_sections.specs.declared.title_places.TitlePlace.{TitlePlace}
use Rattle.rank_slots.specs.declared.places.Knot.{Knot}
use Rattle.folio_extract.specs.CentTexts.{line_text}
use Rattle.folio_line.specs.Exchanges.{counted_exchanges, counted_exercises}
use Rattle.folio_line.specs.FolioSlots.{folio_filled}
use Rattle.folio_line.specs.FolioRights.{live_rights}
use Rattle.folio_line.specs.RightRanks.{rank_of}
use Rattle.folio_line.specs.declared.exchanges.Exchange.{Exchange}
use Rattle.folio_line.specs.declared.folio_rights.CreatedRight.{CreatedRight}

-- ---- ranks

-- the line of a right with its rank
abbrev pub rank_line : ℕ → CreatedRight → List ℕ
rank_line rank x = codes "rank " ++ (decimal rank ++ (codes " " ++ (right_text x.id ++ codes "\n")))

-- these rights with their ranks
abbrev pub rank_lines : List TitlePlace → List CreatedRight → List ℕ
rank_lines standing rights = flat_map (λ x. rank_line (rank_of standing rights x) x) rights

-- ---- exchanges

-- two rights behind a word
abbrev pub pair_line : List ℕ → RightNo → RightNo → List ℕ
pair_line word x y = word ++ (codes " " ++ (right_text x ++ (codes " " ++ (right_text y ++ codes "\n"))))

-- an exchange: the right that recedes, and the one that rises (BGB § 880)
abbrev pub exchange_line : Exchange → List ℕ
exchange_line x = pair_line (codes "exchange") x.recede x.rise

-- an exercised reservation: the right that reserved, and the one that was entered (BGB § 881)
abbrev pub exercise_line : Knot → List ℕ
exercise_line k = pair_line (codes "exercise") k.reserved k.exercised

-- ---- together

-- the rank table of a folio
unfoldable pub rank_table_text : List Receipt → (Key → List Entry) → ℕ → List ℕ
rank_table_text journal at folio =
    codes "ranks " ++ (decimal folio ++ (codes "\n" ++ (rank_lines (places journal at folio) (live_rights at folio)
    ++ (flat_map exchange_line (counted_exchanges at folio) ++ (flat_map exercise_line (counted_exercises at folio)
    ++ line_text (folio_filled at folio))))))

-- the rank table of a folio; none where the folio is not open
abbrev pub rank_table : List Receipt → (Key → List Entry) → ℕ → Option (List ℕ)
rank_table journal at folio = if is_open (at (Title folio)) then Some (rank_table_text journal at folio) else None
