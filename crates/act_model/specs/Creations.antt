-- The creating acts of a folio, named by the rights that they create, and the creating rank of a right: the number of its act
-- among them. They follow from the journal alone, whatever became of the filings: a right counts though it was never entered.
use Rattle.std.specs.Prelude.{ℕ, ◌+◌, Bool, ◌&&◌, ◌==◌, if◌then◌else◌, List, [], filter_map, flat_map, position, Option, Some, None, option_map, option_and_then, is_some}
use Rattle.std.specs.List.{enumerate_from}
use Rattle.gb_base.specs.RightNo.{RightNo, same_right}
use Rattle.act_model.specs.declared.filing_acts.Act.{Act}
use Rattle.act_model.specs.declared.items.Item.{Item}
use Rattle.act_model.specs.declared.items.Item.TheVariants as item
use Rattle.act_model.specs.declared.receipts.Receipt.{Receipt}
use Rattle.act_model.specs.Acts.{folio_of, right_created}
use Rattle.act_model.specs.Touches.{act_at, filing_at, new_right}

-- the act creates a right in the folio
abbrev pub creates_in : ℕ → Act → Bool
creates_in folio act = is_some (right_created act) && folio_of act == folio

-- the right that act `numbered.1`, which has the number `numbered.0` in filing m, creates in the folio; none where it creates
-- none there
abbrev pub creation_in : ℕ → ℕ → ℕ × Act → Option RightNo
creation_in folio m numbered = if creates_in folio numbered.1 then Some (new_right m numbered.0) else None

-- the rights that these acts of filing m create in the folio, in the order of the acts
abbrev pub creations_of_acts : ℕ → ℕ → List Act → List RightNo
creations_of_acts folio m acts = filter_map (creation_in folio m) (enumerate_from 1 acts)

-- the rights that item m applies for in the folio: those that its acts create where it is a filing, else none
abbrev pub creations_of_item : ℕ → ℕ → Item → List RightNo
creations_of_item folio m (item.Filing f) = creations_of_acts folio m f.acts
creations_of_item folio m other = []

-- the rights that all filings of the journal apply for in the folio, by receipt, and in a filing by act
abbrev pub creations_in : List Receipt → ℕ → List RightNo
creations_in journal folio = flat_map (λ numbered. creations_of_item folio numbered.0 numbered.1.item) (enumerate_from 1 journal)

-- the folio of the act; none where it creates no right
abbrev pub folio_of_creation : Act → Option ℕ
folio_of_creation act = if is_some (right_created act) then Some (folio_of act) else None

-- the folio of the act that creates this right; none where the journal has no such act, or it creates no right
abbrev pub folio_of_right : List Receipt → RightNo → Option ℕ
folio_of_right journal right =
    option_and_then folio_of_creation (option_and_then (λ f. act_at f right.act) (filing_at journal right.receipt))

-- the creating rank of a right: the number, from 1, of its act among all creating acts of its folio; none where the journal has
-- no such act
abbrev pub creating_rank : List Receipt → RightNo → Option ℕ
creating_rank journal right =
    option_and_then (λ folio. option_map (λ i. i + 1) (position (same_right right) (creations_in journal folio))) (folio_of_right journal right)
