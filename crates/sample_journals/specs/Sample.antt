-- The generated journal: a large journal of valid items, the same for the same seed and size.
use Rattle.std.specs.Prelude.{ℕ, zero, suc, ◌+◌, ◌-◌, ◌/◌, ◌%◌, List, [], ◌∷◌, ◌++◌, map, length, set, slice_get}
use Rattle.std.specs.List.{range_with_len}
use Rattle.std.specs.Option.{unwrap_or}
use Rattle.gb_base.specs.DayMinute.{DayMinute}
use Rattle.act_model.specs.declared.items.Item.{Item}
use Rattle.act_model.specs.declared.receipts.Receipt.{Receipt}
use Rattle.sample_journals.specs.declared.folio_notes.FolioNotes.{FolioNotes}
use Rattle.sample_journals.specs.Draws.{drawn, state_after}
use Rattle.sample_journals.specs.SampleFilings.{opening}
use Rattle.sample_journals.specs.Turns.{Turn, day_of_receipt, first_notes, turn}

-- when receipt k comes in: one a minute, from eight o'clock on
abbrev pub stamp_of_receipt : ℕ → DayMinute
stamp_of_receipt k = record { day = day_of_receipt k; minute = 480 + k % 64 }

-- receipt k of this item; sender 1 calls it k
abbrev pub receipt_of : ℕ → Item → Receipt
receipt_of k item = record { stamp = stamp_of_receipt k; sender = 1; reference = k; item = item }

-- receipt k, which opens folio k
abbrev pub opening_receipt : ℕ → Receipt
opening_receipt k = receipt_of k (opening k)

-- the generator: the state of the draws, and what is kept of each folio, folio 1 first
pub record GeneratorState : Type 0 where
  pub state : ℕ
  pub folios : List FolioNotes

-- what is kept of folio f
abbrev pub notes_of : List FolioNotes → ℕ → FolioNotes
notes_of folios f = unwrap_or (slice_get folios (f - 1)) (first_notes f)

-- the folio that is drawn for the next receipt
abbrev pub folio_drawn : GeneratorState → ℕ
folio_drawn g = 1 + drawn g.state (length g.folios)

-- the turn of receipt k: its folio is drawn, then one of eleven kinds
abbrev pub turn_of : ℕ → GeneratorState → Turn
turn_of k g =
    turn (drawn (state_after g.state) 11) k (folio_drawn g) (notes_of g.folios (folio_drawn g)) (state_after (state_after g.state))

-- the generator after receipt k
abbrev pub generator_after : ℕ → GeneratorState → GeneratorState
generator_after k g = record { state = (turn_of k g).state; folios = set g.folios (folio_drawn g - 1) (turn_of k g).notes }

-- so many receipts, from receipt k on
abbrev pub drawn_receipts : ℕ → ℕ → GeneratorState → List Receipt
drawn_receipts zero k g = []
drawn_receipts (suc n) k g = receipt_of k (turn_of k g).item ∷ drawn_receipts n (k + 1) (generator_after k g)

-- how many folios a journal of this size opens
abbrev pub folios_of_size : ℕ → ℕ
folios_of_size size = 1 + size / 16

-- the generator before the first draw
abbrev pub generator_of : ℕ → ℕ → GeneratorState
generator_of seed folios = record { state = seed; folios = map first_notes (range_with_len 1 folios) }

-- the journal of this seed, with so many receipts: first the openings of all folios, and then what is drawn
unfoldable pub sample : ℕ → ℕ → List Receipt
sample seed size =
    let folios = folios_of_size size in
    map opening_receipt (range_with_len 1 folios) ++ drawn_receipts (size - folios) (folios + 1) (generator_of seed folios)
