-- Extensions: a filing whose deadline is not over waits until a later one (GBO § 18(1)).
use Rattle.std.specs.Prelude.{ℕ, nat_lt, if◌then◌else◌, List, []}
use Rattle.std.specs.Option.{option_map_or}
use Rattle.gb_base.specs.Deadlines.{deadline_after}
use Rattle.gb_base.specs.declared.keys.Key.{Key}
use Rattle.act_model.specs.Receiving.{day_of, receipt_at}
use Rattle.act_model.specs.declared.items.Item.{Item}
use Rattle.act_model.specs.declared.items.Item.TheVariants as item
use Rattle.act_model.specs.declared.receipts.Receipt.{Receipt}
use Rattle.folio_sections.specs.declared.entries.Entry.{Entry}
use Rattle.interim_orders.specs.Orders.{state_of, waiting_brought}
use Rattle.interim_orders.specs.declared.answers.Extension.{Extension}
use Rattle.interim_orders.specs.declared.answers.Extension.TheVariants as answer
use Rattle.interim_orders.specs.declared.states.FilingState.{FilingState}
use Rattle.interim_orders.specs.declared.states.FilingState.TheVariants as state

-- the answer on this day to who wants a later deadline: the deadline may not be over, and the one that is wanted has to be later
abbrev pub extension_by : ℕ → ℕ → FilingState → Extension
extension_by day later (state.Pending until) =
    if nat_lt until day then answer.TooLate until
    else (if nat_lt until later then answer.Extended later else answer.NotLater until)
extension_by day later state.NotPending = answer.NotPending

-- the answer to item i, by which filing m is to wait until so many days after it
abbrev pub extended : List Receipt → ℕ → ℕ → ℕ → (Key → List Entry) → Extension
extended journal m days i at = extension_by (day_of journal i) (deadline_after days (day_of journal i)) (state_of journal m i at)

-- an answer that extends the deadline of filing m brings that it waits until the later one, any other nothing
abbrev pub brought_by_extension : List Receipt → ℕ → ℕ → Extension → List Entry
brought_by_extension journal m i (answer.Extended until) = waiting_brought journal m i until
brought_by_extension journal m i (answer.TooLate until) = []
brought_by_extension journal m i (answer.NotLater until) = []
brought_by_extension journal m i answer.NotPending = []

-- what item i brings, by which filing m is to wait until so many days after it
abbrev pub extension_brought : List Receipt → ℕ → ℕ → ℕ → (Key → List Entry) → List Entry
extension_brought journal m days i at = brought_by_extension journal m i (extended journal m days i at)

-- ---- by the item that the journal has

-- the answer to item i, where it is this one: one that is no extension is answered that nothing waits
abbrev pub answer_by_item : List Receipt → ℕ → (Key → List Entry) → Item → Extension
answer_by_item journal i at (item.Extend m days) = extended journal m days i at
answer_by_item journal i at other = answer.NotPending

-- what item i brings as an extension, where it is this one
abbrev pub extension_by_item : List Receipt → ℕ → (Key → List Entry) → Item → List Entry
extension_by_item journal i at (item.Extend m days) = extension_brought journal m days i at
extension_by_item journal i at other = []

-- the answer to receipt i as an extension
abbrev pub answer_to_extension : List Receipt → ℕ → (Key → List Entry) → Extension
answer_to_extension journal i at = option_map_or (λ r. answer_by_item journal i at r.item) (receipt_at journal i) answer.NotPending

-- what receipt i brings as an extension
abbrev pub extension_by_receipt : List Receipt → ℕ → (Key → List Entry) → List Entry
extension_by_receipt journal i at = option_map_or (λ r. extension_by_item journal i at r.item) (receipt_at journal i) []
