-- Lapses: a filing that still waits after its deadline is rejected by a lapse, and not by the deadline alone (GBO § 18(1)).
use Rattle.std.specs.Prelude.{ℕ, nat_lt, if◌then◌else◌, List, [], Option, Some, None, option_and_then}
use Rattle.std.specs.Option.{option_map_or}
use Rattle.gb_base.specs.declared.keys.Key.{Key}
use Rattle.act_model.specs.Receiving.{day_of, receipt_at}
use Rattle.act_model.specs.declared.items.Item.{Item}
use Rattle.act_model.specs.declared.items.Item.TheVariants as item
use Rattle.act_model.specs.declared.receipts.Receipt.{Receipt}
use Rattle.folio_sections.specs.declared.entries.Entry.{Entry}
use Rattle.interim_orders.specs.Orders.{end_brought, state_of}
use Rattle.interim_orders.specs.declared.states.FilingState.{FilingState}
use Rattle.interim_orders.specs.declared.states.FilingState.TheVariants as state
use Rattle.interim_orders.specs.declared.answers.Lapse.{Lapse}
use Rattle.interim_orders.specs.declared.answers.Lapse.TheVariants as answer

-- the filing whose lapse the item states
abbrev pub lapse_in : Item → Option ℕ
lapse_in (item.Lapse m) = Some m
lapse_in other = None

-- the filing whose lapse item i states; none where it is another item
abbrev pub lapse_at : List Receipt → ℕ → Option ℕ
lapse_at journal i = option_and_then (λ r. lapse_in r.item) (receipt_at journal i)

-- the answer to a lapse on this day: the deadline has to be over
abbrev pub lapse_by : ℕ → FilingState → Lapse
lapse_by day (state.Pending until) = if nat_lt until day then answer.Rejected else answer.TooEarly until
lapse_by day state.NotPending = answer.NotPending

-- the answer to item i as the lapse of a filing; where the item is no lapse, the answer is that nothing waits
abbrev pub lapsed : List Receipt → ℕ → (Key → List Entry) → Lapse
lapsed journal i at = option_map_or (λ m. lapse_by (day_of journal i) (state_of journal m i at)) (lapse_at journal i) answer.NotPending

-- an answer that rejects brings the end of the waiting, any other nothing
abbrev pub brought_by_lapse : List Entry → Lapse → List Entry
brought_by_lapse ended answer.Rejected = ended
brought_by_lapse ended (answer.TooEarly until) = []
brought_by_lapse ended answer.NotPending = []

-- what item i brings as the lapse of a filing
abbrev pub lapse_brought : List Receipt → ℕ → (Key → List Entry) → List Entry
lapse_brought journal i at = option_map_or (λ m. brought_by_lapse (end_brought journal m i) (lapsed journal i at)) (lapse_at journal i) []
