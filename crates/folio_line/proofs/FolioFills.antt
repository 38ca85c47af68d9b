-- The line of a folio in a kept register is one that slots can be filled with.
use Rattle.std.proofs.Common.{◌≡◌, ℕ, ◌≤◌, Bool, true, false, not, ◌||◌, List, [], ◌∷◌, All, fold, IfSome, length, map, Option, Some, None, option_map, sym, ap, subst, ◌∙◌, arith}
use Rattle.std.specs.List.{AllByRecursion, IsDistinct}
use Rattle.std.specs.Option.{option_map_or, option_or}
use Rattle.std.proofs.lemmas.Bool.{false≢true, or_left, or_right}
use Rattle.std.proofs.lemmas.List.Sums.{sum_by-le}
use Rattle.gb_base.specs.Limits.{most_cents}
use Rattle.gb_base.specs.RightNo.{RightNo, same_right}
use Rattle.gb_base.specs.declared.keys.Key.{Key}
use Rattle.gb_base.specs.declared.keys.Key.TheVariants.{Right}
use Rattle.gb_base.proofs.Members.{In}
use Rattle.gb_base.proofs.SameRights.{right_self}
use Rattle.act_model.specs.Receiving.{IsJournal}
use Rattle.act_model.specs.declared.receipts.Receipt.{Receipt}
use Rattle.kept_registers.specs.Kept.{Kept}
use Rattle.kept_registers.specs.KeptCases.{LeavesCents}
use Rattle.folio_sections.specs.Rights.{created, is_live, remaining_by}
use Rattle.folio_sections.specs.declared.entries.Created.{Created}
use Rattle.folio_sections.specs.declared.entries.Entry.{Entry}
use Rattle.folio_sections.specs.declared.entries.What.{What}
use Rattle.folio_sections.specs.declared.entries.What.TheVariants as what
use Rattle.folio_sections.proofs.FilteredLists.{any_in}
use Rattle.rank_slots.specs.CanFill.{CanFill}
use Rattle.rank_slots.specs.Limits.{most_places}
use Rattle.rank_slots.specs.declared.places.Place.{Place}
use Rattle.rank_slots.specs.declared.places.Swap.{Swap}
use Rattle.folio_line.specs.Exchanges.{counted_exchanges}
use Rattle.rank_slots.specs.Filled.{Filled}
use Rattle.folio_line.specs.FolioSlots.{capital_at, folio_filled, is_gone, recedes, stands_on_line, swap_of}
use Rattle.folio_line.specs.FolioRights.{rights_where}
use Rattle.folio_line.specs.declared.exchanges.Exchange.{Exchange}
use Rattle.folio_line.specs.declared.folio_rights.CreatedRight.{CreatedRight}
use Rattle.folio_line.proofs.CountedExchanges.{is_counted}
use Rattle.folio_line.proofs.CountedExercises.{share_a_right}
use Rattle.folio_line.proofs.CreatedRights.{is_in_ranges}
use Rattle.folio_line.proofs.GroupsWritten.{line_written}
use Rattle.folio_line.proofs.LineFills.{IsLine, few_places, line_can_fill}
use Rattle.folio_line.proofs.PlacedOrder.{of_placed_rights}
use Rattle.folio_line.proofs.UntiedAlone.{line_places}
use Rattle.folio_line.proofs.RightsInOrder.{RightsInOrder, is_created_here, kept_in_order}

-- ---- each capital is an amount

-- an amount, from one cent
abbrev pub IsAmount : ℕ → Type 0
IsAmount c = (1 ≤ c) × (c ≤ most_cents)

-- what remains of the right after these entries is an amount, where something remains
remains_from : (before : Option ℕ) (es : List Entry) → IfSome before IsAmount → AllByRecursion (λ e. LeavesCents e.what) es → IfSome (fold (λ b e. remaining_by b e.what) before es) IsAmount
remains_from before [] old all = old
remains_from before (e ∷ es) old all = remains_from (remaining_by before e.what) es (next before e.what old all.0) all.1
  where
    next : (o : Option ℕ) (w : What) → IfSome o IsAmount → LeavesCents w → IfSome (remaining_by o w) IsAmount
    next o (what.Remains capital) had leaves = leaves
    next o other had leaves = had

-- where something remains it is an amount, and else the capital that the act names is
amount_left : (o : Option ℕ) (k : ℕ) → IfSome o IsAmount → IsAmount k → IsAmount (option_map_or (λ c. c) (option_or o (Some k)) 0)
amount_left None k had own = own
amount_left (Some c) k had own = had

-- the capital of a right that is created
pub is_amount : (journal : List Receipt) (at : Key → List Entry) (folio : ℕ) (x : CreatedRight) → RightsInOrder journal at → IsJournal journal → created (at (Right folio x.id)) ≡ Some x.made → IsAmount (capital_at at folio x.id)
is_amount journal at folio x order stands is =
    let entries = at (Right folio x.id) in
    let ranges = is_in_ranges journal folio x.id x.made stands (is_created_here journal at folio x.id x.made order is) in
    let remains = fold (λ b (e : Entry). remaining_by b e.what) None entries in
    let left = remains_from None entries tt (order.remains folio x.id) in
    subst (λ o. IsAmount (option_map_or (λ c. c) (option_or remains (option_map (λ (made : Created). made.spec.capital) o)) 0)) (sym is) (amount_left remains x.made.spec.capital left (ranges.capital, ranges.capital_to))

-- ---- together

-- a dropped place is of a right that recedes
pub gone_recedes : (live gives : Bool) → (live || gives) ≡ true → not live ≡ true → gives ≡ true
gone_recedes true gives stands gone = absurd (false≢true gone)
gone_recedes false gives stands gone = stands

-- the places of the folio's line with these claims
abbrev pub counted_places : (RightNo → ℕ) → (Key → List Entry) → ℕ → List Place
counted_places claims at folio = line_places claims (is_gone at folio) (counted_exchanges at folio) at folio

-- the rights that stand on the line of the folio
abbrev pub counted_rights : (Key → List Entry) → ℕ → List CreatedRight
counted_rights at folio = rights_where (stands_on_line (counted_exchanges at folio)) at folio

no_knots : IsDistinct share_a_right []
unfolding IsDistinct
no_knots = tt

-- the line of a folio is made of the rights that stand on it and of all exchanges that count
folio_line_is : (journal : List Receipt) (at : Key → List Entry) (folio : ℕ) → RightsInOrder journal at → IsLine at folio (stands_on_line (counted_exchanges at folio)) (counted_exchanges at folio) []
folio_line_is journal at folio order =
    let exchanges = counted_exchanges at folio in
    record {
      counted = λ y there. there;
      recede = λ y there. or_right (is_live (at (Right folio y.recede))) (recedes exchanges y.recede) (any_in (λ (x : Exchange). same_right x.recede y.recede) exchanges y there (right_self y.recede));
      rise = λ y there. or_left (is_live (at (Right folio y.rise))) (recedes exchanges y.rise) (is_counted journal at folio y order there).live;
      gone = λ x there gone. gone_recedes (is_live (at (Right folio x.id))) (recedes exchanges x.id) (of_placed_rights (stands_on_line exchanges) at folio x there).stands gone;
      exercised = λ k never. absurd never;
      reserved = λ k never. absurd never;
      entered = λ k never. absurd never;
      once = no_knots;
    }

-- these places and exchanges, without knots
abbrev pub filled_of : List Place → List Swap → Filled
filled_of places swaps = record { places = places; swaps = swaps; knots = [] }

-- The places and the exchanges of a folio's line, with claims that are each an amount, are such that slots can be filled with them.
pub can_fill : (claims : RightNo → ℕ) (journal : List Receipt) (at : Key → List Entry) (folio : ℕ) (exchanges : List Exchange) (places : List Place) (swaps : List Swap) → Kept journal at → IsJournal journal
    → ((x : CreatedRight) → In x (counted_rights at folio) → 1 ≤ claims x.id)
    → exchanges ≡ counted_exchanges at folio → places ≡ line_places claims (is_gone at folio) exchanges at folio → swaps ≡ map swap_of exchanges → All (λ p. p.claim ≤ most_cents) places
    → CanFill (record { places = places; swaps = swaps; knots = [] })
can_fill claims journal at folio exchanges places swaps kept stands some counted placed swapped bound =
    let all = counted_exchanges at folio in
    let line = counted_places claims at folio in
    let holds = stands_on_line all in
    let order = kept_in_order journal at kept in
    let of_folio : places ≡ line = placed ∙ ap (λ xs. line_places claims (is_gone at folio) xs at folio) counted in
    let of_exchanges : swaps ≡ map swap_of all = swapped ∙ ap (map swap_of) counted in
    let few : length line ≤ most_places = few_places claims journal at folio holds order stands in
    let sum = sum_by-le (λ (p : Place). p.claim) most_cents line (subst (All (λ (p : Place). p.claim ≤ most_cents)) of_folio bound) in
    subst CanFill (λ i. filled_of (sym of_folio i) (sym of_exchanges i))
    (line_can_fill claims journal at folio holds all [] (record { order = order; journal_is = stands; line = folio_line_is journal at folio order }) some (omega (arith, few, sum)))

-- the capitals of the rights on the line are amounts
pub capitals_from : (journal : List Receipt) (at : Key → List Entry) (folio : ℕ) → Kept journal at → IsJournal journal → (x : CreatedRight) → In x (counted_rights at folio) → 1 ≤ capital_at at folio x.id
capitals_from journal at folio kept stands x there =
    (is_amount journal at folio x (kept_in_order journal at kept) stands (of_placed_rights (stands_on_line (counted_exchanges at folio)) at folio x there).made).0

-- these places and exchanges are what the line of the folio is filled with
pub line_is : (at : Key → List Entry) (folio : ℕ) (exchanges : List Exchange) (places : List Place) (swaps : List Swap)
    → exchanges ≡ counted_exchanges at folio → places ≡ line_places (capital_at at folio) (is_gone at folio) exchanges at folio → swaps ≡ map swap_of exchanges
    → filled_of places swaps ≡ folio_filled at folio
line_is at folio exchanges places swaps counted placed swapped =
    let claims = capital_at at folio in
    let gone = is_gone at folio in
    let places_are = placed ∙ ap (λ xs. line_places claims gone xs at folio) counted ∙ line_written claims gone (stands_on_line (counted_exchanges at folio)) at folio in
    let swaps_are = swapped ∙ ap (map swap_of) counted in
    λ i. filled_of (places_are i) (swaps_are i)
