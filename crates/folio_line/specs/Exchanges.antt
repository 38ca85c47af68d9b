-- The exchanges of rank and the exercised reservations of a folio that count (BGB §§ 880, 881).
-- Why so: docs/DECISIONS.md, "Counting exchanges are read at the right that rose".
-- Why so: docs/DECISIONS.md, "Exchanges are filtered by receipt and act".
use Rattle.std.specs.Prelude.{ℕ, Bool, false, not, ◌==◌, ◌&&◌, ◌||◌, if◌then◌else◌, List, filter, filter_map, flat_map, Option, Some, None, is_some, option_and_then}
use Rattle.std.specs.List.{list_any, range_with_len}
use Rattle.gb_base.specs.Limits.{most_acts}
use Rattle.gb_base.specs.RightNo.{RightNo, same_right}
use Rattle.gb_base.specs.declared.keys.Key.{Key}
use Rattle.gb_base.specs.declared.keys.Key.TheVariants.{Right}
use Rattle.folio_sections.specs.HeldRights.{receipt_numbers}
use Rattle.folio_sections.specs.Rights.{created, is_live}
use Rattle.folio_sections.specs.declared.entries.Entry.{Entry}
use Rattle.folio_sections.specs.declared.entries.What.{What}
use Rattle.folio_sections.specs.declared.entries.What.TheVariants as what
use Rattle.rank_slots.specs.declared.places.Knot.{Knot}
use Rattle.folio_line.specs.FolioRights.{live_by_act, live_rights}
use Rattle.folio_line.specs.declared.exchanges.Exchange.{Exchange}
use Rattle.folio_line.specs.declared.folio_rights.CreatedRight.{CreatedRight}

-- ---- exchanges

-- a content by which the right rises, as item n entered it
abbrev pub rise_by : RightNo → ℕ → What → Option Exchange
rise_by right n (what.Exchanged recede rise act) =
    if same_right rise right then Some (record { item = n; act = act; recede = recede; rise = rise }) else None
rise_by right n other = None

-- a content cancels the right by consent, without a proof that it expired
abbrev pub is_cancellation_by_consent : What → Bool
is_cancellation_by_consent (what.Cancelled expired) = not expired
is_cancellation_by_consent other = false

-- the cents of a right stay for those that rose into its rank: it is live, or it was created and cancelled without a proof that it
-- expired (BGB § 880(4))
abbrev pub keeps_cents : List Entry → Bool
keeps_cents entries = is_live entries || (is_some (created entries) && list_any (λ e. is_cancellation_by_consent e.what) entries)

-- the exchanges by which a live right rises, and that count
abbrev pub counted_at : (Key → List Entry) → ℕ → CreatedRight → List Exchange
counted_at at folio x =
    filter (λ y. keeps_cents (at (Right folio y.recede))) (filter_map (λ e. rise_by x.id e.receipt e.what) (at (Right folio x.id)))

-- the exchange is by receipt n, as act a of its filing
abbrev pub is_by : ℕ → ℕ → Exchange → Bool
is_by n a x = x.item == n && x.act == a

-- these exchanges by receipt and act; those of one act stay in their order
abbrev pub in_turn : List Exchange → List Exchange
in_turn exchanges = flat_map (λ n. flat_map (λ a. filter (is_by n a) exchanges) (range_with_len 1 most_acts)) receipt_numbers

-- The exchanges of a folio that count, by item and act: the right that rose is live, and the one that receded is live or was cancelled
-- by consent (BGB § 880).
abbrev pub counted_exchanges : (Key → List Entry) → ℕ → List Exchange
counted_exchanges at folio = in_turn (flat_map (counted_at at folio) (live_rights at folio))

-- ---- exercised reservations

-- a content spends the right's reservation on this right
abbrev pub is_spent_on : RightNo → What → Bool
is_spent_on right (what.Exercised by) = same_right by right
is_spent_on right other = false

-- the exercise by which right x has spent the reservation of the right `reserved`, where that one is live
abbrev pub exercise_behind : (Key → List Entry) → ℕ → CreatedRight → RightNo → Option Knot
exercise_behind at folio x reserved =
    if is_live (at (Right folio reserved)) && list_any (λ e. is_spent_on x.id e.what) (at (Right folio reserved))
    then Some (record { reserved = reserved; exercised = x.id }) else None

-- the exercise by which right x was entered, where that counts
abbrev pub exercise_of : (Key → List Entry) → ℕ → CreatedRight → Option Knot
exercise_of at folio x = option_and_then (exercise_behind at folio x) x.made.ahead_of

-- The exercised reservations of a folio that count, by the exercised right: both rights are live (BGB § 881).
abbrev pub counted_exercises : (Key → List Entry) → ℕ → List Knot
counted_exercises at folio = filter_map (exercise_of at folio) (live_by_act at folio)
