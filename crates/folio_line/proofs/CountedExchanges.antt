-- The exchanges of a kept folio that count: both rights are untied, and the one that rises is live.
use Rattle.std.proofs.Common.{◌≡◌, ℕ, ◌≤◌, Bool, true, false, cond, ◌&&◌, ◌||◌, List, [], ◌∷◌, filter_map, flat_map, fold, IfSome, IsSome, IsSomeAnd, Option, Some, None, is_some, option_map, refl, sym, ap, subst, ◌∙◌}
use Rattle.std.specs.List.{list_any}
use Rattle.std.proofs.lemmas.Bool.{and_parts, false≢true}
use Rattle.gb_base.specs.Limits.{most_acts}
use Rattle.gb_base.specs.RightNo.{RightNo, same_right}
use Rattle.gb_base.specs.declared.keys.Key.{Key}
use Rattle.gb_base.specs.declared.keys.Key.TheVariants.{Right}
use Rattle.gb_base.proofs.Members.{In, of_flat_map}
use Rattle.gb_base.proofs.SameRights.{right_is}
use Rattle.act_model.specs.Receiving.{receipt_at}
use Rattle.act_model.specs.declared.receipts.Receipt.{Receipt}
use Rattle.kept_registers.specs.KeptEntries.{IsStamped}
use Rattle.kept_registers.specs.KeptRights.{IsUntied, StandsUntied}
use Rattle.folio_sections.specs.Rights.{created, created_by, is_live, live_by}
use Rattle.folio_sections.specs.declared.entries.Created.{Created}
use Rattle.folio_sections.specs.declared.entries.Entry.{Entry}
use Rattle.folio_sections.specs.declared.entries.What.{What}
use Rattle.folio_sections.specs.declared.entries.What.TheVariants as what
use Rattle.folio_sections.proofs.FilteredLists.{in_all, of_filter, of_filter_map}
use Rattle.folio_line.specs.Exchanges.{counted_at, counted_exchanges, is_cancellation_by_consent, keeps_cents, rise_by}
use Rattle.folio_line.specs.FolioRights.{live_rights, is_live_with}
use Rattle.folio_line.specs.declared.exchanges.Exchange.{Exchange}
use Rattle.folio_line.proofs.PlacedOrder.{of_placed_rights}
use Rattle.folio_line.proofs.RightsInOrder.{ActsAsFiled, IsFiledUntied, RightsInOrder, is_created_here}
use Rattle.folio_line.proofs.Turns.{of_turn}

-- ---- a right that is live, or keeps its cents, is created

live_next : (live : Bool) (before : Option Created) (w : What) → (live ≡ true → is_some before ≡ true) → live_by live w ≡ true → is_some (created_by before w) ≡ true
live_next live before (what.Created made) known h = refl
live_next live before (what.Cancelled expired) known h = absurd (false≢true h)
live_next live before what.Expired known h = absurd (false≢true h)
live_next live before other known h = known h

live_from : (live : Bool) (before : Option Created) (es : List Entry) → (live ≡ true → is_some before ≡ true) → fold (λ b e. live_by b e.what) live es ≡ true → is_some (fold (λ b e. created_by b e.what) before es) ≡ true
live_from live before [] known h = known h
live_from live before (e ∷ es) known h =
    live_from (live_by live e.what) (created_by before e.what) es (λ now. live_next live before e.what known now) h

pub live_is_created : (es : List Entry) → is_live es ≡ true → is_some (created es) ≡ true
live_is_created es live = live_from false None es (λ no. absurd (false≢true no)) live

keeps_is_created : (es : List Entry) → keeps_cents es ≡ true → is_some (created es) ≡ true
keeps_is_created es keeps =
    elim (is_live es) as (λ b. is_live es ≡ b → (b || (is_some (created es) && list_any (λ e. is_cancellation_by_consent e.what) es)) ≡ true → is_some (created es) ≡ true) [
      | true ↦ λ live _. live_is_created es live
      | false ↦ λ _ gone. (and_parts (is_some (created es)) (list_any (λ (e : Entry). is_cancellation_by_consent e.what) es) gone).0
    ] refl keeps

-- ---- each of them

-- Both rights are untied, the rising one is live, and the exchange is by a receipt of the journal, as one of the acts that a filing has.
pub record IsCounted (journal : List Receipt) (at : Key → List Entry) (folio : ℕ) (y : Exchange) : Type 0 where
  pub recede : StandsUntied journal at folio y.recede
  pub rise : StandsUntied journal at folio y.rise
  pub live : is_live (at (Right folio y.rise)) ≡ true
  pub receipt : IsSome (receipt_at journal y.item)
  pub act_from : 1 ≤ y.act
  pub act_to : y.act ≤ most_acts

-- an exchange by which the right rises, as a receipt entered it
abbrev Rises : List Receipt → ℕ → RightNo → ℕ → Exchange → Type 0
Rises journal folio right receipt y =
    IsFiledUntied journal folio y.recede × IsFiledUntied journal folio y.rise × (same_right y.rise right ≡ true) × (y.item ≡ receipt) × (1 ≤ y.act) × (y.act ≤ most_acts)

rises_here : (journal : List Receipt) (folio : ℕ) (right : RightNo) (receipt : ℕ) (w : What) (y : Exchange) → ActsAsFiled journal folio right w → rise_by right receipt w ≡ Some y → Rises journal folio right receipt y
rises_here journal folio right receipt (what.Exchanged recede rise act) y plain is =
    elim (same_right rise right) as (λ b. same_right rise right ≡ b → cond b (Some (the_exchange recede rise act)) None ≡ Some y → Rises journal folio right receipt y) [
      | true ↦ λ same here. subst (λ o. IfSome o (Rises journal folio right receipt)) here (plain.0, plain.1, same, refl, plain.2, plain.3)
      | false ↦ λ _ never. absurd (false≢true (ap is_some never))
    ] refl is
  where
    the_exchange : RightNo → RightNo → ℕ → Exchange
    the_exchange from to number = record { item = receipt; act = number; recede = from; rise = to }
rises_here journal folio right receipt other y plain is = absurd (false≢true (ap is_some is))

-- a stamped entry is of a receipt of the journal
is_received : (o : Option Receipt) (day : ℕ) → option_map (λ (r : Receipt). r.stamp.day) o ≡ Some day → IsSome o
is_received None day is = absurd (false≢true (ap is_some is))
is_received (Some r) day is = refl

-- a right that is created and filed as an untied one is untied
stands_untied : (journal : List Receipt) (at : Key → List Entry) (folio : ℕ) (right : RightNo) → RightsInOrder journal at → IsFiledUntied journal folio right → is_some (created (at (Right folio right))) ≡ true → StandsUntied journal at folio right
stands_untied journal at folio right stands plain some =
    elim (created (at (Right folio right))) as (λ o. created (at (Right folio right)) ≡ o → is_some o ≡ true → IsSomeAnd o (IsUntied journal right)) [
      | None ↦ λ _ none. absurd (false≢true none)
      | Some made ↦ λ is _. plain made (is_created_here journal at folio right made stands is)
    ] refl some

-- an exchange that counts is found at a live right
pub is_found : (journal : List Receipt) (at : Key → List Entry) (folio : ℕ) (y : Exchange) → RightsInOrder journal at → In y (flat_map (counted_at at folio) (live_rights at folio)) → IsCounted journal at folio y
is_found journal at folio y stands there =
    let live = live_rights at folio in
    let from = of_flat_map (counted_at at folio) live y there in
    let right = from.0.id in
    let entries = at (Right folio right) in
    let rise : Entry → Option Exchange = λ e. rise_by right e.receipt e.what in
    let counts = of_filter (λ x. keeps_cents (at (Right folio x.recede))) (filter_map rise entries) y from.2 in
    let entry = of_filter_map rise entries y counts.0 in
    let rises = rises_here journal folio right entry.0.receipt entry.0.what y (in_all (λ (e : Entry). ActsAsFiled journal folio right e.what) entries entry.0 (stands.acts folio right) entry.1) entry.2 in
    let received = is_received (receipt_at journal entry.0.receipt) entry.0.day (in_all (IsStamped journal) entries entry.0 (stands.days folio right) entry.1) in
    let lives = ap (λ id. is_live (at (Right folio id))) (right_is y.rise right rises.2) ∙ (of_placed_rights is_live_with at folio from.0 from.1).stands in
    record {
      recede = stands_untied journal at folio y.recede stands rises.0 (keeps_is_created (at (Right folio y.recede)) counts.1);
      rise = stands_untied journal at folio y.rise stands rises.1 (live_is_created (at (Right folio y.rise)) lives);
      live = lives;
      receipt = subst (λ n. IsSome (receipt_at journal n)) (sym rises.3) received;
      act_from = rises.4;
      act_to = rises.5;
    }

pub is_counted : (journal : List Receipt) (at : Key → List Entry) (folio : ℕ) (y : Exchange) → RightsInOrder journal at → In y (counted_exchanges at folio) → IsCounted journal at folio y
is_counted journal at folio y stands there = is_found journal at folio y stands (of_turn (flat_map (counted_at at folio) (live_rights at folio)) y there)
