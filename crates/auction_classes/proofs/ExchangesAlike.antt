-- Two readings of the rights of a folio that differ only where neither reads a right count the same exchanges and exercises.
use Rattle.std.proofs.Common.{◌≡◌, ℕ, Bool, true, false, cond, ◌&&◌, ◌||◌, List, [], ◌∷◌, filter, filter_map, flat_map, fold, Option, Some, None, is_some, option_and_then, refl, sym, ap, ◌∙◌, ⊎_elim}
use Rattle.std.specs.List.{list_any}
use Rattle.std.proofs.lemmas.Bool.{cases_Bool, false≢true}
use Rattle.gb_base.specs.RightNo.{RightNo}
use Rattle.gb_base.specs.declared.keys.Key.{Key}
use Rattle.gb_base.specs.declared.keys.Key.TheVariants.{Right}
use Rattle.gb_base.proofs.Members.{In}
use Rattle.folio_sections.specs.HeldRights.{receipt_numbers, rights_of_filing}
use Rattle.folio_sections.specs.Rights.{created, created_by, is_live, live_by}
use Rattle.folio_sections.specs.declared.entries.Created.{Created}
use Rattle.folio_sections.specs.declared.entries.Entry.{Entry}
use Rattle.folio_sections.specs.declared.entries.What.{What}
use Rattle.folio_sections.specs.declared.entries.What.TheVariants as what
use Rattle.folio_sections.proofs.FilteredLists.{all_in, flat_map_alike}
use Rattle.folio_line.specs.Exchanges.{counted_at, counted_exchanges, counted_exercises, exercise_of, in_turn, is_cancellation_by_consent, is_spent_on, keeps_cents, rise_by}
use Rattle.folio_line.specs.FolioRights.{is_live_with, live_rights}
use Rattle.folio_line.specs.declared.exchanges.Exchange.{Exchange}
use Rattle.folio_line.specs.declared.folio_rights.CreatedRight.{CreatedRight}
use Rattle.folio_line.proofs.PlacedOrder.{of_placed_rights}
use Rattle.auction_classes.proofs.ReadAlike.{AreAlike, ReadAlike, same_live, same_right_read, same_where}

-- ---- where no right is read

live_next : (live : Bool) (before : Option Created) (w : What) → (live ≡ true → is_some before ≡ true) → live_by live w ≡ true → is_some (created_by before w) ≡ true
live_next live before (what.Created made) known is = refl
live_next live before (what.Cancelled expired) known is = absurd (false≢true is)
live_next live before what.Expired known is = absurd (false≢true is)
live_next live before other known is = known is

live_from : (live : Bool) (before : Option Created) (es : List Entry) → (live ≡ true → is_some before ≡ true)
    → fold (λ b e. live_by b e.what) live es ≡ true → is_some (fold (λ b e. created_by b e.what) before es) ≡ true
live_from live before [] known is = known is
live_from live before (e ∷ es) known is =
    live_from (live_by live e.what) (created_by before e.what) es (λ now. live_next live before e.what known now) is

-- no right is live where none is created
never_live : (es : List Entry) → created es ≡ None → is_live es ≡ false
never_live es none =
    ⊎_elim (λ live. absurd (false≢true (sym (ap is_some none) ∙ live_from false None es (λ never. absurd (false≢true never)) live))) (λ gone. gone) (cases_Bool (is_live es))

-- no cents stay where no right is created
none_kept : (es : List Entry) → created es ≡ None → keeps_cents es ≡ false
none_kept es none = λ i. never_live es none i || (is_some (none i) && list_any (λ (e : Entry). is_cancellation_by_consent e.what) es)

same_kept : (x y : List Entry) → AreAlike x y → keeps_cents x ≡ keeps_cents y
same_kept x y alike = ⊎_elim (λ same. ap keeps_cents same) (λ none. none_kept x none.0 ∙ sym (none_kept y none.1)) alike

-- a right is live and its reservation is spent on this one
abbrev spends : RightNo → List Entry → Bool
spends id es = is_live es && list_any (λ (e : Entry). is_spent_on id e.what) es

none_spent : (id : RightNo) (es : List Entry) → created es ≡ None → spends id es ≡ false
none_spent id es none = λ i. never_live es none i && list_any (λ (e : Entry). is_spent_on id e.what) es

same_spent : (id : RightNo) (x y : List Entry) → AreAlike x y → spends id x ≡ spends id y
same_spent id x y alike = ⊎_elim (λ same. ap (spends id) same) (λ none. none_spent id x none.0 ∙ sym (none_spent id y none.1)) alike

-- ---- what counts

same_counted_at : (at other : Key → List Entry) (folio : ℕ) → ReadAlike folio at other → (x : CreatedRight) → In x (live_rights other folio) → counted_at at folio x ≡ counted_at other folio x
same_counted_at at other folio alike x there =
    let entries = same_right_read (at (Right folio x.id)) (other (Right folio x.id)) x.made (alike x.id) (of_placed_rights is_live_with other folio x there).made in
    λ i. filter (λ (y : Exchange). same_kept (at (Right folio y.recede)) (other (Right folio y.recede)) (alike y.recede) i) (filter_map (λ (e : Entry). rise_by x.id e.receipt e.what) (entries i))

pub same_exchanges : (at other : Key → List Entry) (folio : ℕ) → ReadAlike folio at other → counted_exchanges at folio ≡ counted_exchanges other folio
same_exchanges at other folio alike =
    ap (λ xs. in_turn (flat_map (counted_at at folio) xs)) (same_live at other folio alike)
    ∙ ap in_turn (flat_map_alike (counted_at at folio) (counted_at other folio) (live_rights other folio)
    (all_in (λ x. counted_at at folio x ≡ counted_at other folio x) (live_rights other folio) (λ x there. same_counted_at at other folio alike x there)))

same_exercise : (at other : Key → List Entry) (folio : ℕ) → ReadAlike folio at other → (x : CreatedRight) → exercise_of at folio x ≡ exercise_of other folio x
same_exercise at other folio alike x =
    λ i. option_and_then (λ reserved. cond (same_spent x.id (at (Right folio reserved)) (other (Right folio reserved)) (alike reserved) i) (Some (record { reserved = reserved; exercised = x.id })) None) x.made.ahead_of

pub same_exercises : (at other : Key → List Entry) (folio : ℕ) → ReadAlike folio at other → counted_exercises at folio ≡ counted_exercises other folio
same_exercises at other folio alike =
    λ i. filter_map (λ x. same_exercise at other folio alike x i) (flat_map (λ m. filter_map (λ id. same_where is_live_with at other folio alike id i) (rights_of_filing m)) receipt_numbers)
