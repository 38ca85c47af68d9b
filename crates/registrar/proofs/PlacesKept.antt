-- What an item brings for a filing leaves the places of each folio in order (BGB § 879, GBO § 18).
use Rattle.std.proofs.Common.{◌≡◌, ℕ, ◌<◌, true, false, cond, List, [], ◌∷◌, ◌++◌, map, All, Contains, is_some, refl, sym, ap, subst, ◌∙◌, append_assoc, arith}
use Rattle.std.specs.List.{AllByRecursion}
use Rattle.std.proofs.lemmas.Bool.{not-true}
use Rattle.std.proofs.lemmas.List.{append-nil}
use Rattle.std.proofs.lemmas.List.Elements.{All-from_recursion, recursion_from_All}
use Rattle.gb_base.specs.declared.keys.Key.{Key}
use Rattle.gb_base.specs.declared.keys.Key.TheVariants.{Title}
use Rattle.act_model.specs.Touches.{keys_in_order, keys_of_filing}
use Rattle.act_model.specs.declared.items.Filing.{Filing}
use Rattle.act_model.specs.declared.receipts.Receipt.{Receipt}
use Rattle.act_model.proofs.KeyOrder.{has}
use Rattle.registrar.specs.Enters.{enters}
use Rattle.folio_sections.specs.Waiting.{waiting_unnoticed, is_pending}
use Rattle.folio_sections.specs.Entries.{entry_by, at, with_entries}
use Rattle.kept_registers.specs.Kept.{Kept}
use Rattle.kept_registers.specs.KeptEntries.{IsPlacedInTime, ReceiptsRise, WaitsInTime}
use Rattle.kept_registers.specs.KeptPlaces.{PlacesAscend}
use Rattle.folio_sections.specs.Places.{places_among}
use Rattle.folio_sections.specs.declared.entries.Entry.{Entry}
use Rattle.folio_sections.specs.declared.entries.What.{What}
use Rattle.folio_sections.specs.declared.entries.What.TheVariants as what
use Rattle.folio_sections.proofs.Additions.{at-append}
use Rattle.folio_sections.proofs.Unchanged.{all_both}
use Rattle.interim_orders.specs.Orders.{deadline_of, end_brought, order_brought, waiting_brought}
use Rattle.registrar.proofs.Dealing.{Deals, KeepsWaiting, Turn, finds, is_it}
use Rattle.registrar.proofs.EnteredTitles.{IsReady, title_cured, title_ended, title_entered, title_ordered, title_quiet, title_waiting_on}
use Rattle.registrar.proofs.NewAtTitles.{contents_at, contents_quiet, entered_elsewhere, entered_there, is_key, marked_at, noticed_title}
use Rattle.registrar.proofs.NoticedPlaces.{all_notices_ranked, notice_entry, notices_before}
use Rattle.registrar.proofs.PlaceReads.{is_noticed, lacks_is, never_waits_before, places_before, places_both, unplaced_before, waits_as_before}
use Rattle.registrar.proofs.RankedTitles.{InOrder, IsUnplaced, of_titles, title_of, all_before_unnoticed}

-- ---- entries of earlier receipts at a title

earlier_places : (journal : List Receipt) (at0 : Key → List Entry) (folio m : ℕ) → ReceiptsRise journal at0 → All (λ e. e.receipt < m) (at0 (Title folio))
    → AllByRecursion (λ p. p.filing < m) (places_among journal folio (at0 (Title folio)))
earlier_places journal at0 folio m rise earlier =
    let es = at0 (Title folio) in
    places_before journal folio m es (recursion_from_All (λ e. e.receipt < m) es earlier)
    (recursion_from_All (λ e. IsPlacedInTime journal e (Title folio)) es (rise.placed (Title folio)))

earlier_unplaced : (journal : List Receipt) (at0 : Key → List Entry) (folio m : ℕ) → ReceiptsRise journal at0 → All (λ e. e.receipt < m) (at0 (Title folio)) → IsUnplaced m (at0 (Title folio))
earlier_unplaced journal at0 folio m rise earlier =
    let es = at0 (Title folio) in
    unplaced_before journal folio m es (recursion_from_All (λ e. e.receipt < m) es earlier)
    (recursion_from_All (λ e. IsPlacedInTime journal e (Title folio)) es (rise.placed (Title folio)))

earlier_rests : (journal : List Receipt) (at0 : Key → List Entry) (k : Key) (m : ℕ) → ReceiptsRise journal at0 → All (λ e. e.receipt < m) (at0 k) → is_pending m (at0 k) ≡ false
earlier_rests journal at0 k m rise earlier =
    ap is_some
    (never_waits_before m (at0 k) (recursion_from_All (λ e. e.receipt < m) (at0 k) earlier)
    (recursion_from_All (λ e. WaitsInTime e.receipt e.what) (at0 k) (rise.waiting k)))

-- ---- one content at each key of the filing

marked_titles : (journal : List Receipt) (m i : ℕ) (w : What) (at0 : Key → List Entry) → PlacesAscend journal at0
    → ((folio : ℕ) → Contains (keys_of_filing journal m) (Title folio) → InOrder journal folio (at0 (Title folio) ++ entry_by journal i (Title folio) w ∷ []))
    → PlacesAscend journal (with_entries at0 (map (λ k. entry_by journal i k w) (keys_in_order journal m)))
marked_titles journal m i w at0 kept each =
    of_titles journal (with_entries at0 (map (λ k. entry_by journal i k w) (keys_in_order journal m)))
    (λ folio.
    let k = Title folio in
    let old = at0 k in
    subst (λ es. InOrder journal folio (old ++ es)) (sym (marked_at journal m i w k))
    (elim (has k (keys_in_order journal m)) as (λ b. has k (keys_in_order journal m) ≡ b → InOrder journal folio (old ++ cond b (entry_by journal i k w ∷ []) [])) [
      | true ↦ λ there. each folio (is_key journal m k there)
      | false ↦ λ other. subst (InOrder journal folio) (sym (append-nil old)) (title_of journal at0 kept folio)
    ] refl))

-- a filing is set to wait by an interim order
pub places_ordered : (journal : List Receipt) (m : ℕ) (f : Filing) (at : Key → List Entry) → Deals journal m f m at → PlacesAscend journal (with_entries at (order_brought journal m))
places_ordered journal m f at0 deals =
    marked_titles journal m m (what.Pending m (deadline_of journal m)) at0 deals.kept.places_ascend
    (λ folio there.
    title_ordered journal folio m m (deadline_of journal m) (Title folio) (at0 (Title folio)) (title_of journal at0 deals.kept.places_ascend folio)
    (earlier_places journal at0 folio m deals.kept.receipts_rise (deals.earlier (Title folio) there))
    (earlier_unplaced journal at0 folio m deals.kept.receipts_rise (deals.earlier (Title folio) there)))

-- the waiting of a filing ends
pub places_ended : (journal : List Receipt) (m : ℕ) (f : Filing) (i : ℕ) (at : Key → List Entry) → Deals journal m f i at → PlacesAscend journal (with_entries at (end_brought journal m i))
places_ended journal m f i at0 deals =
    marked_titles journal m i (what.Settled m) at0 deals.kept.places_ascend
    (λ folio there. title_ended journal folio m i (Title folio) (at0 (Title folio)) (title_of journal at0 deals.kept.places_ascend folio))

-- ---- an entry

notices_keep : (journal : List Receipt) (i : ℕ) (key : Key) (ns : List ℕ) → AllByRecursion (λ e. KeepsWaiting e.what) (map (notice_entry journal i key) ns)
notices_keep journal i key [] = tt
notices_keep journal i key (n ∷ ns) = (tt, notices_keep journal i key ns)

-- once the notices stand, filing m waits as it did before
noticed_waits : (journal : List Receipt) (m i : ℕ) (at0 : Key → List Entry) (folio : ℕ) → is_pending m (noticed_title journal m i at0 folio) ≡ is_pending m (at0 (Title folio))
noticed_waits journal m i at0 folio =
    let old = at0 (Title folio) in
    let ns = waiting_unnoticed m old in
    waits_as_before m old (map (notice_entry journal i (Title folio)) ns) (notices_keep journal i (Title folio) ns)

-- where all entries at the title are earlier than filing m, all places there are of earlier filings
ready_at_once : (journal : List Receipt) (m i : ℕ) (at0 : Key → List Entry) (folio : ℕ) → Kept journal at0 → All (λ e. e.receipt < m) (at0 (Title folio))
    → IsReady journal folio m (noticed_title journal m i at0 folio)
ready_at_once journal m i at0 folio kept earlier =
    let old = at0 (Title folio) in
    let notices = map (notice_entry journal i (Title folio)) (waiting_unnoticed m old) in
    record {
      noticing = all_notices_ranked journal folio m i (Title folio) old (title_of journal at0 kept.places_ascend folio);
      before = λ creates lacks.
          All-from_recursion (λ p. p.filing < m) (places_among journal folio (old ++ notices))
          (subst (AllByRecursion (λ p. p.filing < m)) (sym (places_both journal folio old notices))
          (all_both (λ p. p.filing < m) (places_among journal folio old) (places_among journal folio notices)
          (earlier_places journal at0 folio m kept.receipts_rise earlier) (notices_before journal folio m i (Title folio) old)));
    }

-- where filing m waits, creates a right and has no notice, it has no place, and so no later filing has one
ready_for_cure : (journal : List Receipt) (m i : ℕ) (at0 : Key → List Entry) (folio : ℕ) → Kept journal at0 → is_pending m (at0 (Title folio)) ≡ true
    → IsReady journal folio m (noticed_title journal m i at0 folio)
ready_for_cure journal m i at0 folio kept waits =
    let mid = noticed_title journal m i at0 folio in
    let noticing = all_notices_ranked journal folio m i (Title folio) (at0 (Title folio)) (title_of journal at0 kept.places_ascend folio) in
    let waits_on : is_pending m mid ≡ true = noticed_waits journal m i at0 folio ∙ waits in
    record {
      noticing = noticing;
      before = λ creates lacks.
          all_before_unnoticed journal folio mid m noticing.order waits_on creates (not-true (is_noticed m mid) (sym (lacks_is m mid waits_on) ∙ lacks));
    }

-- a title that is no key of filing m gets quiet contents at most
quiet_elsewhere : (journal : List Receipt) (m : ℕ) (f : Filing) (i : ℕ) (at0 : Key → List Entry) (folio : ℕ) → Deals journal m f i at0 → has (Title folio) (keys_in_order journal m) ≡ false
    → InOrder journal folio (with_entries at0 (enters journal m i at0) (Title folio))
quiet_elsewhere journal m f i at0 folio deals other =
    let k = Title folio in
    subst (InOrder journal folio) (sym (entered_elsewhere journal m i at0 f k deals.filing other))
    (title_quiet journal folio (at0 k) (contents_at journal m i at0 f k) (title_of journal at0 deals.kept.places_ascend folio) (contents_quiet journal m i at0 f k))

-- a filing is entered by its own item
pub places_entered : (journal : List Receipt) (m : ℕ) (f : Filing) (at : Key → List Entry) → Deals journal m f m at → PlacesAscend journal (with_entries at (enters journal m m at))
places_entered journal m f at0 deals =
    of_titles journal (with_entries at0 (enters journal m m at0))
    (λ folio.
    let k = Title folio in
    elim (has k (keys_in_order journal m)) as (λ b. has k (keys_in_order journal m) ≡ b → InOrder journal folio (with_entries at0 (enters journal m m at0) k)) [
      | true ↦ λ there.
          let earlier = deals.earlier k (is_key journal m k there) in
          subst (InOrder journal folio) (sym (entered_there journal m m at0 f folio deals.filing there))
          (title_entered journal folio m m (noticed_title journal m m at0 folio) (contents_at journal m m at0 f k)
          (ready_at_once journal m m at0 folio deals.kept earlier) (contents_quiet journal m m at0 f k)
          (noticed_waits journal m m at0 folio ∙ earlier_rests journal at0 k m deals.kept.receipts_rise earlier))
      | false ↦ λ other. quiet_elsewhere journal m f m at0 folio deals other
    ] refl)

-- a later item finds the filing waiting
waits_there : (journal : List Receipt) (m i : ℕ) (at0 : Key → List Entry) → m < i → Turn journal m i at0 → (k : Key) → Contains (keys_of_filing journal m) k → is_pending m (at0 k) ≡ true
waits_there journal m i at0 later (is_it same) k there = let is : m ≡ i = same in absurd (omega arith)
waits_there journal m i at0 later (finds less waits) k there = waits k there

-- a filing that waits is to wait until another day
pub places_waiting_on : (journal : List Receipt) (m : ℕ) (f : Filing) (i until : ℕ) (at : Key → List Entry) → Deals journal m f i at → m < i → PlacesAscend journal (with_entries at (waiting_brought journal m i until))
places_waiting_on journal m f i until at0 deals later =
    marked_titles journal m i (what.Pending m until) at0 deals.kept.places_ascend
    (λ folio there.
    title_waiting_on journal folio m i until (Title folio) (at0 (Title folio)) (title_of journal at0 deals.kept.places_ascend folio)
    (waits_there journal m i at0 later deals.turn (Title folio) there))

-- the notices, places and contents are entered, and then the filing's waiting ends
then_ended : (journal : List Receipt) (m i : ℕ) (at0 : Key → List Entry) (es : List Entry) (k : Key)
    → with_entries at0 (es ++ end_brought journal m i) k ≡ with_entries at0 es k ++ cond (has k (keys_in_order journal m)) (entry_by journal i k (what.Settled m) ∷ []) []
then_ended journal m i at0 es k =
    ap (λ xs. at0 k ++ xs) (at-append es (end_brought journal m i) k ∙ ap (λ xs. at es k ++ xs) (marked_at journal m i (what.Settled m) k))
    ∙ sym (append_assoc (at0 k) (at es k) (cond (has k (keys_in_order journal m)) (entry_by journal i k (what.Settled m) ∷ []) []))

-- a filing that waits is entered by a cure
pub places_cured : (journal : List Receipt) (m : ℕ) (f : Filing) (i : ℕ) (at : Key → List Entry) → Deals journal m f i at → m < i → PlacesAscend journal (with_entries at (enters journal m i at ++ end_brought journal m i))
places_cured journal m f i at0 deals later =
    let brought = enters journal m i at0 in
    of_titles journal (with_entries at0 (brought ++ end_brought journal m i))
    (λ folio.
    let k = Title folio in
    subst (InOrder journal folio) (sym (then_ended journal m i at0 brought k))
    (elim (has k (keys_in_order journal m)) as (λ b. has k (keys_in_order journal m) ≡ b → InOrder journal folio (with_entries at0 brought k ++ cond b (entry_by journal i k (what.Settled m) ∷ []) [])) [
      | true ↦ λ there.
          subst (λ es. InOrder journal folio (es ++ entry_by journal i k (what.Settled m) ∷ [])) (sym (entered_there journal m i at0 f folio deals.filing there))
          (title_cured journal folio m i (noticed_title journal m i at0 folio) (contents_at journal m i at0 f k)
          (ready_for_cure journal m i at0 folio deals.kept (waits_there journal m i at0 later deals.turn k (is_key journal m k there)))
          (contents_quiet journal m i at0 f k))
      | false ↦ λ other. subst (InOrder journal folio) (sym (append-nil (with_entries at0 brought k))) (quiet_elsewhere journal m f i at0 folio deals other)
    ] refl))
