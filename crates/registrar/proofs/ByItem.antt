-- What an item brings for a filing is by that item, at one of the filing's keys, and of nothing later.
use Rattle.std.proofs.Common.{◌≡◌, ℕ, ◌+◌, ◌-◌, ◌<◌, ◌≤◌, Bool, true, false, ◌&&◌, cond, is_none, List, [], ◌∷◌, ◌++◌, flat_map, Contains, IfSome, Some, None, refl, sym, subst, arith}
use Rattle.std.specs.List.{AllByRecursion, enumerate_from}
use Rattle.std.specs.Option.{option_map_or}
use Rattle.std.proofs.lemmas.List.Elements.{Contains-append_left, Contains-append_right}
use Rattle.gb_base.specs.RightNo.{RightNo}
use Rattle.gb_base.specs.declared.keys.Key.{Key}
use Rattle.gb_base.specs.declared.keys.Key.TheVariants.{Title, Right, Case}
use Rattle.act_model.specs.declared.documents.Doc.{Doc}
use Rattle.act_model.specs.declared.filing_acts.Act.{Act}
use Rattle.act_model.specs.declared.filing_acts.Act.TheVariants.{Open, Transfer, Create, NoticeFor, Convert, Assign, Cancel, Exchange, Exercise}
use Rattle.act_model.specs.declared.items.Filing.{Filing}
use Rattle.act_model.specs.declared.receipts.Receipt.{Receipt}
use Rattle.act_model.specs.Receiving.{day_of}
use Rattle.act_model.specs.Touches.{acts_of, filing_at, keys_in_order, keys_of_act, keys_of_acts, keys_of_filing, new_right}
use Rattle.act_model.proofs.KeyOrder.{in_key_order_members}
use Rattle.act_model.specs.Documents.{documents}
use Rattle.entry_rules.specs.Entering.{content, contents_brought, entered, placed_at, places_brought, with_places}
use Rattle.registrar.specs.Enters.{enters}
use Rattle.interim_orders.specs.Notices.{notices_at, notices_brought, with_notices}
use Rattle.folio_sections.specs.Waiting.{waiting_unnoticed, receipts_before, notice}
use Rattle.folio_sections.specs.Entries.{entry_by}
use Rattle.kept_registers.specs.KeptCases.{LeavesCents}
use Rattle.kept_registers.specs.KeptEntries.{IsCreatedInTime, WaitsInTime}
use Rattle.act_model.specs.Divisions.{create_in_division, creates_there}
use Rattle.folio_sections.specs.Places.{place_by, place_of}
use Rattle.folio_sections.specs.declared.entries.Entry.{Entry}
use Rattle.folio_sections.specs.declared.entries.What.{What}
use Rattle.folio_sections.specs.declared.entries.What.TheVariants as what
use Rattle.folio_sections.specs.declared.title_places.TitlePlace.{TitlePlace}
use Rattle.folio_sections.specs.inner.Unnoticed.{is_unnoticed}
use Rattle.folio_sections.proofs.FilteredLists.{all_filtered}
use Rattle.folio_sections.proofs.Unchanged.{all_both, all_weaker}
use Rattle.folio_sections.proofs.Unnoticed.{unnoticed_is}
use Rattle.entry_rules.proofs.Entered.{keys_are}
use Rattle.interim_orders.specs.Orders.{deadline_of, end_brought, order_brought, waiting_brought}
use Rattle.registrar.proofs.ContainedParts.{all_contained, all_flat_mapped, all_in_range, all_mapped}
use Rattle.registrar.proofs.Dealing.{Deals, IsBrought, Turn, is_it, finds}

-- ---- one entry

-- a content at a title, whose place and whose waiting filing are no later than the item
at_title : (journal : List Receipt) (m i folio : ℕ) (w : What) → Contains (keys_of_filing journal m) (Title folio)
    → IfSome (place_by journal folio (day_of journal i) w) (λ p. p.filing ≤ i) → WaitsInTime i w → LeavesCents w
    → IsBrought journal m i (entry_by journal i (Title folio) w)
at_title journal m i folio w there placed waits cents =
    record { by_item = refl; on_day = refl; there = there; placed = placed; waits = waits; created = tt; cents = cents }

-- a content at a right; where it creates the right, that right is no later than the item
at_right : (journal : List Receipt) (m i folio : ℕ) (right : RightNo) (w : What) → Contains (keys_of_filing journal m) (Right folio right)
    → WaitsInTime i w → IsCreatedInTime i (Right folio right) w → LeavesCents w
    → IsBrought journal m i (entry_by journal i (Right folio right) w)
at_right journal m i folio right w there waits created cents =
    record { by_item = refl; on_day = refl; there = there; placed = tt; waits = waits; created = created; cents = cents }

-- filing n, no later than the item, is set to wait at any key of the filing
set_to_wait : (journal : List Receipt) (m i n until : ℕ) (key : Key) → n ≤ i → Contains (keys_of_filing journal m) key
    → IsBrought journal m i (entry_by journal i key (what.Pending n until))
set_to_wait journal m i n until (Title folio) within there = at_title journal m i folio (what.Pending n until) there tt within tt
set_to_wait journal m i n until (Right folio right) within there = at_right journal m i folio right (what.Pending n until) there within tt tt
set_to_wait journal m i n until (Case folio) within there =
    record { by_item = refl; on_day = refl; there = there; placed = tt; waits = within; created = tt; cents = tt }

-- filing n is set to wait no longer, at any key of the filing
set_to_end : (journal : List Receipt) (m i n : ℕ) (key : Key) → Contains (keys_of_filing journal m) key
    → IsBrought journal m i (entry_by journal i key (what.Settled n))
set_to_end journal m i n (Title folio) there = at_title journal m i folio (what.Settled n) there tt tt tt
set_to_end journal m i n (Right folio right) there = at_right journal m i folio right (what.Settled n) there tt tt tt
set_to_end journal m i n (Case folio) there =
    record { by_item = refl; on_day = refl; there = there; placed = tt; waits = tt; created = tt; cents = tt }

noticed_in_time : (place : TitlePlace) (i : ℕ) (creates : Bool) → place.filing ≤ i → IfSome (cond creates (Some place) None) (λ p. p.filing ≤ i)
noticed_in_time place i true within = within
noticed_in_time place i false within = tt

-- the official notice of filing n, which is no later than the item
noticed : (journal : List Receipt) (m i n : ℕ) (key : Key) → n ≤ i → Contains (keys_of_filing journal m) key
    → IsBrought journal m i (entry_by journal i key (what.Notice n))
noticed journal m i n (Title folio) within there =
    at_title journal m i folio (what.Notice n) there
    (noticed_in_time (place_of journal folio (day_of journal i) n) i (creates_there journal folio n) within) tt tt
noticed journal m i n (Right folio right) within there = at_right journal m i folio right (what.Notice n) there tt tt tt
noticed journal m i n (Case folio) within there =
    record { by_item = refl; on_day = refl; there = there; placed = tt; waits = tt; created = tt; cents = tt }

-- ---- what is brought at each key of a filing

-- what holds at all keys of a filing holds at those in order
pub each_in_order : (P : Key → Type 0) (journal : List Receipt) (m : ℕ) → ((k : Key) → Contains (keys_of_filing journal m) k → P k)
    → AllByRecursion P (keys_in_order journal m)
each_in_order P journal m each =
    all_contained P (keys_in_order journal m) (λ k there. each k ((in_key_order_members (keys_of_filing journal m) k).0 there))

pub waiting_by_item : (journal : List Receipt) (m i until : ℕ) → m ≤ i → AllByRecursion (IsBrought journal m i) (waiting_brought journal m i until)
waiting_by_item journal m i until within =
    all_mapped (IsBrought journal m i) (λ k. entry_by journal i k (what.Pending m until)) (keys_in_order journal m)
    (each_in_order (λ k. IsBrought journal m i (entry_by journal i k (what.Pending m until))) journal m
    (λ k there. set_to_wait journal m i m until k within there))

pub order_by_item : (journal : List Receipt) (m : ℕ) (f : Filing) (at : Key → List Entry) → Deals journal m f m at → AllByRecursion (IsBrought journal m m) (order_brought journal m)
order_by_item journal m f at deals = waiting_by_item journal m m (deadline_of journal m) (omega arith)

pub end_by_item : (journal : List Receipt) (m : ℕ) (f : Filing) (i : ℕ) (at : Key → List Entry) → Deals journal m f i at → AllByRecursion (IsBrought journal m i) (end_brought journal m i)
end_by_item journal m f i at deals =
    all_mapped (IsBrought journal m i) (λ k. entry_by journal i k (what.Settled m)) (keys_in_order journal m)
    (each_in_order (λ k. IsBrought journal m i (entry_by journal i k (what.Settled m))) journal m
    (λ k there. set_to_end journal m i m k there))

-- the filing is no later than the item
pub no_later : (journal : List Receipt) (m i : ℕ) (at : Key → List Entry) → Turn journal m i at → m ≤ i
no_later journal m i at (is_it same) = omega arith
no_later journal m i at (finds less waits) = omega arith

noticed_at : (journal : List Receipt) (m i : ℕ) (at : Key → List Entry) (key : Key) → m ≤ i → Contains (keys_of_filing journal m) key
    → AllByRecursion (IsBrought journal m i) (notices_at journal m i at key)
noticed_at journal m i at key within there =
    all_mapped (IsBrought journal m i) (λ n. entry_by journal i key (what.Notice n)) (waiting_unnoticed m (at key))
    (subst (AllByRecursion (λ n. IsBrought journal m i (entry_by journal i key (what.Notice n)))) (sym (unnoticed_is m (at key)))
    (all_filtered (λ n. IsBrought journal m i (entry_by journal i key (what.Notice n))) (λ n. is_unnoticed n (at key)) (receipts_before m)
    (all_weaker (λ n. n ≤ i) (λ n. IsBrought journal m i (entry_by journal i key (what.Notice n))) (receipts_before m)
    (λ n earlier. noticed journal m i n key earlier there)
    (all_weaker (λ k. k < 1 + (m - 1)) (λ n. n ≤ i) (receipts_before m) (λ n less. omega arith) (all_in_range 1 (m - 1) (1 + (m - 1)) (omega arith))))))

notices_by_item : (journal : List Receipt) (m i : ℕ) (at : Key → List Entry) → m ≤ i → AllByRecursion (IsBrought journal m i) (notices_brought journal m i at)
notices_by_item journal m i at within =
    all_flat_mapped (IsBrought journal m i) (notices_at journal m i at) (keys_in_order journal m)
    (each_in_order (λ k. AllByRecursion (IsBrought journal m i) (notices_at journal m i at k)) journal m (λ k there. noticed_at journal m i at k within there))

place_at : (journal : List Receipt) (m i : ℕ) (at : Key → List Entry) (key : Key) → m ≤ i → Contains (keys_of_filing journal m) key
    → AllByRecursion (IsBrought journal m i) (placed_at journal m i at key)
place_at journal m i at (Title folio) within there =
    let w = what.Placed m (create_in_division false folio (acts_of journal m)) (create_in_division true folio (acts_of journal m)) in
    elim (creates_there journal folio m && is_none (notice m (at (Title folio)))) as (λ b. AllByRecursion (IsBrought journal m i) (cond b (entry_by journal i (Title folio) w ∷ []) [])) [
      | true ↦ (at_title journal m i folio w there within tt tt, tt)
      | false ↦ tt
    ]
place_at journal m i at (Right folio right) within there = tt
place_at journal m i at (Case folio) within there = tt

places_by_item : (journal : List Receipt) (m i : ℕ) (at : Key → List Entry) → m ≤ i → AllByRecursion (IsBrought journal m i) (places_brought journal m i at)
places_by_item journal m i at within =
    all_flat_mapped (IsBrought journal m i) (placed_at journal m i at) (keys_in_order journal m)
    (each_in_order (λ k. AllByRecursion (IsBrought journal m i) (placed_at journal m i at k)) journal m (λ k there. place_at journal m i at k within there))

-- ---- the contents of the acts

content_by_item : (journal : List Receipt) (m : ℕ) (acts : List Act) (docs : List Doc) (i : ℕ) (at : Key → List Entry) (a : ℕ) (act : Act) → m ≤ i
    → ((k : Key) → Contains (keys_of_act journal m a act) k → Contains (keys_of_filing journal m) k)
    → AllByRecursion (IsBrought journal m i) (content journal m acts docs i at a act)
content_by_item journal m acts docs i at a (Open folio inventory owners) within own =
    (at_title journal m i folio (what.Opened inventory owners) (own (Title folio) (0, omega arith, refl)) tt tt tt, tt)
content_by_item journal m acts docs i at a (Transfer folio owners) within own =
    (at_title journal m i folio (what.Owner owners) (own (Title folio) (0, omega arith, refl)) tt tt tt, tt)
content_by_item journal m acts docs i at a (Create folio spec reserve) within own =
    (at_right journal m i folio (new_right m a) _ (own (Right folio (new_right m a)) (1, omega arith, refl)) tt within tt, tt)
content_by_item journal m acts docs i at a (NoticeFor folio spec) within own =
    (at_right journal m i folio (new_right m a) _ (own (Right folio (new_right m a)) (1, omega arith, refl)) tt within tt, tt)
content_by_item journal m acts docs i at a (Convert folio right) within own =
    (at_right journal m i folio right what.Converted (own (Right folio right) (1, omega arith, refl)) tt tt tt, tt)
content_by_item journal m acts docs i at a (Assign folio right holder) within own =
    (at_right journal m i folio right (what.Holder holder) (own (Right folio right) (0, omega arith, refl)) tt tt tt, tt)
content_by_item journal m acts docs i at a (Cancel folio right) within own =
    (at_right journal m i folio right _ (own (Right folio right) (1, omega arith, refl)) tt tt tt, tt)
content_by_item journal m acts docs i at a (Exchange folio recede rise) within own = (
  at_right journal m i folio recede (what.Exchanged recede rise a) (own (Right folio recede) (0, omega arith, refl)) tt tt tt,
  (at_right journal m i folio rise (what.Exchanged recede rise a) (own (Right folio rise) (1, omega arith, refl)) tt tt tt, tt),
)
content_by_item journal m acts docs i at a (Exercise folio behind spec) within own = (
  at_right journal m i folio (new_right m a) _ (own (Right folio (new_right m a)) (2, omega arith, refl)) tt within tt,
  (at_right journal m i folio behind (what.Exercised (new_right m a)) (own (Right folio behind) (1, omega arith, refl)) tt tt tt, tt),
)

contents_from : (journal : List Receipt) (m : ℕ) (acts : List Act) (docs : List Doc) (i : ℕ) (at : Key → List Entry) (a : ℕ) (rest : List Act) → m ≤ i
    → ((k : Key) → Contains (keys_of_acts journal m a rest) k → Contains (keys_of_filing journal m) k)
    → AllByRecursion (IsBrought journal m i) (flat_map (λ numbered. content journal m acts docs i at numbered.0 numbered.1) (enumerate_from a rest))
contents_from journal m acts docs i at a [] within own = tt
contents_from journal m acts docs i at a (act ∷ rest) within own =
    all_both (IsBrought journal m i) (content journal m acts docs i at a act)
    (flat_map (λ numbered. content journal m acts docs i at numbered.0 numbered.1) (enumerate_from (a + 1) rest))
    (content_by_item journal m acts docs i at a act within
    (λ k there. own k (Contains-append_left (keys_of_act journal m a act) (keys_of_acts journal m (a + 1) rest) k there)))
    (contents_from journal m acts docs i at (a + 1) rest within
    (λ k there. own k (Contains-append_right (keys_of_act journal m a act) (keys_of_acts journal m (a + 1) rest) k there)))

contents_by_item : (journal : List Receipt) (m i : ℕ) (at : Key → List Entry) (f : Filing) → filing_at journal m ≡ Some f → m ≤ i
    → AllByRecursion (IsBrought journal m i) (contents_brought journal m i at f)
contents_by_item journal m i at f is within =
    contents_from journal m f.acts (documents journal m f i) i at 1 f.acts within
    (λ k there. subst (λ keys. Contains keys k) (sym (keys_are journal m f is)) there)

entered_by_item : (journal : List Receipt) (m i : ℕ) (at : Key → List Entry) (f : Filing) → filing_at journal m ≡ Some f → m ≤ i
    → AllByRecursion (IsBrought journal m i) (entered journal m i at)
entered_by_item journal m i at f is within =
    subst (λ o. AllByRecursion (IsBrought journal m i) (option_map_or (λ g. places_brought journal m i at ++ contents_brought journal m i (with_places journal m i at) g) o [])) (sym is)
    (all_both (IsBrought journal m i) (places_brought journal m i at) (contents_brought journal m i (with_places journal m i at) f)
    (places_by_item journal m i at within) (contents_by_item journal m i (with_places journal m i at) f is within))

pub enters_by_item : (journal : List Receipt) (m : ℕ) (f : Filing) (i : ℕ) (at : Key → List Entry) → Deals journal m f i at → AllByRecursion (IsBrought journal m i) (enters journal m i at)
enters_by_item journal m f i at deals =
    let within = no_later journal m i at deals.turn in
    all_both (IsBrought journal m i) (notices_brought journal m i at) (entered journal m i (with_notices journal m i at))
    (notices_by_item journal m i at within) (entered_by_item journal m i (with_notices journal m i at) f deals.filing within)
