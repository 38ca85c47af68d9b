-- What the entry of a filing brings follows from what stands at the filing's keys.
use Rattle.std.proofs.Common.{◌≡◌, ℕ, ◌+◌, false, true, cond, ◌&&◌, List, [], ◌∷◌, ◌++◌, flat_map, map, Some, None, is_none, option_to_list, refl, ap, arith}
use Rattle.std.specs.List.{enumerate_from}
use Rattle.std.specs.Option.{option_map_or}
use Rattle.gb_base.specs.declared.keys.Key.{Key}
use Rattle.gb_base.specs.declared.keys.Key.TheVariants.{Title, Right, Case}
use Rattle.act_model.proofs.KeyOrder.{in_key_order_members}
use Rattle.act_model.specs.Acts.{folio_of, right_created}
use Rattle.act_model.specs.Touches.{acts_of, filing_at, keys_in_order, keys_of_act, keys_of_acts, keys_of_filing, new_right}
use Rattle.act_model.specs.declared.documents.Doc.{Doc}
use Rattle.act_model.specs.declared.filing_acts.Act.{Act}
use Rattle.act_model.specs.declared.filing_acts.Act.TheVariants.{Open, Transfer, Create, NoticeFor, Convert, Assign, Cancel, Exchange, Exercise}
use Rattle.act_model.specs.declared.receipts.Receipt.{Receipt}
use Rattle.act_model.specs.Documents.{documents}
use Rattle.entry_rules.specs.Entering.{as_entered, content, contents_brought, creation, entered, placed_at, places_brought, with_places}
use Rattle.registrar.specs.Enters.{enters}
use Rattle.interim_orders.specs.Notices.{notices_at, notices_brought, with_notices}
use Rattle.folio_sections.specs.Waiting.{waiting_unnoticed, notice}
use Rattle.folio_sections.specs.Entries.{entry_by}
use Rattle.act_model.specs.Divisions.{create_in_division, creates_there}
use Rattle.folio_sections.specs.Places.{places_among}
use Rattle.folio_sections.specs.declared.entries.Entry.{Entry}
use Rattle.folio_sections.specs.declared.entries.What.TheVariants as what
use Rattle.folio_sections.proofs.FilteredLists.{flat_map_alike}
use Rattle.registrar.proofs.ContainedParts.{all_contained}
use Rattle.registrar.proofs.Agreeing.{AgreesAt, added_agree, agrees_before, agrees_behind}

-- ---- official notices and places

notices_locally : (journal : List Receipt) (m i : ℕ) (at0 at1 : Key → List Entry) → AgreesAt (keys_of_filing journal m) at0 at1 → notices_brought journal m i at1 ≡ notices_brought journal m i at0
notices_locally journal m i at0 at1 agrees =
    flat_map_alike (notices_at journal m i at1) (notices_at journal m i at0) (keys_in_order journal m)
    (all_contained (λ k. notices_at journal m i at1 k ≡ notices_at journal m i at0 k) (keys_in_order journal m)
    (λ k there. ap (λ es. map (λ n. entry_by journal i k (what.Notice n)) (waiting_unnoticed m es))
    (agrees k ((in_key_order_members (keys_of_filing journal m) k).0 there))))

place_locally : (journal : List Receipt) (m i : ℕ) (at0 at1 : Key → List Entry) (k : Key) → at1 k ≡ at0 k → placed_at journal m i at1 k ≡ placed_at journal m i at0 k
place_locally journal m i at0 at1 (Title folio) same =
    let w = what.Placed m (create_in_division false folio (acts_of journal m)) (create_in_division true folio (acts_of journal m)) in
    ap (λ es. cond (creates_there journal folio m && is_none (notice m es)) (entry_by journal i (Title folio) w ∷ []) []) same
place_locally journal m i at0 at1 (Right folio right) same = refl
place_locally journal m i at0 at1 (Case folio) same = refl

places_locally : (journal : List Receipt) (m i : ℕ) (at0 at1 : Key → List Entry) → AgreesAt (keys_of_filing journal m) at0 at1 → places_brought journal m i at1 ≡ places_brought journal m i at0
places_locally journal m i at0 at1 agrees =
    flat_map_alike (placed_at journal m i at1) (placed_at journal m i at0) (keys_in_order journal m)
    (all_contained (λ k. placed_at journal m i at1 k ≡ placed_at journal m i at0 k) (keys_in_order journal m)
    (λ k there. place_locally journal m i at0 at1 k (agrees k ((in_key_order_members (keys_of_filing journal m) k).0 there))))

-- ---- the contents of the acts

creation_locally : (journal : List Receipt) (m : ℕ) (acts : List Act) (i : ℕ) (at0 at1 : Key → List Entry) (a : ℕ) (act : Act) → at1 (Title (folio_of act)) ≡ at0 (Title (folio_of act))
    → creation journal m acts i at1 a act ≡ creation journal m acts i at0 a act
creation_locally journal m acts i at0 at1 a act same =
    ap (λ es. map
    (λ spec. entry_by journal i (Right (folio_of act) (new_right m a)) (what.Created (as_entered journal m acts i (places_among journal (folio_of act) es) a act spec)))
    (option_to_list (right_created act))) same

content_locally : (journal : List Receipt) (m : ℕ) (acts : List Act) (docs : List Doc) (i : ℕ) (at0 at1 : Key → List Entry) (a : ℕ) (act : Act) → AgreesAt (keys_of_act journal m a act) at0 at1
    → content journal m acts docs i at1 a act ≡ content journal m acts docs i at0 a act
content_locally journal m acts docs i at0 at1 a (Create folio spec reserve) agrees =
    creation_locally journal m acts i at0 at1 a (Create folio spec reserve) (agrees (Title folio) (0, omega arith, refl))
content_locally journal m acts docs i at0 at1 a (NoticeFor folio spec) agrees =
    creation_locally journal m acts i at0 at1 a (NoticeFor folio spec) (agrees (Title folio) (0, omega arith, refl))
content_locally journal m acts docs i at0 at1 a (Exercise folio behind spec) agrees =
    ap (λ es. es ++ entry_by journal i (Right folio behind) (what.Exercised (new_right m a)) ∷ [])
    (creation_locally journal m acts i at0 at1 a (Exercise folio behind spec) (agrees (Title folio) (0, omega arith, refl)))
content_locally journal m acts docs i at0 at1 a (Open folio inventory owners) agrees = refl
content_locally journal m acts docs i at0 at1 a (Transfer folio owners) agrees = refl
content_locally journal m acts docs i at0 at1 a (Convert folio right) agrees = refl
content_locally journal m acts docs i at0 at1 a (Assign folio right holder) agrees = refl
content_locally journal m acts docs i at0 at1 a (Cancel folio right) agrees = refl
content_locally journal m acts docs i at0 at1 a (Exchange folio recede rise) agrees = refl

contents_locally : (journal : List Receipt) (m : ℕ) (all : List Act) (docs : List Doc) (i : ℕ) (at0 at1 : Key → List Entry) (a : ℕ) (acts : List Act) → AgreesAt (keys_of_acts journal m a acts) at0 at1
    → flat_map (λ numbered. content journal m all docs i at1 numbered.0 numbered.1) (enumerate_from a acts) ≡ flat_map (λ numbered. content journal m all docs i at0 numbered.0 numbered.1) (enumerate_from a acts)
contents_locally journal m all docs i at0 at1 a [] agrees = refl
contents_locally journal m all docs i at0 at1 a (act ∷ acts) agrees =
    let here = content_locally journal m all docs i at0 at1 a act (agrees_before (keys_of_act journal m a act) (keys_of_acts journal m (a + 1) acts) at0 at1 agrees) in
    let rest = contents_locally journal m all docs i at0 at1 (a + 1) acts (agrees_behind (keys_of_act journal m a act) (keys_of_acts journal m (a + 1) acts) at0 at1 agrees) in
    λ j. here j ++ rest j

-- ---- together

entered_locally : (journal : List Receipt) (m i : ℕ) (at0 at1 : Key → List Entry) → AgreesAt (keys_of_filing journal m) at0 at1 → entered journal m i at1 ≡ entered journal m i at0
entered_locally journal m i at0 at1 agrees =
    let placed = places_locally journal m i at0 at1 agrees in
    elim (filing_at journal m) as (λ o. AgreesAt (option_map_or (λ f. keys_of_acts journal m 1 f.acts) o []) (with_places journal m i at0) (with_places journal m i at1)
    → option_map_or (λ f. places_brought journal m i at1 ++ contents_brought journal m i (with_places journal m i at1) f) o []
    ≡ option_map_or (λ f. places_brought journal m i at0 ++ contents_brought journal m i (with_places journal m i at0) f) o []) [
      | Some f ↦ λ stands.
          let brought = contents_locally journal m f.acts (documents journal m f i) i (with_places journal m i at0) (with_places journal m i at1) 1 f.acts stands in
          λ j. placed j ++ brought j
      | None ↦ λ stands. refl
    ] (added_agree (keys_of_filing journal m) at0 at1 (places_brought journal m i at0) (places_brought journal m i at1) placed agrees)

pub enters_locally : (journal : List Receipt) (m i : ℕ) (at0 at1 : Key → List Entry) → AgreesAt (keys_of_filing journal m) at0 at1 → enters journal m i at1 ≡ enters journal m i at0
enters_locally journal m i at0 at1 agrees =
    let noticed = notices_locally journal m i at0 at1 agrees in
    let rest = entered_locally journal m i (with_notices journal m i at0) (with_notices journal m i at1)
    (added_agree (keys_of_filing journal m) at0 at1 (notices_brought journal m i at0) (notices_brought journal m i at1) noticed agrees) in
    λ j. noticed j ++ rest j
