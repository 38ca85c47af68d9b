-- What the entry of a filing brings stays when more receipts come.
use Rattle.std.proofs.Common.{◌≡◌, ℕ, ◌≤◌, true, false, ◌&&◌, ◌||◌, cond, List, [], ◌∷◌, ◌++◌, flat_map, length, map, Option, Some, None, is_none, option_to_list, refl, ap, ◌∙◌}
use Rattle.std.specs.List.{enumerate_from}
use Rattle.std.specs.Option.{option_map_or}
use Rattle.std.proofs.lemmas.List.Elements.{recursion_from_All}
use Rattle.gb_base.specs.declared.keys.Key.{Key}
use Rattle.gb_base.specs.declared.keys.Key.TheVariants.{Title, Right, Case}
use Rattle.act_model.specs.Acts.{folio_of, is_in_division_three, reserve_of, right_behind, right_created}
use Rattle.act_model.specs.Divisions.{create_in_division}
use Rattle.act_model.specs.Documents.{documents, has_proof}
use Rattle.act_model.specs.Groups.{has_equal}
use Rattle.act_model.specs.Touches.{filing_at, new_right}
use Rattle.act_model.specs.declared.documents.Doc.{Doc}
use Rattle.act_model.specs.declared.filing_acts.Act.{Act}
use Rattle.act_model.specs.declared.filing_acts.Act.TheVariants.{Open, Transfer, Create, NoticeFor, Convert, Assign, Cancel, Exchange, Exercise}
use Rattle.act_model.specs.declared.items.Filing.{Filing}
use Rattle.act_model.specs.declared.receipts.Receipt.{Receipt}
use Rattle.entry_rules.specs.Entering.{as_entered, content, contents_brought, creation, entered, form_created, placed_at, places_brought, with_places}
use Rattle.folio_sections.proofs.Unchanged.{all_weaker}
use Rattle.folio_sections.specs.Entries.{with_entries}
use Rattle.folio_sections.specs.Places.{behind, own_place, place_by, places}
use Rattle.folio_sections.specs.Waiting.{notice, waiting_unnoticed}
use Rattle.folio_sections.specs.declared.entries.Entry.{Entry}
use Rattle.folio_sections.specs.declared.entries.What.{What}
use Rattle.folio_sections.specs.declared.entries.What.TheVariants as what
use Rattle.folio_sections.specs.declared.title_places.TitlePlace.{TitlePlace}
use Rattle.interim_orders.specs.Notices.{notices_brought, with_notices}
use Rattle.registrar.proofs.JudgedAsBefore.{filter_map_alike}
use Rattle.registrar.proofs.LaterReceipts.{acts_stay, day_stays, documents_stay, entry_stays, filing_stays, keys_stay}
use Rattle.registrar.proofs.NamedReceipts.{name_together, notices_named, places_named}
use Rattle.registrar.specs.Enters.{enters}
use Rattle.registrar.specs.NamesUpTo.{AllNameUpTo, NamesUpTo}

module _ (journal more : List Receipt) where
  -- ---- the places of a folio

  place_stays : (folio day : ℕ) (w : What) → NamesUpTo (length journal) w (Title folio) → place_by (journal ++ more) folio day w ≡ place_by journal folio day w
  place_stays folio day (what.Notice filing) names =
      ap {B = Option TitlePlace} (λ acts. cond (create_in_division false folio acts || create_in_division true folio acts)
      (Some (record { filing = filing; day = day; second = create_in_division false folio acts; third = create_in_division true folio acts })) None)
      (acts_stay journal more filing names)
  place_stays folio day other names = refl

  places_stay : (stands : Key → List Entry) (folio : ℕ) → AllNameUpTo (length journal) stands → places (journal ++ more) stands folio ≡ places journal stands folio
  places_stay stands folio named =
      let es = stands (Title folio) in
      filter_map_alike (λ e. place_by (journal ++ more) folio e.day e.what) (λ e. place_by journal folio e.day e.what) es
      (all_weaker (λ (e : Entry). NamesUpTo (length journal) e.what (Title folio)) (λ e. place_by (journal ++ more) folio e.day e.what ≡ place_by journal folio e.day e.what) es
      (λ e names. place_stays folio e.day e.what names)
      (recursion_from_All (λ e. NamesUpTo (length journal) e.what (Title folio)) es (named (Title folio))))

  -- ---- official notices and places

  notices_stay : (m i : ℕ) (stands : Key → List Entry) → m ≤ length journal → i ≤ length journal → notices_brought (journal ++ more) m i stands ≡ notices_brought journal m i stands
  notices_stay m i stands filed within =
      let keys = keys_stay journal more m filed in
      let entry = entry_stays journal more i within in
      λ j. flat_map (λ key. map (λ n. entry j key (what.Notice n)) (waiting_unnoticed m (stands key))) (keys j)

  placed_stays : (m i : ℕ) (stands : Key → List Entry) (k : Key) → m ≤ length journal → i ≤ length journal → placed_at (journal ++ more) m i stands k ≡ placed_at journal m i stands k
  placed_stays m i stands (Title folio) filed within =
      let acts = acts_stay journal more m filed in
      let entry = entry_stays journal more i within in
      λ j. cond ((create_in_division false folio (acts j) || create_in_division true folio (acts j)) && is_none (notice m (stands (Title folio))))
      (entry j (Title folio) (what.Placed m (create_in_division false folio (acts j)) (create_in_division true folio (acts j))) ∷ []) []
  placed_stays m i stands (Right folio right) filed within = refl
  placed_stays m i stands (Case folio) filed within = refl

  placing_stays : (m i : ℕ) (stands : Key → List Entry) → m ≤ length journal → i ≤ length journal → places_brought (journal ++ more) m i stands ≡ places_brought journal m i stands
  placing_stays m i stands filed within =
      let keys = keys_stay journal more m filed in
      λ j. flat_map (λ k. placed_stays m i stands k filed within j) (keys j)

  -- ---- the contents of the acts

  as_entered_stays : (m : ℕ) (acts : List Act) (i : ℕ) → i ≤ length journal → as_entered (journal ++ more) m acts i ≡ as_entered journal m acts i
  as_entered_stays m acts i within =
      let day = day_stays journal more i within in
      λ j standing a act spec. record {
        spec = spec;
        form = form_created act;
        reserve = reserve_of act;
        ahead_of = right_behind act;
        placed = option_map_or (λ p. p.day) (own_place m standing) (day j);
        behind = behind (is_in_division_three spec.kind) m standing;
        equal = has_equal acts a act;
      }

  creation_stays : (m : ℕ) (acts : List Act) (i : ℕ) (stands : Key → List Entry) (a : ℕ) (act : Act) → i ≤ length journal → AllNameUpTo (length journal) stands
      → creation (journal ++ more) m acts i stands a act ≡ creation journal m acts i stands a act
  creation_stays m acts i stands a act within named =
      let entry = entry_stays journal more i within in
      let right = as_entered_stays m acts i within in
      let standing = places_stay stands (folio_of act) named in
      λ j. map (λ spec. entry j (Right (folio_of act) (new_right m a)) (what.Created (right j (standing j) a act spec))) (option_to_list (right_created act))

  content_stays : (m : ℕ) (acts : List Act) (docs : List Doc) (i : ℕ) (stands : Key → List Entry) (a : ℕ) (act : Act) → i ≤ length journal → AllNameUpTo (length journal) stands
      → content (journal ++ more) m acts docs i stands a act ≡ content journal m acts docs i stands a act
  content_stays m acts docs i stands a (Open folio inventory owners) within named =
      let entry = entry_stays journal more i within in λ j. entry j (Title folio) (what.Opened inventory owners) ∷ []
  content_stays m acts docs i stands a (Transfer folio owners) within named =
      let entry = entry_stays journal more i within in λ j. entry j (Title folio) (what.Owner owners) ∷ []
  content_stays m acts docs i stands a (Create folio spec reserve) within named = creation_stays m acts i stands a (Create folio spec reserve) within named
  content_stays m acts docs i stands a (NoticeFor folio spec) within named = creation_stays m acts i stands a (NoticeFor folio spec) within named
  content_stays m acts docs i stands a (Convert folio right) within named =
      let entry = entry_stays journal more i within in λ j. entry j (Right folio right) what.Converted ∷ []
  content_stays m acts docs i stands a (Assign folio right holder) within named =
      let entry = entry_stays journal more i within in λ j. entry j (Right folio right) (what.Holder holder) ∷ []
  content_stays m acts docs i stands a (Cancel folio right) within named =
      let entry = entry_stays journal more i within in λ j. entry j (Right folio right) (what.Cancelled (has_proof docs a)) ∷ []
  content_stays m acts docs i stands a (Exchange folio recede rise) within named =
      let entry = entry_stays journal more i within in
      λ j. entry j (Right folio recede) (what.Exchanged recede rise a) ∷ entry j (Right folio rise) (what.Exchanged recede rise a) ∷ []
  content_stays m acts docs i stands a (Exercise folio behind_right spec) within named =
      let entry = entry_stays journal more i within in
      let created = creation_stays m acts i stands a (Exercise folio behind_right spec) within named in
      λ j. created j ++ entry j (Right folio behind_right) (what.Exercised (new_right m a)) ∷ []

  contents_stay : (m i : ℕ) (stands : Key → List Entry) (f : Filing) → i ≤ length journal → AllNameUpTo (length journal) stands → contents_brought (journal ++ more) m i stands f ≡ contents_brought journal m i stands f
  contents_stay m i stands f within named =
      let docs = documents journal m f i in
      ap (λ ds. flat_map (λ (p : ℕ × Act). content (journal ++ more) m f.acts ds i stands p.0 p.1) (enumerate_from 1 f.acts)) (documents_stay journal more m f i within)
      ∙ (λ j. flat_map (λ (p : ℕ × Act). content_stays m f.acts docs i stands p.0 p.1 within named j) (enumerate_from 1 f.acts))

  -- ---- together

  entered_stays : (m i : ℕ) (stands : Key → List Entry) → m ≤ length journal → i ≤ length journal → AllNameUpTo (length journal) stands → entered (journal ++ more) m i stands ≡ entered journal m i stands
  entered_stays m i stands filed within named =
      let placing = placing_stays m i stands filed within in
      let behind_places = with_places journal m i stands in
      let all = name_together (length journal) stands (places_brought journal m i stands) named (places_named (length journal) journal m i stands) in
      ap (λ o. option_map_or (λ f. places_brought (journal ++ more) m i stands ++ contents_brought (journal ++ more) m i (with_places (journal ++ more) m i stands) f) o []) (filing_stays journal more m filed)
      ∙ ap (λ placed. option_map_or (λ f. placed ++ contents_brought (journal ++ more) m i (with_entries stands placed) f) (filing_at journal m) []) placing
      ∙ (λ j. option_map_or (λ f. places_brought journal m i stands ++ contents_stay m i behind_places f within all j) (filing_at journal m) [])

  pub enters_as_before : (m i : ℕ) (stands : Key → List Entry) → m ≤ length journal → i ≤ length journal → AllNameUpTo (length journal) stands → enters (journal ++ more) m i stands ≡ enters journal m i stands
  enters_as_before m i stands filed within named =
      let all = name_together (length journal) stands (notices_brought journal m i stands) named (notices_named (length journal) journal m i stands filed) in
      let entered_then = entered_stays m i (with_notices journal m i stands) filed within all in
      ap (λ noticed. noticed ++ entered (journal ++ more) m i (with_entries stands noticed)) (notices_stay m i stands filed within)
      ∙ ap (λ es. notices_brought journal m i stands ++ es) entered_then
