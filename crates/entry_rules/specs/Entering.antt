-- What the entry of filing m by item i brings but for official notices: places, and the contents of its acts (GBO §§ 16(2), 45).
use Rattle.std.specs.Prelude.{ℕ, false, true, ◌&&◌, if◌then◌else◌, List, [], ◌∷◌, ◌++◌, flat_map, map, is_none, option_to_list}
use Rattle.std.specs.Option.{option_map_or}
use Rattle.std.specs.List.{enumerate_from}
use Rattle.gb_base.specs.declared.keys.Key.{Key}
use Rattle.gb_base.specs.declared.keys.Key.TheVariants.{Title, Right, Case}
use Rattle.act_model.specs.declared.documents.Doc.{Doc}
use Rattle.act_model.specs.declared.filing_acts.Act.{Act}
use Rattle.act_model.specs.declared.filing_acts.Act.TheVariants.{Open, Transfer, Create, NoticeFor, Convert, Assign, Cancel, Exchange, Exercise}
use Rattle.act_model.specs.declared.items.Filing.{Filing}
use Rattle.act_model.specs.declared.receipts.Receipt.{Receipt}
use Rattle.act_model.specs.declared.rights.RightSpec.{RightSpec}
use Rattle.act_model.specs.Receiving.{day_of}
use Rattle.act_model.specs.Touches.{acts_of, filing_at, keys_in_order, new_right}
use Rattle.act_model.specs.Acts.{folio_of, is_in_division_three, right_created, reserve_of, right_behind}
use Rattle.act_model.specs.Documents.{documents, has_proof}
use Rattle.folio_sections.specs.Entries.{with_entries, entry_by}
use Rattle.act_model.specs.Groups.{has_equal}
use Rattle.folio_sections.specs.Places.{behind, own_place, places}
use Rattle.act_model.specs.Divisions.{create_in_division, creates_there}
use Rattle.folio_sections.specs.Waiting.{notice}
use Rattle.folio_sections.specs.declared.entries.Created.{Created}
use Rattle.folio_sections.specs.declared.entries.Entry.{Entry}
use Rattle.folio_sections.specs.declared.entries.RightForm.{RightForm}
use Rattle.folio_sections.specs.declared.title_places.TitlePlace.{TitlePlace}
use Rattle.folio_sections.specs.declared.entries.RightForm.TheVariants as form
use Rattle.folio_sections.specs.declared.entries.What.TheVariants as what

-- ---- places (BGB § 879)

-- the place that filing m gets in a folio, where it creates a right there and no notice keeps its place
abbrev pub placed_in : List Receipt → ℕ → ℕ → (Key → List Entry) → ℕ → List Entry
placed_in journal m i at folio =
    if creates_there journal folio m && is_none (notice m (at (Title folio)))
    then entry_by journal i (Title folio)
    (what.Placed m (create_in_division false folio (acts_of journal m)) (create_in_division true folio (acts_of journal m))) ∷ []
    else []

-- the place that filing m gets at a key, where this is the title of a folio
abbrev pub placed_at : List Receipt → ℕ → ℕ → (Key → List Entry) → Key → List Entry
placed_at journal m i at (Title folio) = placed_in journal m i at folio
placed_at journal m i at (Right folio right) = []
placed_at journal m i at (Case folio) = []

-- all places that filing m gets, by folio
abbrev pub places_brought : List Receipt → ℕ → ℕ → (Key → List Entry) → List Entry
places_brought journal m i at = flat_map (placed_at journal m i at) (keys_in_order journal m)

-- ---- the contents of the acts, once the places stand

-- the form in which a creating act enters its right (BGB § 883); it is never asked of other acts
abbrev pub form_created : Act → RightForm
form_created (Open folio inventory owners) = form.Full
form_created (Transfer folio owners) = form.Full
form_created (Create folio spec reserve) = form.Full
form_created (NoticeFor folio spec) = form.Notice
form_created (Convert folio right) = form.Full
form_created (Assign folio right holder) = form.Full
form_created (Cancel folio right) = form.Full
form_created (Exchange folio recede rise) = form.Full
form_created (Exercise folio behind_right spec) = form.Full

-- the day of filing m's own place among these; a filing that enters a right has one, and without one it would be the day of item i
abbrev pub day_placed : List Receipt → ℕ → ℕ → List TitlePlace → ℕ
day_placed journal m i standing = option_map_or (λ p. p.day) (own_place m standing) (day_of journal i)

-- the right of this description that act a of filing m creates, as it is entered by item i on these places of its folio
abbrev pub as_entered : List Receipt → ℕ → List Act → ℕ → List TitlePlace → ℕ → Act → RightSpec → Created
as_entered journal m acts i standing a act spec = record {
  spec = spec;
  form = form_created act;
  reserve = reserve_of act;
  ahead_of = right_behind act;
  placed = day_placed journal m i standing;
  behind = behind (is_in_division_three spec.kind) m standing;
  equal = has_equal acts a act;
}

-- the entry of the right that act a of filing m creates; none where it creates none
abbrev pub creation : List Receipt → ℕ → List Act → ℕ → (Key → List Entry) → ℕ → Act → List Entry
creation journal m acts i at a act =
    map
    (λ spec. entry_by journal i (Right (folio_of act) (new_right m a))
    (what.Created (as_entered journal m acts i (places journal at (folio_of act)) a act spec)))
    (option_to_list (right_created act))

-- what act a of filing m brings
abbrev pub content : List Receipt → ℕ → List Act → List Doc → ℕ → (Key → List Entry) → ℕ → Act → List Entry
content journal m acts docs i at a (Open folio inventory owners) =
    entry_by journal i (Title folio) (what.Opened inventory owners) ∷ []
content journal m acts docs i at a (Transfer folio owners) = entry_by journal i (Title folio) (what.Owner owners) ∷ []
content journal m acts docs i at a (Create folio spec reserve) = creation journal m acts i at a (Create folio spec reserve)
content journal m acts docs i at a (NoticeFor folio spec) = creation journal m acts i at a (NoticeFor folio spec)
content journal m acts docs i at a (Convert folio right) = entry_by journal i (Right folio right) what.Converted ∷ []
content journal m acts docs i at a (Assign folio right holder) = entry_by journal i (Right folio right) (what.Holder holder) ∷ []
content journal m acts docs i at a (Cancel folio right) =
    entry_by journal i (Right folio right) (what.Cancelled (has_proof docs a)) ∷ []
content journal m acts docs i at a (Exchange folio recede rise) =
    entry_by journal i (Right folio recede) (what.Exchanged recede rise a)
    ∷ entry_by journal i (Right folio rise) (what.Exchanged recede rise a) ∷ []
content journal m acts docs i at a (Exercise folio behind_right spec) =
    creation journal m acts i at a (Exercise folio behind_right spec)
    ++ entry_by journal i (Right folio behind_right) (what.Exercised (new_right m a)) ∷ []

-- what the acts of filing m bring, in their order
abbrev pub contents_brought : List Receipt → ℕ → ℕ → (Key → List Entry) → Filing → List Entry
contents_brought journal m i at f =
    flat_map (λ numbered. content journal m f.acts (documents journal m f i) i at numbered.0 numbered.1) (enumerate_from 1 f.acts)

-- ---- together

-- what stands at each key once the places are entered
abbrev pub with_places : List Receipt → ℕ → ℕ → (Key → List Entry) → Key → List Entry
with_places journal m i at = with_entries at (places_brought journal m i at)

-- the places of filing m, and then the contents of its acts
abbrev pub entered : List Receipt → ℕ → ℕ → (Key → List Entry) → List Entry
entered journal m i at =
    option_map_or (λ f. places_brought journal m i at ++ contents_brought journal m i (with_places journal m i at) f) (filing_at journal m) []
