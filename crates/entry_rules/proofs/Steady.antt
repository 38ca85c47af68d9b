-- Places that are set change no notice, and contents that are entered change no place.
use Rattle.std.proofs.Common.{◌≡◌, ℕ, true, false, cond, ◌&&◌, List, [], ◌∷◌, is_none, refl, ap, ◌∙◌}
use Rattle.std.specs.List.{AllByRecursion}
use Rattle.gb_base.specs.declared.keys.Key.{Key}
use Rattle.gb_base.specs.declared.keys.Key.TheVariants.{Title, Right, Case}
use Rattle.act_model.specs.Acts.{folio_of}
use Rattle.act_model.specs.Touches.{acts_of, new_right}
use Rattle.act_model.specs.declared.filing_acts.Act.{Act}
use Rattle.act_model.specs.declared.filing_acts.Act.TheVariants.{Open, Transfer, Create, NoticeFor, Convert, Assign, Cancel, Exchange, Exercise}
use Rattle.act_model.specs.declared.items.Filing.{Filing}
use Rattle.act_model.specs.declared.receipts.Receipt.{Receipt}
use Rattle.act_model.specs.declared.rights.RightSpec.{RightSpec}
use Rattle.entry_rules.specs.Entering.{as_entered, placed_at}
use Rattle.folio_sections.specs.Entries.{entry_by, at}
use Rattle.act_model.specs.Divisions.{create_in_division, creates_there}
use Rattle.folio_sections.specs.Places.{places, places_among}
use Rattle.folio_sections.specs.Waiting.{notice}
use Rattle.folio_sections.specs.declared.entries.Entry.{Entry}
use Rattle.folio_sections.specs.declared.entries.What.TheVariants as what
use Rattle.folio_sections.specs.declared.title_places.TitlePlace.{TitlePlace}
use Rattle.folio_sections.proofs.Unchanged.{KeepsNotices, SetsNoPlace, all_at, notice_stays, places_stay}
use Rattle.entry_rules.specs.inner.Acting.{brought_by}
use Rattle.folio_sections.proofs.Progress.{Independent}

-- a place is no notice
placed_keeps : (journal : List Receipt) (m i : ℕ) (at0 : Key → List Entry) (key : Key) → AllByRecursion KeepsNotices (placed_at journal m i at0 key)
placed_keeps journal m i at0 (Title folio) =
    elim (creates_there journal folio m && is_none (notice m (at0 (Title folio)))) as (λ b. AllByRecursion KeepsNotices (cond b (entry_by journal i (Title folio) (what.Placed m (create_in_division false folio (acts_of journal m)) (create_in_division true folio (acts_of journal m))) ∷ []) [])) [
      | true ↦ (λ n before. (refl, refl), tt)
      | false ↦ tt
    ]
placed_keeps journal m i at0 (Right folio right) = tt
placed_keeps journal m i at0 (Case folio) = tt

placed_same : (journal : List Receipt) (m i : ℕ) (at0 at1 : Key → List Entry) → ((k : Key) → notice m (at1 k) ≡ notice m (at0 k)) → (key : Key) → placed_at journal m i at1 key ≡ placed_at journal m i at0 key
placed_same journal m i at0 at1 same (Title folio) =
    ap (λ o. cond (creates_there journal folio m && is_none o) (entry_by journal i (Title folio) (what.Placed m (create_in_division false folio (acts_of journal m)) (create_in_division true folio (acts_of journal m))) ∷ []) []) (same (Title folio))
placed_same journal m i at0 at1 same (Right folio right) = refl
placed_same journal m i at0 at1 same (Case folio) = refl

pub places_apart : (journal : List Receipt) (m i : ℕ) → Independent Key (placed_at journal m i) KeepsNotices
places_apart journal m i = record {
  same = λ at0 at1 done added keeps.
      placed_same journal m i at0 at1 (λ k. ap (notice m) (added k) ∙ notice_stays m (at0 k) (at done k) (all_at KeepsNotices done k keeps));
  keeps = placed_keeps journal m i;
}

-- a right that is entered on these places
abbrev created_on : List Receipt → ℕ → List Act → ℕ → ℕ → Act → RightSpec → List TitlePlace → Entry
created_on journal m acts i a act spec standing =
    entry_by journal i (Right (folio_of act) (new_right m a)) (what.Created (as_entered journal m acts i standing a act spec))

contents_same : (journal : List Receipt) (m i : ℕ) (f : Filing) (at0 at1 : Key → List Entry) → ((folio : ℕ) → places journal at1 folio ≡ places journal at0 folio) → (a : ℕ) (act : Act) → brought_by journal m i at1 f a act ≡ brought_by journal m i at0 f a act
contents_same journal m i f at0 at1 same a (Open folio inventory owners) = refl
contents_same journal m i f at0 at1 same a (Transfer folio owners) = refl
contents_same journal m i f at0 at1 same a (Create folio spec reserve) =
    ap (λ ps. created_on journal m f.acts i a (Create folio spec reserve) spec ps ∷ []) (same folio)
contents_same journal m i f at0 at1 same a (NoticeFor folio spec) =
    ap (λ ps. created_on journal m f.acts i a (NoticeFor folio spec) spec ps ∷ []) (same folio)
contents_same journal m i f at0 at1 same a (Convert folio right) = refl
contents_same journal m i f at0 at1 same a (Assign folio right holder) = refl
contents_same journal m i f at0 at1 same a (Cancel folio right) = refl
contents_same journal m i f at0 at1 same a (Exchange folio recede rise) = refl
contents_same journal m i f at0 at1 same a (Exercise folio behind_right spec) =
    ap (λ ps. created_on journal m f.acts i a (Exercise folio behind_right spec) spec ps ∷ entry_by journal i (Right folio behind_right) (what.Exercised (new_right m a)) ∷ []) (same folio)

-- a content is no place
contents_keep : (journal : List Receipt) (m i : ℕ) (f : Filing) (at0 : Key → List Entry) (a : ℕ) (act : Act) → AllByRecursion SetsNoPlace (brought_by journal m i at0 f a act)
contents_keep journal m i f at0 a (Open folio inventory owners) = (λ j g. refl, tt)
contents_keep journal m i f at0 a (Transfer folio owners) = (λ j g. refl, tt)
contents_keep journal m i f at0 a (Create folio spec reserve) = (λ j g. refl, tt)
contents_keep journal m i f at0 a (NoticeFor folio spec) = (λ j g. refl, tt)
contents_keep journal m i f at0 a (Convert folio right) = (λ j g. refl, tt)
contents_keep journal m i f at0 a (Assign folio right holder) = (λ j g. refl, tt)
contents_keep journal m i f at0 a (Cancel folio right) = (λ j g. refl, tt)
contents_keep journal m i f at0 a (Exchange folio recede rise) = (λ j g. refl, (λ j g. refl, tt))
contents_keep journal m i f at0 a (Exercise folio behind_right spec) = (λ j g. refl, (λ j g. refl, tt))

-- what act a brings, under its number
abbrev pub brings : List Receipt → ℕ → ℕ → Filing → (Key → List Entry) → ℕ × Act → List Entry
brings journal m i f at0 numbered = brought_by journal m i at0 f numbered.0 numbered.1

pub contents_apart : (journal : List Receipt) (m i : ℕ) (f : Filing) → Independent (ℕ × Act) (brings journal m i f) SetsNoPlace
contents_apart journal m i f = record {
  same = λ at0 at1 done added keeps numbered.
      contents_same journal m i f at0 at1
      (λ folio. ap (places_among journal folio) (added (Title folio)) ∙ places_stay journal folio (at0 (Title folio)) (at done (Title folio)) (all_at SetsNoPlace done (Title folio) keeps))
      numbered.0 numbered.1;
  keeps = λ at0 numbered. contents_keep journal m i f at0 numbered.0 numbered.1;
}
