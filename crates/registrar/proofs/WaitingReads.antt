-- Which filings wait at a key, after entries that do not change it and after marks that set or end it.
use Rattle.std.proofs.Common.{◌≡◌, ℕ, true, false, ◌&&◌, ◌||◌, cond, is_none, List, [], ◌∷◌, ◌++◌, map, fold, Option, Some, None, refl, ap, ◌∙◌}
use Rattle.std.specs.List.{AllByRecursion, enumerate_from}
use Rattle.std.specs.Option.{option_map_or}
use Rattle.std.proofs.lemmas.List.Sums.{fold-append}
use Rattle.gb_base.specs.Keys.{same_key}
use Rattle.gb_base.specs.declared.keys.Key.{Key}
use Rattle.gb_base.specs.declared.keys.Key.TheVariants.{Title, Right, Case}
use Rattle.act_model.specs.declared.documents.Doc.{Doc}
use Rattle.act_model.specs.declared.filing_acts.Act.{Act}
use Rattle.act_model.specs.declared.filing_acts.Act.TheVariants.{Open, Transfer, Create, NoticeFor, Convert, Assign, Cancel, Exchange, Exercise}
use Rattle.act_model.specs.declared.items.Filing.{Filing}
use Rattle.act_model.specs.declared.receipts.Receipt.{Receipt}
use Rattle.act_model.specs.Touches.{acts_of, filing_at, keys_in_order}
use Rattle.act_model.proofs.KeyOrder.{has}
use Rattle.act_model.specs.Documents.{documents}
use Rattle.entry_rules.specs.Entering.{content, contents_brought, entered, placed_at, places_brought, with_places}
use Rattle.registrar.specs.Enters.{enters}
use Rattle.interim_orders.specs.Notices.{notices_at, notices_brought, with_notices}
use Rattle.folio_sections.specs.Waiting.{waiting_unnoticed, notice, pending, until_by}
use Rattle.folio_sections.specs.Entries.{entry_by, at}
use Rattle.act_model.specs.Divisions.{create_in_division, creates_there}
use Rattle.folio_sections.specs.declared.entries.Entry.{Entry}
use Rattle.folio_sections.specs.declared.entries.What.{What}
use Rattle.folio_sections.specs.declared.entries.What.TheVariants as what
use Rattle.folio_sections.proofs.Unchanged.{all_both}
use Rattle.registrar.proofs.ContainedParts.{all_flat_mapped, all_mapped, cond_same, each_so}
use Rattle.registrar.proofs.Dealing.{KeepsWaiting}

-- ---- contents that do not change who waits

until_kept : (n : ℕ) (before : Option ℕ) (w : What) → KeepsWaiting w → until_by n before w ≡ before
until_kept n before (what.Pending filing until) keeps = absurd keeps
until_kept n before (what.Settled filing) keeps = absurd keeps
until_kept n before other keeps = refl

fold_kept : (n : ℕ) (before : Option ℕ) (es : List Entry) → AllByRecursion (λ e. KeepsWaiting e.what) es → fold (λ b e. until_by n b e.what) before es ≡ before
fold_kept n before [] all = refl
fold_kept n before (e ∷ es) all = ap (λ b. fold (λ b e. until_by n b e.what) b es) (until_kept n before e.what all.0) ∙ fold_kept n before es all.1

-- any filing waits as before
pub pending_kept : (n : ℕ) (xs es : List Entry) → AllByRecursion (λ e. KeepsWaiting e.what) es → pending n (xs ++ es) ≡ pending n xs
pending_kept n xs es all = fold-append (λ b e. until_by n b e.what) None xs es ∙ fold_kept n (pending n xs) es all

-- ---- nothing that an entry brings changes who waits

-- the content of each entry neither sets a filing to wait nor ends its waiting
abbrev pub KeepWaiting : List Entry → Type 0
KeepWaiting es = AllByRecursion (λ e. KeepsWaiting e.what) es

notices_keep : (journal : List Receipt) (m i : ℕ) (at : Key → List Entry) → KeepWaiting (notices_brought journal m i at)
notices_keep journal m i at =
    all_flat_mapped (λ e. KeepsWaiting e.what) (notices_at journal m i at) (keys_in_order journal m)
    (each_so (λ k. KeepWaiting (notices_at journal m i at k)) (keys_in_order journal m)
    (λ k. all_mapped (λ e. KeepsWaiting e.what) (λ n. entry_by journal i k (what.Notice n)) (waiting_unnoticed m (at k))
    (each_so (λ n. Unit {0}) (waiting_unnoticed m (at k)) (λ n. tt))))

place_keeps : (journal : List Receipt) (m i : ℕ) (at : Key → List Entry) (key : Key) → KeepWaiting (placed_at journal m i at key)
place_keeps journal m i at (Title folio) =
    let w = what.Placed m (create_in_division false folio (acts_of journal m)) (create_in_division true folio (acts_of journal m)) in
    elim (creates_there journal folio m && is_none (notice m (at (Title folio)))) as (λ b. KeepWaiting (cond b (entry_by journal i (Title folio) w ∷ []) [])) [
      | true ↦ (tt, tt)
      | false ↦ tt
    ]
place_keeps journal m i at (Right folio right) = tt
place_keeps journal m i at (Case folio) = tt

places_keep : (journal : List Receipt) (m i : ℕ) (at : Key → List Entry) → KeepWaiting (places_brought journal m i at)
places_keep journal m i at =
    all_flat_mapped (λ e. KeepsWaiting e.what) (placed_at journal m i at) (keys_in_order journal m)
    (each_so (λ k. KeepWaiting (placed_at journal m i at k)) (keys_in_order journal m) (place_keeps journal m i at))

content_keeps : (journal : List Receipt) (m : ℕ) (acts : List Act) (docs : List Doc) (i : ℕ) (at : Key → List Entry) (a : ℕ) (act : Act)
    → KeepWaiting (content journal m acts docs i at a act)
content_keeps journal m acts docs i at a (Open folio inventory owners) = (tt, tt)
content_keeps journal m acts docs i at a (Transfer folio owners) = (tt, tt)
content_keeps journal m acts docs i at a (Create folio spec reserve) = (tt, tt)
content_keeps journal m acts docs i at a (NoticeFor folio spec) = (tt, tt)
content_keeps journal m acts docs i at a (Convert folio right) = (tt, tt)
content_keeps journal m acts docs i at a (Assign folio right holder) = (tt, tt)
content_keeps journal m acts docs i at a (Cancel folio right) = (tt, tt)
content_keeps journal m acts docs i at a (Exchange folio recede rise) = (tt, (tt, tt))
content_keeps journal m acts docs i at a (Exercise folio behind spec) = (tt, (tt, tt))

contents_keep : (journal : List Receipt) (m i : ℕ) (at : Key → List Entry) (f : Filing) → KeepWaiting (contents_brought journal m i at f)
contents_keep journal m i at f =
    all_flat_mapped (λ e. KeepsWaiting e.what) (λ (numbered : ℕ × Act). content journal m f.acts (documents journal m f i) i at numbered.0 numbered.1) (enumerate_from 1 f.acts)
    (each_so (λ (numbered : ℕ × Act). KeepWaiting (content journal m f.acts (documents journal m f i) i at numbered.0 numbered.1)) (enumerate_from 1 f.acts)
    (λ numbered. content_keeps journal m f.acts (documents journal m f i) i at numbered.0 numbered.1))

entered_keep : (journal : List Receipt) (m i : ℕ) (at : Key → List Entry) (found : Option Filing)
    → KeepWaiting (option_map_or (λ f. places_brought journal m i at ++ contents_brought journal m i (with_places journal m i at) f) found [])
entered_keep journal m i at (Some f) =
    all_both (λ e. KeepsWaiting e.what) (places_brought journal m i at) (contents_brought journal m i (with_places journal m i at) f)
    (places_keep journal m i at) (contents_keep journal m i (with_places journal m i at) f)
entered_keep journal m i at None = tt

pub enters_keep_waiting : (journal : List Receipt) (m i : ℕ) (at : Key → List Entry) → AllByRecursion (λ e. KeepsWaiting e.what) (enters journal m i at)
enters_keep_waiting journal m i at =
    all_both (λ e. KeepsWaiting e.what) (notices_brought journal m i at) (entered journal m i (with_notices journal m i at))
    (notices_keep journal m i at) (entered_keep journal m i (with_notices journal m i at) (filing_at journal m))

-- ---- one content, brought at each of some keys

-- a content at each of some keys, read at one of them
marked : (n : ℕ) (before : Option ℕ) (journal : List Receipt) (i : ℕ) (w : What) (k : Key) (keys : List Key) → ((b : Option ℕ) → until_by n (until_by n b w) w ≡ until_by n b w)
    → fold (λ b e. until_by n b e.what) before (at (map (λ j. entry_by journal i j w) keys) k) ≡ cond (has k keys) (until_by n before w) before
marked n before journal i w k [] twice = refl
marked n before journal i w k (j ∷ keys) twice =
    elim (same_key j k) as (λ b. fold (λ b e. until_by n b e.what) before (cond b (entry_by journal i j w ∷ at (map (λ j. entry_by journal i j w) keys) k) (at (map (λ j. entry_by journal i j w) keys) k)) ≡ cond (b || has k keys) (until_by n before w) before) [
      | true ↦ marked n (until_by n before w) journal i w k keys twice
          ∙ cond_same (has k keys) (until_by n (until_by n before w) w) (until_by n before w) (twice before)
      | false ↦ marked n before journal i w k keys twice
    ]

-- after such a content at each of these keys
pub pending_marked : (n : ℕ) (before : List Entry) (journal : List Receipt) (i : ℕ) (w : What) (k : Key) (keys : List Key) → ((b : Option ℕ) → until_by n (until_by n b w) w ≡ until_by n b w)
    → pending n (before ++ at (map (λ j. entry_by journal i j w) keys) k) ≡ cond (has k keys) (until_by n (pending n before) w) (pending n before)
pending_marked n before journal i w k keys twice =
    fold-append (λ b e. until_by n b e.what) None before (at (map (λ j. entry_by journal i j w) keys) k)
    ∙ marked n (pending n before) journal i w k keys twice
