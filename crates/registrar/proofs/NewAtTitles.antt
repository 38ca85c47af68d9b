-- Which entries an item brings at one title: none where it is no key of the filing.
use Rattle.std.proofs.Common.{◌≡◌, ℕ, Bool, true, false, cond, ◌&&◌, ◌||◌, List, [], ◌∷◌, ◌++◌, map, flat_map, Contains, Some, is_none, refl, sym, ap, subst, ◌∙◌, append_assoc}
use Rattle.std.specs.List.{AllByRecursion, enumerate_from}
use Rattle.std.specs.List.Sorted.{IsStrictlySortedBy}
use Rattle.std.specs.Option.{option_map_or}
use Rattle.std.proofs.lemmas.List.{append-nil}
use Rattle.std.proofs.lemmas.List.Concat.{flat_map-cons, flat_map_single}
use Rattle.gb_base.specs.Keys.{key_cmp, same_key}
use Rattle.gb_base.specs.declared.keys.Key.{Key}
use Rattle.gb_base.specs.declared.keys.Key.TheVariants.{Title, Right, Case}
use Rattle.act_model.specs.Touches.{acts_of, filing_at, keys_in_order, keys_of_filing}
use Rattle.act_model.specs.declared.documents.Doc.{Doc}
use Rattle.act_model.specs.declared.filing_acts.Act.{Act}
use Rattle.act_model.specs.declared.filing_acts.Act.TheVariants.{Open, Transfer, Create, NoticeFor, Convert, Assign, Cancel, Exchange, Exercise}
use Rattle.act_model.specs.declared.items.Filing.{Filing}
use Rattle.act_model.specs.declared.receipts.Receipt.{Receipt}
use Rattle.act_model.proofs.KeyOrder.{has, has_decides, in_key_order_members, in_key_order_sorted, itself, not_above_itself, same_is}
use Rattle.act_model.specs.Documents.{documents}
use Rattle.entry_rules.specs.Entering.{content, contents_brought, placed_at, places_brought, with_places}
use Rattle.registrar.specs.Enters.{enters}
use Rattle.interim_orders.specs.Notices.{notices_at, notices_brought, with_notices}
use Rattle.folio_sections.specs.Waiting.{waiting_unnoticed, notice}
use Rattle.folio_sections.specs.Entries.{entry_by, at, with_entries}
use Rattle.act_model.specs.Divisions.{create_in_division, creates_there}
use Rattle.folio_sections.specs.declared.entries.Entry.{Entry}
use Rattle.folio_sections.specs.declared.entries.What.{What}
use Rattle.folio_sections.specs.declared.entries.What.TheVariants as what
use Rattle.folio_sections.proofs.Additions.{at-append, none_at}
use Rattle.folio_sections.proofs.Unchanged.{all_at}
use Rattle.registrar.proofs.ContainedParts.{all_parts}
use Rattle.registrar.proofs.EnteredTitles.{IsQuiet, place_list, with_entry}
use Rattle.registrar.proofs.NoticedPlaces.{notice_entry}

-- ---- what is brought key by key

at_own : (es : List Entry) (k : Key) → AllByRecursion (λ e. e.key ≡ k) es → at es k ≡ es
at_own [] k own = refl
at_own (e ∷ es) k own =
    let same : same_key e.key k ≡ true = ap (λ x. same_key x k) own.0 ∙ itself k in
    ap (λ b. cond b (e ∷ at es k) (at es k)) same ∙ ap (λ xs. e ∷ xs) (at_own es k own.1)

at_other : (es : List Entry) (key k : Key) → same_key key k ≡ false → AllByRecursion (λ e. e.key ≡ key) es → AllByRecursion (λ e. same_key e.key k ≡ false) es
at_other [] key k other own = tt
at_other (e ∷ es) key k other own = (ap (λ x. same_key x k) own.0 ∙ other, at_other es key k other own.1)

no_more : (xs : List Entry) (b : Bool) (ys : List Entry) → b ≡ false → xs ++ cond b ys [] ≡ xs
no_more xs b ys none = ap (λ c. xs ++ cond c ys []) none ∙ append-nil xs

-- where each key's entries stand at it, those of a key are what it brings itself
pub at_keys : (f : Key → List Entry) → ((key : Key) → AllByRecursion (λ e. e.key ≡ key) (f key)) → (k : Key) (keys : List Key) → IsStrictlySortedBy key_cmp keys
    → at (flat_map f keys) k ≡ cond (has k keys) (f k) []
unfolding IsStrictlySortedBy
at_keys f own k [] sorted = refl
at_keys f own k (key ∷ keys) sorted =
    let rest = at_keys f own k keys sorted.1 in
    ap (λ es. at es k) (flat_map-cons f key keys) ∙ at-append (f key) (flat_map f keys) k
    ∙ ap (λ es. at (f key) k ++ es) rest
    ∙ elim (same_key key k) as (λ b. same_key key k ≡ b → at (f key) k ++ cond (has k keys) (f k) [] ≡ cond b (f k) (cond (has k keys) (f k) [])) [
      | true ↦ λ same.
          let is : key ≡ k = same_is key k same in
          no_more (at (f key) k) (has k keys) (f k) (subst (λ x. has x keys ≡ false) is (not_above_itself key keys sorted.0))
          ∙ ap (λ x. at (f x) k) is ∙ at_own (f k) k (own k)
      | false ↦ λ other. ap (λ es. es ++ cond (has k keys) (f k) []) (none_at (f key) k (at_other (f key) key k other (own key)))
    ] refl
    ∙ by_either (same_key key k) (has k keys) (f k)
  where
    by_either : (b c : Bool) (es : List Entry) → cond b es (cond c es []) ≡ cond (b || c) es []
    by_either true c es = refl
    by_either false c es = refl

-- the keys of filing m, of which this is one
pub is_key : (journal : List Receipt) (m : ℕ) (k : Key) → has k (keys_in_order journal m) ≡ true → Contains (keys_of_filing journal m) k
is_key journal m k there = (in_key_order_members (keys_of_filing journal m) k).0 ((has_decides k (keys_in_order journal m)).0 there)

at_filing : (journal : List Receipt) (m : ℕ) (f : Key → List Entry) → ((key : Key) → AllByRecursion (λ e. e.key ≡ key) (f key)) → (k : Key)
    → at (flat_map f (keys_in_order journal m)) k ≡ cond (has k (keys_in_order journal m)) (f k) []
at_filing journal m f own k = at_keys f own k (keys_in_order journal m) (in_key_order_sorted (keys_of_filing journal m))

-- ---- an interim order, and the end of waiting

-- one content at each key
pub marked_at : (journal : List Receipt) (m i : ℕ) (w : What) (k : Key)
    → at (map (λ key. entry_by journal i key w) (keys_in_order journal m)) k ≡ cond (has k (keys_in_order journal m)) (entry_by journal i k w ∷ []) []
marked_at journal m i w k =
    ap (λ es. at es k) (sym (flat_map_single (λ key. entry_by journal i key w) (keys_in_order journal m)))
    ∙ at_filing journal m (λ key. entry_by journal i key w ∷ []) (λ key. (refl, tt)) k

-- ---- an entry

notices_own : (journal : List Receipt) (i : ℕ) (key : Key) (ns : List ℕ) → AllByRecursion (λ e. e.key ≡ key) (map (notice_entry journal i key) ns)
notices_own journal i key [] = tt
notices_own journal i key (n ∷ ns) = (refl, notices_own journal i key ns)

places_own : (journal : List Receipt) (m i : ℕ) (at0 : Key → List Entry) (key : Key) → AllByRecursion (λ e. e.key ≡ key) (placed_at journal m i at0 key)
places_own journal m i at0 (Title folio) =
    elim (creates_there journal folio m && is_none (notice m (at0 (Title folio)))) as (λ b. AllByRecursion (λ e. e.key ≡ Title folio) (cond b (entry_by journal i (Title folio) (what.Placed m (create_in_division false folio (acts_of journal m)) (create_in_division true folio (acts_of journal m))) ∷ []) [])) [
      | true ↦ (refl, tt)
      | false ↦ tt
    ]
places_own journal m i at0 (Right folio right) = tt
places_own journal m i at0 (Case folio) = tt

-- the contents of acts are quiet
content_quiet : (journal : List Receipt) (m : ℕ) (acts : List Act) (docs : List Doc) (i : ℕ) (at0 : Key → List Entry) (a : ℕ) (act : Act) → AllByRecursion (λ e. IsQuiet e.what) (content journal m acts docs i at0 a act)
content_quiet journal m acts docs i at0 a (Open folio inventory owners) = (tt, tt)
content_quiet journal m acts docs i at0 a (Transfer folio owners) = (tt, tt)
content_quiet journal m acts docs i at0 a (Create folio spec reserve) = (tt, tt)
content_quiet journal m acts docs i at0 a (NoticeFor folio spec) = (tt, tt)
content_quiet journal m acts docs i at0 a (Convert folio right) = (tt, tt)
content_quiet journal m acts docs i at0 a (Assign folio right holder) = (tt, tt)
content_quiet journal m acts docs i at0 a (Cancel folio right) = (tt, tt)
content_quiet journal m acts docs i at0 a (Exchange folio recede rise) = (tt, (tt, tt))
content_quiet journal m acts docs i at0 a (Exercise folio behind_right spec) = (tt, (tt, tt))

-- what the acts of filing m bring at a key
abbrev pub contents_at : List Receipt → ℕ → ℕ → (Key → List Entry) → Filing → Key → List Entry
contents_at journal m i at0 f k = at (contents_brought journal m i (with_places journal m i (with_notices journal m i at0)) f) k

pub contents_quiet : (journal : List Receipt) (m i : ℕ) (at0 : Key → List Entry) (f : Filing) (k : Key) → AllByRecursion (λ e. IsQuiet e.what) (contents_at journal m i at0 f k)
contents_quiet journal m i at0 f k =
    let standing = with_places journal m i (with_notices journal m i at0) in
    let docs = documents journal m f i in
    all_at (λ e. IsQuiet e.what) (contents_brought journal m i standing f) k
    (all_parts (λ e. IsQuiet e.what) (λ (numbered : ℕ × Act). content journal m f.acts docs i standing numbered.0 numbered.1) (enumerate_from 1 f.acts)
    (λ numbered. content_quiet journal m f.acts docs i standing numbered.0 numbered.1))

-- the entries at a title once the notices stand there
abbrev pub noticed_title : List Receipt → ℕ → ℕ → (Key → List Entry) → ℕ → List Entry
noticed_title journal m i at0 folio = at0 (Title folio) ++ map (notice_entry journal i (Title folio)) (waiting_unnoticed m (at0 (Title folio)))

enters_parts : (journal : List Receipt) (m i : ℕ) (at0 : Key → List Entry) (f : Filing) (k : Key) → filing_at journal m ≡ Some f
    → at (enters journal m i at0) k ≡ at (notices_brought journal m i at0) k ++ (at (places_brought journal m i (with_notices journal m i at0)) k ++ contents_at journal m i at0 f k)
enters_parts journal m i at0 f k is =
    let now = with_notices journal m i at0 in
    let notices = notices_brought journal m i at0 in
    let contents = contents_brought journal m i (with_places journal m i now) f in
    ap (λ o. at (notices ++ option_map_or (λ g. places_brought journal m i now ++ contents_brought journal m i (with_places journal m i now) g) o []) k) is
    ∙ at-append notices (places_brought journal m i now ++ contents) k
    ∙ ap (λ es. at notices k ++ es) (at-append (places_brought journal m i now) contents k)

notices_there : (journal : List Receipt) (m i : ℕ) (at0 : Key → List Entry) (k : Key) → at (notices_brought journal m i at0) k ≡ cond (has k (keys_in_order journal m)) (notices_at journal m i at0 k) []
notices_there journal m i at0 k = at_filing journal m (notices_at journal m i at0) (λ key. notices_own journal i key (waiting_unnoticed m (at0 key))) k

places_there : (journal : List Receipt) (m i : ℕ) (at0 : Key → List Entry) (k : Key) → at (places_brought journal m i at0) k ≡ cond (has k (keys_in_order journal m)) (placed_at journal m i at0 k) []
places_there journal m i at0 k = at_filing journal m (placed_at journal m i at0) (places_own journal m i at0) k

-- at a title that is a key of the filing
pub entered_there : (journal : List Receipt) (m i : ℕ) (at0 : Key → List Entry) (f : Filing) (folio : ℕ) → filing_at journal m ≡ Some f → has (Title folio) (keys_in_order journal m) ≡ true
    → with_entries at0 (enters journal m i at0) (Title folio) ≡ with_entry journal m i folio (noticed_title journal m i at0 folio) (contents_at journal m i at0 f (Title folio))
entered_there journal m i at0 f folio is there =
    let k = Title folio in
    let now = with_notices journal m i at0 in
    let notices : at (notices_brought journal m i at0) k ≡ notices_at journal m i at0 k =
    notices_there journal m i at0 k ∙ ap (λ b. cond b (notices_at journal m i at0 k) []) there in
    let places : at (places_brought journal m i now) k ≡ place_list journal m i folio (noticed_title journal m i at0 folio) =
    places_there journal m i now k ∙ ap (λ b. cond b (placed_at journal m i now k) []) there
    ∙ ap (λ es. place_list journal m i folio (at0 k ++ es)) notices in
    ap (λ es. at0 k ++ es) (enters_parts journal m i at0 f k is ∙ (λ j. notices j ++ (places j ++ contents_at journal m i at0 f k)))
    ∙ sym (append_assoc (at0 k) (notices_at journal m i at0 k) (place_list journal m i folio (noticed_title journal m i at0 folio) ++ contents_at journal m i at0 f k))

-- at another one
pub entered_elsewhere : (journal : List Receipt) (m i : ℕ) (at0 : Key → List Entry) (f : Filing) (k : Key) → filing_at journal m ≡ Some f → has k (keys_in_order journal m) ≡ false
    → with_entries at0 (enters journal m i at0) k ≡ at0 k ++ contents_at journal m i at0 f k
entered_elsewhere journal m i at0 f k is other =
    let now = with_notices journal m i at0 in
    let notices : at (notices_brought journal m i at0) k ≡ [] = notices_there journal m i at0 k ∙ ap (λ b. cond b (notices_at journal m i at0 k) []) other in
    let places : at (places_brought journal m i now) k ≡ [] = places_there journal m i now k ∙ ap (λ b. cond b (placed_at journal m i now k) []) other in
    ap (λ es. at0 k ++ es) (enters_parts journal m i at0 f k is ∙ (λ j. notices j ++ (places j ++ contents_at journal m i at0 f k)))
