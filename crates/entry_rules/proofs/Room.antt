-- What an entered filing brings stands at the filing's keys, and fits where each has room for two entries.
use Rattle.std.proofs.Common.{◌≡◌, ℕ, zero, suc, ◌+◌, ◌-◌, ◌≤◌, eqb, Bool, true, false, cond, ◌&&◌, List, [], ◌∷◌, ◌++◌, length, flat_map, All, Contains, IsTrue, Some, None, is_none, option_and_then, refl, sym, ap, subst, ◌∙◌, ⊎_elim, arith}
use Rattle.std.specs.List.{AllByRecursion, enumerate_from, list_all, slice_get}
use Rattle.std.specs.Option.{option_map_or}
use Rattle.std.proofs.lemmas.Bool.{and_parts, cases_Bool, false≢true}
use Rattle.std.proofs.lemmas.List.Concat.{flat_map-cons}
use Rattle.std.proofs.lemmas.List.Elements.{All-head, All-tail}
use Rattle.gb_base.specs.Keys.{same_key}
use Rattle.gb_base.specs.Limits.{is_between}
use Rattle.gb_base.specs.declared.keys.Key.{Key}
use Rattle.gb_base.specs.declared.keys.Key.TheVariants.{Title, Right, Case}
use Rattle.act_model.proofs.KeyOrder.{in_key_order_members, same_is}
use Rattle.act_model.specs.Receiving.{IsJournal}
use Rattle.act_model.specs.Touches.{acts_of, filing_at, filing_in, keys_in_order, keys_of_act, keys_of_acts, keys_of_filing}
use Rattle.act_model.specs.WellFormed.{is_act, is_doc, keeps_rules, well_formed}
use Rattle.act_model.specs.declared.filing_acts.Act.{Act}
use Rattle.act_model.specs.declared.filing_acts.Act.TheVariants.{Open, Transfer, Create, NoticeFor, Convert, Assign, Cancel, Exchange, Exercise}
use Rattle.act_model.specs.declared.items.Filing.{Filing}
use Rattle.act_model.specs.declared.items.Item.{Item}
use Rattle.act_model.specs.declared.items.Item.TheVariants as item
use Rattle.act_model.specs.declared.receipts.Receipt.{Receipt}
use Rattle.folio_sections.specs.Adding.{HasRoom}
use Rattle.entry_rules.specs.Entering.{contents_brought, entered, placed_at, places_brought, with_places}
use Rattle.folio_sections.specs.Entries.{entry_by, at}
use Rattle.act_model.specs.Divisions.{create_in_division, creates_there}
use Rattle.folio_sections.specs.Waiting.{notice}
use Rattle.folio_sections.specs.declared.entries.Entry.{Entry}
use Rattle.folio_sections.specs.declared.entries.What.TheVariants as what
use Rattle.folio_sections.proofs.Unchanged.{all_both}
use Rattle.entry_rules.specs.inner.Acting.{Held, brought_by}
use Rattle.entry_rules.proofs.Entered.{held_all, held_both, keys_are}
use Rattle.entry_rules.proofs.Few.{many_at, two_at_most}
use Rattle.entry_rules.proofs.Steady.{brings}

-- ---- all entries stand at parts that are held

-- the entry's key is held
abbrev IsHeld : (Key → Bool) → Entry → Type 0
IsHeld holds e = IsTrue (holds e.key)

act_held : (holds : Key → Bool) (journal : List Receipt) (m i : ℕ) (f : Filing) (at0 : Key → List Entry) (a : ℕ) (act : Act) → Held holds (keys_of_act journal m a act) → AllByRecursion (IsHeld holds) (brought_by journal m i at0 f a act)
act_held holds journal m i f at0 a (Open folio inventory owners) h = (h.0, tt)
act_held holds journal m i f at0 a (Transfer folio owners) h = (h.0, tt)
act_held holds journal m i f at0 a (Create folio spec reserve) h = (h.1.0, tt)
act_held holds journal m i f at0 a (NoticeFor folio spec) h = (h.1.0, tt)
act_held holds journal m i f at0 a (Convert folio right) h = (h.1.0, tt)
act_held holds journal m i f at0 a (Assign folio right holder) h = (h.0, tt)
act_held holds journal m i f at0 a (Cancel folio right) h = (h.1.0, tt)
act_held holds journal m i f at0 a (Exchange folio recede rise) h = (h.0, (h.1.0, tt))
act_held holds journal m i f at0 a (Exercise folio behind_right spec) h = (h.1.1.0, (h.1.0, tt))

acts_held : (holds : Key → Bool) (journal : List Receipt) (m i : ℕ) (f : Filing) (at0 : Key → List Entry) (a : ℕ) (acts : List Act) → Held holds (keys_of_acts journal m a acts) → AllByRecursion (IsHeld holds) (flat_map (brings journal m i f at0) (enumerate_from a acts))
acts_held holds journal m i f at0 a [] h = tt
acts_held holds journal m i f at0 a (act ∷ acts) h =
    let both = held_both holds (keys_of_act journal m a act) (keys_of_acts journal m (a + 1) acts) h in
    let rest = flat_map (brings journal m i f at0) (enumerate_from (a + 1) acts) in
    subst (λ es. AllByRecursion (IsHeld holds) es) (sym (flat_map-cons (brings journal m i f at0) (a, act) (enumerate_from (a + 1) acts)))
    (all_both (IsHeld holds) (brought_by journal m i at0 f a act) rest (act_held holds journal m i f at0 a act both.0) (acts_held holds journal m i f at0 (a + 1) acts both.1))

place_held : (holds : Key → Bool) (journal : List Receipt) (m i : ℕ) (at0 : Key → List Entry) (key : Key) → IsTrue (holds key) → AllByRecursion (IsHeld holds) (placed_at journal m i at0 key)
place_held holds journal m i at0 (Title folio) h =
    elim (creates_there journal folio m && is_none (notice m (at0 (Title folio)))) as (λ b. AllByRecursion (IsHeld holds) (cond b (entry_by journal i (Title folio) (what.Placed m (create_in_division false folio (acts_of journal m)) (create_in_division true folio (acts_of journal m))) ∷ []) [])) [
      | true ↦ (h, tt)
      | false ↦ tt
    ]
place_held holds journal m i at0 (Right folio right) h = tt
place_held holds journal m i at0 (Case folio) h = tt

places_held : (holds : Key → Bool) (journal : List Receipt) (m i : ℕ) (at0 : Key → List Entry) (keys : List Key) → Held holds keys → AllByRecursion (IsHeld holds) (flat_map (placed_at journal m i at0) keys)
places_held holds journal m i at0 [] h = tt
places_held holds journal m i at0 (key ∷ keys) h =
    subst (λ es. AllByRecursion (IsHeld holds) es) (sym (flat_map-cons (placed_at journal m i at0) key keys))
    (all_both (IsHeld holds) (placed_at journal m i at0 key) (flat_map (placed_at journal m i at0) keys) (place_held holds journal m i at0 key h.0) (places_held holds journal m i at0 keys h.1))

-- no entry stands at a key that is not held
none_elsewhere : (holds : Key → Bool) (es : List Entry) (k : Key) → holds k ≡ false → AllByRecursion (IsHeld holds) es → at es k ≡ []
none_elsewhere holds [] k h all = refl
none_elsewhere holds (e ∷ es) k h all =
    elim (same_key e.key k) as (λ b. same_key e.key k ≡ b → cond b (e ∷ at es k) (at es k) ≡ []) [
      | true ↦ λ same. absurd (false≢true (sym h ∙ subst (λ j. holds j ≡ true) (same_is e.key k same) all.0))
      | false ↦ λ other. none_elsewhere holds es k h all.1
    ] refl

-- ---- a filing of a journal keeps the rules

item_keeps : (i : Item) → IsTrue (well_formed i) → IsTrue (keeps_rules (option_map_or (λ f. f.acts) (filing_in i) []))
item_keeps (item.Filing f) well =
    (and_parts (is_between 1 8 (length f.acts) && list_all is_act f.acts && list_all is_doc f.docs) (keeps_rules f.acts) well).1
item_keeps other well = refl

got_keeps : (rs : List Receipt) (k : ℕ) → All (λ r. IsTrue (well_formed r.item)) rs → IsTrue (keeps_rules (option_map_or (λ f. f.acts) (option_and_then (λ r. filing_in r.item) (slice_get rs k)) []))
got_keeps [] k well = refl
got_keeps (r ∷ rs) zero well = item_keeps r.item (All-head (λ q. IsTrue (well_formed q.item)) r rs well)
got_keeps (r ∷ rs) (suc k) well = got_keeps rs k (All-tail (λ q. IsTrue (well_formed q.item)) r rs well)

acts_keep : (journal : List Receipt) (m : ℕ) → IsJournal journal → IsTrue (keeps_rules (acts_of journal m))
acts_keep journal m is =
    elim (eqb m 0) as (λ b. IsTrue (keeps_rules (option_map_or (λ f. f.acts) (option_and_then (λ r. filing_in r.item) (cond b None (slice_get journal (m - 1)))) []))) [
      | true ↦ refl
      | false ↦ got_keeps journal (m - 1) is.items
    ]

-- ---- together

filing_fits : (journal : List Receipt) (m i : ℕ) (at0 : Key → List Entry) (holds : Key → Bool) (room : Key → ℕ) (f : Filing) → filing_at journal m ≡ Some f → IsJournal journal
    → ((k : Key) → Contains (keys_of_filing journal m) k → IsTrue (holds k)) → ((k : Key) → IsTrue (holds k) → 2 ≤ room k)
    → (k : Key) → length (at (places_brought journal m i at0 ++ contents_brought journal m i (with_places journal m i at0) f) k) ≤ room k
filing_fits journal m i at0 holds room f is stands held roomy k =
    let places = places_brought journal m i at0 in
    let contents = contents_brought journal m i (with_places journal m i at0) f in
    let in_order : Held holds (keys_in_order journal m) = held_all holds (keys_in_order journal m) (λ j there. held j ((in_key_order_members (keys_of_filing journal m) j).0 there)) in
    let as_filed : Held holds (keys_of_acts journal m 1 f.acts) = held_all holds (keys_of_acts journal m 1 f.acts) (λ j there. held j (subst (λ ks. Contains ks j) (sym (keys_are journal m f is)) there)) in
    let all : AllByRecursion (IsHeld holds) (places ++ contents) =
    all_both (IsHeld holds) places contents (places_held holds journal m i at0 (keys_in_order journal m) in_order)
    (acts_held holds journal m i f (with_places journal m i at0) 1 f.acts as_filed) in
    let keeps : IsTrue (keeps_rules f.acts) = subst (λ o. IsTrue (keeps_rules (option_map_or (λ (g : Filing). g.acts) o []))) is (acts_keep journal m stands) in
    let few = two_at_most journal m i f at0 (with_places journal m i at0) keeps k in
    let counted = many_at k (places ++ contents) in
    ⊎_elim
    (λ yes. let wide = roomy k yes in omega arith)
    (λ no. let none = ap length (none_elsewhere holds (places ++ contents) k no all) in omega arith)
    (cases_Bool (holds k))

pub room_for_all : (journal : List Receipt) (m i : ℕ) (at0 : Key → List Entry) (holds : Key → Bool) (room : Key → ℕ) → IsJournal journal
    → ((k : Key) → Contains (keys_of_filing journal m) k → IsTrue (holds k)) → ((k : Key) → IsTrue (holds k) → 2 ≤ room k)
    → HasRoom room (entered journal m i at0)
room_for_all journal m i at0 holds room stands held roomy k =
    elim (filing_at journal m) as (λ o. filing_at journal m ≡ o → length (at (option_map_or (λ f. places_brought journal m i at0 ++ contents_brought journal m i (with_places journal m i at0) f) o []) k) ≤ room k) [
      | Some f ↦ λ is. filing_fits journal m i at0 holds room f is stands held roomy k
      | None ↦ λ is. omega arith
    ] refl
