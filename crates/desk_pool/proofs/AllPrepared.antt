-- What a round prepares is what the settling of a journal begins with.
use Rattle.std.proofs.Common.{◌≡◌, ℕ, zero, suc, ◌<◌, Bool, true, false, ◌&&◌, ◌||◌, ◌==◌, List, [], ◌∷◌, Contains, filter_map, get_or, length, map, refl, sym, ap, subst, ◌∙◌, arith}
use Rattle.std.specs.BTreeMap.{BTreeMap, IsOrdered}
use Rattle.std.specs.List.{AllByRecursion, list_any}
use Rattle.std.specs.List.Sorted.{IsStrictlySortedBy}
use Rattle.std.specs.Map.{keys_of}
use Rattle.std.specs.Ordering.{nat_cmp}
use Rattle.std.specs.declared.cmp.Ordering.TheVariants.{Less}
use Rattle.std.proofs.lemmas.Bool.{eqb-true, false≢true, or_right}
use Rattle.std.proofs.lemmas.Bool.Decides.{nat_tests}
use Rattle.std.proofs.lemmas.Map.Keys.{below_from_sorted}
use Rattle.gb_base.specs.Keys.{folio_of_key, key_cmp}
use Rattle.gb_base.specs.declared.keys.Key.{Key}
use Rattle.gb_base.specs.declared.keys.Key.TheVariants.{Case, Right, Title}
use Rattle.act_model.specs.Receiving.{IsJournal}
use Rattle.act_model.specs.declared.receipts.Receipt.{Receipt}
use Rattle.desk_pool.proofs.BuiltQueues.{same_number}
use Rattle.desk_pool.proofs.PreparedParts.{all_listed, key_of}
use Rattle.desk_pool.specs.FolioStates.{HasAllRoom, HasAllScratch, IsBehindLock}
use Rattle.desk_pool.specs.Preparing.{AreTitledFolios, HasFrame, ServesEachItem}
use Rattle.desk_pool.specs.declared.folio_parts.KeyRoom.{KeyRoom}
use Rattle.desk_pool.specs.declared.register_frames.RegisterFrame.{RegisterFrame}
use Rattle.desk_pool.specs.inner.KeyRooms.{AreRooms}
use Rattle.desk_pool.specs.inner.PartsPrepared.{ArePartsFor, room_of_entry}
use Rattle.desk_pool.specs.inner.TitlesListed.{titled_folio}
use Rattle.folio_sections.specs.Held.{entries_at, is_given, is_held, room_at}
use Rattle.folio_sections.specs.PartState.{PartState}
use Rattle.registrar.specs.HeldKeys.{keys_of_first}
use Rattle.sale_rules.specs.ScratchRoom.{ScratchRoom}

-- ---- parts

-- there is place for all that the items of the journal bring
has_all_room : (journal : List Receipt) (rooms : BTreeMap Key ℕ) (wanted : Key → Bool) (parts : List PartState) → AreRooms journal rooms → ArePartsFor rooms wanted parts
    → HasAllRoom journal (is_held parts) (entries_at parts) (room_at parts)
has_all_room journal rooms wanted parts are prepared k there =
    let room = prepared.room k there in
    let counted = are.room k in
    omega (arith, room, counted)

pub behind_lock : (journal named : List Receipt) (rooms : BTreeMap Key ℕ) (folio : ℕ) (parts : List PartState) (scratch : ScratchRoom) → journal ≡ named → IsJournal journal → AreRooms journal rooms
    → ArePartsFor rooms (λ k. folio_of_key k == folio) parts → HasAllScratch journal folio scratch → IsBehindLock named (record { folio = folio; taken = 0; parts = parts; scratch = scratch })
behind_lock journal named rooms folio parts scratch is stands are prepared serves =
    subst (λ j. IsBehindLock j (record { folio = folio; taken = 0; parts = parts; scratch = scratch })) is
    (record {
      numbered = stands;
      held = λ k. prepared.held k ∙ ap (λ b. (folio_of_key k == folio) && b) (are.keys k);
      stands = λ k _. prepared.empty k;
      room = has_all_room journal rooms (λ k. folio_of_key k == folio) parts are prepared;
      scratch = serves;
    })

-- ---- the folios of titles

abbrev titles : List (Key × ℕ) → List ℕ
titles es = filter_map (λ (r : KeyRoom). titled_folio r.key) (map room_of_entry es)

later_title : (f g : ℕ) → key_cmp (Title f) (Title g) ≡ Less → nat_cmp f g ≡ Less
later_title f g less = grind (arith, nat_tests, less)

later_titles : (f : ℕ) (es : List (Key × ℕ)) → AllByRecursion (λ k. key_cmp (Title f) k ≡ Less) (keys_of es) → AllByRecursion (λ g. nat_cmp f g ≡ Less) (titles es)
later_titles f [] above = tt
later_titles f ((Title g, n) ∷ es) above = (later_title f g above.0, later_titles f es above.1)
later_titles f ((Right g right, n) ∷ es) above = later_titles f es above.1
later_titles f ((Case g, n) ∷ es) above = later_titles f es above.1

titles_ascend : (es : List (Key × ℕ)) → IsStrictlySortedBy key_cmp (keys_of es) → IsStrictlySortedBy nat_cmp (titles es)
unfolding IsStrictlySortedBy
titles_ascend [] sorted = tt
titles_ascend ((Title f, n) ∷ es) sorted = (later_titles f es sorted.0, titles_ascend es sorted.1)
titles_ascend ((Right f right, n) ∷ es) sorted = titles_ascend es sorted.1
titles_ascend ((Case f, n) ∷ es) sorted = titles_ascend es sorted.1

and_true : (b : Bool) → b ≡ (b && true)
and_true true = refl
and_true false = refl

and_false : (b c : Bool) → c ≡ ((b && false) || c)
and_false true c = refl
and_false false c = refl

titled_given : (f : ℕ) (es : List (Key × ℕ)) → list_any (λ g. g == f) (titles es) ≡ is_given (map key_of (map room_of_entry es)) (Title f)
titled_given f [] = refl
titled_given f ((Title g, n) ∷ es) = λ j. and_true (g == f) j || titled_given f es j
titled_given f ((Right g right, n) ∷ es) = titled_given f es ∙ and_false (g == f) (is_given (map key_of (map room_of_entry es)) (Title f))
titled_given f ((Case g, n) ∷ es) = titled_given f es ∙ and_false (g == f) (is_given (map key_of (map room_of_entry es)) (Title f))

contains_from : (f : ℕ) (fs : List ℕ) → list_any (λ g. g == f) fs ≡ true → Contains fs f
contains_from f [] there = absurd (false≢true there)
contains_from f (g ∷ gs) there =
    elim (g == f) as (λ b. (g == f) ≡ b → (b || list_any (λ x. x == f) gs) ≡ true → Contains (g ∷ gs) f) [
      | true ↦ λ e _. (0, omega arith, eqb-true g f e)
      | false ↦ λ _ h. let rest = contains_from f gs h in (suc rest.0, omega (arith, rest.1), rest.2)
    ] refl there

any_from : (f : ℕ) (fs : List ℕ) (k : ℕ) → k < length fs → get_or fs k f ≡ f → list_any (λ g. g == f) fs ≡ true
any_from f [] k within is = absurd (omega (arith, within))
any_from f (g ∷ gs) zero within is = ap (λ x. (x == f) || list_any (λ y. y == f) gs) is ∙ ap (λ b. b || list_any (λ y. y == f) gs) (same_number f)
any_from f (g ∷ gs) (suc k) within is = or_right (g == f) (list_any (λ y. y == f) gs) (any_from f gs k (omega (arith, within)) is)

titled_folios : (journal : List Receipt) (rooms : BTreeMap Key ℕ) → AreRooms journal rooms → IsOrdered key_cmp rooms → AreTitledFolios journal (titles rooms.entries)
titled_folios journal rooms are ordered =
    let fs = titles rooms.entries in
    let given : (f : ℕ) → list_any (λ g. g == f) fs ≡ is_given (keys_of_first journal (length journal)) (Title f) = λ f.
    titled_given f rooms.entries ∙ (all_listed rooms ordered).keys (Title f) ∙ are.keys (Title f) in
    record {
      ascending = λ i j d less within. below_from_sorted fs i j d (titles_ascend rooms.entries ordered) less within;
      members = λ f. (λ among. sym (given f) ∙ any_from f fs among.0 among.1 among.2, λ there. contains_from f fs (given f ∙ there));
    }

-- ---- all of it

pub has_frame : (journal : List Receipt) (rooms : BTreeMap Key ℕ) (keys : List KeyRoom) (s : RegisterFrame) → AreRooms journal rooms → IsOrdered key_cmp rooms → keys ≡ map room_of_entry rooms.entries
    → ((k : Key) → is_held s.parts k ≡ is_given (map key_of keys) k) → ServesEachItem journal s.scratch → length s.verdicts.items ≡ length journal
    → s.folios.items ≡ filter_map (λ (r : KeyRoom). titled_folio r.key) keys → HasFrame journal s
has_frame journal rooms keys s are ordered listed held serves said titled =
    record {
      held = λ k. held k ∙ ap (λ rs. is_given (map key_of rs) k) listed ∙ (all_listed rooms ordered).keys k ∙ are.keys k;
      scratch = serves;
      verdicts = said;
      folios = subst (AreTitledFolios journal) (sym (titled ∙ ap (filter_map (λ (r : KeyRoom). titled_folio r.key)) listed)) (titled_folios journal rooms are ordered);
    }
