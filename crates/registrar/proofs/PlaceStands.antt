-- Where a filing creates a right, its place stands before the right does, by its notice or as it is entered.
use Rattle.std.proofs.Common.{◌≡◌, ℕ, ◌<◌, ◌≤◌, Bool, true, false, cond, eqb, ◌&&◌, ◌||◌, List, [], ◌∷◌, All, Any, Contains, IsSomeAnd, Option, Some, None, find, option_map, is_none, is_some, refl, sym, ap, subst, ◌∙◌, ⊎_elim, arith}
use Rattle.std.specs.List.{AllByRecursion}
use Rattle.std.specs.Option.{option_map_or}
use Rattle.std.proofs.lemmas.Bool.{cases_Bool, eq-eqb, eqb-true, false≢true, or_left, or_right}
use Rattle.std.proofs.lemmas.List.Elements.{recursion_from_All}
use Rattle.gb_base.specs.Keys.{same_key}
use Rattle.gb_base.specs.declared.keys.Key.{Key}
use Rattle.gb_base.specs.declared.keys.Key.TheVariants.{Title}
use Rattle.act_model.proofs.KeyOrder.{in_key_order_members, itself}
use Rattle.act_model.specs.Acts.{folio_of, is_in_division_three, right_created}
use Rattle.act_model.specs.Touches.{acts_of, filing_at, keys_in_order, keys_of_filing}
use Rattle.act_model.specs.declared.filing_acts.Act.{Act}
use Rattle.act_model.specs.declared.items.Filing.{Filing}
use Rattle.act_model.specs.declared.receipts.Receipt.{Receipt}
use Rattle.act_model.specs.declared.rights.RightSpec.{RightSpec}
use Rattle.folio_sections.specs.Entries.{entry_by, at}
use Rattle.interim_orders.specs.Notices.{notices_at, notices_brought, with_notices}
use Rattle.entry_rules.specs.Entering.{placed_at, places_brought}
use Rattle.folio_sections.specs.Waiting.{waiting_unnoticed, is_notice_of, is_pending, notice}
use Rattle.kept_registers.specs.KeptRights.{SetsPlace}
use Rattle.act_model.specs.Divisions.{create_in_division, creates_in_division, creates_there, is_of_division}
use Rattle.folio_sections.specs.Places.{place_by, place_of}
use Rattle.folio_sections.specs.declared.entries.Entry.{Entry}
use Rattle.folio_sections.specs.declared.entries.What.{What}
use Rattle.folio_sections.specs.declared.entries.What.TheVariants as what
use Rattle.kept_registers.proofs.KeptOrder.{own_division}
use Rattle.folio_sections.proofs.Unchanged.{all_at, all_both, all_weaker}
use Rattle.registrar.proofs.ContainedParts.{each_mapped, all_parts, any_in_first, any_in_second, any_of, contains_first, contains_kept, contains_part, list_any_of}
use Rattle.registrar.proofs.NewContents.{IsActOf, standing}

-- ---- a filing with a creating act creates in the act's folio

in_its_division : (third : Bool) (act : Act) (spec : RightSpec) → right_created act ≡ Some spec → is_in_division_three spec.kind ≡ third → creates_in_division third (folio_of act) act ≡ true
in_its_division third act spec is division =
    let there : eqb (folio_of act) (folio_of act) ≡ true = eq-eqb (folio_of act) (folio_of act) refl in
    let here : option_map_or (is_of_division third) (right_created act) false ≡ true =
    ap (λ o. option_map_or (is_of_division third) o false) is ∙ own_division third spec division in
    λ i. there i && here i

one_creates : (third : Bool) (f : Filing) (a : ℕ) (act : Act) (spec : RightSpec) → IsActOf f a act → right_created act ≡ Some spec → is_in_division_three spec.kind ≡ third → create_in_division third (folio_of act) f.acts ≡ true
one_creates third f a act spec own is division =
    list_any_of (creates_in_division third (folio_of act)) f.acts own.place act own.there (in_its_division third act spec is division)

pub filing_creates : (journal : List Receipt) (m : ℕ) (f : Filing) (a : ℕ) (act : Act) (spec : RightSpec) → filing_at journal m ≡ Some f → IsActOf f a act → right_created act ≡ Some spec → creates_there journal (folio_of act) m ≡ true
filing_creates journal m f a act spec filing own is =
    subst (λ o. (create_in_division false (folio_of act) (option_map_or (λ g. g.acts) o []) || create_in_division true (folio_of act) (option_map_or (λ g. g.acts) o [])) ≡ true) (sym filing)
    (⊎_elim
    (λ three. or_right (create_in_division false (folio_of act) f.acts) (create_in_division true (folio_of act) f.acts) (one_creates true f a act spec own is three))
    (λ two. or_left (create_in_division false (folio_of act) f.acts) (create_in_division true (folio_of act) f.acts) (one_creates false f a act spec own is two))
    (cases_Bool (is_in_division_three spec.kind)))

-- ---- the place that a notice sets

noticed_sets : (journal : List Receipt) (folio day m : ℕ) (w : What) → creates_there journal folio m ≡ true → is_notice_of m w ≡ true → IsSomeAnd (place_by journal folio day w) (λ p. p.filing ≡ m)
noticed_sets journal folio day m (what.Notice filing) creates is =
    let own : filing ≡ m = eqb-true filing m is in
    let there : creates_there journal folio filing ≡ true = subst (λ n. creates_there journal folio n ≡ true) (sym own) creates in
    subst (λ b. IsSomeAnd (cond b (Some (place_of journal folio day filing)) None) (λ p. p.filing ≡ m)) (sym there) own
noticed_sets journal folio day m (what.Placed filing second third) creates is = absurd (false≢true is)
noticed_sets journal folio day m other creates is = absurd (false≢true is)

found_any : (P : Entry → Type 0) (m : ℕ) (es : List Entry) → AllByRecursion (λ e. is_notice_of m e.what ≡ true → P e) es → is_some (find (λ (e : Entry). is_notice_of m e.what) es) ≡ true → Any P es
found_any P m [] all some = absurd (false≢true some)
found_any P m (e ∷ es) all some =
    elim (is_notice_of m e.what) as (λ b. is_notice_of m e.what ≡ b → is_some (cond b (Some e) (find (λ (d : Entry). is_notice_of m d.what) es)) ≡ true → Any P (e ∷ es)) [
      | true ↦ λ here found. any_of P (e ∷ es) e (contains_first e es) (all.0 here)
      | false ↦ λ other found. any_in_second P (e ∷ []) es (found_any P m es all.1 found)
    ] refl some

has_notice : (waits : Bool) (found : Option Entry) → is_none (cond waits (option_map (λ e. e.day) found) None) ≡ false → is_some found ≡ true
has_notice true None h = absurd (false≢true (sym h))
has_notice true (Some e) h = refl
has_notice false found h = absurd (false≢true (sym h))

-- ---- the place that stands

-- once the notices stand, all entries at a key of the filing are by receipt i or an earlier one
title_in_time : (journal : List Receipt) (m i : ℕ) (at0 : Key → List Entry) (k : Key) → All (λ e. e.receipt < i) (at0 k) → AllByRecursion (λ e. e.receipt ≤ i) (with_notices journal m i at0 k)
title_in_time journal m i at0 k earlier =
    all_both (λ (e : Entry). e.receipt ≤ i) (at0 k) (at (notices_brought journal m i at0) k)
    (all_weaker (λ (e : Entry). e.receipt < i) (λ (e : Entry). e.receipt ≤ i) (at0 k) (λ e less. omega arith) (recursion_from_All (λ (e : Entry). e.receipt < i) (at0 k) earlier))
    (all_at (λ e. e.receipt ≤ i) (notices_brought journal m i at0) k
    (all_parts (λ (e : Entry). e.receipt ≤ i) (notices_at journal m i at0) (keys_in_order journal m)
    (λ key. each_mapped (λ (e : Entry). e.receipt ≤ i) (λ n. entry_by journal i key (what.Notice n)) (waiting_unnoticed m (at0 key)) (λ n. omega arith))))

by_notice : (journal : List Receipt) (folio m i : ℕ) (es : List Entry) → creates_there journal folio m ≡ true → AllByRecursion (λ e. e.receipt ≤ i) es → is_none (notice m es) ≡ false → Any (SetsPlace journal folio m i) es
by_notice journal folio m i es creates in_time h =
    found_any (SetsPlace journal folio m i) m es
    (all_weaker (λ (e : Entry). e.receipt ≤ i) (λ (e : Entry). is_notice_of m e.what ≡ true → SetsPlace journal folio m i e) es
    (λ e early own. (noticed_sets journal folio e.day m e.what creates own, early)) in_time)
    (has_notice (is_pending m es) (find (λ (e : Entry). is_notice_of m e.what) es) h)

-- the place as it is entered
abbrev own_entry : List Receipt → ℕ → ℕ → ℕ → Entry
own_entry journal m i folio =
    entry_by journal i (Title folio) (what.Placed m (create_in_division false folio (acts_of journal m)) (create_in_division true folio (acts_of journal m)))

by_entry : (journal : List Receipt) (m i folio : ℕ) (at1 : Key → List Entry) → Contains (keys_of_filing journal m) (Title folio) → creates_there journal folio m ≡ true → is_none (notice m (at1 (Title folio))) ≡ true
    → Any (SetsPlace journal folio m i) (at (places_brought journal m i at1) (Title folio))
by_entry journal m i folio at1 touched creates none =
    let e = own_entry journal m i folio in
    let both : (creates_there journal folio m && is_none (notice m (at1 (Title folio)))) ≡ true = λ j. creates j && none j in
    let here : Contains (placed_at journal m i at1 (Title folio)) e =
    subst (λ b. Contains (cond b (e ∷ []) []) e) (sym both) (contains_first e []) in
    let among : Contains (places_brought journal m i at1) e =
    contains_part (placed_at journal m i at1) (keys_in_order journal m) (Title folio) e ((in_key_order_members (keys_of_filing journal m) (Title folio)).1 touched) here in
    let kept : Contains (at (places_brought journal m i at1) (Title folio)) e =
    contains_kept (λ d. same_key d.key (Title folio)) (places_brought journal m i at1) e (itself (Title folio)) among in
    any_of (SetsPlace journal folio m i) (at (places_brought journal m i at1) (Title folio)) e kept (refl, omega arith)

pub place_stands : (journal : List Receipt) (m i folio : ℕ) (at0 : Key → List Entry) → Contains (keys_of_filing journal m) (Title folio) → creates_there journal folio m ≡ true → All (λ e. e.receipt < i) (at0 (Title folio))
    → Any (SetsPlace journal folio m i) (standing journal m i at0 (Title folio))
place_stands journal m i folio at0 touched creates earlier =
    let before = with_notices journal m i at0 in
    let title = before (Title folio) in
    let more = at (places_brought journal m i before) (Title folio) in
    ⊎_elim
    (λ none. any_in_second (SetsPlace journal folio m i) title more (by_entry journal m i folio before touched creates none))
    (λ some. any_in_first (SetsPlace journal folio m i) title more (by_notice journal folio m i title creates (title_in_time journal m i at0 (Title folio) earlier) some))
    (cases_Bool (is_none (notice m title)))
