-- The keys of an item are of two folios at most.
use Rattle.std.proofs.Common.{◌≡◌, ◌⊎◌, ⊎_elim, inl, inr, ℕ, ◌+◌, ◌≤◌, eqb, true, false, cond, ◌==◌, ◌&&◌, nat_lt, List, [], ◌∷◌, map, Contains, IsTrue, length, Some, None, refl, sym, subst, ◌∙◌, arith}
use Rattle.std.specs.List.{AllByRecursion, list_all, list_any}
use Rattle.std.specs.Option.{option_map_or}
use Rattle.std.proofs.lemmas.Bool.{and_parts, cases_Bool, eqb-false, eqb-true, leb-true}
use Rattle.std.proofs.lemmas.List.Elements.{All-contains, All-from_recursion}
use Rattle.gb_base.proofs.Members.{In}
use Rattle.gb_base.specs.Keys.{folio_of_key}
use Rattle.gb_base.specs.declared.keys.Key.{Key}
use Rattle.gb_base.specs.declared.keys.Key.TheVariants.{Case, Right, Title}
use Rattle.act_model.specs.Acts.{folio_of}
use Rattle.gb_base.specs.Limits.{is_between, most_acts}
use Rattle.act_model.specs.Receiving.{IsJournal, receipt_at}
use Rattle.act_model.specs.SaleKeys.{earlier_rights, keys_of_sale}
use Rattle.act_model.specs.Subjects.{subject_of}
use Rattle.act_model.specs.Touches.{filing_at, keys_of_act, keys_of_acts, keys_of_filing, was_in_division_three}
use Rattle.act_model.specs.WellFormed.{different, gives_owners_once, is_act, is_doc, is_filing, keep_groups_apart, keeps_rules, names_few_folios, names_rights_once}
use Rattle.act_model.specs.declared.filing_acts.Act.{Act}
use Rattle.act_model.specs.declared.filing_acts.Act.TheVariants.{Assign, Cancel, Convert, Create, Exchange, Exercise, NoticeFor, Open, Transfer}
use Rattle.act_model.specs.declared.items.Filing.{Filing}
use Rattle.act_model.specs.declared.items.Subject.{Subject}
use Rattle.act_model.specs.declared.items.Subject.TheVariants as about
use Rattle.act_model.specs.declared.receipts.Receipt.{Receipt}
use Rattle.conflict_queue.specs.ItemKeys.{keys_by_item, keys_by_subject, keys_of_item, keys_of_named}
use Rattle.folio_sections.proofs.FilteredLists.{of_any}
use Rattle.folio_sections.proofs.Unchanged.{all_both, all_weaker}
use Rattle.kept_registers.proofs.WellFiled.{well_filed}
use Rattle.registrar.proofs.ContainedParts.{each_mapped}
use Rattle.desk_pool.proofs.NoKeys.{no_key}
use Rattle.desk_pool.specs.inner.TouchedFolios.{AreOfFewFolios}

-- ---- numbers of which two are different

again : (n : ℕ) (ns : List ℕ) → list_any (λ m. m == n) ns ≡ true → (a : ℕ) → In a (n ∷ ns) → In a ns
again n ns is a there =
    ⊎_elim (λ same. let found = of_any (λ m. m == n) ns is in subst (λ x. In x ns) (eqb-true found.0 n found.2 ∙ same) found.1) (λ later. later) there

one : (ns : List ℕ) (a : ℕ) → In a ns → 1 ≤ different ns
one [] a there = absurd there
one (n ∷ ns) a there =
    elim (list_any (λ m. m == n) ns) as (λ v. list_any (λ m. m == n) ns ≡ v → 1 ≤ cond v (different ns) (different ns + 1)) [
      | true ↦ λ is. one ns a (again n ns is a there)
      | false ↦ λ new. omega arith
    ] refl

two : (ns : List ℕ) (a b : ℕ) → (a ≡ b → ⊥) → In a ns → In b ns → 2 ≤ different ns
two [] a b apart of_a of_b = absurd of_a
two (n ∷ ns) a b apart of_a of_b =
    elim (list_any (λ m. m == n) ns) as (λ v. list_any (λ m. m == n) ns ≡ v → 2 ≤ cond v (different ns) (different ns + 1)) [
      | true ↦ λ is. two ns a b apart (again n ns is a of_a) (again n ns is b of_b)
      | false ↦ λ new.
          ⊎_elim (λ first. let rest = one ns b (⊎_elim (λ same. absurd (apart (sym first ∙ same))) (λ later. later) of_b) in omega (arith, rest)) (λ later. let rest = one ns a later in omega (arith, rest)) of_a
    ] refl

three : (ns : List ℕ) (a b c : ℕ) → (a ≡ b → ⊥) → (a ≡ c → ⊥) → (b ≡ c → ⊥) → In a ns → In b ns → In c ns → 3 ≤ different ns
three [] a b c ab ac bc of_a of_b of_c = absurd of_a
three (n ∷ ns) a b c ab ac bc of_a of_b of_c =
    elim (list_any (λ m. m == n) ns) as (λ v. list_any (λ m. m == n) ns ≡ v → 3 ≤ cond v (different ns) (different ns + 1)) [
      | true ↦ λ is. three ns a b c ab ac bc (again n ns is a of_a) (again n ns is b of_b) (again n ns is c of_c)
      | false ↦ λ new.
          ⊎_elim
          (λ first. let rest =
          two ns b c bc (⊎_elim (λ same. absurd (ab (sym first ∙ same))) (λ later. later) of_b) (⊎_elim (λ same. absurd (ac (sym first ∙ same))) (λ later. later) of_c) in
          omega (arith, rest))
          (λ later_a.
          ⊎_elim
          (λ second. let rest = two ns a c ac later_a (⊎_elim (λ same. absurd (bc (sym second ∙ same))) (λ later. later) of_c) in omega (arith, rest))
          (λ later_b. let rest = two ns a b ab later_a later_b in omega (arith, rest)) of_b) of_a
    ] refl

of_two : (ns : List ℕ) (a b c : ℕ) → different ns ≤ 2 → (a ≡ b → ⊥) → In a ns → In b ns → In c ns → (c ≡ a) ⊎ (c ≡ b)
of_two ns a b c few ab of_a of_b of_c =
    ⊎_elim (λ is. inl (eqb-true c a is))
    (λ not_a.
    ⊎_elim (λ is. inr (eqb-true c b is))
    (λ not_b. let many = three ns a b c ab (λ same. eqb-false c a not_a (sym same)) (λ same. eqb-false c b not_b (sym same)) of_a of_b of_c in absurd (omega (arith, many, few)))
    (cases_Bool (eqb c b)))
    (cases_Bool (eqb c a))

-- ---- the folios of acts

act_folio : (journal : List Receipt) (m a : ℕ) (act : Act) → AllByRecursion (λ k. folio_of_key k ≡ folio_of act) (keys_of_act journal m a act)
act_folio journal m a (Open f inventory owners) = (refl, tt)
act_folio journal m a (Transfer f owners) = (refl, tt)
act_folio journal m a (Create f spec reserve) = (refl, (refl, tt))
act_folio journal m a (NoticeFor f spec) = (refl, (refl, tt))
act_folio journal m a (Convert f right) = (refl, (refl, tt))
act_folio journal m a (Assign f right holder) = (refl, tt)
act_folio journal m a (Cancel f right) = (refl, (refl, tt))
act_folio journal m a (Exchange f recede rise) =
    elim (was_in_division_three journal m f recede) as (λ b. AllByRecursion (λ k. folio_of_key k ≡ f) (Right f recede ∷ Right f rise ∷ cond b (Title f ∷ []) [])) [
      | true ↦ (refl, (refl, (refl, tt)))
      | false ↦ (refl, (refl, tt))
    ]
act_folio journal m a (Exercise f behind spec) = (refl, (refl, (refl, tt)))

acts_folios : (journal : List Receipt) (m a : ℕ) (acts : List Act) → AllByRecursion (λ k. In (folio_of_key k) (map folio_of acts)) (keys_of_acts journal m a acts)
acts_folios journal m a [] = tt
acts_folios journal m a (act ∷ acts) =
    let among : Key → Type 0 = λ k. In (folio_of_key k) (folio_of act ∷ map folio_of acts) in
    all_both among (keys_of_act journal m a act) (keys_of_acts journal m (a + 1) acts)
    (all_weaker (λ k. folio_of_key k ≡ folio_of act) among (keys_of_act journal m a act) (λ k is. inl (sym is)) (act_folio journal m a act))
    (all_weaker (λ k. In (folio_of_key k) (map folio_of acts)) among (keys_of_acts journal m (a + 1) acts) (λ k later. inr later) (acts_folios journal m (a + 1) acts))

-- a well-formed filing names few folios
filing_names_few : (f : Filing) → IsTrue (is_filing f) → different (map folio_of f.acts) ≤ 2
filing_names_few f well =
    let keeps = (and_parts (is_between 1 most_acts (length f.acts) && list_all is_act f.acts && list_all is_doc f.docs) (keeps_rules f.acts) well).1 in
    let first_three = (and_parts (names_few_folios f.acts && gives_owners_once f.acts && names_rights_once f.acts) (keep_groups_apart f.acts) keeps).0 in
    let first_two = (and_parts (names_few_folios f.acts && gives_owners_once f.acts) (names_rights_once f.acts) first_three).0 in
    leb-true (different (map folio_of f.acts)) 2 (and_parts (names_few_folios f.acts) (gives_owners_once f.acts) first_two).0

-- ---- the folios of items

no_folio : AreOfFewFolios []
no_folio j k l of_j of_k of_l apart = absurd (no_key [] j refl of_j)

one_folio : (keys : List Key) (folio : ℕ) → AllByRecursion (λ k. folio_of_key k ≡ folio) keys → AreOfFewFolios keys
one_folio keys folio all j k l of_j of_k of_l apart =
    let own : (x : Key) → Contains keys x → folio_of_key x ≡ folio = λ x there. All-contains (λ y. folio_of_key y ≡ folio) keys x (All-from_recursion (λ y. folio_of_key y ≡ folio) keys all) there in
    absurd (apart (own j of_j ∙ sym (own k of_k)))

filing_few : (journal : List Receipt) (m : ℕ) → IsJournal journal → AreOfFewFolios (keys_of_filing journal m)
filing_few journal m numbered =
    elim (filing_at journal m) as (λ o. filing_at journal m ≡ o → AreOfFewFolios (option_map_or (λ (f : Filing). keys_of_acts journal m 1 f.acts) o [])) [
      | None ↦ λ is. no_folio
      | Some f ↦ λ is j k l of_j of_k of_l apart.
          let keys = keys_of_acts journal m 1 f.acts in
          let own : (x : Key) → Contains keys x → In (folio_of_key x) (map folio_of f.acts) = λ x there.
          All-contains (λ y. In (folio_of_key y) (map folio_of f.acts)) keys x (All-from_recursion (λ y. In (folio_of_key y) (map folio_of f.acts)) keys (acts_folios journal m 1 f.acts)) there in
          of_two (map folio_of f.acts) (folio_of_key j) (folio_of_key k) (folio_of_key l) (filing_names_few f (well_filed journal m f numbered is)) apart (own j of_j) (own k of_k) (own l of_l)
    ] refl

named_few : (journal : List Receipt) (i m : ℕ) → IsJournal journal → AreOfFewFolios (keys_of_named journal i m)
named_few journal i m numbered =
    elim (nat_lt m i) as (λ b. AreOfFewFolios (cond b (keys_of_filing journal m) [])) [
      | true ↦ filing_few journal m numbered
      | false ↦ no_folio
    ]

sale_few : (journal : List Receipt) (i folio : ℕ) → AreOfFewFolios (keys_of_sale journal i folio)
sale_few journal i folio =
    one_folio (keys_of_sale journal i folio) folio (refl, (refl, each_mapped (λ k. folio_of_key k ≡ folio) (Right folio) (earlier_rights journal i folio) (λ id. refl)))

subject_few : (journal : List Receipt) (i : ℕ) (s : Subject) → IsJournal journal → AreOfFewFolios (keys_by_subject journal i s)
subject_few journal i about.Itself numbered = filing_few journal i numbered
subject_few journal i (about.Filing m) numbered = named_few journal i m numbered
subject_few journal i (about.Sale folio) numbered = sale_few journal i folio
subject_few journal i (about.Claims folio) numbered = one_folio (Case folio ∷ []) folio (refl, tt)

pub few_folios : (journal : List Receipt) (i : ℕ) → IsJournal journal → AreOfFewFolios (keys_of_item journal i)
few_folios journal i numbered =
    elim (receipt_at journal i) as (λ o. AreOfFewFolios (option_map_or (λ (r : Receipt). keys_by_item journal i r.item) o [])) [
      | None ↦ no_folio
      | Some r ↦ subject_few journal i (subject_of r.item) numbered
    ]
