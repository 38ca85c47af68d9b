-- What a journal says of its receipts stays when more receipts come.
use Rattle.std.proofs.Common.{◌≡◌, ℕ, ◌+◌, ◌<◌, ◌≤◌, Bool, true, false, ◌&&◌, ◌||◌, cond, nat_le, nat_lt, List, [], ◌∷◌, ◌++◌, filter, flat_map, length, Some, None, option_and_then, option_map, refl, sym, ap, ◌∙◌, arith}
use Rattle.std.specs.List.{AllByRecursion, cons_option, enumerate_from, filter_map, list_any, position}
use Rattle.std.specs.Option.{option_map_or}
use Rattle.std.proofs.lemmas.Bool.Decides.{nat_tests}
use Rattle.std.proofs.lemmas.List.{append-nil}
use Rattle.std.proofs.lemmas.List.Elements.{filter-append, filter_map-append}
use Rattle.gb_base.specs.Limits.{is_between}
use Rattle.gb_base.specs.RightNo.{RightNo, same_right}
use Rattle.act_model.proofs.KeysStay.{keys_of_filing_stay, receipt_stays}
use Rattle.act_model.specs.Creations.{creating_rank, creations_in, creations_of_item, folio_of_creation, folio_of_right}
use Rattle.act_model.specs.Cures.{cure_of, cures, cures_of}
use Rattle.act_model.specs.Divisions.{create_in_division, creates_there}
use Rattle.act_model.specs.Documents.{act_of_doc, docs_by_cure, docs_of_cure, documents}
use Rattle.act_model.specs.Groups.{has_equal, shares_its_group}
use Rattle.act_model.specs.Receiving.{day_of}
use Rattle.act_model.specs.Touches.{act_at, acts_of, applicant_of, filing_at, filing_in, in_key_order, keys_in_order}
use Rattle.act_model.specs.declared.items.Filing.{Filing}
use Rattle.act_model.specs.declared.receipts.Receipt.{Receipt}
use Rattle.conflict_queue.proofs.ItemKeysStay.{IsLater, creations_both, numbered_both, receipts_later}
use Rattle.folio_sections.proofs.Indexes.{is_none_of, is_some-position, position-cons}
use Rattle.folio_sections.proofs.Unchanged.{all_weaker}
use Rattle.folio_sections.specs.Entries.{entry_by}

-- ---- lists of which more elements come

none_passes : {X : Type 0} (p : X → Bool) (xs : List X) → AllByRecursion (λ x. p x ≡ false) xs → list_any p xs ≡ false
none_passes p [] fail = refl
none_passes p (x ∷ xs) fail = λ j. fail.0 j || none_passes p xs fail.1 j

-- the first element that passes stands where it stood, where none of the further ones passes
position_stays : {X : Type 0} (p : X → Bool) (xs ys : List X) → AllByRecursion (λ y. p y ≡ false) ys → position p (xs ++ ys) ≡ position p xs
position_stays p [] ys fail = is_none_of (position p ys) (is_some-position p ys ∙ none_passes p ys fail)
position_stays p (x ∷ xs) ys fail =
    position-cons p x (xs ++ ys) ∙ ap (λ o. cond (p x) (Some 0) (option_map (λ n. 1 + n) o)) (position_stays p xs ys fail) ∙ sym (position-cons p x xs)

-- a right of an earlier receipt is another one
other_right : (n : ℕ) (right y : RightNo) → right.receipt < n → IsLater n y → same_right right y ≡ false
other_right n right y earlier later = grind (arith, nat_tests, earlier, later)

-- ---- cures of later receipts

later_cure : (m i n : ℕ) (b : Bool) (ns : List ℕ) → i < n → filter (λ c. nat_le c i) ns ≡ [] → filter (λ c. nat_le c i) (cons_option (cond b (Some n) None) ns) ≡ []
later_cure m i n true ns later rest =
    let beyond : nat_le n i ≡ false = grind (arith, nat_tests, later) in
    ap (λ t. cond t (n ∷ filter (λ c. nat_le c i) ns) (filter (λ c. nat_le c i) ns)) beyond ∙ rest
later_cure m i n false ns later rest = rest

-- none of them is up to receipt i
later_cures : (m i n : ℕ) (receipts : List Receipt) → i < n → filter (λ c. nat_le c i) (filter_map (cure_of m) (enumerate_from n receipts)) ≡ []
later_cures m i n [] later = refl
later_cures m i n (r ∷ rs) later =
    later_cure m i n (nat_lt m n && cures m r.item) (filter_map (cure_of m) (enumerate_from (n + 1) rs)) later (later_cures m i (n + 1) rs (omega arith))

-- ---- what is said of the receipts up to the last of the journal

module _ (journal more : List Receipt) where
  pub filing_stays : (m : ℕ) → m ≤ length journal → filing_at (journal ++ more) m ≡ filing_at journal m
  filing_stays m within = ap (option_and_then (λ r. filing_in r.item)) (receipt_stays journal more m within)

  pub acts_stay : (m : ℕ) → m ≤ length journal → acts_of (journal ++ more) m ≡ acts_of journal m
  acts_stay m within = ap (λ o. option_map_or (λ f. f.acts) o []) (filing_stays m within)

  pub applicant_stays : (m : ℕ) → m ≤ length journal → applicant_of (journal ++ more) m ≡ applicant_of journal m
  applicant_stays m within = ap (option_map (λ f. f.applicant)) (filing_stays m within)

  pub day_stays : (i : ℕ) → i ≤ length journal → day_of (journal ++ more) i ≡ day_of journal i
  day_stays i within = ap (λ o. option_map_or (λ r. r.stamp.day) o 0) (receipt_stays journal more i within)

  pub entry_stays : (i : ℕ) → i ≤ length journal → entry_by (journal ++ more) i ≡ entry_by journal i
  entry_stays i within = let day = day_stays i within in λ j key what. record { receipt = i; day = day j; key = key; what = what }

  pub keys_stay : (m : ℕ) → m ≤ length journal → keys_in_order (journal ++ more) m ≡ keys_in_order journal m
  keys_stay m within = ap in_key_order (keys_of_filing_stay journal more m within)

  pub creates_stays : (folio m : ℕ) → m ≤ length journal → creates_there (journal ++ more) folio m ≡ creates_there journal folio m
  creates_stays folio m within = ap (λ acts. create_in_division false folio acts || create_in_division true folio acts) (acts_stay m within)

  pub group_stays : (right : RightNo) → right.receipt ≤ length journal → shares_its_group (journal ++ more) right ≡ shares_its_group journal right
  group_stays right within = ap (λ o. option_map_or (λ f. option_map_or (has_equal f.acts right.act) (act_at f right.act) false) o false) (filing_stays right.receipt within)

  -- ---- creating ranks

  folio_stays : (right : RightNo) → right.receipt ≤ length journal → folio_of_right (journal ++ more) right ≡ folio_of_right journal right
  folio_stays right within = ap (λ o. option_and_then folio_of_creation (option_and_then (λ f. act_at f right.act) o)) (filing_stays right.receipt within)

  place_stays : (right : RightNo) (folio : ℕ) → right.receipt ≤ length journal → position (same_right right) (creations_in (journal ++ more) folio) ≡ position (same_right right) (creations_in journal folio)
  place_stays right folio within =
      let behind = 1 + length journal in
      let later = flat_map (λ p. creations_of_item folio p.0 p.1.item) (enumerate_from behind more) in
      ap (position (same_right right)) (creations_both journal more folio)
      ∙ position_stays (same_right right) (creations_in journal folio) later
      (all_weaker (IsLater behind) (λ y. same_right right y ≡ false) later (λ y is. other_right behind right y (omega arith) is) (receipts_later folio behind behind more (omega arith)))

  pub rank_stays : (right : RightNo) → right.receipt ≤ length journal → creating_rank (journal ++ more) right ≡ creating_rank journal right
  rank_stays right within =
      let folios = folio_stays right within in
      let places : (folio : ℕ) → position (same_right right) (creations_in (journal ++ more) folio) ≡ position (same_right right) (creations_in journal folio) = λ folio. place_stays right folio within in
      λ j. option_and_then (λ folio. option_map (λ i. i + 1) (places folio j)) (folios j)

  -- ---- documents

  cures_stay : (m i : ℕ) → i ≤ length journal → filter (λ c. nat_le c i) (cures_of (journal ++ more) m) ≡ filter (λ c. nat_le c i) (cures_of journal m)
  cures_stay m i within =
      let behind = 1 + length journal in
      let upto : List ℕ → List ℕ = filter (λ c. nat_le c i) in
      ap (λ numbered. upto (filter_map (cure_of m) numbered)) (numbered_both 1 journal more)
      ∙ ap upto (filter_map-append (cure_of m) (enumerate_from 1 journal) (enumerate_from behind more))
      ∙ filter-append (λ c. nat_le c i) (cures_of journal m) (filter_map (cure_of m) (enumerate_from behind more))
      ∙ ap (λ cs. upto (cures_of journal m) ++ cs) (later_cures m i behind more (omega arith))
      ∙ append-nil (upto (cures_of journal m))

  brought_stays : (i : ℕ) (cs : List ℕ) → i ≤ length journal → flat_map (docs_by_cure (journal ++ more)) (filter (λ c. nat_le c i) cs) ≡ flat_map (docs_by_cure journal) (filter (λ c. nat_le c i) cs)
  brought_stays i [] within = refl
  brought_stays i (c ∷ cs) within =
      elim (nat_le c i) as (λ b. nat_le c i ≡ b → flat_map (docs_by_cure (journal ++ more)) (cond b (c ∷ filter (λ c. nat_le c i) cs) (filter (λ c. nat_le c i) cs)) ≡ flat_map (docs_by_cure journal) (cond b (c ∷ filter (λ c. nat_le c i) cs) (filter (λ c. nat_le c i) cs))) [
        | true ↦ λ upto.
            let received = receipt_stays journal more c (grind (arith, nat_tests, upto, within)) in
            let rest = brought_stays i cs within in
            λ j. option_map_or (λ r. docs_of_cure r.item) (received j) [] ++ rest j
        | false ↦ λ beyond. brought_stays i cs within
      ] refl

  pub documents_stay : (m : ℕ) (f : Filing) (i : ℕ) → i ≤ length journal → documents (journal ++ more) m f i ≡ documents journal m f i
  documents_stay m f i within =
      ap (λ docs. filter (λ d. is_between 1 (length f.acts) (act_of_doc d)) (f.docs ++ docs))
      (ap (flat_map (docs_by_cure (journal ++ more))) (cures_stay m i within) ∙ brought_stays i (cures_of journal m) within)
