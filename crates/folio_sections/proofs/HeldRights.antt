-- The rights of a folio, as a range of the index's keys has them.
use Rattle.std.proofs.Common.{◌≡◌, ℕ, ◌==◌, ◌<◌, ◌≤◌, Bool, true, false, cond, eqb, not, ◌&&◌, ◌||◌, nat_le, nat_lt, List, [], ◌∷◌, filter, filter_map, All, Option, Some, None, IfSome, is_some, inl, inr, refl, sym, ap, subst, ◌∙◌, ⊎_elim, arith}
use Rattle.std.specs.List.{AllByRecursion, IsDistinct, range_with_len}
use Rattle.std.specs.List.Sorted.{IsStrictlySortedBy}
use Rattle.std.specs.BTreeMap.{BTreeMap, IsOrdered, get}
use Rattle.std.specs.BTreeMap.Range.{IsEntryInRange, IsLeBy, range_contains}
use Rattle.std.specs.Map.{keys_of, lookup}
use Rattle.std.specs.Ordering.{is_eq, is_lt}
use Rattle.std.specs.declared.cmp.Ordering.TheVariants.{Less}
use Rattle.std.specs.declared.ops.Bound.TheVariants.{Included}
use Rattle.std.proofs.lemmas.Bool.{cases_Bool, false≢true}
use Rattle.std.proofs.lemmas.Bool.Decides.{nat_tests}
use Rattle.std.proofs.lemmas.List.Elements.{recursion_from_All}
use Rattle.std.proofs.lemmas.Map.Entries.{lookup_tail}
use Rattle.gb_base.specs.Keys.{key_cmp}
use Rattle.gb_base.specs.Limits.{most_acts}
use Rattle.gb_base.specs.RightNo.{RightNo}
use Rattle.gb_base.specs.declared.keys.Key.{Key}
use Rattle.gb_base.specs.declared.keys.Key.TheVariants.{Case, Right, Title}
use Rattle.gb_base.proofs.Members.{In, in_flat_map, in_map, in_range, of_flat_map, of_map, of_range}
use Rattle.act_model.specs.Touches.{new_right}
use Rattle.act_model.proofs.KeyOrder.{same_is, ties}
use Rattle.folio_sections.specs.Held.{is_held}
use Rattle.folio_sections.specs.HeldRights.{held_rights, last_number, receipt_numbers, right_numbers, rights_of_filing}
use Rattle.folio_sections.specs.PartState.{PartState}
use Rattle.folio_sections.specs.inner.PartIndex.{IsIndexOf}
use Rattle.folio_sections.specs.inner.RightsInKeys.{entries_from_to, is_right_number, right_in}
use Rattle.folio_sections.proofs.DistinctLists.{distinct_filter, distinct_given, distinct_mapped, one_distinct}
use Rattle.folio_sections.proofs.FilteredLists.{in_all, in_filter, in_filter_map, of_filter, of_filter_map}
use Rattle.folio_sections.proofs.HeldParts.{is_at}
use Rattle.folio_sections.proofs.Indexes.{is_some-position}
use Rattle.folio_sections.proofs.ReceiptNumbers.{distinct_over_numbers, in_receipt_numbers, of_receipt_numbers}

-- ---- the rights that there may be

-- right y is x, or stands before it
abbrev pub is_up_to : RightNo → RightNo → Bool
is_up_to x y = nat_lt y.receipt x.receipt || (y.receipt == x.receipt && nat_le y.act x.act)

pub one_way : (x y : RightNo) → is_up_to x y ≡ false → is_up_to y x ≡ false → ⊥
one_way x y first second = grind (arith, nat_tests, first, second)

later_act : (m k l : ℕ) → k < l → is_up_to (new_right m k) (new_right m l) ≡ false
later_act m k l less = grind (arith, nat_tests, less)

later_receipt : (x y : RightNo) (k l : ℕ) → x.receipt ≡ k → y.receipt ≡ l → k < l → is_up_to x y ≡ false
later_receipt x y k l first second less = grind (arith, nat_tests)

of_filing : (m : ℕ) (x : RightNo) → In x (rights_of_filing m) → (a : ℕ) × In a (range_with_len 1 most_acts) × (new_right m a ≡ x)
of_filing m x there = of_map (new_right m) (range_with_len 1 most_acts) x there

-- they ascend
pub numbers_rise : IsDistinct is_up_to right_numbers
numbers_rise =
    distinct_over_numbers is_up_to rights_of_filing (λ m. distinct_mapped is_up_to (new_right m) (later_act m) 1 most_acts)
    (λ k l x y less here there. later_receipt x y k l (sym (ap (λ (r : RightNo). r.receipt) (of_filing k x here).2)) (sym (ap (λ (r : RightNo). r.receipt) (of_filing l y there).2)) less)

-- there may be a right of this number
pub record IsNumbered (id : RightNo) : Type 0 where
  pub receipt_from : 1 ≤ id.receipt
  pub receipt_to : id.receipt ≤ last_number
  pub act_from : 1 ≤ id.act
  pub act_to : id.act ≤ most_acts

pub is_numbered : (id : RightNo) → is_right_number id ≡ true → IsNumbered id
is_numbered id is = record {
  receipt_from = grind (arith, nat_tests, is);
  receipt_to = grind (arith, nat_tests, is);
  act_from = grind (arith, nat_tests, is);
  act_to = grind (arith, nat_tests, is);
}

pub has_number : (id : RightNo) → IsNumbered id → is_right_number id ≡ true
has_number id is =
    let a = is.receipt_from in
    let b = is.receipt_to in
    let c = is.act_from in
    let d = is.act_to in
    grind (arith, nat_tests, a, b, c, d)

pub in_right_numbers : (id : RightNo) → IsNumbered id → In id right_numbers
in_right_numbers id is =
    in_flat_map rights_of_filing receipt_numbers id.receipt id (in_receipt_numbers id.receipt is.receipt_from is.receipt_to)
    (in_map (new_right id.receipt) (range_with_len 1 most_acts) id.act (in_range 1 most_acts id.act is.act_from (omega (arith, is.act_to))))

pub of_right_numbers : (id : RightNo) → In id right_numbers → IsNumbered id
of_right_numbers id there =
    let from = of_flat_map rights_of_filing receipt_numbers id there in
    let act = of_filing from.0 id from.2 in
    let receipt = of_receipt_numbers from.0 from.1 in
    let within = of_range 1 most_acts act.0 act.1 in
    subst IsNumbered act.2 (record { receipt_from = receipt.0; receipt_to = receipt.1; act_from = within.0; act_to = omega (arith, within.1) })

-- ---- the range of a folio's rights

-- the key of the first right that there may be in a folio, and that of the last
abbrev first_key : ℕ → Key
first_key folio = Right folio (new_right 1 1)

abbrev last_key : ℕ → Key
last_key folio = Right folio (new_right last_number most_acts)

-- the first is not greater than the last
forward : (folio : ℕ) → IsLeBy key_cmp (first_key folio) (last_key folio)
forward folio = grind (arith, nat_tests)

abbrev is_between_rights : ℕ → Key → Bool
is_between_rights folio k = range_contains key_cmp (Included (first_key folio)) (Included (last_key folio)) k

-- a key between them is of a right there
right_there : (folio : ℕ) (k : Key) (id : RightNo) → is_between_rights folio k ≡ true → right_in k ≡ Some id → k ≡ Right folio id
right_there folio (Title g) id within is = absurd (false≢true (ap is_some is))
right_there folio (Case g) id within is = absurd (false≢true (ap is_some is))
right_there folio (Right g r) id within is =
    let there : eqb g folio ≡ true = grind (arith, nat_tests, within) in
    elim (is_right_number r) as (λ b. cond b (Some r) None ≡ Some id → Right g r ≡ Right folio id) [
      | true ↦ λ same. (let own : r ≡ id = cc same in λ i. Right (folio_is g folio there i) (own i))
      | false ↦ λ never. absurd (false≢true (ap is_some never))
    ] is
  where
    folio_is : (g f : ℕ) → eqb g f ≡ true → g ≡ f
    folio_is g f same = grind (arith, nat_tests, same)

right_between : (folio : ℕ) (id : RightNo) → IsNumbered id → is_between_rights folio (Right folio id) ≡ true
right_between folio id is =
    let a = is.receipt_from in
    let b = is.receipt_to in
    let c = is.act_from in
    let d = is.act_to in
    grind (arith, nat_tests, a, b, c, d)

numbered_in : (folio : ℕ) (id : RightNo) → IsNumbered id → right_in (Right folio id) ≡ Some id
numbered_in folio id is = ap (λ b. cond b (Some id) None) (has_number id is)

number_in : (k : Key) (id : RightNo) → right_in k ≡ Some id → IsNumbered id
number_in (Title g) id is = absurd (false≢true (ap is_some is))
number_in (Case g) id is = absurd (false≢true (ap is_some is))
number_in (Right g r) id is =
    elim (is_right_number r) as (λ b. is_right_number r ≡ b → cond b (Some r) None ≡ Some id → IsNumbered id) [
      | true ↦ λ own same. subst (λ o. IfSome o IsNumbered) same (is_numbered r own)
      | false ↦ λ _ never. absurd (false≢true (ap is_some never))
    ] refl is

-- ---- what an index has

-- an entry whose key does not stand before that of another
abbrev is_not_before : Key × ℕ → Key × ℕ → Bool
is_not_before d e = not (is_lt (key_cmp d.0 e.0))

entries_rise : (es : List (Key × ℕ)) → IsStrictlySortedBy key_cmp (keys_of es) → IsDistinct is_not_before es
unfolding IsStrictlySortedBy IsDistinct
entries_rise [] sorted = tt
entries_rise (e ∷ es) sorted = (by es sorted.0, entries_rise es sorted.1)
  where
    by : (ds : List (Key × ℕ)) → AllByRecursion (λ k. key_cmp e.0 k ≡ Less) (keys_of ds) → AllByRecursion (λ d. is_not_before e d ≡ false) ds
    by [] all = tt
    by (d ∷ ds) all = (ap (λ o. not (is_lt o)) all.0, by ds all.1)

-- what is found has its entry
of_lookup : (test : Key → Bool) (es : List (Key × ℕ)) (n : ℕ) → lookup test es ≡ Some n → (e : Key × ℕ) × In e es × (test e.0 ≡ true)
of_lookup test [] n is = absurd (false≢true (ap is_some is))
of_lookup test (e ∷ es) n is =
    ⊎_elim
    (λ here. (e, inl refl, here))
    (λ past. (let rest = of_lookup test es n (sym (lookup_tail test e es past) ∙ is) in (rest.0, inr rest.1, rest.2)))
    (cases_Bool (test e.0))

later_key : (folio : ℕ) (x y : RightNo) → is_lt (key_cmp (Right folio x) (Right folio y)) ≡ true → is_up_to x y ≡ false
later_key folio x y less = grind (arith, nat_tests, less)

not_false : (b : Bool) → not b ≡ false → b ≡ true
not_false true is = refl
not_false false is = sym is

held_at : (index : BTreeMap Key ℕ) (parts : List PartState) → IsIndexOf index parts → (k : Key) (n : ℕ) → get key_cmp index k ≡ Some n → is_held parts k ≡ true
held_at index parts indexed k n is = sym (is_some-position (is_at k) parts) ∙ ap is_some (sym (indexed k) ∙ is)

some_there : (o : Option ℕ) → is_some o ≡ true → (n : ℕ) × (o ≡ Some n)
some_there None is = absurd (false≢true is)
some_there (Some n) is = (n, refl)

-- ---- together

-- The rights of the entries between the first and the last of the folio are those that are held.
rights_held : (index : BTreeMap Key ℕ) (parts : List PartState) (folio : ℕ) → IsOrdered key_cmp index → IsIndexOf index parts
    → All (IsEntryInRange key_cmp (Included (first_key folio)) (Included (last_key folio)) index) (entries_from_to (first_key folio) (last_key folio) index.entries)
    → filter_map (λ e. right_in e.0) (entries_from_to (first_key folio) (last_key folio) index.entries) ≡ held_rights (is_held parts) folio
rights_held index parts folio ordered indexed all =
    let IsFound : Key × ℕ → Type 0 = IsEntryInRange key_cmp (Included (first_key folio)) (Included (last_key folio)) index in
    let ranged : List (Key × ℕ) = entries_from_to (first_key folio) (last_key folio) index.entries in
    let found : (e : Key × ℕ) → In e ranged → get key_cmp index e.0 ≡ Some e.1 = λ e there. (in_all IsFound ranged e (recursion_from_All IsFound ranged all) there).1 in
    let between : Key × ℕ → Bool = λ e. is_between_rights folio e.0 in
    let held : RightNo → Bool = λ id. is_held parts (Right folio id) in
    let entries = index.entries in
    let there : (e : Key × ℕ) (id : RightNo) → In e (filter between entries) → right_in e.0 ≡ Some id → e.0 ≡ Right folio id = λ e id here is.
    right_there folio e.0 id (of_filter between entries e here).1 is in
    one_distinct is_up_to one_way (filter_map (λ e. right_in e.0) (filter between entries)) (held_rights (is_held parts) folio)
    (distinct_given is_not_before is_up_to (λ e. right_in e.0) (filter between entries) (distinct_filter is_not_before between entries (entries_rise entries ordered))
    (λ d e x y here behind less first second.
    later_key folio x y (subst (λ k. is_lt (key_cmp k (Right folio y)) ≡ true) (there d x here first) (subst (λ k. is_lt (key_cmp d.0 k) ≡ true) (there e y behind second) (not_false (is_lt (key_cmp d.0 e.0)) less)))))
    (distinct_filter is_up_to held right_numbers numbers_rise)
    (λ id here.
    let from = of_filter_map (λ (e : Key × ℕ). right_in e.0) (filter between entries) id here in
    in_filter held right_numbers id (in_right_numbers id (number_in from.0.0 id from.2))
    (subst (λ k. is_held parts k ≡ true) (there from.0 id from.1 from.2) (held_at index parts indexed from.0.0 from.0.1 (found from.0 from.1))))
    (λ id here.
    let from = of_filter held right_numbers id here in
    let k = Right folio id in
    let number = of_right_numbers id from.0 in
    let at = some_there (get key_cmp index k) (ap is_some (indexed k) ∙ is_some-position (is_at k) parts ∙ from.1) in
    let entry = of_lookup (λ j. is_eq (key_cmp k j)) entries at.0 at.1 in
    let own : k ≡ entry.0.0 = same_is k entry.0.0 (ties k entry.0.0 ∙ entry.2) in
    in_filter_map (λ (e : Key × ℕ). right_in e.0) (filter between entries) entry.0 id
    (in_filter between entries entry.0 entry.1 (ap (is_between_rights folio) (sym own) ∙ right_between folio id number))
    (ap right_in (sym own) ∙ numbered_in folio id number))

-- ---- as the code has them

-- The index of a list of parts, and the first and the last right by their numbers.
pub rights_listed : (index : BTreeMap Key ℕ) (parts now : List PartState) (folio : ℕ) (first last : RightNo) → first ≡ new_right 1 1 → last ≡ new_right last_number most_acts → parts ≡ now
    → IsIndexOf index parts → IsOrdered key_cmp index
    → All (IsEntryInRange key_cmp (Included (Right folio first)) (Included (Right folio last)) index) (entries_from_to (Right folio first) (Right folio last) index.entries)
    → filter_map (λ e. right_in e.0) (entries_from_to (Right folio first) (Right folio last) index.entries) ≡ held_rights (is_held now) folio
rights_listed index parts now folio first last from to same indexed ordered all =
    (λ i. filter_map (λ e. right_in e.0) (entries_from_to (Right folio (from i)) (Right folio (to i)) index.entries))
    ∙ rights_held index now folio ordered (subst (IsIndexOf index) same indexed)
    (subst (λ k. All (IsEntryInRange key_cmp (Included (first_key folio)) (Included k) index) (entries_from_to (first_key folio) k index.entries)) (ap (λ r. Right folio r) to)
    (subst (λ k. All (IsEntryInRange key_cmp (Included k) (Included (Right folio last)) index) (entries_from_to k (Right folio last) index.entries)) (ap (λ r. Right folio r) from) all))

pub in_turn : (folio : ℕ) (first last : RightNo) → first ≡ new_right 1 1 → last ≡ new_right last_number most_acts → IsLeBy key_cmp (Right folio first) (Right folio last)
in_turn folio first last from to =
    subst (λ r. IsLeBy key_cmp (Right folio r) (Right folio last)) (sym from) (subst (λ r. IsLeBy key_cmp (first_key folio) (Right folio r)) (sym to) (forward folio))
