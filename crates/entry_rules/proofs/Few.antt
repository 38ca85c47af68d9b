-- How many entries an entered filing brings at one key: at a title its place and the owners that it gives, at a right its
-- creation and one act that names it, at a forced sale none.
use Rattle.std.proofs.Common.{◌≡◌, ℕ, ◌+◌, ◌≤◌, eqb, Bool, true, false, cond, not, ◌==◌, ◌&&◌, ◌||◌, nat_le, List, [], ◌∷◌, ◌++◌, length, flat_map, IsTrue, Option, Some, None, is_none, refl, sym, ap, subst, ◌∙◌, arith}
use Rattle.std.specs.List.{enumerate_from, filter_map, list_any, cons_option}
use Rattle.std.specs.List.Sorted.{IsStrictlySortedBy}
use Rattle.std.specs.Option.{option_map_or}
use Rattle.std.proofs.lemmas.Bool.{and_from, and_parts, eqb-true, false≢true}
use Rattle.std.proofs.lemmas.Bool.Decides.{nat_tests}
use Rattle.std.proofs.lemmas.List.Concat.{flat_map-cons}
use Rattle.gb_base.specs.Keys.{key_cmp, same_key}
use Rattle.gb_base.specs.RightNo.{RightNo, same_right}
use Rattle.gb_base.specs.declared.keys.Key.{Key}
use Rattle.gb_base.specs.declared.keys.Key.TheVariants.{Title, Right, Case}
use Rattle.gb_base.proofs.SameRights.{right_is}
use Rattle.act_model.proofs.KeyOrder.{has, in_key_order_sorted, not_above_itself, same_is}
use Rattle.act_model.specs.Persons.{is_distinct}
use Rattle.act_model.specs.WellFormed.{are_different, folio_with_new_owners, gives_owners_once, keep_groups_apart, keeps_rules, names_few_folios, names_rights_once, rights_named}
use Rattle.act_model.specs.Touches.{acts_of, keys_in_order, keys_of_filing}
use Rattle.act_model.specs.declared.filing_acts.Act.{Act}
use Rattle.act_model.specs.declared.filing_acts.Act.TheVariants.{Open, Transfer, Create, NoticeFor, Convert, Assign, Cancel, Exchange, Exercise}
use Rattle.act_model.specs.declared.items.Filing.{Filing}
use Rattle.act_model.specs.declared.receipts.Receipt.{Receipt}
use Rattle.entry_rules.specs.Entering.{contents_brought, placed_at, places_brought}
use Rattle.folio_sections.specs.Entries.{entry_by, at}
use Rattle.act_model.specs.Divisions.{create_in_division, creates_there}
use Rattle.folio_sections.specs.Waiting.{notice}
use Rattle.folio_sections.specs.declared.entries.Entry.{Entry}
use Rattle.folio_sections.specs.declared.entries.What.TheVariants as what
use Rattle.entry_rules.specs.inner.Acting.{brought_by}
use Rattle.entry_rules.proofs.Steady.{brings}

-- ---- how many pass

-- 1 where a test holds, else 0
abbrev tally : Bool → ℕ
tally b = cond b 1 0

-- how many pass
abbrev passing : {X : Type 0} → (X → Bool) → List X → ℕ
passing p [] = 0
passing p (x ∷ xs) = tally (p x) + passing p xs

-- how many of the entries stand at a key
abbrev pub many : Key → List Entry → ℕ
many k es = passing (λ e. same_key e.key k) es

pub many_at : (k : Key) (es : List Entry) → length (at es k) ≡ many k es
many_at k [] = refl
many_at k (e ∷ es) =
    elim (same_key e.key k) as (λ b. length (cond b (e ∷ at es k) (at es k)) ≡ tally b + many k es) [
      | true ↦ omega (arith, many_at k es)
      | false ↦ omega (arith, many_at k es)
    ]

passing_both : {X : Type 0} (p : X → Bool) (xs ys : List X) → passing p (xs ++ ys) ≡ passing p xs + passing p ys
passing_both p [] ys = omega arith
passing_both p (x ∷ xs) ys = ap (λ n. tally (p x) + n) (passing_both p xs ys) ∙ omega arith

-- none passes where no test holds
none_pass : {X : Type 0} (p : X → Bool) (xs : List X) → list_any p xs ≡ false → passing p xs ≡ 0
none_pass p [] none = refl
none_pass p (x ∷ xs) none =
    elim (p x) as (λ b. (b || list_any p xs) ≡ false → tally b + passing p xs ≡ 0) [
      | true ↦ λ h. absurd (false≢true (sym h))
      | false ↦ λ h. omega (arith, none_pass p xs h)
    ] none

-- each element differs by a test from those after it
abbrev differ : {X : Type 0} → (X → X → Bool) → List X → Bool
differ test [] = true
differ test (x ∷ xs) = not (list_any (test x) xs) && differ test xs

not_true : (b : Bool) → not b ≡ true → b ≡ false
not_true true h = absurd (false≢true h)
not_true false h = refl

-- of elements that differ so, at most one is n
one_passes : {X : Type 0} (test : X → X → Bool) → ((x y : X) → test x y ≡ true → x ≡ y) → (n : X) (xs : List X) → differ test xs ≡ true → passing (test n) xs ≤ 1
one_passes test sound n [] h = omega arith
one_passes test sound n (x ∷ xs) h =
    let both = and_parts (not (list_any (test x) xs)) (differ test xs) h in
    elim (test n x) as (λ b. test n x ≡ b → tally b + passing (test n) xs ≤ 1) [
      | true ↦ λ same.
          let none = none_pass (test n) xs (subst (λ y. list_any (test y) xs ≡ false) (sym (sound n x same)) (not_true (list_any (test x) xs) both.0)) in
          omega arith
      | false ↦ λ other. omega (arith, one_passes test sound n xs both.1)
    ] refl

none_by_parts : {X : Type 0} (f : X → List Entry) (k : Key) → ((x : X) → many k (f x) ≡ 0) → (xs : List X) → many k (flat_map f xs) ≡ 0
none_by_parts f k none [] = refl
none_by_parts f k none (x ∷ xs) =
    let all = ap (many k) (flat_map-cons f x xs) ∙ passing_both (λ (e : Entry). same_key e.key k) (f x) (flat_map f xs) in
    let first = none x in
    let others = none_by_parts f k none xs in
    omega arith

-- ---- a test that goes on with another

and_false : (b : Bool) → (b && false) ≡ false
and_false true = refl
and_false false = refl

never : (b : Bool) → tally (b && false) ≡ 0
never b = ap tally (and_false b)

only : (b : Bool) → tally (b && true) ≡ tally b
only true = refl
only false = refl

behind_and : (a b : Bool) → tally (a && b) ≤ tally b
behind_and true b = omega arith
behind_and false b = omega arith

-- ---- at a title

-- the numbers are the same
abbrev is_number : ℕ → ℕ → Bool
is_number n m = m == n

distinct_differ : (ns : List ℕ) → is_distinct ns ≡ differ is_number ns
distinct_differ [] = refl
distinct_differ (n ∷ ns) = ap (λ b. not (list_any (is_number n) ns) && b) (distinct_differ ns)

-- the act gives owners to the folio
abbrev gives : ℕ → Act → Bool
gives folio act = option_map_or (is_number folio) (folio_with_new_owners act) false

passing_given : (folio : ℕ) (o : Option ℕ) (ns : List ℕ) → tally (option_map_or (is_number folio) o false) + passing (is_number folio) ns ≡ passing (is_number folio) (cons_option o ns)
passing_given folio None ns = omega arith
passing_given folio (Some g) ns = refl

title_by_act : (journal : List Receipt) (m i : ℕ) (f : Filing) (at0 : Key → List Entry) (folio a : ℕ) (act : Act) → many (Title folio) (brought_by journal m i at0 f a act) ≤ tally (gives folio act)
title_by_act journal m i f at0 folio a (Open g inventory owners) = omega (arith, only (eqb g folio))
title_by_act journal m i f at0 folio a (Transfer g owners) = omega (arith, only (eqb g folio))
title_by_act journal m i f at0 folio a (Create g spec reserve) = omega (arith, never (eqb g folio))
title_by_act journal m i f at0 folio a (NoticeFor g spec) = omega (arith, never (eqb g folio))
title_by_act journal m i f at0 folio a (Convert g right) = omega (arith, never (eqb g folio))
title_by_act journal m i f at0 folio a (Assign g right holder) = omega (arith, never (eqb g folio))
title_by_act journal m i f at0 folio a (Cancel g right) = omega (arith, never (eqb g folio))
title_by_act journal m i f at0 folio a (Exchange g recede rise) = omega (arith, never (eqb g folio))
title_by_act journal m i f at0 folio a (Exercise g behind_right spec) = omega (arith, never (eqb g folio))

title_by_acts : (journal : List Receipt) (m i : ℕ) (f : Filing) (at0 : Key → List Entry) (folio a : ℕ) (acts : List Act) → many (Title folio) (flat_map (brings journal m i f at0) (enumerate_from a acts)) ≤ passing (is_number folio) (filter_map folio_with_new_owners acts)
title_by_acts journal m i f at0 folio a [] = omega arith
title_by_acts journal m i f at0 folio a (act ∷ acts) =
    let rest = flat_map (brings journal m i f at0) (enumerate_from (a + 1) acts) in
    let all = ap (many (Title folio)) (flat_map-cons (brings journal m i f at0) (a, act) (enumerate_from (a + 1) acts))
    ∙ passing_both (λ (e : Entry). same_key e.key (Title folio)) (brought_by journal m i at0 f a act) rest in
    let first = title_by_act journal m i f at0 folio a act in
    let others = title_by_acts journal m i f at0 folio (a + 1) acts in
    let given = passing_given folio (folio_with_new_owners act) (filter_map folio_with_new_owners acts) in
    omega arith

-- ---- at a right

right_swap : (r s : RightNo) → same_right s r ≡ same_right r s
right_swap r s = λ i. number_swap s.receipt r.receipt i && number_swap s.act r.act i
  where
    number_swap : (a b : ℕ) → eqb a b ≡ eqb b a
    number_swap a b = grind (arith, nat_tests)

rights_differ : (rs : List RightNo) → are_different rs ≡ differ same_right rs
rights_differ [] = refl
rights_differ (r ∷ rs) = ap (λ b. not (list_any (same_right r) rs) && b) (rights_differ rs)

-- a right that an act creates is counted by its act's number, and one that it names by the right
made : (g folio m a : ℕ) (r : RightNo) → tally (eqb g folio && (eqb m r.receipt && eqb a r.act)) ≤ tally (eqb a r.act)
made g folio m a r =
    let outer = behind_and (eqb g folio) (eqb m r.receipt && eqb a r.act) in
    let inner = behind_and (eqb m r.receipt) (eqb a r.act) in
    omega arith

named : (g folio : ℕ) (s r : RightNo) → tally (eqb g folio && same_right s r) ≤ tally (same_right r s)
named g folio s r =
    let there = behind_and (eqb g folio) (same_right s r) in
    let swapped = ap tally (right_swap r s) in
    omega arith

right_by_act : (journal : List Receipt) (m i : ℕ) (f : Filing) (at0 : Key → List Entry) (folio : ℕ) (r : RightNo) (a : ℕ) (act : Act)
    → many (Right folio r) (brought_by journal m i at0 f a act) ≤ tally (eqb a r.act) + passing (same_right r) (rights_named act)
right_by_act journal m i f at0 folio r a (Open g inventory owners) = omega (arith, never (eqb g folio))
right_by_act journal m i f at0 folio r a (Transfer g owners) = omega (arith, never (eqb g folio))
right_by_act journal m i f at0 folio r a (Create g spec reserve) = omega (arith, made g folio m a r)
right_by_act journal m i f at0 folio r a (NoticeFor g spec) = omega (arith, made g folio m a r)
right_by_act journal m i f at0 folio r a (Convert g right) = omega (arith, named g folio right r)
right_by_act journal m i f at0 folio r a (Assign g right holder) = omega (arith, named g folio right r)
right_by_act journal m i f at0 folio r a (Cancel g right) = omega (arith, named g folio right r)
right_by_act journal m i f at0 folio r a (Exchange g recede rise) = omega (arith, named g folio recede r, named g folio rise r)
right_by_act journal m i f at0 folio r a (Exercise g behind_right spec) = omega (arith, made g folio m a r, named g folio behind_right r)

-- a number that is at least a is a itself or greater, but not both
number_once : (a n : ℕ) → tally (eqb a n) + tally (nat_le (a + 1) n) ≤ tally (nat_le a n)
number_once a n = grind (arith, nat_tests)

right_by_acts : (journal : List Receipt) (m i : ℕ) (f : Filing) (at0 : Key → List Entry) (folio : ℕ) (r : RightNo) (a : ℕ) (acts : List Act)
    → many (Right folio r) (flat_map (brings journal m i f at0) (enumerate_from a acts)) ≤ tally (nat_le a r.act) + passing (same_right r) (flat_map rights_named acts)
right_by_acts journal m i f at0 folio r a [] = omega arith
right_by_acts journal m i f at0 folio r a (act ∷ acts) =
    let rest = flat_map (brings journal m i f at0) (enumerate_from (a + 1) acts) in
    let all = ap (many (Right folio r)) (flat_map-cons (brings journal m i f at0) (a, act) (enumerate_from (a + 1) acts))
    ∙ passing_both (λ (e : Entry). same_key e.key (Right folio r)) (brought_by journal m i at0 f a act) rest in
    let first = right_by_act journal m i f at0 folio r a act in
    let others = right_by_acts journal m i f at0 folio r (a + 1) acts in
    let names = ap (passing (same_right r)) (flat_map-cons rights_named act acts) ∙ passing_both (same_right r) (rights_named act) (flat_map rights_named acts) in
    let once = number_once a r.act in
    omega arith

-- ---- at a forced sale

case_by_act : (journal : List Receipt) (m i : ℕ) (f : Filing) (at0 : Key → List Entry) (folio a : ℕ) (act : Act) → many (Case folio) (brought_by journal m i at0 f a act) ≡ 0
case_by_act journal m i f at0 folio a (Open g inventory owners) = omega (arith, never (eqb g folio))
case_by_act journal m i f at0 folio a (Transfer g owners) = omega (arith, never (eqb g folio))
case_by_act journal m i f at0 folio a (Create g spec reserve) = omega (arith, never (eqb g folio))
case_by_act journal m i f at0 folio a (NoticeFor g spec) = omega (arith, never (eqb g folio))
case_by_act journal m i f at0 folio a (Convert g right) = omega (arith, never (eqb g folio))
case_by_act journal m i f at0 folio a (Assign g right holder) = omega (arith, never (eqb g folio))
case_by_act journal m i f at0 folio a (Cancel g right) = omega (arith, never (eqb g folio))
case_by_act journal m i f at0 folio a (Exchange g recede rise) = omega (arith, never (eqb g folio))
case_by_act journal m i f at0 folio a (Exercise g behind_right spec) = omega (arith, never (eqb g folio))

-- ---- places

-- the key is this one
abbrev is_key : Key → Key → Bool
is_key k key = same_key key k

place_by_key : (journal : List Receipt) (m i : ℕ) (at0 : Key → List Entry) (k key : Key) → many k (placed_at journal m i at0 key) ≤ tally (same_key key k)
place_by_key journal m i at0 k (Title folio) =
    elim (creates_there journal folio m && is_none (notice m (at0 (Title folio)))) as (λ b. many k (cond b (entry_by journal i (Title folio) (what.Placed m (create_in_division false folio (acts_of journal m)) (create_in_division true folio (acts_of journal m))) ∷ []) []) ≤ tally (same_key (Title folio) k)) [
      | true ↦ omega arith
      | false ↦ omega arith
    ]
place_by_key journal m i at0 k (Right folio right) = omega arith
place_by_key journal m i at0 k (Case folio) = omega arith

places_by_keys : (journal : List Receipt) (m i : ℕ) (at0 : Key → List Entry) (k : Key) (keys : List Key) → many k (flat_map (placed_at journal m i at0) keys) ≤ passing (is_key k) keys
places_by_keys journal m i at0 k [] = omega arith
places_by_keys journal m i at0 k (key ∷ keys) =
    let all = ap (many k) (flat_map-cons (placed_at journal m i at0) key keys) ∙ passing_both (λ (e : Entry). same_key e.key k) (placed_at journal m i at0 key) (flat_map (placed_at journal m i at0) keys) in
    let first = place_by_key journal m i at0 k key in
    let others = places_by_keys journal m i at0 k keys in
    omega arith

keys_differ : (keys : List Key) → IsStrictlySortedBy key_cmp keys → differ is_key keys ≡ true
unfolding IsStrictlySortedBy
keys_differ [] sorted = refl
keys_differ (key ∷ keys) sorted =
    and_from (not (has key keys)) (differ is_key keys) (ap not (not_above_itself key keys sorted.0)) (keys_differ keys sorted.1)

one_place : (journal : List Receipt) (m i : ℕ) (at0 : Key → List Entry) (k : Key) → many k (places_brought journal m i at0) ≤ 1
one_place journal m i at0 k =
    let keys = keys_in_order journal m in
    let each = places_by_keys journal m i at0 k keys in
    let one = one_passes is_key (λ x y h. sym (same_is y x h)) k keys (keys_differ keys (in_key_order_sorted (keys_of_filing journal m))) in
    omega arith

-- places stand at titles alone
no_place : (journal : List Receipt) (m i : ℕ) (at0 : Key → List Entry) (k : Key) → ((folio : ℕ) → same_key (Title folio) k ≡ false) → many k (places_brought journal m i at0) ≡ 0
no_place journal m i at0 k apart = none_by_parts (placed_at journal m i at0) k none (keys_in_order journal m)
  where
    none : (key : Key) → many k (placed_at journal m i at0 key) ≡ 0
    none (Title folio) = let few = place_by_key journal m i at0 k (Title folio) in let other = ap tally (apart folio) in omega arith
    none (Right folio right) = refl
    none (Case folio) = refl

-- ---- together

-- the rules of a well-formed filing
owners_once : (acts : List Act) → IsTrue (keeps_rules acts) → (folio : ℕ) → passing (is_number folio) (filter_map folio_with_new_owners acts) ≤ 1
owners_once acts keeps folio =
    let first_three = (and_parts (names_few_folios acts && gives_owners_once acts && names_rights_once acts) (keep_groups_apart acts) keeps).0 in
    let first_two = (and_parts (names_few_folios acts && gives_owners_once acts) (names_rights_once acts) first_three).0 in
    let once = (and_parts (names_few_folios acts) (gives_owners_once acts) first_two).1 in
    let given = filter_map folio_with_new_owners acts in
    one_passes is_number (λ x y h. sym (eqb-true y x h)) folio given (sym (distinct_differ given) ∙ once)

rights_once : (acts : List Act) → IsTrue (keeps_rules acts) → (r : RightNo) → passing (same_right r) (flat_map rights_named acts) ≤ 1
rights_once acts keeps r =
    let first_three = (and_parts (names_few_folios acts && gives_owners_once acts && names_rights_once acts) (keep_groups_apart acts) keeps).0 in
    let once = (and_parts (names_few_folios acts && gives_owners_once acts) (names_rights_once acts) first_three).1 in
    let named_rights = flat_map rights_named acts in
    one_passes same_right right_is r named_rights (sym (rights_differ named_rights) ∙ once)

at_most_one : (b : Bool) → tally b ≤ 1
at_most_one true = omega arith
at_most_one false = omega arith

pub two_at_most : (journal : List Receipt) (m i : ℕ) (f : Filing) (at0 at1 : Key → List Entry) → IsTrue (keeps_rules f.acts) → (k : Key) → many k (places_brought journal m i at0 ++ contents_brought journal m i at1 f) ≤ 2
two_at_most journal m i f at0 at1 keeps (Title folio) =
    let all = passing_both (λ (e : Entry). same_key e.key (Title folio)) (places_brought journal m i at0) (contents_brought journal m i at1 f) in
    let place = one_place journal m i at0 (Title folio) in
    let given = title_by_acts journal m i f at1 folio 1 f.acts in
    let once = owners_once f.acts keeps folio in
    omega arith
two_at_most journal m i f at0 at1 keeps (Right folio r) =
    let all = passing_both (λ (e : Entry). same_key e.key (Right folio r)) (places_brought journal m i at0) (contents_brought journal m i at1 f) in
    let none = no_place journal m i at0 (Right folio r) (λ g. and_false (eqb g folio)) in
    let entries = right_by_acts journal m i f at1 folio r 1 f.acts in
    let created = at_most_one (nat_le 1 r.act) in
    let once = rights_once f.acts keeps r in
    omega arith
two_at_most journal m i f at0 at1 keeps (Case folio) =
    let all = passing_both (λ (e : Entry). same_key e.key (Case folio)) (places_brought journal m i at0) (contents_brought journal m i at1 f) in
    let none = no_place journal m i at0 (Case folio) (λ g. and_false (eqb g folio)) in
    let nothing = none_by_parts (brings journal m i f at1) (Case folio) (λ numbered. case_by_act journal m i f at1 folio numbered.0 numbered.1) (enumerate_from 1 f.acts) in
    omega arith
