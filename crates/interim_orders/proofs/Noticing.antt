-- Official notices that are entered at a key in ascending order, and key by key.
use Rattle.std.proofs.Common.{◌≡◌, ℕ, suc, zero, Bool, true, false, cond, ◌&&◌, List, [], ◌∷◌, ◌++◌, drop, map, flat_map, find, filter, Option, Some, None, is_none, is_some, refl, sym, ap, subst, ◌∙◌, arith}
use Rattle.std.specs.List.{AllByRecursion}
use Rattle.std.specs.List.Sorted.{IsStrictlySortedBy}
use Rattle.std.specs.Ordering.{is_eq}
use Rattle.std.specs.declared.cmp.Ordering.TheVariants.{Less}
use Rattle.std.proofs.lemmas.Bool.Decides.{nat_tests}
use Rattle.std.proofs.lemmas.List.{append-nil}
use Rattle.std.proofs.lemmas.List.Concat.{flat_map_single}
use Rattle.gb_base.specs.Keys.{key_cmp, same_key}
use Rattle.gb_base.specs.declared.keys.Key.{Key}
use Rattle.act_model.specs.declared.receipts.Receipt.{Receipt}
use Rattle.act_model.proofs.KeyOrder.{ties}
use Rattle.folio_sections.specs.Adding.{AddsList, HasRoom}
use Rattle.folio_sections.specs.Entries.{entry_by, at}
use Rattle.interim_orders.specs.Notices.{notices_at}
use Rattle.folio_sections.specs.Waiting.{waiting_unnoticed, receipts_before, is_above}
use Rattle.folio_sections.specs.declared.entries.Entry.{Entry}
use Rattle.folio_sections.specs.declared.entries.What.TheVariants as what
use Rattle.folio_sections.specs.inner.Unnoticed.{is_unnoticed}
use Rattle.folio_sections.proofs.Additions.{none_at}
use Rattle.folio_sections.proofs.FirstAbove.{above_further, all_above, first_above, none_above, unnoticed_ascend}
use Rattle.folio_sections.proofs.Indexes.{find_passes}
use Rattle.folio_sections.proofs.Progress.{Progress, begins, ends, goes_on_by, has_room_by}
use Rattle.folio_sections.proofs.Unchanged.{KeepsNotice, all_at, all_weaker, own_notice_stays, pending_stays}
use Rattle.folio_sections.proofs.Unnoticed.{unnoticed_is}

-- ---- the next at one key

find_with : (p : ℕ → Bool) (b : Bool) (x : ℕ) (xs : List ℕ) → find p (cond b (x ∷ xs) xs) ≡ cond b (cond (p x) (Some x) (find p xs)) (find p xs)
find_with p true x xs = refl
find_with p false x xs = refl

same_either : {X : Type 0} (b c : Bool) (x : X) → cond b x x ≡ cond c x x
same_either true true x = refl
same_either true false x = refl
same_either false true x = refl
same_either false false x = refl

-- where two filters agree on all that is looked for, the first one that is found is the same
same_found : (p q r : ℕ → Bool) → ((n : ℕ) → p n ≡ true → q n ≡ r n) → (xs : List ℕ) → find p (filter q xs) ≡ find p (filter r xs)
same_found p q r agree [] = refl
same_found p q r agree (x ∷ xs) =
    let rest = same_found p q r agree xs in
    find_with p (q x) x (filter q xs)
    ∙ elim (p x) as (λ b. p x ≡ b → cond (q x) (cond b (Some x) (find p (filter q xs))) (find p (filter q xs)) ≡ cond (r x) (cond b (Some x) (find p (filter r xs))) (find p (filter r xs))) [
      | true ↦ λ sought. λ i. cond (agree x sought i) (Some x) (rest i)
      | false ↦ λ other. same_either (q x) (r x) (find p (filter q xs)) ∙ ap (λ o. cond (r x) o o) rest
    ] refl
    ∙ sym (find_with p (r x) x (filter r xs))

-- ---- at one key

-- the official notice of filing n
abbrev pub notice_of : List Receipt → ℕ → Key → (Key → List Entry) → ℕ → List Entry
notice_of journal i key at0 n = entry_by journal i key (what.Notice n) ∷ []

-- the entry leaves the waiting and the notice of each filing above a number
abbrev pub LeavesAbove : Option ℕ → Entry → Type 0
LeavesAbove after e = (n : ℕ) → is_above after n ≡ true → KeepsNotice n e

leaves_further : (after : Option ℕ) (n : ℕ) (e : Entry) → is_above after n ≡ true → LeavesAbove after e → LeavesAbove (Some n) e
leaves_further after n e high leaves = λ k above. leaves k (above_further after n k high above)

own_leaves : (journal : List Receipt) (i : ℕ) (key : Key) (n : ℕ) → LeavesAbove (Some n) (entry_by journal i key (what.Notice n))
own_leaves journal i key n = λ k above before. (refl, grind (arith, nat_tests, above))

lacks_same : (after : Option ℕ) (xs ys : List Entry) → AllByRecursion (LeavesAbove after) ys → (n : ℕ) → is_above after n ≡ true → is_unnoticed n (xs ++ ys) ≡ is_unnoticed n xs
lacks_same after xs ys all n above =
    let own = all_weaker (LeavesAbove after) (KeepsNotice n) ys (λ e leaves. leaves n above) all in
    λ i. is_some (pending_stays n xs ys own i) && is_none (own_notice_stays n xs ys own i)

-- the next filing is the one that would have been found before these entries were added
next_same : (after : Option ℕ) (m : ℕ) (xs ys : List Entry) → AllByRecursion (LeavesAbove after) ys → find (is_above after) (waiting_unnoticed m (xs ++ ys)) ≡ find (is_above after) (waiting_unnoticed m xs)
next_same after m xs ys all =
    ap (find (is_above after)) (unnoticed_is m (xs ++ ys))
    ∙ same_found (is_above after) (λ n. is_unnoticed n (xs ++ ys)) (λ n. is_unnoticed n xs) (lacks_same after xs ys all) (receipts_before m)
    ∙ sym (ap (find (is_above after)) (unnoticed_is m xs))

-- How far the notices at a key have come: those of all filings above the last are left.
abbrev pub Noticed : List Receipt → ℕ → ℕ → Key → Option ℕ → (at0 at1 : Key → List Entry) (room0 room1 : Key → ℕ) (holds0 holds1 : Key → Bool) → Type 0
Noticed journal m i key after at0 at1 room0 room1 holds0 holds1 =
    Progress ℕ (notice_of journal i key) (LeavesAbove after) (waiting_unnoticed m (at0 key)) (filter (is_above after) (waiting_unnoticed m (at0 key))) at0 at1 room0 room1 holds0 holds1

pub none_noticed : (journal : List Receipt) (m i : ℕ) (key : Key) (at0 : Key → List Entry) (room0 : Key → ℕ) (holds0 : Key → Bool) → Noticed journal m i key None at0 at0 room0 room0 holds0 holds0
none_noticed journal m i key at0 room0 holds0 =
    let all = waiting_unnoticed m (at0 key) in
    subst (λ rest. Progress ℕ (notice_of journal i key) (LeavesAbove None) all rest at0 at0 room0 room0 holds0 holds0) (sym (all_above all))
    (begins ℕ (notice_of journal i key) (LeavesAbove None) all at0 room0 holds0)

found_at_first : (journal : List Receipt) (m i : ℕ) (key : Key) (after found : Option ℕ) (at0 at1 : Key → List Entry) (room0 room1 : Key → ℕ) (holds0 holds1 : Key → Bool)
    → Noticed journal m i key after at0 at1 room0 room1 holds0 holds1 → found ≡ find (is_above after) (waiting_unnoticed m (at1 key))
    → find (is_above after) (waiting_unnoticed m (at0 key)) ≡ found
found_at_first journal m i key after found at0 at1 room0 room1 holds0 holds1 so_far is =
    sym (is ∙ ap (λ es. find (is_above after) (waiting_unnoticed m es)) (so_far.added.there key)
    ∙ next_same after m (at0 key) (at so_far.done key) (all_at (LeavesAbove after) so_far.done key so_far.keeps))

-- the filing that is found is the next
pub next_noticed : (journal : List Receipt) (m i : ℕ) (key : Key) (after : Option ℕ) (n : ℕ) (at0 at1 : Key → List Entry) (room0 room1 : Key → ℕ) (holds0 holds1 : Key → Bool)
    → Noticed journal m i key after at0 at1 room0 room1 holds0 holds1 → Some n ≡ find (is_above after) (waiting_unnoticed m (at1 key))
    → filter (is_above after) (waiting_unnoticed m (at0 key)) ≡ n ∷ filter (is_above (Some n)) (waiting_unnoticed m (at0 key))
next_noticed journal m i key after n at0 at1 room0 room1 holds0 holds1 so_far is =
    first_above after (waiting_unnoticed m (at0 key)) n (unnoticed_ascend m (at0 key)) (found_at_first journal m i key after (Some n) at0 at1 room0 room1 holds0 holds1 so_far is)

begun : (journal : List Receipt) (m i : ℕ) (key : Key) (after : Option ℕ) (n : ℕ) (at0 at1 : Key → List Entry) (room0 room1 : Key → ℕ) (holds0 holds1 : Key → Bool)
    → Noticed journal m i key after at0 at1 room0 room1 holds0 holds1 → Some n ≡ find (is_above after) (waiting_unnoticed m (at1 key))
    → Progress ℕ (notice_of journal i key) (LeavesAbove after) (waiting_unnoticed m (at0 key)) (n ∷ filter (is_above (Some n)) (waiting_unnoticed m (at0 key))) at0 at1 room0 room1 holds0 holds1
begun journal m i key after n at0 at1 room0 room1 holds0 holds1 so_far is =
    subst (λ rest. Progress ℕ (notice_of journal i key) (LeavesAbove after) (waiting_unnoticed m (at0 key)) rest at0 at1 room0 room1 holds0 holds1)
    (next_noticed journal m i key after n at0 at1 room0 room1 holds0 holds1 so_far is) so_far

pub notice_fits : (journal : List Receipt) (m i : ℕ) (key : Key) (after : Option ℕ) (n : ℕ) (at0 at1 : Key → List Entry) (room0 room1 : Key → ℕ) (holds0 holds1 : Key → Bool)
    → Noticed journal m i key after at0 at1 room0 room1 holds0 holds1 → Some n ≡ find (is_above after) (waiting_unnoticed m (at1 key))
    → HasRoom room0 (notices_at journal m i at0 key) → HasRoom room1 (entry_by journal i key (what.Notice n) ∷ [])
notice_fits journal m i key after n at0 at1 room0 room1 holds0 holds1 so_far is room =
    let all = waiting_unnoticed m (at0 key) in
    has_room_by ℕ (notice_of journal i key) (LeavesAbove after) all n (filter (is_above (Some n)) all) at0 at1 room0 room1 holds0 holds1
    (begun journal m i key after n at0 at1 room0 room1 holds0 holds1 so_far is) refl
    (subst (λ es. HasRoom room0 es) (sym (flat_map_single (λ k. entry_by journal i key (what.Notice k)) all)) room)

pub noticed_next : (journal : List Receipt) (m i : ℕ) (key : Key) (after : Option ℕ) (n : ℕ) (at0 at1 at2 : Key → List Entry) (room0 room1 room2 : Key → ℕ) (holds0 holds1 holds2 : Key → Bool)
    → Noticed journal m i key after at0 at1 room0 room1 holds0 holds1 → Some n ≡ find (is_above after) (waiting_unnoticed m (at1 key))
    → AddsList at1 at2 room1 room2 (entry_by journal i key (what.Notice n) ∷ []) → holds2 ≡ holds1
    → Noticed journal m i key (Some n) at0 at2 room0 room2 holds0 holds2
noticed_next journal m i key after n at0 at1 at2 room0 room1 room2 holds0 holds1 holds2 so_far is more held =
    let all = waiting_unnoticed m (at0 key) in
    let first = begun journal m i key after n at0 at1 room0 room1 holds0 holds1 so_far is in
    let high : is_above after n ≡ true = find_passes (is_above after) (waiting_unnoticed m (at1 key)) n (sym is) in
    goes_on_by ℕ (notice_of journal i key) (LeavesAbove after) (LeavesAbove (Some n)) all n (filter (is_above (Some n)) all) at0 at1 at2 room0 room1 room2 holds0 holds1 holds2
    first refl
    (all_weaker (LeavesAbove after) (LeavesAbove (Some n)) first.done (λ e leaves. leaves_further after n e high leaves) first.keeps)
    (own_leaves journal i key n, tt) more held

pub all_noticed : (journal : List Receipt) (m i : ℕ) (key : Key) (after : Option ℕ) (at0 at1 : Key → List Entry) (room0 room1 : Key → ℕ) (holds0 holds1 : Key → Bool)
    → Noticed journal m i key after at0 at1 room0 room1 holds0 holds1 → None ≡ find (is_above after) (waiting_unnoticed m (at1 key))
    → AddsList at0 at1 room0 room1 (notices_at journal m i at0 key)
all_noticed journal m i key after at0 at1 room0 room1 holds0 holds1 so_far is =
    let all = waiting_unnoticed m (at0 key) in
    let none = none_above (is_above after) all (found_at_first journal m i key after None at0 at1 room0 room1 holds0 holds1 so_far is) in
    subst (λ es. AddsList at0 at1 room0 room1 es) (flat_map_single (λ k. entry_by journal i key (what.Notice k)) all)
    (ends ℕ (notice_of journal i key) (LeavesAbove after) all at0 at1 room0 room1 holds0 holds1
    (subst (λ rest. Progress ℕ (notice_of journal i key) (LeavesAbove after) all rest at0 at1 room0 room1 holds0 holds1) none so_far))

-- ---- key by key

-- the entry stands at none of these keys
abbrev pub StandsApart : List Key → Entry → Type 0
StandsApart keys e = AllByRecursion (λ k. same_key e.key k ≡ false) keys

pub sorted_rest : (keys : List Key) (n : ℕ) → IsStrictlySortedBy key_cmp keys → IsStrictlySortedBy key_cmp (drop n keys)
unfolding IsStrictlySortedBy
sorted_rest keys zero sorted = sorted
sorted_rest [] (suc n) sorted = tt
sorted_rest (key ∷ keys) (suc n) sorted = sorted_rest keys n sorted.1

above_apart : (key : Key) (keys : List Key) → AllByRecursion (λ k. key_cmp key k ≡ Less) keys → AllByRecursion (λ k. same_key key k ≡ false) keys
above_apart key [] above = tt
above_apart key (k ∷ keys) above = (ties key k ∙ ap is_eq above.0, above_apart key keys above.1)

pub first_apart : (key : Key) (rest : List Key) → IsStrictlySortedBy key_cmp (key ∷ rest) → AllByRecursion (λ k. same_key key k ≡ false) rest
unfolding IsStrictlySortedBy
first_apart key rest sorted = above_apart key rest sorted.0

notices_apart : (journal : List Receipt) (i : ℕ) (key : Key) (rest : List Key) (ns : List ℕ) → AllByRecursion (λ k. same_key key k ≡ false) rest → AllByRecursion (StandsApart rest) (map (λ n. entry_by journal i key (what.Notice n)) ns)
notices_apart journal i key rest [] apart = tt
notices_apart journal i key rest (n ∷ ns) apart = (apart, notices_apart journal i key rest ns apart)

-- what was entered at the keys before changes nothing of the notices that come at this key
notices_same : (journal : List Receipt) (m i : ℕ) (keys : List Key) (key : Key) (rest : List Key) (at0 at1 : Key → List Entry) (room0 room1 : Key → ℕ) (holds0 holds1 : Key → Bool)
    → Progress Key (notices_at journal m i) (StandsApart (key ∷ rest)) keys (key ∷ rest) at0 at1 room0 room1 holds0 holds1 → notices_at journal m i at1 key ≡ notices_at journal m i at0 key
notices_same journal m i keys key rest at0 at1 room0 room1 holds0 holds1 so_far =
    let none = none_at so_far.done key (all_weaker (StandsApart (key ∷ rest)) (λ e. same_key e.key key ≡ false) so_far.done (λ e apart. apart.0) so_far.keeps) in
    ap (λ es. map (λ n. entry_by journal i key (what.Notice n)) (waiting_unnoticed m es))
    (so_far.added.there key ∙ ap (λ es. at0 key ++ es) none ∙ append-nil (at0 key))

pub key_fits : (journal : List Receipt) (m i : ℕ) (keys : List Key) (key : Key) (rest : List Key) (at0 at1 : Key → List Entry) (room0 room1 : Key → ℕ) (holds0 holds1 : Key → Bool)
    → Progress Key (notices_at journal m i) (StandsApart (key ∷ rest)) keys (key ∷ rest) at0 at1 room0 room1 holds0 holds1 → HasRoom room0 (flat_map (notices_at journal m i at0) keys)
    → HasRoom room1 (notices_at journal m i at1 key)
key_fits journal m i keys key rest at0 at1 room0 room1 holds0 holds1 so_far room =
    has_room_by Key (notices_at journal m i) (StandsApart (key ∷ rest)) keys key rest at0 at1 room0 room1 holds0 holds1 so_far
    (notices_same journal m i keys key rest at0 at1 room0 room1 holds0 holds1 so_far) room

pub key_noticed : (journal : List Receipt) (m i : ℕ) (keys : List Key) (n : ℕ) (key : Key) (rest : List Key) (at0 at1 at2 : Key → List Entry) (room0 room1 room2 : Key → ℕ) (holds0 holds1 holds2 : Key → Bool)
    → IsStrictlySortedBy key_cmp keys → drop n keys ≡ key ∷ rest
    → Progress Key (notices_at journal m i) (StandsApart (key ∷ rest)) keys (key ∷ rest) at0 at1 room0 room1 holds0 holds1
    → AddsList at1 at2 room1 room2 (notices_at journal m i at1 key) → holds2 ≡ holds1
    → Progress Key (notices_at journal m i) (StandsApart rest) keys rest at0 at2 room0 room2 holds0 holds2
key_noticed journal m i keys n key rest at0 at1 at2 room0 room1 room2 holds0 holds1 holds2 sorted next so_far more held =
    let apart = first_apart key rest (subst (IsStrictlySortedBy key_cmp) next (sorted_rest keys n sorted)) in
    goes_on_by Key (notices_at journal m i) (StandsApart (key ∷ rest)) (StandsApart rest) keys key rest at0 at1 at2 room0 room1 room2 holds0 holds1 holds2 so_far
    (notices_same journal m i keys key rest at0 at1 room0 room1 holds0 holds1 so_far)
    (all_weaker (StandsApart (key ∷ rest)) (StandsApart rest) so_far.done (λ e apart. apart.1) so_far.keeps)
    (notices_apart journal i key rest (waiting_unnoticed m (at0 key)) apart) more held
