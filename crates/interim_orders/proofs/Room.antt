-- How many entries are brought at each key of a filing.
use Rattle.std.proofs.Common.{◌≡◌, ℕ, ◌-◌, ◌<◌, ◌≤◌, true, false, nat_lt, cond, List, [], ◌∷◌, length, map, flat_map, Contains, Option, Some, None, refl, sym, ap, subst, ◌∙◌, ⊎_elim, arith}
use Rattle.std.specs.List.{AllByRecursion}
use Rattle.std.specs.List.Sorted.{IsStrictlySortedBy}
use Rattle.std.specs.Option.{option_map_or}
use Rattle.std.proofs.lemmas.Bool.{cases_Bool, false≢true}
use Rattle.std.proofs.lemmas.Bool.Decides.{nat_tests}
use Rattle.std.proofs.lemmas.List.{length-map}
use Rattle.std.proofs.lemmas.List.Concat.{flat_map-cons}
use Rattle.std.proofs.lemmas.List.Elements.{Contains-append_right}
use Rattle.std.proofs.lemmas.List.FromFn.{length-range_with_len}
use Rattle.std.proofs.lemmas.List.Sums.{count_by-le-length, length-filter}
use Rattle.gb_base.specs.Keys.{key_cmp, same_key}
use Rattle.gb_base.specs.declared.keys.Key.{Key}
use Rattle.act_model.proofs.KeyOrder.{in_key_order_members, in_key_order_sorted, same_is}
use Rattle.act_model.specs.Receiving.{day_of}
use Rattle.act_model.specs.Touches.{keys_in_order, keys_of_filing}
use Rattle.act_model.specs.declared.receipts.Receipt.{Receipt}
use Rattle.folio_sections.specs.Adding.{HasRoom}
use Rattle.folio_sections.specs.Entries.{entry_by, at}
use Rattle.interim_orders.specs.Notices.{notices_at, notices_brought}
use Rattle.folio_sections.specs.Waiting.{waiting_unnoticed, receipts_before}
use Rattle.folio_sections.specs.declared.entries.Entry.{Entry}
use Rattle.folio_sections.specs.declared.entries.What.TheVariants as what
use Rattle.folio_sections.specs.inner.Unnoticed.{is_unnoticed}
use Rattle.folio_sections.proofs.Additions.{at_few, length-at, none_at}
use Rattle.folio_sections.proofs.Unnoticed.{unnoticed_is}
use Rattle.folio_sections.proofs.Unchanged.{all_weaker}
use Rattle.gb_base.specs.Deadlines.{deadline_after}
use Rattle.interim_orders.specs.Extensions.{brought_by_extension, extension_brought, extension_by}
use Rattle.interim_orders.specs.Lapses.{brought_by_lapse, lapse_at, lapse_brought, lapse_by}
use Rattle.interim_orders.specs.Orders.{end_brought, state_by, state_of, waiting_brought, waits_until}
use Rattle.interim_orders.specs.declared.answers.Extension.TheVariants as extension
use Rattle.interim_orders.specs.declared.answers.Lapse.TheVariants.{NotPending, Rejected, TooEarly}
use Rattle.interim_orders.specs.inner.Marks.{mark, marks}
use Rattle.interim_orders.proofs.Marking.{each_marked, mark_at}
use Rattle.interim_orders.proofs.Noticing.{first_apart, sorted_rest}

-- what is brought at a key stands there
abbrev StaysThere : (Key → List Entry) → Type 0
StaysThere f = (key : Key) → AllByRecursion (λ e. e.key ≡ key) (f key)

turned : (j k : Key) → same_key j k ≡ false → same_key k j ≡ false
turned j k apart =
    ⊎_elim
    (λ same. absurd (false≢true (sym apart ∙ subst (λ x. same_key x k ≡ true) (same_is k j same) (subst (λ x. same_key k x ≡ true) (sym (same_is k j same)) same))))
    (λ other. other)
    (cases_Bool (same_key k j))

none_there : (f : Key → List Entry) → StaysThere f → (k key : Key) → same_key key k ≡ false → at (f key) k ≡ []
none_there f stays k key apart =
    none_at (f key) k (all_weaker (λ e. e.key ≡ key) (λ e. same_key e.key k ≡ false) (f key) (λ e is. subst (λ j. same_key j k ≡ false) (sym is) apart) (stays key))

none_later : (f : Key → List Entry) → StaysThere f → (k : Key) (keys : List Key) → AllByRecursion (λ j. same_key k j ≡ false) keys → length (at (flat_map f keys) k) ≡ 0
none_later f stays k [] apart = refl
none_later f stays k (key ∷ keys) apart =
    let both = ap (λ es. length (at es k)) (flat_map-cons f key keys) ∙ length-at (f key) (flat_map f keys) k in
    let here = ap length (none_there f stays k key (turned k key apart.0)) in
    let later = none_later f stays k keys apart.1 in
    omega arith

each_fits : (f : Key → List Entry) → StaysThere f → (room : Key → ℕ) (keys : List Key) → IsStrictlySortedBy key_cmp keys → ((k : Key) → Contains keys k → length (f k) ≤ room k) → HasRoom room (flat_map f keys)
each_fits f stays room [] sorted roomy k = omega arith
each_fits f stays room (key ∷ keys) sorted roomy k =
    let both = ap (λ es. length (at es k)) (flat_map-cons f key keys) ∙ length-at (f key) (flat_map f keys) k in
    ⊎_elim
    (λ same.
    let is : key ≡ k = same_is key k same in
    let apart : AllByRecursion (λ j. same_key k j ≡ false) keys = subst (λ x. AllByRecursion (λ j. same_key x j ≡ false) keys) is (first_apart key keys sorted) in
    let none = none_later f stays k keys apart in
    let few = at_few (f key) k in
    let wide : length (f key) ≤ room k = subst (λ x. length (f key) ≤ room x) is (roomy key (0, omega arith, refl)) in
    omega arith)
    (λ other.
    let none = ap length (none_there f stays k key other) in
    let later = each_fits f stays room keys (sorted_rest (key ∷ keys) 1 sorted) (λ j there. roomy j (Contains-append_right (key ∷ []) keys j there)) k in
    omega arith)
    (cases_Bool (same_key key k))

-- what is brought at each key of a filing fits, where each key has room for what is brought there
keys_fit : (journal : List Receipt) (m : ℕ) (f : Key → List Entry) → StaysThere f → (room : Key → ℕ) → ((k : Key) → Contains (keys_of_filing journal m) k → length (f k) ≤ room k) → HasRoom room (flat_map f (keys_in_order journal m))
keys_fit journal m f stays room roomy =
    each_fits f stays room (keys_in_order journal m) (in_key_order_sorted (keys_of_filing journal m)) (λ k there. roomy k ((in_key_order_members (keys_of_filing journal m) k).0 there))

-- one entry at each key fits, where each key has room for one
pub marks_fit : (journal : List Receipt) (m i : ℕ) (until : Option ℕ) (room : Key → ℕ) → ((k : Key) → Contains (keys_of_filing journal m) k → 1 ≤ room k) → HasRoom room (marks journal m i until)
marks_fit journal m i until room roomy =
    subst (λ es. HasRoom room es) (each_marked journal i (mark m until) (λ k. []) (keys_in_order journal m))
    (keys_fit journal m (mark_at journal i (mark m until) (λ k. [])) (λ key. (refl, tt)) room roomy)

notices_there : (journal : List Receipt) (i : ℕ) (key : Key) (ns : List ℕ) → AllByRecursion (λ e. e.key ≡ key) (map (λ n. entry_by journal i key (what.Notice n)) ns)
notices_there journal i key [] = tt
notices_there journal i key (n ∷ ns) = (refl, notices_there journal i key ns)

-- the notices fit, where each key has room for as many as filings wait there without one
pub notices_fit : (journal : List Receipt) (m i : ℕ) (at0 : Key → List Entry) (room : Key → ℕ) → ((k : Key) → Contains (keys_of_filing journal m) k → length (waiting_unnoticed m (at0 k)) ≤ room k) → HasRoom room (notices_brought journal m i at0)
notices_fit journal m i at0 room roomy =
    keys_fit journal m (notices_at journal m i at0) (λ key. notices_there journal i key (waiting_unnoticed m (at0 key))) room
    (λ k there. subst (λ n. n ≤ room k) (sym (length-map (waiting_unnoticed m (at0 k)) (λ n. entry_by journal i k (what.Notice n)))) (roomy k there))

-- at most m filings before filing m wait without a notice
pub unnoticed_few : (m : ℕ) (entries : List Entry) → length (waiting_unnoticed m entries) ≤ m
unnoticed_few m entries =
    let all = ap length (unnoticed_is m entries) in
    let kept = length-filter (λ n. is_unnoticed n entries) (receipts_before m) in
    let most = count_by-le-length (λ n. is_unnoticed n entries) (receipts_before m) in
    let few = length-range_with_len 1 (m - 1) in
    omega arith

-- ---- lapses

no_entry : (room : Key → ℕ) → HasRoom room []
no_entry room k = omega arith

-- what a lapse brings fits: the end of an earlier filing's waiting, for which there is room, or nothing
answered_fits : (ended : List Entry) (day m i : ℕ) (until : Option ℕ) (room : Key → ℕ) → (m < i → HasRoom room ended) → HasRoom room (brought_by_lapse ended (lapse_by day (state_by (cond (nat_lt m i) until None))))
answered_fits ended day m i until room roomy =
    elim (nat_lt m i) as (λ b. nat_lt m i ≡ b → HasRoom room (brought_by_lapse ended (lapse_by day (state_by (cond b until None))))) [
      | true ↦ λ earlier. elim until as (λ o. HasRoom room (brought_by_lapse ended (lapse_by day (state_by o)))) [
        | Some last ↦ elim (nat_lt last day) as (λ b. HasRoom room (brought_by_lapse ended (cond b Rejected (TooEarly last)))) [
          | true ↦ roomy (grind (arith, nat_tests, earlier))
          | false ↦ no_entry room
        ]
        | None ↦ no_entry room
      ]
      | false ↦ λ later. no_entry room
    ] refl

pub lapse_fits : (journal : List Receipt) (i : ℕ) (at0 : Key → List Entry) (room : Key → ℕ) → ((m : ℕ) → lapse_at journal i ≡ Some m → m < i → (k : Key) → Contains (keys_of_filing journal m) k → 1 ≤ room k) → HasRoom room (lapse_brought journal i at0)
lapse_fits journal i at0 room roomy =
    elim (lapse_at journal i) as (λ o. lapse_at journal i ≡ o → HasRoom room (option_map_or (λ m. brought_by_lapse (end_brought journal m i) (option_map_or (λ n. lapse_by (day_of journal i) (state_of journal n i at0)) o NotPending)) o [])) [
      | Some m ↦ λ names. answered_fits (end_brought journal m i) (day_of journal i) m i (waits_until journal m at0) room (λ earlier. marks_fit journal m i None room (roomy m names earlier))
      | None ↦ λ other. no_entry room
    ] refl

-- ---- extensions

-- what an extension brings fits: that an earlier filing waits until a later day, for which there is room, or nothing
extended_fits : (journal : List Receipt) (m i day later : ℕ) (until : Option ℕ) (room : Key → ℕ) → (m < i → HasRoom room (waiting_brought journal m i later))
    → HasRoom room (brought_by_extension journal m i (extension_by day later (state_by (cond (nat_lt m i) until None))))
extended_fits journal m i day later until room roomy =
    elim (nat_lt m i) as (λ b. nat_lt m i ≡ b → HasRoom room (brought_by_extension journal m i (extension_by day later (state_by (cond b until None))))) [
      | true ↦ λ earlier. elim until as (λ o. HasRoom room (brought_by_extension journal m i (extension_by day later (state_by o)))) [
        | Some last ↦ elim (nat_lt last day) as (λ b. HasRoom room (brought_by_extension journal m i (cond b (extension.TooLate last) (cond (nat_lt last later) (extension.Extended later) (extension.NotLater last))))) [
          | true ↦ no_entry room
          | false ↦ elim (nat_lt last later) as (λ b. HasRoom room (brought_by_extension journal m i (cond b (extension.Extended later) (extension.NotLater last)))) [
            | true ↦ roomy (grind (arith, nat_tests, earlier))
            | false ↦ no_entry room
          ]
        ]
        | None ↦ no_entry room
      ]
      | false ↦ λ late. no_entry room
    ] refl

pub extension_fits : (journal : List Receipt) (m days i : ℕ) (at0 : Key → List Entry) (room : Key → ℕ) → (m < i → (k : Key) → Contains (keys_of_filing journal m) k → 1 ≤ room k) → HasRoom room (extension_brought journal m days i at0)
extension_fits journal m days i at0 room roomy =
    extended_fits journal m i (day_of journal i) (deadline_after days (day_of journal i)) (waits_until journal m at0) room
    (λ earlier. marks_fit journal m i (Some (deadline_after days (day_of journal i))) room (roomy earlier))
