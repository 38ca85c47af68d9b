-- An award that stands is kept, whatever item is settled after it: no item adds anything that the sale reads below the award.
use Rattle.std.proofs.Common.{◌≡◌, ℕ, ◌<◌, ◌≤◌, nat_lt, Bool, true, false, List, [], ◌++◌, Any, IsSomeAnd, IsTrue, is_none, refl, sym, ap, subst, ◌∙◌, ⊎_elim, arith}
use Rattle.std.specs.List.{AllByRecursion}
use Rattle.std.proofs.lemmas.Bool.{cases_Bool, cases_lt, false≢true}
use Rattle.std.proofs.lemmas.Bool.Decides.{nat_tests}
use Rattle.std.proofs.lemmas.List.{append-nil}
use Rattle.std.proofs.lemmas.List.Elements.{All-contains, filter-append, recursion_from_All}
use Rattle.gb_base.specs.RightNo.{RightNo}
use Rattle.gb_base.specs.declared.keys.Key.{Key}
use Rattle.gb_base.specs.declared.keys.Key.TheVariants.{Case, Right, Title}
use Rattle.act_model.proofs.KeyOrder.{has, has_decides}
use Rattle.act_model.specs.declared.receipts.Receipt.{Receipt}
use Rattle.auction_classes.specs.LowestBid.{lowest_bid}
use Rattle.auction_classes.proofs.UnreadEntries.{AllUnread, GrowsUnread, claimed_grown, grown_below, grown_same}
use Rattle.folio_sections.specs.Cases.{call}
use Rattle.folio_sections.specs.Entries.{at, with_entries}
use Rattle.folio_sections.specs.Fronts.{below}
use Rattle.folio_sections.specs.Rights.{is_live}
use Rattle.folio_sections.specs.declared.entries.Entry.{Entry}
use Rattle.folio_sections.specs.declared.entries.What.{What}
use Rattle.folio_sections.specs.declared.entries.What.TheVariants as what
use Rattle.folio_sections.proofs.FilteredLists.{all_in, filter_none, in_all}
use Rattle.folio_sections.proofs.Unchanged.{all_at, all_weaker}
use Rattle.registrar.specs.KeptAwards.{AwardsAsKept, IsAwardKept, makes_owner, says_what_is_left}
use Rattle.registrar.proofs.CasesPushed.{all_are_below}
use Rattle.registrar.proofs.ContainedParts.{any_in_first, any_of}
use Rattle.registrar.proofs.CuresKeep.{AreEarlier}
use Rattle.registrar.proofs.RisingNumbers.{contains_of_in, in_of_contains}
use Rattle.registrar.proofs.UnreadThere.{IsDeadAmong}

-- Item i, of these keys, whose entries are by earlier items, brings these entries: at its keys alone, and nothing that says anything of
-- a right that is not live, where the title of its folio is no key.
pub record BringsAtKeys (i : ℕ) (keys : List Key) (register : Key → List Entry) (es : List Entry) : Type 0 where
  pub earlier : AreEarlier i register keys
  pub by_item : AllByRecursion (λ e. e.receipt ≡ i) es
  pub elsewhere : (k : Key) → has k keys ≡ false → at es k ≡ []
  pub unread : (folio : ℕ) (right : RightNo) → IsDeadAmong keys register folio right → AllUnread (at es (Right folio right))

-- what item i brings is not below an earlier receipt
pub none_below_item : (n i : ℕ) → n ≤ i → (register : Key → List Entry) (es : List Entry) → AllByRecursion (λ e. e.receipt ≡ i) es → (k : Key) → below n (with_entries register es k) ≡ below n (register k)
none_below_item n i later register es by_item k =
    filter-append (λ (e : Entry). nat_lt e.receipt n) (register k) (at es k)
    ∙ ap (λ ys. below n (register k) ++ ys) (filter_none (λ (e : Entry). nat_lt e.receipt n) (at es k)
    (all_weaker (λ (e : Entry). e.receipt ≡ i) (λ e. nat_lt e.receipt n ≡ false) (at es k) (λ e is. grind (arith, nat_tests, is, later)) (all_at (λ (e : Entry). e.receipt ≡ i) es k by_item)))
    ∙ append-nil (below n (register k))

-- some entry is by receipt n
abbrev IsThere : ℕ → List Entry → Type 0
IsThere n entries = Any (λ e. e.receipt ≡ n) entries

by_receipt : (says : What → Bool) (n : ℕ) (entries : List Entry) → Any (λ e. (e.receipt ≡ n) × IsTrue (says e.what)) entries → IsThere n entries
by_receipt says n entries some = any_of (λ (e : Entry). e.receipt ≡ n) entries some.1 (some.0, some.2, some.3) some.4.0

module _ (journal : List Receipt) (i n folio bid : ℕ) (keys : List Key) (register : Key → List Entry) (es : List Entry) (brings : BringsAtKeys i keys register es)
    (award : IsAwardKept journal register folio n bid) (stands : IsThere n (register (Case folio))) where
  -- where an entry by a later receipt stands, the item has no key
  no_key : i < n → (k : Key) → IsThere n (register k) → has k keys ≡ false
  no_key before k some =
      ⊎_elim
      (λ there.
      let less = All-contains (λ (e : Entry). e.receipt < i) (register k) some.1 (brings.earlier k ((has_decides k keys).0 there)) (some.0, some.2, some.3) in
      let is = some.4 in
      absurd (omega (arith, less, is, before)))
      (λ off. off) (cases_Bool (has k keys))

  stays_where : (k : Key) → IsThere n (register k) → below n (with_entries register es k) ≡ below n (register k)
  stays_where k some =
      ⊎_elim (λ before. ap (λ ys. below n (register k ++ ys)) (brings.elsewhere k (no_key before k some)) ∙ ap (below n) (append-nil (register k)))
      (λ later. none_below_item n i later register es brings.by_item k) (cases_lt i n)

  -- a right among the keys was not live: if it were, it would have an entry by receipt n, which says what the award leaves of it
  dead_there : i < n → (right : RightNo) → has (Right folio right) keys ≡ true → is_live (register (Right folio right)) ≡ false
  dead_there before right there =
      let k = Right folio right in
      let earlier = recursion_from_All (λ (e : Entry). e.receipt < i) (register k) (brings.earlier k ((has_decides k keys).0 there)) in
      let whole : below n (register k) ≡ register k =
      all_are_below n (register k) (all_weaker (λ (e : Entry). e.receipt < i) (λ e. e.receipt < n) (register k) (λ e less. omega (arith, less, before)) earlier) in
      ⊎_elim
      (λ live. absurd (false≢true (sym (no_key before k (by_receipt says_what_is_left n (register k) (award.left right (ap is_live whole ∙ live)))) ∙ there)))
      (λ dead. dead) (cases_Bool (is_live (register k)))

  unread_there : i < n → (right : RightNo) → AllUnread (at es (Right folio right))
  unread_there before right =
      let untitled = no_key before (Title folio) (by_receipt makes_owner n (register (Title folio)) award.owned) in
      ⊎_elim
      (λ there. brings.unread folio right (record {
        there = in_of_contains keys (Right folio right) ((has_decides (Right folio right) keys).0 there);
        untitled = λ title. false≢true (sym untitled ∙ (has_decides (Title folio) keys).1 (contains_of_in keys (Title folio) title));
        dead = dead_there before right there;
      }))
      (λ off. subst AllUnread (sym (brings.elsewhere (Right folio right) off)) tt) (cases_Bool (has (Right folio right) keys))

  grows : (right : RightNo) → GrowsUnread (below n (register (Right folio right))) (below n (with_entries register es (Right folio right)))
  grows right =
      let k = Right folio right in
      ⊎_elim (λ before. grown_below n (register k) (with_entries register es k) (record { more = at es k; is = refl; unread = unread_there before right }))
      (λ later. record { more = []; is = none_below_item n i later register es brings.by_item k ∙ sym (append-nil (below n (register k))); unread = tt }) (cases_lt i n)

  -- so the award is kept
  pub award_stays : IsAwardKept journal (with_entries register es) folio n bid
  award_stays =
      let case = stays_where (Case folio) stands in
      let title = stays_where (Title folio) (by_receipt makes_owner n (register (Title folio)) award.owned) in
      record {
        called = ap (λ xs. is_none (call xs)) case ∙ award.called;
        paid = subst (λ o. IsSomeAnd o (λ least. least.cash ≤ bid)) (sym (ap lowest_bid (claimed_grown journal register (with_entries register es) folio n case title grows))) award.paid;
        owned = any_in_first (λ e. (e.receipt ≡ n) × IsTrue (makes_owner e.what)) (register (Title folio)) (at es (Title folio)) award.owned;
        left = λ right live.
            any_in_first (λ e. (e.receipt ≡ n) × IsTrue (says_what_is_left e.what)) (register (Right folio right)) (at es (Right folio right))
            (award.left right (sym (grown_same _ _ (grows right)).live ∙ live));
      }

-- ---- all awards of a folio

content_stays : (journal : List Receipt) (i folio : ℕ) (keys : List Key) (register : Key → List Entry) (es : List Entry) → BringsAtKeys i keys register es → (n : ℕ) (w : What)
    → IsThere n (register (Case folio)) → AwardsAsKept journal register folio n w → AwardsAsKept journal (with_entries register es) folio n w
content_stays journal i folio keys register es brings n (what.Awarded buyer bid) stands award = award_stays journal i n folio bid keys register es brings award stands
content_stays journal i folio keys register es brings n other stands award = tt

pub awards_stay : (journal : List Receipt) (i folio : ℕ) (keys : List Key) (register : Key → List Entry) (es : List Entry) → BringsAtKeys i keys register es
    → AllByRecursion (λ e. AwardsAsKept journal register folio e.receipt e.what) (register (Case folio)) → AllByRecursion (λ e. AwardsAsKept journal (with_entries register es) folio e.receipt e.what) (register (Case folio))
awards_stay journal i folio keys register es brings awards =
    let entries = register (Case folio) in
    all_in (λ (e : Entry). AwardsAsKept journal (with_entries register es) folio e.receipt e.what) entries
    (λ e there.
    content_stays journal i folio keys register es brings e.receipt e.what (any_of (λ (d : Entry). d.receipt ≡ e.receipt) entries e (contains_of_in entries e there) refl)
    (in_all (λ (d : Entry). AwardsAsKept journal register folio d.receipt d.what) entries e awards there))
