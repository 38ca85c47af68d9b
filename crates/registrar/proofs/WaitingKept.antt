-- Whatever an item brings for a filing, each filing waits at all its keys until one day, or at none.
use Rattle.std.proofs.Common.{◌≡◌, ℕ, Bool, true, false, cond, eqb, is_some, List, [], ◌++◌, map, arith, All, Contains, IsTrue, Option, Some, None, refl, sym, ap, subst, ◌∙◌, append_assoc, ⊎_elim}
use Rattle.std.specs.List.{AllByRecursion}
use Rattle.std.specs.Option.{option_map_or}
use Rattle.std.proofs.lemmas.Bool.{cases_Bool, eqb-true, false≢true}
use Rattle.std.proofs.lemmas.Bool.Decides.{nat_tests}
use Rattle.std.proofs.lemmas.List.Elements.{All-from_recursion}
use Rattle.gb_base.specs.declared.keys.Key.{Key}
use Rattle.act_model.specs.declared.items.Filing.{Filing}
use Rattle.act_model.specs.declared.receipts.Receipt.{Receipt}
use Rattle.act_model.specs.Touches.{acts_of, keys_in_order, keys_of_filing}
use Rattle.act_model.proofs.KeyOrder.{has, has_decides, in_key_order_members}
use Rattle.registrar.specs.Enters.{enters}
use Rattle.folio_sections.specs.Entries.{entry_by, at, with_entries}
use Rattle.kept_registers.specs.KeptPlaces.{NamesEarlier, PendingEverywhere}
use Rattle.folio_sections.specs.Waiting.{is_pending, pending, until_by}
use Rattle.folio_sections.specs.declared.entries.Entry.{Entry}
use Rattle.folio_sections.specs.declared.entries.What.{What}
use Rattle.folio_sections.specs.declared.entries.What.TheVariants as what
use Rattle.folio_sections.proofs.Additions.{at-append}
use Rattle.folio_sections.proofs.Unchanged.{all_at}
use Rattle.interim_orders.specs.Orders.{deadline_of, end_brought, order_brought, waiting_brought}
use Rattle.registrar.proofs.ContainedParts.{cond_same}
use Rattle.registrar.proofs.Dealing.{Deals, KeepsWaiting}
use Rattle.registrar.proofs.WaitingReads.{enters_keep_waiting, pending_kept, pending_marked}

-- ---- filings that wait as before

pub waiting_same : (journal : List Receipt) (before after : Key → List Entry) → ((n : ℕ) (k : Key) → pending n (after k) ≡ pending n (before k))
    → PendingEverywhere journal before → PendingEverywhere journal after
waiting_same journal before after same was = record {
  everywhere = λ n k l in_k in_l. same n k ∙ was.everywhere n k l in_k in_l ∙ sym (same n l);
  names_earlier = λ n k there waits. was.names_earlier n k there (sym (ap is_some (same n k)) ∙ waits);
}

-- a filing waits as before after all that an entry brings
entered_same : (journal : List Receipt) (m i n : ℕ) (before : Key → List Entry) (k : Key) → pending n (with_entries before (enters journal m i before) k) ≡ pending n (before k)
entered_same journal m i n before k =
    pending_kept n (before k) (at (enters journal m i before) k) (all_at (λ e. KeepsWaiting e.what) (enters journal m i before) k (enters_keep_waiting journal m i before))

pub waiting_entered : (journal : List Receipt) (m : ℕ) (f : Filing) (i : ℕ) (at : Key → List Entry) → Deals journal m f i at → PendingEverywhere journal (with_entries at (enters journal m i at))
waiting_entered journal m f i at deals =
    waiting_same journal at (with_entries at (enters journal m i at)) (λ n k. entered_same journal m i n at k) deals.kept.pending_everywhere

-- ---- a filing that is set to wait at each of its keys, or waits no longer

-- The content is about filing m alone; said twice, it says what it says once.
pub record Marks (m : ℕ) (w : What) : Type 0 where
  pub others : (n : ℕ) (b : Option ℕ) → eqb m n ≡ false → until_by n b w ≡ b
  pub twice : (n : ℕ) (b : Option ℕ) → until_by n (until_by n b w) w ≡ until_by n b w

set_twice : (c : Bool) (o b : Option ℕ) → cond c o (cond c o b) ≡ cond c o b
set_twice true o b = refl
set_twice false o b = refl

set_other : (c : Bool) (o b : Option ℕ) → c ≡ false → cond c o b ≡ b
set_other c o b is = ap (λ d. cond d o b) is

pub order_marks : (m until : ℕ) → Marks m (what.Pending m until)
order_marks m until =
    record { others = λ n b is. set_other (eqb m n) (Some until) b is; twice = λ n b. set_twice (eqb m n) (Some until) b }

pub end_marks : (m : ℕ) → Marks m (what.Settled m)
end_marks m = record { others = λ n b is. set_other (eqb m n) None b is; twice = λ n b. set_twice (eqb m n) None b }

-- what such a content brings
abbrev pub marks_brought : List Receipt → ℕ → ℕ → What → List Entry
marks_brought journal m i w = map (λ k. entry_by journal i k w) (keys_in_order journal m)

-- another filing waits as before
pub other_waits : (journal : List Receipt) (m i n : ℕ) (w : What) (before : Key → List Entry) (k : Key) → Marks m w → eqb m n ≡ false
    → pending n (with_entries before (marks_brought journal m i w) k) ≡ pending n (before k)
other_waits journal m i n w before k mark other =
    pending_marked n (before k) journal i w k (keys_in_order journal m) (mark.twice n)
    ∙ cond_same (has k (keys_in_order journal m)) (until_by n (pending n (before k)) w) (pending n (before k)) (mark.others n (pending n (before k)) other)

-- filing m waits as the content says
pub own_waits : (journal : List Receipt) (m i : ℕ) (w : What) (before : Key → List Entry) (k : Key) → Marks m w → Contains (keys_of_filing journal m) k
    → pending m (with_entries before (marks_brought journal m i w) k) ≡ until_by m (pending m (before k)) w
own_waits journal m i w before k mark there =
    pending_marked m (before k) journal i w k (keys_in_order journal m) (mark.twice m)
    ∙ ap (λ b. cond b (until_by m (pending m (before k)) w) (pending m (before k)))
    ((has_decides k (keys_in_order journal m)).1 ((in_key_order_members (keys_of_filing journal m) k).1 there))

marked_everywhere : (journal : List Receipt) (m i n : ℕ) (w : What) (before : Key → List Entry) (k l : Key) → Marks m w → PendingEverywhere journal before
    → Contains (keys_of_filing journal n) k → Contains (keys_of_filing journal n) l
    → pending n (with_entries before (marks_brought journal m i w) k) ≡ pending n (with_entries before (marks_brought journal m i w) l)
marked_everywhere journal m i n w before k l mark was in_k in_l =
    ⊎_elim
    (λ same. subst (λ x. Contains (keys_of_filing journal x) k → Contains (keys_of_filing journal x) l
    → pending x (with_entries before (marks_brought journal m i w) k) ≡ pending x (with_entries before (marks_brought journal m i w) l)) (eqb-true m n same)
    (λ own_k own_l. own_waits journal m i w before k mark own_k
    ∙ ap (λ b. until_by m b w) (was.everywhere m k l own_k own_l) ∙ sym (own_waits journal m i w before l mark own_l)) in_k in_l)
    (λ other. other_waits journal m i n w before k mark other ∙ was.everywhere n k l in_k in_l ∙ sym (other_waits journal m i n w before l mark other))
    (cases_Bool (eqb m n))

marked_names : (journal : List Receipt) (m i n : ℕ) (w : What) (before : Key → List Entry) (k : Key) → Marks m w → PendingEverywhere journal before
    → ((b : Option ℕ) → IsTrue (is_some (until_by m b w)) → All (NamesEarlier m) (acts_of journal m))
    → Contains (keys_of_filing journal n) k → IsTrue (is_pending n (with_entries before (marks_brought journal m i w) k)) → All (NamesEarlier n) (acts_of journal n)
marked_names journal m i n w before k mark was own there waits =
    ⊎_elim
    (λ same. subst (λ x. Contains (keys_of_filing journal x) k → IsTrue (is_pending x (with_entries before (marks_brought journal m i w) k)) → All (NamesEarlier x) (acts_of journal x)) (eqb-true m n same)
    (λ own_k own_waiting. own (pending m (before k)) (sym (ap is_some (own_waits journal m i w before k mark own_k)) ∙ own_waiting)) there waits)
    (λ other. was.names_earlier n k there (sym (ap is_some (other_waits journal m i n w before k mark other)) ∙ waits))
    (cases_Bool (eqb m n))

waiting_marked : (journal : List Receipt) (m i : ℕ) (w : What) (before : Key → List Entry) → Marks m w → PendingEverywhere journal before
    → ((b : Option ℕ) → IsTrue (is_some (until_by m b w)) → All (NamesEarlier m) (acts_of journal m)) → PendingEverywhere journal (with_entries before (marks_brought journal m i w))
waiting_marked journal m i w before mark was own = record {
  everywhere = λ n k l in_k in_l. marked_everywhere journal m i n w before k l mark was in_k in_l;
  names_earlier = λ n k there waits. marked_names journal m i n w before k mark was own there waits;
}

pub waiting_ordered : (journal : List Receipt) (m : ℕ) (f : Filing) (at : Key → List Entry) → Deals journal m f m at → AllByRecursion (NamesEarlier m) f.acts → PendingEverywhere journal (with_entries at (order_brought journal m))
waiting_ordered journal m f at deals earlier =
    waiting_marked journal m m (what.Pending m (deadline_of journal m)) at (order_marks m (deadline_of journal m)) deals.kept.pending_everywhere
    (λ b waits. subst (λ o. All (NamesEarlier m) (option_map_or (λ g. g.acts) o [])) (sym deals.filing) (All-from_recursion (NamesEarlier m) f.acts earlier))

-- a filing that waits is to wait until another day, and so each right that it names is of an earlier filing
pub waiting_on : (journal : List Receipt) (m i until : ℕ) (at : Key → List Entry) → PendingEverywhere journal at → All (NamesEarlier m) (acts_of journal m) → PendingEverywhere journal (with_entries at (waiting_brought journal m i until))
waiting_on journal m i until at was earlier = waiting_marked journal m i (what.Pending m until) at (order_marks m until) was (λ b waits. earlier)

-- a filing does not wait once its waiting is ended
ended : (m : ℕ) (b : Option ℕ) → is_some (until_by m b (what.Settled m)) ≡ true → ⊥
ended m b waits = false≢true (sym (ap (λ c. is_some (cond c None b)) (itself m)) ∙ waits)
  where
    itself : (n : ℕ) → eqb n n ≡ true
    itself n = grind (arith, nat_tests)

ended_everywhere : (journal : List Receipt) (m i : ℕ) (before : Key → List Entry) → PendingEverywhere journal before → PendingEverywhere journal (with_entries before (end_brought journal m i))
ended_everywhere journal m i before was =
    waiting_marked journal m i (what.Settled m) before (end_marks m) was (λ b waits. absurd (ended m b waits))

pub waiting_ended : (journal : List Receipt) (m : ℕ) (f : Filing) (i : ℕ) (at : Key → List Entry) → Deals journal m f i at → PendingEverywhere journal (with_entries at (end_brought journal m i))
waiting_ended journal m f i at deals = ended_everywhere journal m i at deals.kept.pending_everywhere

-- entries that are added one list after the other
pub added_both : (before : Key → List Entry) (xs ys : List Entry) (k : Key) → with_entries before (xs ++ ys) k ≡ with_entries (with_entries before xs) ys k
added_both before xs ys k = ap (λ es. before k ++ es) (at-append xs ys k) ∙ sym (append_assoc (before k) (at xs k) (at ys k))

pub waiting_cured : (journal : List Receipt) (m : ℕ) (f : Filing) (i : ℕ) (at : Key → List Entry) → Deals journal m f i at → PendingEverywhere journal (with_entries at (enters journal m i at ++ end_brought journal m i))
waiting_cured journal m f i at deals =
    let es = enters journal m i at in
    waiting_same journal (with_entries (with_entries at es) (end_brought journal m i)) (with_entries at (es ++ end_brought journal m i))
    (λ n k. ap (pending n) (added_both at es (end_brought journal m i) k))
    (ended_everywhere journal m i (with_entries at es) (waiting_entered journal m f i at deals))
