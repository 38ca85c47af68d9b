-- A journal and its index after one more receipt.
use Rattle.std.proofs.Common.{◌≡◌, ℕ, ◌+◌, ◌<◌, ◌≤◌, Bool, true, false, cond, eqb, ◌&&◌, List, [], ◌∷◌, ◌++◌, length, take, drop, get_or, Option, Some, None, IsTrue, zero, suc, ◌-◌, add_comm, refl, sym, subst, ap, ◌∙◌, ⊎_elim, arith}
use Rattle.std.specs.Ordering.{nat_cmp, ordering_then, is_eq}
use Rattle.std.specs.BTreeMap.{BTreeMap, Updates}
use Rattle.std.proofs.lemmas.Bool.{and_parts, cases_Bool, cases_eq, cond-false, cond-true, cond_both, eqb-true, ne_eqb}
use Rattle.std.proofs.lemmas.List.{get_or-take, length-take-le, take_all, take_at, take_more}
use Rattle.std.proofs.lemmas.Option.{slice_get-get_or}
use Rattle.std.proofs.lemmas.Bool.Decides.{nat_tests}
use Rattle.std.proofs.lemmas.Grind.{common_steps}
use Rattle.std.proofs.lemmas.List.Elements.{All-push}
use Rattle.std.specs.List.{AllPairs}
use Rattle.std.proofs.lemmas.List.Quantifiers.{all_pairs_push}
use Rattle.gb_base.specs.DayMinute.{DayMinute}
use Rattle.act_model.specs.declared.receipts.Receipt.{Receipt}
use Rattle.act_model.specs.WellFormed.{well_formed}
use Rattle.act_model.specs.Receiving.{IsJournal, is_before, is_sent_as, number_from, number_of, receipt_at, stamp_after, stamp_behind}
use Rattle.act_model.specs.inner.Index.{IsIndexOf, IsIndexed, pair_cmp}

cond_none : {A : Type 0} (b : Bool) (x : A) (o : Option A) → cond b (Some x) o ≡ None → (b ≡ false) × (o ≡ None)
cond_none true x o e = absurd (cc e)
cond_none false x o e = (refl, e)

-- where no number is found, no receipt is of this sender and reference
none_sent : (n sender reference : ℕ) (rs : List Receipt) → number_from n sender reference rs ≡ None → (k : ℕ) (d : Receipt) → k < length rs → is_sent_as sender reference (get_or rs k d) ≡ false
none_sent n s f [] e k d h = absurd (omega arith)
none_sent n s f (r ∷ rs) e zero d h = (cond_none _ _ _ e).0
none_sent n s f (r ∷ rs) e (suc k) d h = none_sent (n + 1) s f rs (cond_none _ _ _ e).1 k d (omega arith)

number_from-new : (n sender reference : ℕ) (rs : List Receipt) (r : Receipt) → number_from n sender reference rs ≡ None → is_sent_as sender reference r ≡ true → number_from n sender reference (rs ++ r ∷ []) ≡ Some (n + length rs)
number_from-new n s f [] r e h = rw h (ap (λ k. Some k) (omega arith))
number_from-new n s f (q ∷ rs) r e h =
    let c = cond_none (is_sent_as s f q) n (number_from (n + 1) s f rs) e in
    rw (c.0) (number_from-new (n + 1) s f rs r c.1 h ∙ ap (λ k. Some k) (omega arith))

number_from-other : (n sender reference : ℕ) (rs : List Receipt) (r : Receipt) → is_sent_as sender reference r ≡ false → number_from n sender reference (rs ++ r ∷ []) ≡ number_from n sender reference rs
number_from-other n s f [] r h = rw h
number_from-other n s f (q ∷ rs) r h = ap (λ o. cond (is_sent_as s f q) (Some n) o) (number_from-other (n + 1) s f rs r h)

pub is_at-pair : (a b c d : ℕ) → is_eq (ordering_then (nat_cmp a c) (nat_cmp b d)) ≡ (eqb a c && eqb b d)
is_at-pair a b c d = grind (arith, nat_tests)

-- the index after one more receipt, whose sender and reference it did not have
IsIndexOf-push : (old new : BTreeMap (ℕ × ℕ) ℕ) (journal : List Receipt) (r : Receipt) → number_of r.sender r.reference journal ≡ None → IsIndexOf old journal → Updates pair_cmp old new (r.sender, r.reference) (Some (length journal + 1)) → IsIndexOf new (journal ++ r ∷ [])
IsIndexOf-push old new journal r none index updates sender reference =
    let there = updates.0 (sender, reference) in
    let test = is_at-pair r.sender r.reference sender reference in
    ⊎_elim
    (λ yes.
    let parts = and_parts _ _ yes in
    let s : r.sender ≡ sender = eqb-true _ _ parts.0 in
    let f : r.reference ≡ reference = eqb-true _ _ parts.1 in
    let none' : number_of sender reference journal ≡ None = cc in
    let new' = number_from-new 1 sender reference journal r none' yes in
    there ∙ cond-true _ _ _ (test ∙ yes) ∙ ap (λ k. Some k) (add_comm (length journal) 1) ∙ sym new')
    (λ no. there ∙ cond-false _ _ _ (test ∙ no) ∙ index sender reference ∙ sym (number_from-other 1 sender reference journal r no))
    (cases_Bool (is_sent_as sender reference r))

before_itself : (a : DayMinute) → is_before a a ≡ false
before_itself a = grind (arith, nat_tests)

not_before_behind : (stamp q : DayMinute) (last : Receipt) → is_before last.stamp q ≡ false → is_before (stamp_behind (Some last) stamp) q ≡ false
not_before_behind stamp q last h =
    cond_both (is_before stamp last.stamp) last.stamp stamp (λ t. is_before t q ≡ false) (λ e. h) (λ e. grind (arith, nat_tests))

-- the stamp of a new receipt is not before any that stands
pub stamp_after-last : (journal : List Receipt) (stamp : DayMinute) → AllPairs (λ r s. is_before s.stamp r.stamp ≡ false) journal → (k : ℕ) (d : Receipt) → k < length journal → is_before (stamp_after journal stamp) (get_or journal k d).stamp ≡ false
stamp_after-last journal stamp stamps k d h =
    let last = get_or journal (length journal - 1) d in
    let is_last : receipt_at journal (length journal) ≡ Some last =
    cond-false (eqb (length journal) 0) None _ (ne_eqb _ _ (λ e. omega arith)) ∙ slice_get-get_or journal (length journal - 1) d (omega arith) in
    let after : is_before last.stamp (get_or journal k d).stamp ≡ false =
    ⊎_elim (λ e. rw e (before_itself last.stamp)) (λ ne. stamps k (length journal - 1) d (omega arith) (omega arith)) (cases_eq k (length journal - 1)) in
    rw is_last (not_before_behind stamp (get_or journal k d).stamp last after)

pub sent_both_ways : (a b c d : ℕ) → (eqb a c && eqb b d) ≡ (eqb c a && eqb d b)
sent_both_ways a b c d = grind (arith, nat_tests)

-- a journal after one more receipt, whose sender and reference it did not have, and which is not stamped before any that stands
pub IsJournal-push : (journal : List Receipt) (r : Receipt) → IsJournal journal → length journal < 200000 → IsTrue (well_formed r.item) → number_of r.sender r.reference journal ≡ None → ((k : ℕ) (d : Receipt) → k < length journal → is_before r.stamp (get_or journal k d).stamp ≡ false) → IsJournal (journal ++ r ∷ [])
IsJournal-push journal r j few well none later = record {
  few = grind (arith, common_steps);
  items = All-push (λ q. IsTrue (well_formed q.item)) journal r j.items well;
  once = all_pairs_push (λ p q. is_sent_as p.sender p.reference q ≡ false) journal r j.once (λ k d h. sent_both_ways r.sender r.reference (get_or journal k d).sender (get_or journal k d).reference ∙ none_sent 1 r.sender r.reference journal none k d h);
  stamps = all_pairs_push (λ p q. is_before q.stamp p.stamp ≡ false) journal r j.stamps later;
}

-- the journal and its index after one more receipt, where the index has all receipts but the new one
pub Journal-push : (journal after : List Receipt) (r : Receipt) (numbers : BTreeMap (ℕ × ℕ) ℕ) (indexed : ℕ) → after ≡ journal ++ r ∷ [] → IsJournal journal → IsIndexed numbers indexed journal → indexed ≡ length journal → length journal < 200000 → IsTrue (well_formed r.item) → number_of r.sender r.reference journal ≡ None → ((k : ℕ) (d : Receipt) → k < length journal → is_before r.stamp (get_or journal k d).stamp ≡ false) → IsJournal after × IsIndexed numbers indexed after
Journal-push journal after r numbers indexed same j index all few well none later =
    let first : take indexed (journal ++ r ∷ []) ≡ take indexed journal =
    rw all (take_at journal (r ∷ []) (length journal) refl ∙ sym (take_all (length journal) journal (omega arith))) in
    let waits : IsIndexed numbers indexed (journal ++ r ∷ []) = record {
      index = subst (λ rs. IsIndexOf numbers rs) (sym first) index.index;
      not_beyond = grind (arith, common_steps);
      nearly_all = grind (arith, common_steps);
    } in
    subst (λ rs. IsJournal rs × IsIndexed numbers indexed rs) (sym same) (IsJournal-push journal r j few well none later, waits)

-- where no receipt is of this sender and reference, no number is found
pub none_from : (n sender reference : ℕ) (rs : List Receipt) → ((k : ℕ) (d : Receipt) → k < length rs → is_sent_as sender reference (get_or rs k d) ≡ false) → number_from n sender reference rs ≡ None
none_from n s f [] others = refl
none_from n s f (r ∷ rs) others =
    cond-false (is_sent_as s f r) (Some n) _ (others 0 r (omega arith))
    ∙ none_from (n + 1) s f rs (λ k d h. others (suc k) d (omega arith))

-- the index once the receipt that waited, the last one, has come into it
pub IsIndexOf-waiting : (old new : BTreeMap (ℕ × ℕ) ℕ) (journal : List Receipt) (r : Receipt) (indexed n : ℕ) → IsJournal journal → IsIndexed old indexed journal → indexed < length journal → ((d : Receipt) → r ≡ get_or journal indexed d) → n ≡ indexed + 1 → Updates pair_cmp old new (r.sender, r.reference) (Some n) → IsIndexOf new journal
IsIndexOf-waiting old new journal r indexed n j index lt place number updates =
    let first = take indexed journal in
    let first_length : length first ≡ indexed = length-take-le indexed journal index.not_beyond in
    let whole : first ++ r ∷ [] ≡ journal =
    ap (λ q. first ++ q ∷ []) (place r) ∙ sym (take_more journal indexed r lt) ∙ take_all (indexed + 1) journal index.nearly_all in
    let none : number_of r.sender r.reference first ≡ None =
    none_from 1 r.sender r.reference first (λ k d h.
    let before : k < indexed = omega arith in
    rw (get_or-take indexed journal k d before)
    (sent_both_ways (get_or journal k d).sender (get_or journal k d).reference r.sender r.reference
    ∙ subst (λ q. is_sent_as (get_or journal k d).sender (get_or journal k d).reference q ≡ false) (sym (place d)) (j.once k indexed d before lt))) in
    let last : n ≡ length first + 1 = omega arith in
    subst (λ rs. IsIndexOf new rs) whole
    (IsIndexOf-push old new first r none index.index
    (subst (λ m. Updates pair_cmp old new (r.sender, r.reference) (Some m)) last updates))

cond_some : {A : Type 0} (b : Bool) (x y : A) (o p : Option A) → (o ≡ Some y → p ≡ Some y) → cond b (Some x) o ≡ Some y → cond b (Some x) p ≡ Some y
cond_some true x y o p h e = e
cond_some false x y o p h e = h e

found_from : (n sender reference : ℕ) (rs : List Receipt) (i m : ℕ) → number_from n sender reference (take i rs) ≡ Some m → number_from n sender reference rs ≡ Some m
found_from n s f rs zero m e = absurd (cc e)
found_from n s f [] (suc i) m e = e
found_from n s f (r ∷ rs) (suc i) m e =
    cond_some (is_sent_as s f r) n m (number_from (n + 1) s f (take i rs)) (number_from (n + 1) s f rs) (found_from (n + 1) s f rs i m) e

-- a number found among the first receipts is found among all
pub found_among_first : (sender reference : ℕ) (journal : List Receipt) (i m : ℕ) → number_of sender reference (take i journal) ≡ Some m → number_of sender reference journal ≡ Some m
found_among_first s f journal i m e = found_from 1 s f journal i m e

last_from : (n sender reference : ℕ) (rs : List Receipt) (k i : ℕ) → length rs ≡ k + 1 → k ≤ i → number_from n sender reference (take i rs) ≡ None → number_from n sender reference rs ≡ number_from (n + k) sender reference (drop k rs)
last_from n s f rs zero i e le none = ap (λ m. number_from m s f rs) (omega arith)
last_from n s f [] (suc k) i e le none = absurd (omega arith)
last_from n s f (r ∷ rs) (suc k) zero e le none = absurd (omega arith)
last_from n s f (r ∷ rs) (suc k) (suc i) e le none =
    let c = cond_none (is_sent_as s f r) n (number_from (n + 1) s f (take i rs)) none in
    cond-false (is_sent_as s f r) (Some n) (number_from (n + 1) s f rs) c.0
    ∙ last_from (n + 1) s f rs k i (omega arith) (omega arith) c.1
    ∙ ap (λ m. number_from m s f (drop k rs)) (omega arith)

-- where the first i are all receipts but one at most, a number that is not found among them can only be the last one's
pub found_waiting : (sender reference : ℕ) (journal : List Receipt) (i : ℕ) → length journal ≤ i + 1 → number_of sender reference (take i journal) ≡ None → number_from (length journal) sender reference (drop (length journal - 1) journal) ≡ number_of sender reference journal
found_waiting s f [] i le none = refl
found_waiting s f (r ∷ rs) i le none =
    let last : length (r ∷ rs) - 1 ≡ length rs = omega arith in
    let count : length (r ∷ rs) ≡ 1 + length rs = omega arith in
    rw last (ap (λ m. number_from m s f (drop (length rs) (r ∷ rs))) count
    ∙ sym (last_from 1 s f (r ∷ rs) (length rs) i (omega arith) (omega arith) none))
