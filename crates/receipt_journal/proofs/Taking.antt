-- The record of one receipt more, and what is no record.
use Rattle.std.proofs.Common.{◌≡◌, ◌⊎◌, inl, inr, ⊎_elim, ℕ, ◌-◌, ◌<◌, Bool, true, false, not, ◌&&◌, cond, leb, eqb, List, [], ◌∷◌, ◌++◌, length, get_or, Option, Some, None, refl, sym, ◌∙◌, ap, ap₂, subst, arith, length-append}
use Rattle.std.proofs.lemmas.Bool.{cases_Bool, cond-false, ne_eqb}
use Rattle.std.proofs.lemmas.Bool.Decides.{nat_tests}
use Rattle.std.proofs.lemmas.List.{get_or_append_left, get_or_at, map-append}
use Rattle.std.proofs.lemmas.List.Elements.{All-push}
use Rattle.std.proofs.lemmas.Option.{slice_get-get_or}
use Rattle.gb_base.specs.DayMinute.{DayMinute}
use Rattle.act_model.specs.declared.receipts.Receipt.{Receipt}
use Rattle.act_model.specs.declared.items.Item.{Item}
use Rattle.act_model.specs.declared.added.Added.{Added}
use Rattle.act_model.specs.declared.added.Added.TheVariants.{Accepted, Repeated, Differs, Full, Memory}
use Rattle.act_model.specs.Same.{same_item}
use Rattle.act_model.specs.Receiving.{IsJournal, is_sent_as, is_before, number_of, receipt_at, stamp_after, answer_again, answer_by, answer_to, is_accepted}
use Rattle.act_model.proofs.JournalLemmas.{IsJournal-push, stamp_after-last, sent_both_ways, none_from}
use Rattle.act_codec.specs.Spelling.{spelling}
use Rattle.act_codec.specs.Values.{IsReceipt}
use Rattle.act_codec.proofs.Again.{spelling_once}
use Rattle.receipt_journal.specs.Standing.{records, IsKeepable, IsNoRecord}
use Rattle.receipt_journal.specs.inner.Taking.{Takes}

module _ (journal : List Receipt) (r : Receipt) where
  -- what holds of each receipt and each later one holds of each before this receipt and of this one
  ahead_of : (R : Receipt → Receipt → Type 0) → ((i j : ℕ) (d : Receipt) → i < j → j < length (journal ++ r ∷ []) → R (get_or (journal ++ r ∷ []) i d) (get_or (journal ++ r ∷ []) j d))
      → (k : ℕ) (d : Receipt) → k < length journal → R (get_or journal k d) r
  ahead_of R all k d in' =
      let here = get_or_append_left journal (r ∷ []) d k in' in
      let last = get_or_at journal r [] d (length journal) refl in
      subst (λ x. R x r) here (subst (λ y. R (get_or (journal ++ r ∷ []) k d) y) last (all k (length journal) d in' (omega (arith, length-append journal (r ∷ [])))))

  -- the stamp of the receipt is no earlier than the last one
  pub stamp_in_order : IsJournal (journal ++ r ∷ []) → stamp_after journal r.stamp ≡ r.stamp
  stamp_in_order is = at journal (ahead_of (λ p q. is_before q.stamp p.stamp ≡ false) is.stamps)
    where
      at : (rs : List Receipt) → ((k : ℕ) (d : Receipt) → k < length rs → is_before r.stamp (get_or rs k d).stamp ≡ false) → stamp_after rs r.stamp ≡ r.stamp
      at [] none = refl
      at (x ∷ xs) none =
          let last = get_or (x ∷ xs) (length (x ∷ xs) - 1) x in
          let is_last : receipt_at (x ∷ xs) (length (x ∷ xs)) ≡ Some last =
          cond-false (eqb (length (x ∷ xs)) 0) None _ (ne_eqb _ _ (λ e. omega arith)) ∙ slice_get-get_or (x ∷ xs) (length (x ∷ xs) - 1) x (omega arith) in
          rw is_last (cond-false (is_before r.stamp last.stamp) last.stamp r.stamp (none (length (x ∷ xs) - 1) x (omega arith)))

  -- the journal before it accepts the receipt
  pub accepts : IsJournal (journal ++ r ∷ []) → is_accepted (answer_to journal r.sender r.reference r.item) ≡ true
  accepts is =
      let none : number_of r.sender r.reference journal ≡ None =
      none_from 1 r.sender r.reference journal (λ k d in'. sent_both_ways (get_or journal k d).sender (get_or journal k d).reference r.sender r.reference ∙ ahead_of (λ p q. is_sent_as p.sender p.reference q ≡ false) is.once k d in') in
      let few : length journal < 200000 = omega (arith, is.few, length-append journal (r ∷ [])) in
      let small : leb 200000 (length journal) ≡ false = grind (arith, nat_tests) in
      rw (none, small) refl

neither : (b : Bool) (n : ℕ) → is_accepted (cond b (Repeated n) (Differs n)) ≡ false
neither true n = refl
neither false n = refl

pub again_not_accepted : (item : Item) (n : ℕ) (o : Option Receipt) → is_accepted (answer_again item n o) ≡ false
again_not_accepted item n None = refl
again_not_accepted item n (Some r) = neither (same_item r.item item) n

-- an item that a journal accepts is new to it, and the journal has room for it
pub accepted_new : (journal : List Receipt) (item : Item) (o : Option ℕ) → is_accepted (answer_by journal item o) ≡ true → (o ≡ None) × (length journal < 200000)
accepted_new journal item (Some n) accepted = let no = again_not_accepted item n (receipt_at journal n) in absurd cc
accepted_new journal item None accepted =
    ⊎_elim
    (λ full. let no_answer : is_accepted (answer_by journal item None) ≡ false = rw full refl in absurd cc)
    (λ room. (refl, grind (arith, nat_tests)))
    (cases_Bool (leb 200000 (length journal)))

-- a frame is no record where the receipt that its body spells may not come after the journal
pub no_record : (journal : List Receipt) (body : List ℕ) (r : Receipt) → IsReceipt r → body ≡ spelling r → (IsJournal (journal ++ r ∷ []) → ⊥) → IsNoRecord journal body
no_record journal body r is_r spelled refused = λ q is_q same next.
    let one : q ≡ r = spelling_once q r is_q is_r (sym same ∙ spelled) in
    refused (subst (λ p. IsJournal (journal ++ p ∷ [])) one next)

-- a receipt that is accepted with its own stamp makes the frame a record
pub record_taken : (old new : List Receipt) (body : List ℕ) (r : Receipt) → IsKeepable old → IsReceipt r → body ≡ spelling r → stamp_after old r.stamp ≡ r.stamp
    → is_accepted (answer_to old r.sender r.reference r.item) ≡ true
    → new ≡ old ++ record { stamp = stamp_after old r.stamp; sender = r.sender; reference = r.reference; item = r.item } ∷ [] → Takes old body new
record_taken old new body r is is_r spelled stamped accepted added =
    let is_new = accepted_new old r.item (number_of r.sender r.reference old) accepted in
    let later : (k : ℕ) (d : Receipt) → k < length old → is_before r.stamp (get_or old k d).stamp ≡ false =
    λ k d in'. subst (λ t. is_before t (get_or old k d).stamp ≡ false) stamped (stamp_after-last old r.stamp is.journal.stamps k d in') in
    let whole : new ≡ old ++ r ∷ [] = added ∙ ap (λ t. old ++ record { stamp = t; sender = r.sender; reference = r.reference; item = r.item } ∷ []) stamped in
    record {
      keepable = subst IsKeepable (sym whole) (record { journal = IsJournal-push old r is.journal is_new.1 is_r.1 is_new.0 later; spelled = All-push IsReceipt old r is.spelled is_r });
      frames = ap records whole ∙ map-append spelling old (r ∷ []) ∙ ap (λ (b : List ℕ). records old ++ b ∷ []) (sym spelled);
    }

-- two stamps are the same where the test on them says so
pub same_stamp : (a b : DayMinute) (other : Bool) → other ≡ not (eqb a.day b.day && eqb a.minute b.minute) → other ≡ false → a ≡ b
same_stamp a b other test same =
    let days : a.day ≡ b.day = grind (arith, nat_tests) in
    let minutes : a.minute ≡ b.minute = grind (arith, nat_tests) in
    ap₂ (λ (d m : ℕ). record { day = d; minute = m }) days minutes

pub other_stamp : (a b : DayMinute) (other : Bool) → other ≡ not (eqb a.day b.day && eqb a.minute b.minute) → other ≡ true → a ≡ b → ⊥
other_stamp a b other test differs same =
    let days : a.day ≡ b.day = ap (λ t. t.day) same in
    let minutes : a.minute ≡ b.minute = ap (λ t. t.minute) same in
    grind (arith, nat_tests)

-- an answer that adds nothing, where memory did not run out, says that the journal cannot go on by this receipt
pub not_added : (journal : List Receipt) (r : Receipt) (answer : Added)
    → (answer ≡ answer_to journal r.sender r.reference r.item) ⊎ ((answer ≡ Memory) × (is_accepted (answer_to journal r.sender r.reference r.item) ≡ true))
    → ((n : ℕ) × (answer ≡ Repeated n)) ⊎ ((n : ℕ) × (answer ≡ Differs n)) ⊎ (answer ≡ Full) → IsJournal (journal ++ r ∷ []) → ⊥
not_added journal r answer said which is = ⊎_elim (λ by. not_accepted by which) (λ by. no_memory by.0 which) said
  where
    not_accepted : answer ≡ answer_to journal r.sender r.reference r.item → ((n : ℕ) × (answer ≡ Repeated n)) ⊎ ((n : ℕ) × (answer ≡ Differs n)) ⊎ (answer ≡ Full) → ⊥
    not_accepted by (inl again) = let yes : is_accepted answer ≡ true = ap is_accepted by ∙ accepts journal r is in let e = again.1 in let no_answer : is_accepted answer ≡ false = rw e refl in absurd cc
    not_accepted by (inr (inl other)) = let yes : is_accepted answer ≡ true = ap is_accepted by ∙ accepts journal r is in let e = other.1 in let no_answer : is_accepted answer ≡ false = rw e refl in absurd cc
    not_accepted by (inr (inr full)) = let yes : is_accepted answer ≡ true = ap is_accepted by ∙ accepts journal r is in let no_answer : is_accepted answer ≡ false = rw full refl in absurd cc

    no_memory : answer ≡ Memory → ((n : ℕ) × (answer ≡ Repeated n)) ⊎ ((n : ℕ) × (answer ≡ Differs n)) ⊎ (answer ≡ Full) → ⊥
    no_memory by (inl again) = let e = again.1 in absurd cc
    no_memory by (inr (inl other)) = let e = other.1 in absurd cc
    no_memory by (inr (inr full)) = absurd cc

-- an answer that accepts an item is the one expected
pub accepted : (expected : Added) (n : ℕ) → (Accepted n ≡ expected) ⊎ ((Accepted n ≡ Memory) × (is_accepted expected ≡ true)) → is_accepted expected ≡ true
accepted expected n (inl same) = sym (ap is_accepted same)
accepted expected n (inr memory) = memory.1
