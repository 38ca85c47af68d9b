-- Journals and their fronts, and the frames that keep them.
use Rattle.std.proofs.Common.{◌≡◌, ℕ, List, [], ◌∷◌, ◌++◌, get_or, All, IsTrue, false, refl, sym, ◌∙◌, ap, subst, arith, append_assoc, length-append}
use Rattle.std.specs.List.{AllPairs}
use Rattle.std.proofs.lemmas.List.{get_or_append_left}
use Rattle.std.proofs.lemmas.List.Elements.{All-head, All-tail, All-nil}
use Rattle.act_model.specs.declared.receipts.Receipt.{Receipt}
use Rattle.act_model.specs.WellFormed.{well_formed}
use Rattle.act_model.specs.Receiving.{IsJournal, is_sent_as, is_before}
use Rattle.act_codec.specs.Spelling.{spelling}
use Rattle.act_codec.specs.Values.{IsReceipt}
use Rattle.act_codec.proofs.Again.{spelling_once}
use Rattle.receipt_journal.specs.Standing.{records, IsKeepable, IsNoRecord}

all_front : {X : Type 0} (P : X → Type 0) (xs ys : List X) → All P (xs ++ ys) → All P xs
all_front P xs ys all k d in' = subst P (get_or_append_left xs ys d k in') (all k d (omega (arith, length-append xs ys)))

pairs_front : {X : Type 0} (R : X → X → Type 0) (xs ys : List X) → AllPairs R (xs ++ ys) → AllPairs R xs
pairs_front R xs ys all i j d below in' =
    let first = get_or_append_left xs ys d i (omega arith) in
    let second = get_or_append_left xs ys d j in' in
    subst (λ x. R x (get_or xs j d)) first (subst (λ y. R (get_or (xs ++ ys) i d) y) second (all i j d below (omega (arith, length-append xs ys))))

-- a front of a journal is one
journal_front : (front more : List Receipt) → IsJournal (front ++ more) → IsJournal front
journal_front front more is = record {
  few = omega (arith, is.few, length-append front more);
  items = all_front (λ r. IsTrue (well_formed r.item)) front more is.items;
  once = pairs_front (λ r s. is_sent_as r.sender r.reference s ≡ false) front more is.once;
  stamps = pairs_front (λ r s. is_before s.stamp r.stamp ≡ false) front more is.stamps;
}

pub none_keepable : IsKeepable []
none_keepable = record {
  journal = record { few = omega arith; items = All-nil (λ r. IsTrue (well_formed r.item)); once = λ i j d below in'. absurd (omega arith); stamps = λ i j d below in'. absurd (omega arith) };
  spelled = All-nil IsReceipt;
}

-- the longer journal goes on after the shorter one by a receipt whose spelling stands first in this tail
record GoesOn (long short : List Receipt) (tail : List (List ℕ)) : Type 0 where
  pub next : Receipt
  pub more : List Receipt
  pub behind : List (List ℕ)
  pub is_receipt : IsReceipt next
  pub whole : long ≡ short ++ next ∷ more
  pub spelled : tail ≡ spelling next ∷ behind

-- two journals whose records, each with its tail, are the same frames are equal, or one goes on after the other
data Compared (a b : List Receipt) (s t : List (List ℕ)) : Type 0 where
  Same : a ≡ b → Compared a b s t
  Longer : GoesOn a b t → Compared a b s t
  Shorter : GoesOn b a s → Compared a b s t

more : (r : Receipt) (long short : List Receipt) (tail : List (List ℕ)) → GoesOn long short tail → GoesOn (r ∷ long) (r ∷ short) tail
more r long short tail on = record {
  next = on.next;
  more = on.more;
  behind = on.behind;
  is_receipt = on.is_receipt;
  whole = ap (λ (rs : List Receipt). r ∷ rs) on.whole;
  spelled = on.spelled;
}

compared_more : (r : Receipt) (a b : List Receipt) (s t : List (List ℕ)) → Compared a b s t → Compared (r ∷ a) (r ∷ b) s t
compared_more r a b s t (Same same) = Same (ap (λ (rs : List Receipt). r ∷ rs) same)
compared_more r a b s t (Longer on) = Longer (more r a b t on)
compared_more r a b s t (Shorter on) = Shorter (more r b a s on)

compare : (a b : List Receipt) (s t : List (List ℕ)) → All IsReceipt a → All IsReceipt b → records a ++ s ≡ records b ++ t → Compared a b s t
compare [] [] s t all_a all_b same = Same refl
compare [] (y ∷ b) s t all_a all_b same = Shorter (record { next = y; more = b; behind = records b ++ t; is_receipt = All-head IsReceipt y b all_b; whole = refl; spelled = same })
compare (x ∷ a) [] s t all_a all_b same = Longer (record { next = x; more = a; behind = records a ++ s; is_receipt = All-head IsReceipt x a all_a; whole = refl; spelled = sym same })
compare (x ∷ a) (y ∷ b) s t all_a all_b same =
    let first : spelling x ≡ spelling y = cc in
    let behind : records a ++ s ≡ records b ++ t = cc in
    let one : x ≡ y = spelling_once x y (All-head IsReceipt x a all_a) (All-head IsReceipt y b all_b) first in
    subst (λ z. Compared (x ∷ a) (z ∷ b) s t) one (compared_more x a b s t (compare a b s t (All-tail IsReceipt x a all_a) (All-tail IsReceipt y b all_b) behind))

-- After this journal none of its records comes: the tail is empty, or its first body is no record.
abbrev pub IsEnd : List Receipt → List (List ℕ) → Type 0
IsEnd journal tail = (r : Receipt) (behind : List (List ℕ)) → IsReceipt r → tail ≡ spelling r ∷ behind → IsJournal (journal ++ r ∷ []) → ⊥

pub end_nil : (journal : List Receipt) → IsEnd journal []
end_nil journal = λ r behind is spelled next. cc

pub end_none : (journal : List Receipt) (body : List ℕ) (rest : List (List ℕ)) → IsNoRecord journal body → IsEnd journal (body ∷ rest)
end_none journal body rest none = λ r behind is spelled next. let same : body ≡ spelling r = cc in none r is same next

-- no journal goes on after an end
not_behind : (long short : List Receipt) (tail : List (List ℕ)) → IsJournal long → IsEnd short tail → GoesOn long short tail → ⊥
not_behind long short tail is end on =
    end on.next on.behind on.is_receipt on.spelled
    (journal_front (short ++ on.next ∷ []) on.more (subst IsJournal (on.whole ∙ sym (append_assoc short (on.next ∷ []) on.more)) is))

-- frames that end one journal end no other
pub ended_once : (a b : List Receipt) (s t : List (List ℕ)) → IsKeepable a → IsKeepable b → IsEnd a s → IsEnd b t → records a ++ s ≡ records b ++ t → a ≡ b
ended_once a b s t is_a is_b end_a end_b same = one (compare a b s t is_a.spelled is_b.spelled same)
  where
    one : Compared a b s t → a ≡ b
    one (Same equal) = equal
    one (Longer on) = absurd (not_behind a b t is_a.journal end_b on)
    one (Shorter on) = absurd (not_behind b a s is_b.journal end_a on)
