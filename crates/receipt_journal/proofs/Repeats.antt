-- What came in before changes nothing when it comes again, whatever the stamps.
use Rattle.std.proofs.Common.{◌≡◌, ◌⊎◌, inl, inr, ⊎_elim, ℕ, ◌+◌, Bool, true, false, not, ◌&&◌, ◌||◌, ◌==◌, cond, leb, ltb, List, [], ◌∷◌, ◌++◌, length, map, take, drop, sum_by, Option, Some, None, is_none, refl, sym, ◌∙◌, ap, ap₂, arith, length-append, take-append-drop}
use Rattle.std.specs.List.{list_any}
use Rattle.std.proofs.lemmas.Bool.{cond-false, cond_both, or_left, or_right, eq-eqb, and_from, leb-true, le-leb, ltb-true, lt-ltb}
use Rattle.std.proofs.lemmas.List.{length-map, map-append}
use Rattle.std.proofs.lemmas.List.Folds.{list_any-append}
use Rattle.std.proofs.lemmas.List.Sums.{sum_by-cons, sum_by_push}
use Rattle.gb_base.specs.DayMinute.{DayMinute}
use Rattle.act_model.specs.declared.items.Item.{Item}
use Rattle.act_model.specs.declared.receipts.Receipt.{Receipt}
use Rattle.act_model.specs.declared.added.Added.{Added}
use Rattle.act_model.specs.declared.added.Added.TheVariants as added
use Rattle.act_model.specs.Receiving.{is_sent_as, number_from, number_of, receipt_at, answer_by, answer_to}
use Rattle.act_model.specs.Receiving as journals
use Rattle.act_codec.specs.Spelling.{u32_bytes, u16_bytes, u64_bytes, item_bytes, stamp_bytes, spelling}
use Rattle.journal_disk.specs.Layout.{the_heading, first_gate, frame_head, file_limit}
use Rattle.receipt_journal.specs.Receiving.{file_size, next_receipt, on_disk, is_received, answer_on}
use Rattle.receipt_journal.specs.Repeating.{SentItem, unstamped, after_one, after_all}
use Rattle.receipt_journal.specs.declared.received.Received.TheVariants as received
use Rattle.receipt_journal.proofs.ShortSpellings.{u16_len, u32_len}
use Rattle.receipt_journal.proofs.Taking.{again_not_accepted}

abbrev no_stamp : DayMinute
no_stamp = record { day = 0; minute = 0 }

-- the bytes of a record of the file, which are as many whatever its stamp
unfoldable size_of : SentItem → ℕ
size_of s = frame_head + length (spelling (record { stamp = no_stamp; sender = s.sender; reference = s.reference; item = s.item }))

-- whether an item is of this one's sender and reference
abbrev has_name : SentItem → SentItem → Bool
has_name s t = t.sender == s.sender && t.reference == s.reference

-- the three causes for which an item is not received: its number is known, the journal is full, the file would be
abbrev is_known : List SentItem → SentItem → Bool
is_known list s = list_any (has_name s) list

abbrev are_many : List SentItem → Bool
are_many list = leb 200000 (length list)

abbrev is_beyond : List SentItem → SentItem → Bool
is_beyond list s = ltb file_limit (first_gate the_heading + (sum_by size_of list + size_of s) + 1)

abbrev passes : Bool → Bool → Bool → Bool
passes known many beyond = (not known && not many) && not beyond

-- whether a journal of these items receives this one
unfoldable is_taken : List SentItem → SentItem → Bool
is_taken list s = passes (is_known list s) (are_many list) (is_beyond list s)

-- the items of a journal once this one came in, and once these did
abbrev with_one : List SentItem → SentItem → List SentItem
with_one list s = cond (is_taken list s) (list ++ s ∷ []) list

abbrev with_all : List SentItem → List SentItem → List SentItem
with_all list [] = list
with_all list (s ∷ ss) = with_all (with_one list s) ss

-- a stamp has six bytes
stamp_len : (t : DayMinute) → length (stamp_bytes t) ≡ 6
stamp_len t = omega (arith, length-append (u32_bytes t.day) (u16_bytes t.minute), u32_len t.day, u16_len t.minute)

size_is : (r : Receipt) → frame_head + length (spelling r) ≡ size_of (unstamped r)
unfolding size_of
size_is r =
    let rest = u32_bytes r.sender ++ (u64_bytes r.reference ++ item_bytes r.item) in
    omega (arith, length-append (stamp_bytes r.stamp) rest, length-append (stamp_bytes no_stamp) rest, stamp_len r.stamp, stamp_len no_stamp)

sizes_are : (journal : List Receipt) → sum_by (λ r. frame_head + length (spelling r)) journal ≡ sum_by size_of (map unstamped journal)
sizes_are [] = refl
sizes_are (r ∷ rs) =
    omega (arith, sum_by-cons (λ (q : Receipt). frame_head + length (spelling q)) r rs, sum_by-cons size_of (unstamped r) (map unstamped rs), size_is r, sizes_are rs)

-- a number is found where an item has its sender and reference
none_if : (here later : Bool) (n : ℕ) (o : Option ℕ) → is_none o ≡ not later → is_none (cond here (Some n) o) ≡ not (here || later)
none_if true later n o h = refl
none_if false later n o h = h

none_is : (n sender reference : ℕ) (item : Item) (journal : List Receipt) → is_none (number_from n sender reference journal) ≡ not (is_known (map unstamped journal) (record { sender = sender; reference = reference; item = item }))
none_is n sender reference item [] = refl
none_is n sender reference item (r ∷ rs) =
    none_if (is_sent_as sender reference r) (is_known (map unstamped rs) (record { sender = sender; reference = reference; item = item })) n (number_from (n + 1) sender reference rs) (none_is (n + 1) sender reference item rs)

few_accepted : (many : Bool) (n : ℕ) → journals.is_accepted (cond many added.Full (added.Accepted n)) ≡ not many
few_accepted true n = refl
few_accepted false n = refl

accepted_is : (journal : List Receipt) (item : Item) (o : Option ℕ) → journals.is_accepted (answer_by journal item o) ≡ (is_none o && not (leb 200000 (length journal)))
accepted_is journal item (Some n) = again_not_accepted item n (receipt_at journal n)
accepted_is journal item None = few_accepted (leb 200000 (length journal)) (length journal + 1)

room_received : (beyond : Bool) (n : ℕ) → is_received (cond beyond received.Full (received.Accepted n)) ≡ not beyond
room_received true n = refl
room_received false n = refl

received_is : (size : ℕ) (answer : Added) → is_received (on_disk size answer) ≡ (journals.is_accepted answer && not (ltb file_limit size))
received_is size (added.Accepted n) = room_received (ltb file_limit size) n
received_is size (added.Repeated n) = refl
received_is size (added.Differs n) = refl
received_is size added.Full = refl
received_is size added.Memory = refl

-- whether an item is received follows from the journal without its stamps
taken_is : (journal : List Receipt) (r : Receipt) → is_received (answer_on journal r.stamp r.sender r.reference r.item) ≡ is_taken (map unstamped journal) (unstamped r)
unfolding answer_on is_taken
taken_is journal r =
    let next = next_receipt journal r.stamp r.sender r.reference r.item in
    let size = file_size the_heading (journal ++ next ∷ []) in
    let many : leb 200000 (length journal) ≡ are_many (map unstamped journal) = ap (leb 200000) (sym (length-map journal unstamped)) in
    let known = none_is 1 r.sender r.reference r.item journal in
    let sized : size ≡ first_gate the_heading + (sum_by size_of (map unstamped journal) + size_of (unstamped r)) + 1 =
    omega (arith, sum_by_push (λ (q : Receipt). frame_head + length (spelling q)) journal next, sizes_are journal, size_is next) in
    let accepted : journals.is_accepted (answer_to journal r.sender r.reference r.item) ≡ (not (is_known (map unstamped journal) (unstamped r)) && not (are_many (map unstamped journal))) =
    accepted_is journal r.item (number_of r.sender r.reference journal) ∙ ap₂ (λ (a b : Bool). a && not b) known many in
    received_is size (answer_to journal r.sender r.reference r.item)
    ∙ ap₂ (λ (a b : Bool). a && not b) accepted (ap (ltb file_limit) sized)

added_is : (b : Bool) (journal : List Receipt) (r : Receipt) → map unstamped (cond b (journal ++ r ∷ []) journal) ≡ cond b (map unstamped journal ++ unstamped r ∷ []) (map unstamped journal)
added_is true journal r = map-append unstamped journal (r ∷ [])
added_is false journal r = refl

one_is : (journal : List Receipt) (r : Receipt) → map unstamped (after_one journal r) ≡ with_one (map unstamped journal) (unstamped r)
one_is journal r =
    added_is (is_received (answer_on journal r.stamp r.sender r.reference r.item)) journal (next_receipt journal r.stamp r.sender r.reference r.item)
    ∙ ap (λ b. cond b (map unstamped journal ++ unstamped r ∷ []) (map unstamped journal)) (taken_is journal r)

all_are : (journal rs : List Receipt) → map unstamped (after_all journal rs) ≡ with_all (map unstamped journal) (map unstamped rs)
all_are journal [] = refl
all_are journal (r ∷ rs) = all_are (after_one journal r) rs ∙ ap (λ (l : List SentItem). with_all l (map unstamped rs)) (one_is journal r)

refused_by : (known many beyond : Bool) → passes known many beyond ≡ false → (known ≡ true) ⊎ ((many ≡ true) ⊎ (beyond ≡ true))
refused_by true many beyond out = inl refl
refused_by false true beyond out = inr (inl refl)
refused_by false false true out = inr (inr refl)
refused_by false false false out = absurd (cc out)

refused_if : (known many beyond : Bool) → (known ≡ true) ⊎ ((many ≡ true) ⊎ (beyond ≡ true)) → passes known many beyond ≡ false
refused_if true many beyond why = refl
refused_if false true beyond why = refl
refused_if false false true why = refl
refused_if false false false (inl why) = absurd (cc why)
refused_if false false false (inr (inl why)) = absurd (cc why)
refused_if false false false (inr (inr why)) = absurd (cc why)

module _ (list : List SentItem) (s : SentItem) where
  -- what is refused is refused once another was received
  refused_more : (t : SentItem) → is_taken list s ≡ false → is_taken (list ++ t ∷ []) s ≡ false
  unfolding is_taken
  refused_more t out =
      refused_if _ _ _ (⊎_elim
      (λ known. inl (list_any-append (has_name s) list (t ∷ []) ∙ or_left (is_known list s) _ known))
      (λ other. inr (⊎_elim
      (λ many. inl (le-leb 200000 (length (list ++ t ∷ [])) (omega (arith, leb-true 200000 (length list) many, length-append list (t ∷ [])))))
      (λ beyond. inr (lt-ltb file_limit _ (omega (arith, ltb-true file_limit _ beyond, sum_by_push size_of list t))))
      other))
      (refused_by _ _ _ out))

  -- what was received is refused
  refused_after : is_taken (list ++ s ∷ []) s ≡ false
  unfolding is_taken
  refused_after =
      let named : has_name s s ≡ true = and_from _ _ (eq-eqb s.sender s.sender refl) (eq-eqb s.reference s.reference refl) in
      refused_if _ _ _ (inl (list_any-append (has_name s) list (s ∷ []) ∙ or_right (is_known list s) _ (or_left (has_name s s) false named)))

  -- what came in is refused, whatever was answered
  refused_now : is_taken (with_one list s) s ≡ false
  refused_now = cond_both (is_taken list s) (list ++ s ∷ []) list (λ (l : List SentItem). is_taken l s ≡ false) (λ _. refused_after) (λ out. out)

  refused_then : (t : SentItem) → is_taken list s ≡ false → is_taken (with_one list t) s ≡ false
  refused_then t out = cond_both (is_taken list t) (list ++ t ∷ []) list (λ (l : List SentItem). is_taken l s ≡ false) (λ _. refused_more t out) (λ _. out)

refused_still : (list more : List SentItem) (s : SentItem) → is_taken list s ≡ false → is_taken (with_all list more) s ≡ false
refused_still list [] s out = out
refused_still list (t ∷ more) s out = refused_still (with_one list t) more s (refused_then list s t out)

-- each of these items is refused
abbrev AreRefused : List SentItem → List SentItem → Type 0
AreRefused list [] = Unit {0}
AreRefused list (s ∷ ss) = (is_taken list s ≡ false) × AreRefused list ss

all_refused : (list ss : List SentItem) → AreRefused (with_all list ss) ss
all_refused list [] = tt
all_refused list (s ∷ ss) = (refused_still (with_one list s) ss s (refused_now list s), all_refused (with_one list s) ss)

refused_same : (list ss : List SentItem) → AreRefused list ss → with_all list ss ≡ list
refused_same list [] out = refl
refused_same list (s ∷ ss) out =
    ap (λ (l : List SentItem). with_all l ss) (cond-false (is_taken list s) (list ++ s ∷ []) list out.0) ∙ refused_same list ss out.1

with_all-append : (list ss ts : List SentItem) → with_all list (ss ++ ts) ≡ with_all (with_all list ss) ts
with_all-append list [] ts = refl
with_all-append list (s ∷ ss) ts = with_all-append (with_one list s) ss ts

-- the first of some items, and then all of them, leave what all of them leave
twice : (list ss : List SentItem) (k : ℕ) → with_all (with_all list (take k ss)) ss ≡ with_all list ss
twice list ss k =
    let front = take k ss in
    let rest = drop k ss in
    let whole : ss ≡ front ++ rest = sym (take-append-drop k ss) in
    ap (λ (l : List SentItem). with_all (with_all list front) l) whole
    ∙ with_all-append (with_all list front) front rest
    ∙ ap (λ (l : List SentItem). with_all l rest) (refused_same (with_all list front) front (all_refused list front))
    ∙ sym (with_all-append list front rest)
    ∙ sym (ap (with_all list) whole)

pub received_again : (journal front whole once : List Receipt) (k : ℕ) → map unstamped front ≡ take k (map unstamped once) → map unstamped whole ≡ map unstamped once
    → map unstamped (after_all (after_all journal front) whole) ≡ map unstamped (after_all journal once)
received_again journal front whole once k first same =
    all_are (after_all journal front) whole
    ∙ ap₂ (λ (l m : List SentItem). with_all l m) (all_are journal front ∙ ap (with_all (map unstamped journal)) first) same
    ∙ twice (map unstamped journal) (map unstamped once) k
    ∙ sym (all_are journal once)
