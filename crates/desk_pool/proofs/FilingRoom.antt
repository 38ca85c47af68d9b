-- What a filing, a cure, a lapse and an extension take of the room at one of their keys.
use Rattle.std.proofs.Common.{◌≡◌, ℕ, ◌+◌, true, false, cond, eqb, nat_lt, List, [], ◌++◌, Option, Some, None, is_some, append_assoc, refl, sym, ap, subst, ◌∙◌, arith}
use Rattle.std.specs.List.{AllByRecursion}
use Rattle.std.specs.Option.{option_map_or}
use Rattle.std.proofs.lemmas.Bool.{false≢true}
use Rattle.std.proofs.lemmas.Bool.Decides.{nat_tests}
use Rattle.gb_base.proofs.Members.{In, in_append_left, in_flat_map, in_map}
use Rattle.gb_base.specs.Deadlines.{deadline_after}
use Rattle.gb_base.specs.Keys.{same_key}
use Rattle.gb_base.specs.declared.keys.Key.{Key}
use Rattle.act_model.proofs.KeyOrder.{has, has_decides, in_key_order_members, itself}
use Rattle.act_model.specs.Receiving.{IsJournal, day_of}
use Rattle.act_model.specs.Touches.{keys_in_order, keys_of_filing}
use Rattle.act_model.specs.declared.receipts.Receipt.{Receipt}
use Rattle.conflict_queue.specs.ItemKeys.{keys_of_named}
use Rattle.consent_rules.specs.Judging.{judged}
use Rattle.consent_rules.specs.declared.judgements.Judgement.{Judgement}
use Rattle.consent_rules.specs.declared.judgements.Judgement.TheVariants.{Enter, Interim, Reject}
use Rattle.entry_rules.specs.Entering.{entered}
use Rattle.folio_sections.proofs.FilteredLists.{any_in, in_filter}
use Rattle.folio_sections.proofs.Unchanged.{all_at, all_both, all_weaker}
use Rattle.folio_sections.specs.Entries.{at as at_key, entry_by}
use Rattle.folio_sections.specs.Waiting.{is_notice_of, waiting_unnoticed}
use Rattle.folio_sections.specs.declared.entries.Entry.{Entry}
use Rattle.folio_sections.specs.declared.entries.What.TheVariants as what
use Rattle.interim_orders.proofs.Room.{lapse_fits, marks_fit}
use Rattle.interim_orders.specs.Extensions.{brought_by_extension, extension_brought, extension_by}
use Rattle.interim_orders.specs.Lapses.{brought_by_lapse, lapse_at, lapse_brought, lapsed}
use Rattle.interim_orders.specs.Notices.{notices_at, notices_brought, with_notices}
use Rattle.interim_orders.specs.Orders.{deadline_of, end_brought, order_brought, state_of, waiting_brought}
use Rattle.interim_orders.specs.declared.answers.Extension.TheVariants as extension
use Rattle.interim_orders.specs.declared.answers.Lapse.{Lapse}
use Rattle.interim_orders.specs.declared.answers.Lapse.TheVariants as answer
use Rattle.interim_orders.specs.declared.states.FilingState.{FilingState}
use Rattle.interim_orders.specs.declared.states.FilingState.TheVariants.{NotPending, Pending}
use Rattle.kept_registers.specs.Kept.{Kept}
use Rattle.registrar.proofs.ContainedParts.{each_mapped}
use Rattle.registrar.proofs.Dealing.{KeepsWaiting}
use Rattle.registrar.proofs.NoticedPlaces.{notice_entry}
use Rattle.registrar.proofs.PlaceReads.{is_noticed}
use Rattle.registrar.proofs.RisingNumbers.{in_of_contains}
use Rattle.registrar.proofs.Rooms.{cure_fits, entry_fits}
use Rattle.registrar.proofs.WaitingStates.{found_waiting}
use Rattle.registrar.proofs.WaitingReads.{enters_keep_waiting}
use Rattle.registrar.specs.Brings.{brought_by_cure, brought_by_filing, brought_in_state, nothing_pending}
use Rattle.registrar.specs.Enters.{enters}
use Rattle.registrar.specs.Rooms.{most_brought, room_to_enter}
use Rattle.desk_pool.proofs.RoomGrows.{TakesAtMost, notices_have_room, takes_a_notice, takes_as_it_waits, takes_its_entries, takes_less}
use Rattle.desk_pool.proofs.WaitingBehind.{Starts, ending, keeping, nobody, setting}

-- ---- what the entries set to wait

entry_starts : (journal : List Receipt) (m i : ℕ) (at : Key → List Entry) → AllByRecursion (λ e. Starts nobody e.what) (enters journal m i at)
entry_starts journal m i at =
    all_weaker (λ e. KeepsWaiting e.what) (λ e. Starts nobody e.what) (enters journal m i at) (λ e keeps. keeping e.what keeps) (enters_keep_waiting journal m i at)

end_starts : (journal : List Receipt) (m i : ℕ) → AllByRecursion (λ e. Starts nobody e.what) (end_brought journal m i)
end_starts journal m i =
    each_mapped (λ (e : Entry). Starts nobody e.what) (λ k. entry_by journal i k (what.Settled m)) (keys_in_order journal m) (λ k. ending m)

waiting_starts : (journal : List Receipt) (m i until : ℕ) → AllByRecursion (λ e. Starts (eqb m) e.what) (waiting_brought journal m i until)
waiting_starts journal m i until =
    each_mapped (λ (e : Entry). Starts (eqb m) e.what) (λ k. entry_by journal i k (what.Pending m until)) (keys_in_order journal m) (λ k. setting m until)

-- ---- the notices of an entry

own_notice : (n : ℕ) → is_notice_of n (what.Notice n) ≡ true
own_notice n = grind (arith, nat_tests)

-- each filing that waits at the key without a notice gets its notice by what the entry brings
noticed_there : (journal : List Receipt) (m i : ℕ) (at : Key → List Entry) (more : List Entry) (k : Key) (n : ℕ) → has k (keys_of_filing journal m) ≡ true → In n (waiting_unnoticed m (at k))
    → is_noticed n (at_key (notices_brought journal m i at ++ more) k) ≡ true
noticed_there journal m i at more k n own there =
    let notices = notices_brought journal m i at in
    let notice = notice_entry journal i k n in
    let among = in_of_contains (keys_in_order journal m) k ((in_key_order_members (keys_of_filing journal m) k).1 ((has_decides k (keys_of_filing journal m)).0 own)) in
    let brought : In notice notices = in_flat_map (notices_at journal m i at) (keys_in_order journal m) k notice among (in_map (notice_entry journal i k) (waiting_unnoticed m (at k)) n there) in
    any_in (λ (e : Entry). is_notice_of n e.what) (at_key (notices ++ more) k) notice
    (in_filter (λ (e : Entry). same_key e.key k) (notices ++ more) notice (in_append_left notices more notice brought) (itself k)) (own_notice n)

-- ---- a filing

entering_takes : (journal : List Receipt) (m i : ℕ) (at : Key → List Entry) (k : Key) → IsJournal journal → has k (keys_of_filing journal m) ≡ true → TakesAtMost (at k) (at_key (enters journal m i at) k) most_brought
entering_takes journal m i at k stands own =
    let es = enters journal m i at in
    notices_have_room m (at k) (at_key es k)
    (entry_fits journal m i at (λ j. room_to_enter m (at j)) stands (λ j there. omega arith) k)
    (all_at (λ e. Starts nobody e.what) es k (entry_starts journal m i at))
    (λ n there. noticed_there journal m i at (entered journal m i (with_notices journal m i at)) k n own there)

nothing_takes : (before : List Entry) (most : ℕ) → TakesAtMost before [] most
nothing_takes before most = takes_its_entries before [] most (omega arith) tt

ending_takes : (journal : List Receipt) (m i : ℕ) (before : List Entry) (k : Key) → TakesAtMost before (at_key (end_brought journal m i) k) 1
ending_takes journal m i before k =
    let es = end_brought journal m i in
    takes_its_entries before (at_key es k) 1 (marks_fit journal m i None (λ j. 1) (λ j there. omega arith) k) (all_at (λ e. Starts nobody e.what) es k (end_starts journal m i))

pub filing_takes : (journal : List Receipt) (i : ℕ) (at : Key → List Entry) (k : Key) (judgement : Judgement) → IsJournal journal → has k (keys_of_filing journal i) ≡ true
    → TakesAtMost (at k) (at_key (brought_by_filing journal i at judgement).entries k) (most_brought + 1)
filing_takes journal i at k Enter stands own =
    takes_less (at k) (at_key (enters journal i i at) k) most_brought (most_brought + 1) (omega arith) (entering_takes journal i i at k stands own)
filing_takes journal i at k (Reject section) stands own = nothing_takes (at k) (most_brought + 1)
filing_takes journal i at k (Interim defects) stands own =
    let es = order_brought journal i in
    takes_less (at k) (at_key es k) 2 (most_brought + 1) (omega arith)
    (takes_a_notice i (at k) (at_key es k) (marks_fit journal i i (Some (deadline_of journal i)) (λ j. 1) (λ j there. omega arith) k) (all_at (λ e. Starts (eqb i) e.what) es k (waiting_starts journal i i (deadline_of journal i))))

-- ---- a cure

-- the entry of a filing and the end of its waiting take at most so much room
cured_takes : (journal : List Receipt) (m i : ℕ) (at : Key → List Entry) (k : Key) → IsJournal journal → has k (keys_of_filing journal m) ≡ true
    → TakesAtMost (at k) (at_key (enters journal m i at ++ end_brought journal m i) k) most_brought
cured_takes journal m i at k stands own =
    let es = enters journal m i at ++ end_brought journal m i in
    let contents = entered journal m i (with_notices journal m i at) in
    notices_have_room m (at k) (at_key es k)
    (cure_fits journal m i at (λ j. room_to_enter m (at j)) stands (λ j there. omega arith) k)
    (all_at (λ e. Starts nobody e.what) es k (all_both (λ e. Starts nobody e.what) (enters journal m i at) (end_brought journal m i) (entry_starts journal m i at) (end_starts journal m i)))
    (λ n there.
    subst (λ (all : List Entry). is_noticed n (at_key all k) ≡ true) (sym (append_assoc (notices_brought journal m i at) contents (end_brought journal m i)))
    (noticed_there journal m i at (contents ++ end_brought journal m i) k n own there))

judged_takes : (journal : List Receipt) (m i : ℕ) (at : Key → List Entry) (k : Key) (judgement : Option Judgement) → IsJournal journal → has k (keys_of_filing journal m) ≡ true
    → TakesAtMost (at k) (at_key (option_map_or (brought_by_cure journal m i at) judgement nothing_pending).entries k) most_brought
judged_takes journal m i at k (Some Enter) stands own = cured_takes journal m i at k stands own
judged_takes journal m i at k (Some (Reject section)) stands own =
    takes_less (at k) (at_key (end_brought journal m i) k) 1 most_brought (omega arith) (ending_takes journal m i (at k) k)
judged_takes journal m i at k (Some (Interim defects)) stands own = nothing_takes (at k) most_brought
judged_takes journal m i at k None stands own = nothing_takes (at k) most_brought

-- the keys of an item that names a filing are keys of the filing
of_named : (journal : List Receipt) (i m : ℕ) (k : Key) → has k (keys_of_named journal i m) ≡ true → has k (keys_of_filing journal m) ≡ true
of_named journal i m k own =
    elim (nat_lt m i) as (λ b. has k (cond b (keys_of_filing journal m) []) ≡ true → has k (keys_of_filing journal m) ≡ true) [
      | true ↦ λ is. is
      | false ↦ λ none. absurd (false≢true none)
    ] own

pub cure_takes : (journal : List Receipt) (m i : ℕ) (at : Key → List Entry) (k : Key) (state : FilingState) → IsJournal journal → has k (keys_of_named journal i m) ≡ true
    → TakesAtMost (at k) (at_key (brought_in_state journal m i at state).entries k) most_brought
cure_takes journal m i at k (Pending until) stands own = judged_takes journal m i at k (judged journal m i at) stands (of_named journal i m k own)
cure_takes journal m i at k NotPending stands own = nothing_takes (at k) most_brought

-- ---- a lapse

answered_starts : (journal : List Receipt) (m i : ℕ) (said : Lapse) → AllByRecursion (λ e. Starts nobody e.what) (brought_by_lapse (end_brought journal m i) said)
answered_starts journal m i answer.Rejected = end_starts journal m i
answered_starts journal m i (answer.TooEarly until) = tt
answered_starts journal m i answer.NotPending = tt

lapse_starts : (journal : List Receipt) (i : ℕ) (at : Key → List Entry) (named : Option ℕ) → AllByRecursion (λ e. Starts nobody e.what) (option_map_or (λ m. brought_by_lapse (end_brought journal m i) (lapsed journal i at)) named [])
lapse_starts journal i at (Some m) = answered_starts journal m i (lapsed journal i at)
lapse_starts journal i at None = tt

pub lapse_takes : (journal : List Receipt) (i : ℕ) (at : Key → List Entry) (k : Key) → TakesAtMost (at k) (at_key (lapse_brought journal i at) k) 1
lapse_takes journal i at k =
    let es = lapse_brought journal i at in
    takes_its_entries (at k) (at_key es k) 1 (lapse_fits journal i at (λ j. 1) (λ m names earlier j there. omega arith) k)
    (all_at (λ e. Starts nobody e.what) es k (lapse_starts journal i at (lapse_at journal i)))

-- ---- an extension

-- a filing that waits waits at each of its keys, so its later deadline takes one entry there and no notice
extension_in_state_takes : (journal : List Receipt) (m i day later : ℕ) (at : Key → List Entry) (k : Key) (state : FilingState) → state_of journal m i at ≡ state → Kept journal at → has k (keys_of_filing journal m) ≡ true
    → TakesAtMost (at k) (at_key (brought_by_extension journal m i (extension_by day later state)) k) 1
extension_in_state_takes journal m i day later at k (Pending until) is kept own =
    elim (nat_lt until day) as (λ b. TakesAtMost (at k) (at_key (brought_by_extension journal m i (cond b (extension.TooLate until) (cond (nat_lt until later) (extension.Extended later) (extension.NotLater until)))) k) 1) [
      | true ↦ nothing_takes (at k) 1
      | false ↦ elim (nat_lt until later) as (λ b. TakesAtMost (at k) (at_key (brought_by_extension journal m i (cond b (extension.Extended later) (extension.NotLater until))) k) 1) [
        | true ↦
            let waits = (found_waiting journal m i at until is).waits in
            let there = (has_decides k (keys_of_filing journal m)).0 own in
            takes_as_it_waits m (at k) (at_key (waiting_brought journal m i later) k) (marks_fit journal m i (Some later) (λ j. 1) (λ j among. omega arith) k)
            (all_at (λ e. Starts (eqb m) e.what) (waiting_brought journal m i later) k (waiting_starts journal m i later))
            (ap is_some (kept.pending_everywhere.everywhere m k waits.key there waits.there ∙ waits.waits))
        | false ↦ nothing_takes (at k) 1
      ]
    ]
extension_in_state_takes journal m i day later at k NotPending is kept own = nothing_takes (at k) 1

pub extension_takes : (journal : List Receipt) (m days i : ℕ) (at : Key → List Entry) (k : Key) → Kept journal at → has k (keys_of_named journal i m) ≡ true
    → TakesAtMost (at k) (at_key (extension_brought journal m days i at) k) 1
extension_takes journal m days i at k kept own =
    extension_in_state_takes journal m i (day_of journal i) (deadline_after days (day_of journal i)) at k (state_of journal m i at) refl kept (of_named journal i m k own)
