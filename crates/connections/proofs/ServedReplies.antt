-- No reply to a turn that is answered as it asks says that a call of the disk failed or that no memory was found.
use Rattle.std.proofs.Common.{◌≡◌, ℕ, ◌-◌, ◌≤◌, ◌==◌, Bool, true, false, ◌||◌, ◌&&◌, cond, if◌then◌else◌, List, [], ◌∷◌, ◌++◌, length, Option, Some, None, Result, Ok, Err, refl, sym, ◌∙◌, ap, arith}
use Rattle.std.proofs.lemmas.Bool.{and_parts}
use Rattle.std.specs.List.{list_all, list_any}
use Rattle.std.specs.Prelude.{◌+◌, nat_le, nat_lt, not}
use Rattle.gb_base.specs.DayMinute.{DayMinute}
use Rattle.act_json.specs.Lines.{item_of, item_line, json_of, line_read, line_read_by}
use Rattle.act_json.specs.Reading.{Read}
use Rattle.act_json.specs.declared.lines.LineFault.{LineFault}
use Rattle.act_json.specs.declared.lines.LineFault.TheVariants as line
use Rattle.act_model.specs.Limits.{most_receipts}
use Rattle.act_model.specs.Receiving.{answer_again, answer_by, answer_to, is_accepted, next_receipt, number_of, receipt_at}
use Rattle.act_model.specs.Same.{same_item}
use Rattle.act_model.specs.declared.added.Added.{Added}
use Rattle.act_model.specs.declared.added.Added.TheVariants as added
use Rattle.act_model.specs.declared.items.Item.{Item}
use Rattle.act_model.specs.declared.receipts.Receipt.{Receipt}
use Rattle.intake.specs.Requests.{Held, OnDisk, replied_by_clock, reply_of}
use Rattle.intake_requests.specs.declared.requests.SenderReference.{SenderReference}
use Rattle.journal_disk.specs.Layout.{file_limit, the_heading}
use Rattle.receipt_journal.specs.Receiving.{answer_on, file_size, in_journal, on_disk}
use Rattle.receipt_journal.specs.declared.received.Received.{Received}
use Rattle.receipt_journal.specs.declared.received.Received.TheVariants as answers
use Rattle.registry_http.specs.RequestParts.{RequestParts}
use Rattle.registry_http.specs.Requests.{AtFront, Whole, Nothing, Cut, HeadFault, BodyTooLong}
use Rattle.registry_http.specs.declared.routes.Route.TheVariants as route
use Rattle.settled_book.specs.Texts.{text_of}
use Rattle.connections.specs.Answers.{answer, body_answer, item_answer, received_at, status_of, text_reply}
use Rattle.connections.specs.Asking.{Asked, AskedFor, NoRoute, WrongMethod}
use Rattle.connections.specs.Completeness.{AreReplies, is_unserved}
use Rattle.connections.specs.Replies.{ReplyParts}
use Rattle.connections.specs.Turns.{Turn, Request, Refusal, End, last_turn, turns}

-- ---- the answers to an item

abbrev is_unserved_status : ℕ → Bool
is_unserved_status n = n == 503 || n == 507

abbrev is_memory : Added → Bool
is_memory (added.Accepted n) = false
is_memory (added.Repeated n) = false
is_memory (added.Differs n) = false
is_memory added.Full = false
is_memory added.Memory = true

memory_again : (item : Item) (n : ℕ) (found : Option Receipt) → is_memory (answer_again item n found) ≡ false
memory_again item n None = refl
memory_again item n (Some r) = elim (same_item r.item item) as (λ b. is_memory (if b then added.Repeated n else added.Differs n) ≡ false) [ true ↦ refl | false ↦ refl ]

memory_by : (journal : List Receipt) (item : Item) (n : Option ℕ) → is_memory (answer_by journal item n) ≡ false
memory_by journal item (Some n) = memory_again item n (receipt_at journal n)
memory_by journal item None = elim (nat_le most_receipts (length journal)) as (λ b. is_memory (if b then added.Full else added.Accepted (length journal + 1)) ≡ false) [ true ↦ refl | false ↦ refl ]

status_in_journal : (answer : Added) → is_memory answer ≡ false → is_unserved_status (status_of (in_journal answer)) ≡ false
status_in_journal (added.Accepted n) sound = refl
status_in_journal (added.Repeated n) sound = refl
status_in_journal (added.Differs n) sound = refl
status_in_journal added.Full sound = refl
status_in_journal added.Memory sound = absurd cc

status_on_disk : (size : ℕ) (answer : Added) → is_memory answer ≡ false → is_unserved_status (status_of (on_disk size answer)) ≡ false
status_on_disk size answer sound = elim (is_accepted answer && nat_lt file_limit size) as (λ b. is_unserved_status (status_of (cond b answers.Full (in_journal answer))) ≡ false)
    [ true ↦ refl | false ↦ status_in_journal answer sound ]

status_expected : (journal : List Receipt) (stamp : DayMinute) (sender reference : ℕ) (item : Item) → is_unserved_status (status_of (answer_on journal stamp sender reference item)) ≡ false
unfolding answer_on
status_expected journal stamp sender reference item =
    status_on_disk (file_size the_heading (journal ++ next_receipt journal stamp sender reference item ∷ [])) (answer_to journal sender reference item) (memory_by journal item (number_of sender reference journal))

pub memory_not_expected : (journal : List Receipt) (stamp : DayMinute) (sender reference : ℕ) (item : Item) → answer_on journal stamp sender reference item ≡ answers.Memory → ⊥
memory_not_expected journal stamp sender reference item is =
    let never : true ≡ false = sym (ap (λ (a : Received). is_unserved_status (status_of a)) is) ∙ status_expected journal stamp sender reference item in absurd cc

-- ---- the ticks that are left

-- the clock has a tick
abbrev pub has_tick : List DayMinute → Bool
has_tick [] = false
has_tick (tick ∷ ticks) = true

pub some_tick : (ticks : List DayMinute) → 1 ≤ length ticks → has_tick ticks ≡ true
some_tick [] some = absurd (omega (arith, some))
some_tick (tick ∷ ticks) some = refl

-- ---- the reply to a request

status_at : (ticks : List DayMinute) (journal : List Receipt) (from : SenderReference) (item : Item) → has_tick ticks ≡ true → is_unserved_status (status_of (received_at ticks journal from item)) ≡ false
status_at [] journal from item some = absurd cc
status_at (tick ∷ ticks) journal from item some = status_expected journal tick from.sender from.reference item

-- the clock still has a tick after an item
ticks_on : (journal : List Receipt) (ticks : List DayMinute) (sender reference : ℕ) (item : Item) → has_tick ticks ≡ true → has_tick (replied_by_clock OnDisk journal ticks sender reference item).held.ticks ≡ true
ticks_on journal [] sender reference item some = absurd cc
ticks_on journal (t ∷ []) sender reference item some = refl
ticks_on journal (t ∷ u ∷ ticks) sender reference item some = refl

item_ticks : (held : Held) (from : SenderReference) (item : Item) → has_tick held.ticks ≡ true → has_tick (item_answer held from item).held.ticks ≡ true
unfolding reply_of
item_ticks held from item some = ticks_on held.journal held.ticks from.sender from.reference item some

-- to read a line by the grammar never runs out of memory
line_fault : (read : _) → line_read_by item_line read ≡ Err line.Memory → ⊥
line_fault None is = absurd cc
line_fault (Some d) is = by (item_line d) is
  where
    by : (found : Read (ℕ × ℕ × Item)) → line_read found ≡ Err line.Memory → ⊥
    by (Ok x) is = absurd cc
    by (Err path) is = absurd cc

body_fault : (body : List ℕ) → item_of body ≡ Err line.Memory → ⊥
unfolding item_of
body_fault body is = line_fault (json_of body) is

body_served : (held : Held) (read : Result (ℕ × ℕ × Item) LineFault) → (read ≡ Err line.Memory → ⊥) → has_tick held.ticks ≡ true → is_unserved (body_answer held read).reply ≡ false
body_served held (Ok found) sound some = status_at held.ticks held.journal (record { sender = found.0; reference = found.1 }) found.2 some
body_served held (Err line.NotJson) sound some = refl
body_served held (Err (line.NotItem path)) sound some = refl
body_served held (Err line.Memory) sound some = absurd (sound refl)

body_ticks : (held : Held) (read : Result (ℕ × ℕ × Item) LineFault) → has_tick held.ticks ≡ true → has_tick (body_answer held read).held.ticks ≡ true
body_ticks held (Ok found) some = item_ticks held (record { sender = found.0; reference = found.1 }) found.2 some
body_ticks held (Err fault) some = some

text_served : (text : Option (List ℕ)) → is_unserved (text_reply text) ≡ false
text_served (Some t) = refl
text_served None = refl

answer_served : (held : Held) (body : List ℕ) (asked : Asked) → has_tick held.ticks ≡ true → is_unserved (answer held body asked).reply ≡ false
answer_served held body (AskedFor route.Post) some = body_served held (item_of body) (body_fault body) some
answer_served held body (AskedFor other) some = text_served (text_of held.journal other)
answer_served held body NoRoute some = refl
answer_served held body WrongMethod some = refl

answer_ticks : (held : Held) (body : List ℕ) (asked : Asked) → has_tick held.ticks ≡ true → has_tick (answer held body asked).held.ticks ≡ true
answer_ticks held body (AskedFor route.Post) some = body_ticks held (item_of body) some
answer_ticks held body (AskedFor other) some = some
answer_ticks held body NoRoute some = some
answer_ticks held body WrongMethod some = some

-- ---- the replies to all turns

-- bytes that are refused are not refused by such a reply
abbrev pub refuses_so : Turn → Bool
refuses_so (Request request) = true
refuses_so (Refusal reply) = not (is_unserved reply)
refuses_so End = true

last_refuses : (end : AtFront) → list_all refuses_so (last_turn end) ≡ true
last_refuses (Whole request rest) = refl
last_refuses Nothing = refl
last_refuses Cut = refl
last_refuses HeadFault = refl
last_refuses BodyTooLong = refl

pub all_refuse : (left : ℕ) (requests : List RequestParts) (end : AtFront) → list_all refuses_so (turns left requests end) ≡ true
all_refuse left [] end = elim (left == 0) as (λ b. list_all refuses_so (if b then [] else last_turn end) ≡ true) [ true ↦ refl | false ↦ last_refuses end ]
all_refuse left (request ∷ requests) end = elim (left == 0) as (λ b. list_all refuses_so (if b then [] else Request request ∷ (if request.last then [] else turns (left - 1) requests end)) ≡ true)
    [ true ↦ refl | false ↦ elim (request.last) as (λ b. list_all refuses_so (if b then [] else turns (left - 1) requests end) ≡ true) [ true ↦ refl | false ↦ all_refuse (left - 1) requests end ] ]

one_more : (first : ReplyParts) (rest replies : List ReplyParts) → replies ≡ first ∷ rest → is_unserved first ≡ false → list_any is_unserved rest ≡ false → list_any is_unserved replies ≡ false
one_more first rest replies are sound others = ap (λ l. list_any is_unserved l) are ∙ ap (λ b. b || list_any is_unserved rest) sound ∙ others

sound_not : (b : Bool) → not b ≡ true → b ≡ false
sound_not true is = absurd cc
sound_not false is = refl

pub all_served : (us : List Turn) (held : Held) (replies : List ReplyParts) → AreReplies held us replies → list_all refuses_so us ≡ true → has_tick held.ticks ≡ true → list_any is_unserved replies ≡ false
all_served [] held replies are refuse some = ap (λ l. list_any is_unserved l) are
all_served (End ∷ us) held replies are refuse some = all_served us held replies are refuse some
all_served (Refusal reply ∷ us) held replies are refuse some =
    let parts = and_parts _ _ refuse in
    one_more reply are.0 replies are.1 (sound_not (is_unserved reply) parts.0) (all_served us held are.0 are.2 parts.1 some)
all_served (Request request ∷ us) held replies are refuse some =
    one_more (answer held request.body are.0).reply are.2 replies are.3 (answer_served held request.body are.0 some)
    (all_served us (answer held request.body are.0).held are.2 are.4 refuse (answer_ticks held request.body are.0 some))
