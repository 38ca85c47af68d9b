-- Which replies say that a call of the disk failed, and which that the file is no journal.
use Rattle.std.proofs.Common.{◌≡◌, inl, inr, ℕ, ◌==◌, true, false, cond, List, [], ◌∷◌, ◌++◌, Option, Some, None, Result, Ok, Err, refl}
use Rattle.std.specs.Prelude.{nat_lt, ◌&&◌}
use Rattle.gb_base.specs.DayMinute.{DayMinute}
use Rattle.act_json.specs.Lines.{item_of}
use Rattle.act_json.specs.declared.lines.LineFault.{LineFault}
use Rattle.act_json.specs.declared.lines.LineFault.TheVariants as line
use Rattle.act_model.specs.Receiving.{answer_to, is_accepted, next_receipt}
use Rattle.act_model.specs.declared.added.Added.{Added}
use Rattle.act_model.specs.declared.added.Added.TheVariants as added
use Rattle.act_model.specs.declared.items.Item.{Item}
use Rattle.act_model.specs.declared.receipts.Receipt.{Receipt}
use Rattle.intake.specs.Requests.{Held}
use Rattle.intake_requests.specs.declared.requests.SenderReference.{SenderReference}
use Rattle.journal_disk.specs.Layout.{file_limit, the_heading}
use Rattle.receipt_journal.specs.Receiving.{answer_on, file_size, in_journal, on_disk}
use Rattle.receipt_journal.specs.Standing.{StandsForJournal}
use Rattle.receipt_journal.specs.declared.received.Received.TheVariants as answers
use Rattle.receipt_journal.proofs.Standings.{foreign_no_journal, not_both}
use Rattle.registry_http.specs.declared.routes.Route.TheVariants as route
use Rattle.connections.specs.Answers.{answer, body_answer, received_at, status_of, text_reply}
use Rattle.connections.specs.Asking.{Asked, AskedFor, NoRoute, WrongMethod}
use Rattle.connections.specs.Fates.{Fate, Answered, Failed, DiskFailed, NoJournal, OutOfMemory, answer_by, has_disk_failed}
use Rattle.connections.specs.Holding.{IsNoJournal}
use Rattle.connections.specs.Serving.{lacks_journal}

status_in_journal : (answer : Added) → (status_of (in_journal answer) == 503) ≡ false
status_in_journal (added.Accepted n) = refl
status_in_journal (added.Repeated n) = refl
status_in_journal (added.Differs n) = refl
status_in_journal added.Full = refl
status_in_journal added.Memory = refl

status_on_disk : (size : ℕ) (answer : Added) → (status_of (on_disk size answer) == 503) ≡ false
status_on_disk size answer = elim (is_accepted answer && nat_lt file_limit size) as (λ b. (status_of (cond b answers.Full (in_journal answer)) == 503) ≡ false)
    [ true ↦ refl | false ↦ status_in_journal answer ]

status_expected : (journal : List Receipt) (stamp : DayMinute) (sender reference : ℕ) (item : Item) → (status_of (answer_on journal stamp sender reference item) == 503) ≡ false
unfolding answer_on
status_expected journal stamp sender reference item =
    status_on_disk (file_size the_heading (journal ++ next_receipt journal stamp sender reference item ∷ [])) (answer_to journal sender reference item)

status_at : (ticks : List DayMinute) (journal : List Receipt) (from : SenderReference) (item : Item) → (status_of (received_at ticks journal from item) == 503) ≡ false
status_at [] journal from item = refl
status_at (tick ∷ ticks) journal from item = status_expected journal tick from.sender from.reference item

body_silent : (held : Held) (read : Result (ℕ × ℕ × Item) LineFault) → ((body_answer held read).reply.status == 503) ≡ false
body_silent held (Ok found) = status_at held.ticks held.journal (record { sender = found.0; reference = found.1 }) found.2
body_silent held (Err line.NotJson) = refl
body_silent held (Err (line.NotItem path)) = refl
body_silent held (Err line.Memory) = refl

text_silent : (text : Option (List ℕ)) → ((text_reply text).status == 503) ≡ false
text_silent (Some t) = refl
text_silent None = refl

-- no reply to a request that is answered as it asks says that the disk failed
answer_silent : (held : Held) (body : List ℕ) (asked : Asked) → ((answer held body asked).reply.status == 503) ≡ false
answer_silent held body (AskedFor route.Post) = body_silent held (item_of body)
answer_silent held body (AskedFor other) = text_silent _
answer_silent held body NoRoute = refl
answer_silent held body WrongMethod = refl

pub disk_by_reply : (held : Held) (body : List ℕ) (asked : Asked) (fate : Fate) → ((answer_by fate held (answer held body asked)).reply.status == 503) ≡ has_disk_failed fate
disk_by_reply held body asked Answered = answer_silent held body asked
disk_by_reply held body asked (Failed DiskFailed progress) = refl
disk_by_reply held body asked (Failed NoJournal progress) = refl
disk_by_reply held body asked (Failed OutOfMemory progress) = refl

no_journal_not : (file : List ℕ) (journal : List Receipt) → StandsForJournal file journal → IsNoJournal file → ⊥
no_journal_not file journal stands (inl foreign) = foreign_no_journal file journal foreign stands
no_journal_not file journal stands (inr (at, bad)) = not_both file journal bad.0 stands bad.1

-- where the file stands for a journal no request finds that it does not
pub journal_by_reply : (file : List ℕ) (journal : List Receipt) (held : Held) (body : List ℕ) (asked : Asked) (fate : Fate) → StandsForJournal file journal
    → ((answer_by fate held (answer held body asked)).reply.status ≡ 500 → IsNoJournal file) → lacks_journal fate ≡ false
journal_by_reply file journal held body asked Answered stands none = refl
journal_by_reply file journal held body asked (Failed DiskFailed progress) stands none = refl
journal_by_reply file journal held body asked (Failed NoJournal progress) stands none = absurd (no_journal_not file journal stands (none refl))
journal_by_reply file journal held body asked (Failed OutOfMemory progress) stands none = refl
