-- What answering a request does.
use Rattle.std.specs.Prelude.{◌≡◌, ◌⊎◌, ℕ, ◌+◌, ◌==◌, ◌||◌, Bool, true, false, List, [], Option, None, IsSome, IsTrue, is_ok}
use Rattle.gb_base.specs.DayMinute.{DayMinute}
use Rattle.gb_outside.specs.Faults.{Counts}
use Rattle.gb_outside.specs.Images.{LeavesOnly, Torn}
use Rattle.gb_outside.specs.Ticks.{Ticks}
use Rattle.act_json.specs.Lines.{item_of}
use Rattle.act_model.specs.declared.receipts.Receipt.{Receipt}
use Rattle.intake.specs.Grown.{GrownFrom, WritesFrames}
use Rattle.intake.specs.Requests.{Held}
use Rattle.journal_disk.specs.Layout.{the_heading, IsUnmade, StandsFor, first_gate, made_from}
use Rattle.receipt_journal.specs.BookState.{BookState}
use Rattle.receipt_journal.specs.Opening.{BookOpens}
use Rattle.registry_http.specs.RequestParts.{RequestParts}
use Rattle.registry_http.specs.declared.routes.Route.TheVariants.{Post}
use Rattle.settled_book.specs.SettledBookState.{SettledBookState}
use Rattle.settled_book.specs.Texts.{reads_register}
use Rattle.connections.specs.Answers.{answer}
use Rattle.connections.specs.Asking.{Asked, AskedFor, NoRoute, WrongMethod, Asks}
use Rattle.connections.specs.Fates.{Fate, Answered, Failed, Failure, DiskFailed, NoJournal, OutOfMemory, NotBegun, Stamped, Received, answer_by, failure_reply, is_apart, lacks_words, may_lack_memory}
use Rattle.connections.specs.Holding.{Begins, IsAllSettled, register_in, working}
use Rattle.connections.specs.Replies.{ReplyParts, out_of_memory}
use Rattle.connections.specs.Tools.{Tools}

-- the status says that a text was read, or that an item was received
abbrev pub is_from_disk : ReplyParts → Bool
is_from_disk reply = reply.status == 200 || reply.status == 201

-- a text was read or an item received: the status says so, or no memory was found to say it
abbrev pub tells_of_file : Fate → ReplyParts → Bool
tells_of_file fate reply = lacks_words fate || is_from_disk reply

-- the status speaks of a journal: of a text of it, or of how it takes an item
abbrev pub tells_of_journal : ReplyParts → Bool
tells_of_journal reply = reply.status == 200 || reply.status == 201 || reply.status == 403 || reply.status == 409

-- the status says that something failed: a call of the disk, an opening, or the search for memory
abbrev pub is_failed : ReplyParts → Bool
is_failed reply = reply.status == 500 || reply.status == 503 || reply.status == 507

-- the status of a reply to a request that reads a text: the text, or that nothing of that name is there, or what failed
abbrev pub is_text_status : ReplyParts → Bool
is_text_status reply = reply.status == 200 || reply.status == 404 || is_failed reply

-- the status of a reply to an item that the clock gave a stamp for: how a journal takes it, or that a call of the disk failed, or that no memory was found
abbrev pub is_item_status : ReplyParts → Bool
is_item_status reply = tells_of_journal reply || reply.status == 503 || reply.status == 507

-- the disk may be called for it: a text is read, or the body is an item
abbrev pub may_call_disk : Asked → List ℕ → Bool
may_call_disk (AskedFor Post) body = is_ok (item_of body)
may_call_disk (AskedFor route) body = true
may_call_disk NoRoute body = false
may_call_disk WrongMethod body = false

-- it reads a text of the journal
abbrev pub reads_text : Asked → Bool
reads_text (AskedFor route) = reads_register route
reads_text NoRoute = false
reads_text WrongMethod = false

-- an item is posted
abbrev pub posts_item : Asked → List ℕ → Bool
posts_item (AskedFor Post) body = is_ok (item_of body)
posts_item (AskedFor route) body = false
posts_item NoRoute body = false
posts_item WrongMethod body = false

-- it is the reply to this, whatever is held, or says that no memory was found
abbrev pub SaysAsked : List ℕ → Asked → ReplyParts → Type 0
SaysAsked body wants reply = ((held : Held) → reply ≡ (answer held body wants).reply) ⊎ (reply ≡ out_of_memory)

-- Each image begins with these receipts.
abbrev pub AllBegin : List Receipt → (List ℕ → Type 0) → Type 0
AllBegin front images = (file : List ℕ) → images file → Begins front file

-- Until some moment a stop leaves what it might have left before, and from then on a file of this kind.
pub record LeavesThen {D : Type 0} (images : D → List ℕ → Type 0) (moment : D → ℕ) (since : D → ℕ → List ℕ → Type 0) (old new : D) (left : List ℕ → Type 0) : Type 0 where
  pub from : D
  pub until : LeavesOnly moment since old from (images old)
  pub then : LeavesOnly moment since from new left

-- until some moment a stop leaves what it might have left before, and from then on a file of this kind; or that moment has not come
abbrev pub LeavesOldThen : {D : Type 0} → (D → List ℕ → Type 0) → (D → ℕ) → (D → ℕ → List ℕ → Type 0) → D → D → (List ℕ → Type 0) → Type 0
LeavesOldThen images moment since old new left = LeavesOnly moment since old new (images old) ⊎ LeavesThen images moment since old new left

-- ---- what is written of the file

-- A file after an opening: an unmade one is made as the format has it, and each other is as it was.
pub record IsOpened (file new : List ℕ) : Type 0 where
  pub made : IsUnmade file → new ≡ made_from the_heading file
  pub same : (IsUnmade file → ⊥) → new ≡ file

-- An unmade file whose making did not end, or did not begin: it stands for no frame, as before, and no byte is written after the first gate.
pub record IsPartlyMade (file new : List ℕ) : Type 0 where
  pub stands : StandsFor the_heading new []
  pub torn : Torn 0 (first_gate the_heading + 1) file new

-- A file after an opening in which a call of the disk failed: an unmade one is made in part, and each other is as it was.
pub record IsPartlyOpened (file new : List ℕ) : Type 0 where
  pub made : IsUnmade file → IsPartlyMade file new
  pub same : (IsUnmade file → ⊥) → new ≡ file

-- What is written of a file that stood for the first of these journals, where it grows to the second or may have: it is opened, and then the frames between the two are written, and nothing where they are one.
pub record WritesGrown (from to : List Receipt) (file new : List ℕ) : Type 0 where
  pub opened : List ℕ
  pub opens : IsOpened file opened
  pub frames : WritesFrames from to opened new
  pub same : to ≡ from → new ≡ opened

-- what a request of this fate writes of the file, where the disk may be called for it or not, and the journal grows from the first of these to the second if all works
abbrev pub WritesBy : Bool → Fate → List Receipt → List Receipt → List ℕ → List ℕ → Type 0
WritesBy false fate from to file new = new ≡ file
WritesBy true Answered from to file new = WritesGrown from to file new
WritesBy true (Failed DiskFailed NotBegun) from to file new = IsPartlyOpened file new
WritesBy true (Failed DiskFailed Stamped) from to file new = WritesGrown from to file new
WritesBy true (Failed DiskFailed Received) from to file new = WritesGrown from to file new
WritesBy true (Failed NoJournal progress) from to file new = new ≡ file
WritesBy true (Failed OutOfMemory NotBegun) from to file new = (new ≡ file) ⊎ IsOpened file new
WritesBy true (Failed OutOfMemory Stamped) from to file new = IsOpened file new
WritesBy true (Failed OutOfMemory Received) from to file new = WritesGrown from to file new

-- ---- what a request comes to

-- A request was answered by what it asks for, and by what became of it.
pub record AnswersRequest {D : Type 0} (reads : D → List ℕ) (images : D → List ℕ → Type 0) (moment : D → ℕ) (since : D → ℕ → List ℕ → Type 0) (old new : D) (request : RequestParts) (held : Held) (reply : ReplyParts) (HoldsNow : Held → Type 0) : Type 0 where
  -- what it asks for
  pub wants : Asked
  pub asks : Asks request wants
  -- what became of it
  pub fate : Fate
  -- the reply, and what is held after it, are by the two
  pub reply_is : reply ≡ (answer_by fate held (answer held request.body wants)).reply
  pub holds : HoldsNow (answer_by fate held (answer held request.body wants)).held
  -- the disk is called only where it may be
  pub uncalled : may_call_disk wants request.body ≡ false → new ≡ old
  -- where it may not be, the request was answered as it asks, or no memory was found
  pub apart : may_call_disk wants request.body ≡ false → is_apart fate ≡ true
  -- after the clock was asked, memory may run out only for an item that is accepted, or for words with a number
  pub memory : may_lack_memory fate (answer held request.body wants).reply ≡ true
  -- a stop leaves what it might have left before, or, from some moment on, only the journal that was held, with the receipt of this request or without it
  pub left : LeavesOldThen images moment since old new (GrownFrom held.journal (answer held request.body wants).held.journal)
  -- of the file only the frame of its receipt is written, after an unmade one was made
  pub written : WritesBy (may_call_disk wants request.body) fate held.journal (answer held request.body wants).held.journal (reads old) (reads new)
  -- the receipts that every image began with, each begins with still
  pub kept : (front : List Receipt) → AllBegin front (images old) → AllBegin front (images new)
  -- each image begins with all that a text was read of or an item received into, also where no memory was found for the words of the reply
  pub told : tells_of_file fate reply ≡ true → AllBegin (answer_by fate held (answer held request.body wants)).held.journal (images new)

-- ---- what a request does to the tools

-- the reply to a request in which something failed
abbrev pub IsFailure : ReplyParts → Type 0
IsFailure reply = (failure : Failure) × (reply ≡ failure_reply failure)

-- A book was opened, and no call of the disk failed before that: the state of the disk in which it stood open, and the book.
pub record OpensBook {D : Type 0} (tells : Bool) (reads : D → List ℕ) (images : D → List ℕ → Type 0) (faults : D → ℕ) (old : D) : Type 0 where
  pub opened : D
  pub book : BookState
  pub works : book.log.failed ≡ false
  pub quiet : faults opened ≡ faults old
  pub opens : IsTrue tells → BookOpens (reads old) book (reads opened) (images opened)

-- No tool was used for an item that was posted: no memory was found before a book was taken.
pub record UsesNone {D C : Type 0} (reply : ReplyParts) (old new : Tools D C) : Type 0 where
  pub same : new ≡ old
  pub lacks : reply ≡ out_of_memory

-- No book was at hand that worked, and none could be opened: the clock was not asked, and the reply says what failed.
pub record NoneOpened {D C : Type 0} (reply : ReplyParts) (old new : Tools D C) : Type 0 where
  pub had_none : working old.at_hand ≡ None
  pub none : working new.at_hand ≡ None
  pub clock : new.clock ≡ old.clock
  pub failed : IsFailure reply

-- The clock was asked once, while a book was at hand that worked.
pub record IsAsked {D C : Type 0} (tells : Bool) (reads : D → List ℕ) (images : D → List ℕ → Type 0) (faults : D → ℕ) (ticks : C → Option (List DayMinute)) (reply : ReplyParts) (old new : Tools D C) : Type 0 where
  -- the book was there before, or was opened
  pub book : IsSome (working old.at_hand) ⊎ OpensBook tells reads images faults old.disk
  -- the clock gave this stamp, and no other
  pub stamp : DayMinute
  pub asked : Ticks (ticks old.clock) (ticks new.clock) stamp
  -- the reply says how a journal takes the item, or that a call of the disk failed or no memory was found
  pub says : is_item_status reply ≡ true
  -- a book is there after it, and works unless a call of the disk failed
  pub there : IsSome new.at_hand
  pub works : (reply.status == 503) ≡ false → IsSome (working new.at_hand)

-- how often an item that is posted asks the clock: once, or not at all where no book was taken for it
abbrev pub AsksOnce : {D C : Type 0} → Bool → (D → List ℕ) → (D → List ℕ → Type 0) → (D → ℕ) → (C → Option (List DayMinute)) → ReplyParts → Tools D C → Tools D C → Type 0
AsksOnce tells reads images faults ticks reply old new = UsesNone reply old new ⊎ (NoneOpened reply old new ⊎ IsAsked tells reads images faults ticks reply old new)

-- What a request did to the disk, the book and the clock, with this reply.
pub record AnswersTurn {D C : Type 0} (tells : Bool) (reads : D → List ℕ) (images : D → List ℕ → Type 0) (faults : D → ℕ) (ticks : C → Option (List DayMinute)) (request : RequestParts) (reply : ReplyParts) (old new : Tools D C) : Type 0 where
  -- what it asks for
  pub wants : Asked
  pub asks : Asks request wants
  -- one for which the disk may not be called uses no tool, and is answered as it asks, or no memory was found
  pub uncalled : may_call_disk wants request.body ≡ false → (new ≡ old) × SaysAsked request.body wants reply
  -- the disk's count of faults rose just where the reply is a 503
  pub disk : Counts (faults old.disk) (faults new.disk) (reply.status == 503)
  -- only where no book worked it may be found that the file is no journal
  pub had_none : reply.status ≡ 500 → working old.at_hand ≡ None
  -- a book that worked works still, unless a call of the disk failed
  pub kept : IsSome (working old.at_hand) → (reply.status == 503) ≡ false → IsSome (working new.at_hand)
  -- after a call of the disk failed no book works
  pub failed : (reply.status == 503) ≡ true → working new.at_hand ≡ None
  -- after a request for which the disk may be called a book works, unless something failed
  pub left : may_call_disk wants request.body ≡ true → is_failed reply ≡ false → IsSome (working new.at_hand)
  -- while a book works, the disk is called for an item that is posted alone
  pub untouched : IsSome (working old.at_hand) → posts_item wants request.body ≡ false → new.disk ≡ old.disk
  -- while a book works, only a 201 or what failed leaves the disk changed
  pub unreceived : IsSome (working old.at_hand) → (reply.status == 201) ≡ false → is_failed reply ≡ false → new.disk ≡ old.disk
  -- one that reads a text is answered by it, or that nothing of that name is there, or what failed
  pub text : reads_text wants ≡ true → is_text_status reply ≡ true
  -- after a text was read, all of the journal is settled
  pub read : reads_text wants ≡ true → is_failed reply ≡ false → IsAllSettled new.at_hand
  -- while a book works, a request that reads no text leaves what is settled
  pub unread : reads_text wants ≡ false → IsSome (working old.at_hand) → register_in new.at_hand ≡ register_in old.at_hand
  -- only an item that is posted asks the clock
  pub clock_kept : posts_item wants request.body ≡ false → new.clock ≡ old.clock
  -- it asks it once, if at all
  pub asked : posts_item wants request.body ≡ true → AsksOnce tells reads images faults ticks reply old new

-- What was done to the disk and the book in some turns: the disk's count rose just where a call of it failed, and where none did, a book that worked works still.
pub record KeepsOpen {D : Type 0} (faults : D → ℕ) (book_old book_new : Option SettledBookState) (old new : D) : Type 0 where
  pub failed : Bool
  pub disk : Counts (faults old) (faults new) failed
  pub kept : failed ≡ false → IsSome (working book_old) → IsSome (working book_new)

-- ---- where no book is open and the file stands for no journal

-- A request was answered where no book is open and the file stands for no journal.
pub record AnswersNone {D : Type 0} (old new : D) (request : RequestParts) (reply : ReplyParts) : Type 0 where
  pub wants : Asked
  pub asks : Asks request wants
  -- where the disk may be called for it, by what failed: that the file is no journal, unless a call of the disk failed or no memory was found
  pub failed : may_call_disk wants request.body ≡ true → IsFailure reply
  -- where it may not, the disk stays, and the request was answered as it asks, or no memory was found
  pub uncalled : may_call_disk wants request.body ≡ false → (new ≡ old) × SaysAsked request.body wants reply

-- No book was opened. The file is as it was, and at each moment since a stop leaves what it might have left before.
pub record OpensNone {D : Type 0} (reads : D → List ℕ) (images : D → List ℕ → Type 0) (moment : D → ℕ) (since : D → ℕ → List ℕ → Type 0) (old new : D) (at_hand : Option SettledBookState) : Type 0 where
  pub none : working at_hand ≡ None
  pub same : reads new ≡ reads old
  pub left : LeavesOnly moment since old new (images old)
