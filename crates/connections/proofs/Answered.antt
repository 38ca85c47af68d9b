-- A request is answered: what it asks for, and how answering it ends.
use Rattle.std.proofs.Common.{◌≡◌, ◌≤◌, Bool, true, false, ◌||◌, ⊎_elim, ℕ, List, Option, Some, None, IsSome, IfSome, refl, sym, ◌∙◌, ap, subst}
use Rattle.std.proofs.lemmas.Bool.{cases_Bool}
use Rattle.gb_base.specs.DayMinute.{DayMinute}
use Rattle.act_model.specs.declared.receipts.Receipt.{Receipt}
use Rattle.intake.specs.Grown.{GrownFrom, IsFront}
use Rattle.intake.specs.Requests.{Held, holding}
use Rattle.intake.proofs.Durable.{front_refl}
use Rattle.intake.proofs.Replies.{front_trans}
use Rattle.receipt_journal.specs.Standing.{StandsForJournal}
use Rattle.receipt_journal.proofs.Standings.{journal_once}
use Rattle.registry_http.specs.RequestParts.{RequestParts}
use Rattle.settled_book.specs.SettledBookState.{SettledBookState}
use Rattle.connections.specs.Answering.{AllBegin, AnswersRequest, SaysAsked, WritesBy, is_from_disk, may_call_disk, tells_of_file}
use Rattle.connections.specs.Answers.{Answer, answer}
use Rattle.connections.specs.Asking.{Asked, Asks}
use Rattle.connections.specs.Fates.{Fate, Answered, Failed, OutOfMemory, NotBegun, Stamped, Received, answer_by, is_apart, lacks_words, may_lack_memory}
use Rattle.connections.specs.Holding.{Begins, Holds, IsOpenOn, working}
use Rattle.connections.specs.Replies.{ReplyParts}
use Rattle.connections.specs.inner.Ends as ends
use Rattle.connections.proofs.EndsBy.{never_true}
use Rattle.connections.proofs.Grows.{uncalled_held}
use Rattle.connections.proofs.LeftThen.{then_each}

-- a working book has its journal in each image
all_begin : (book : Option SettledBookState) (reads : List ℕ) (images : List ℕ → Type 0) (journal : List Receipt) → IsSome book → IfSome book (λ settled. IsOpenOn settled reads images journal) → AllBegin journal images
all_begin None reads images journal some on = absurd cc
all_begin (Some settled) reads images journal some on = λ file image. record { journal = journal; stands = on.stands file image; begins = front_refl journal }

-- ---- what became of it

-- whatever became of a request that leaves what is held, it left that
left_held : (fate : Fate) (held : Held) (wanted : Answer) → wanted.held ≡ held → (answer_by fate held wanted).held ≡ held
left_held Answered held wanted same = same
left_held (Failed failure NotBegun) held wanted same = refl
left_held (Failed failure Stamped) held wanted same = ap (λ (h : Held). holding held.journal h.ticks) same
left_held (Failed failure Received) held wanted same = same

-- where the disk is not called, each fate writes nothing
writes_so : (calls : Bool) (came fate : Fate) (from to : List Receipt) (file new : List ℕ) → calls ≡ false → WritesBy calls came from to file new → WritesBy calls fate from to file new
writes_so false came fate from to file new uncalled writes = writes
writes_so true came fate from to file new uncalled writes = absurd cc

or_told : (b told : Bool) → told ≡ true → (b || told) ≡ true
or_told true told is = refl
or_told false told is = is

-- what became of a request that asks for this, which came to that fate or to another that its reply tells as well
record Became (held : Held) (body : List ℕ) (asked : Asked) (reply : ReplyParts) (HoldsNow : Held → Type 0) (came : Fate) : Type 0 where
  pub fate : Fate
  pub reply_is : reply ≡ (answer_by fate held (answer held body asked)).reply
  pub holds : HoldsNow (answer_by fate held (answer held body asked)).held
  pub apart : may_call_disk asked body ≡ false → is_apart fate ≡ true
  pub memory : may_lack_memory fate (answer held body asked).reply ≡ true
  pub tells : tells_of_file fate reply ≡ true → tells_of_file came reply ≡ true
  pub writes : (from to : List Receipt) (file new : List ℕ) → WritesBy (may_call_disk asked body) came from to file new → WritesBy (may_call_disk asked body) fate from to file new

-- where the disk is not called, its reply says what became of it
became : (held : Held) (body : List ℕ) (asked : Asked) (reply : ReplyParts) (HoldsNow : Held → Type 0) (fate : Fate) → may_lack_memory fate (answer held body asked).reply ≡ true → (may_call_disk asked body ≡ false → SaysAsked body asked reply)
    → reply ≡ (answer_by fate held (answer held body asked)).reply → HoldsNow (answer_by fate held (answer held body asked)).held → Became held body asked reply HoldsNow fate
became held body asked reply HoldsNow fate lacks_it says is holds = ⊎_elim
    (λ (calls : may_call_disk asked body ≡ true). record { fate = fate; reply_is = is; holds = holds; apart = λ uncalled. never_true (may_call_disk asked body) _ uncalled calls; memory = lacks_it; tells = λ told. told; writes = λ from to file new writes. writes })
    (λ (uncalled : may_call_disk asked body ≡ false).
    let same = uncalled_held held body asked uncalled in
    let left = left_held fate held (answer held body asked) same in ⊎_elim
    (λ as_asked. record { fate = Answered; reply_is = as_asked held; holds = subst HoldsNow (left ∙ sym same) holds; apart = λ again. refl; memory = refl; tells = λ told. or_told (lacks_words fate) (is_from_disk reply) told; writes = λ from to file new writes. writes_so (may_call_disk asked body) fate Answered from to file new uncalled writes })
    (λ lacks. record { fate = Failed OutOfMemory NotBegun; reply_is = lacks; holds = subst HoldsNow left holds; apart = λ again. refl; memory = refl; tells = λ told. or_told (lacks_words fate) (is_from_disk reply) told; writes = λ from to file new writes. writes_so (may_call_disk asked body) fate (Failed OutOfMemory NotBegun) from to file new uncalled writes })
    (says uncalled))
    (cases_Bool (may_call_disk asked body))

module _ {D : Type 0} (reads : D → List ℕ) (images : D → List ℕ → Type 0) (moment : D → ℕ) (since : D → ℕ → List ℕ → Type 0) (old new : D)
    (image : images old (reads old)) (counts : (t : ℕ) (c : List ℕ) → t ≤ moment new → images new c → since new t c) where
  -- what each image began with begins the journal that was held
  front_held : (front journal : List Receipt) → StandsForJournal (reads old) journal → AllBegin front (images old) → IsFront front journal
  front_held front journal stands all =
      let found = all (reads old) image in subst (IsFront front) (journal_once (reads old) found.journal journal found.stands stands) found.begins

  begins_by : (front from to : List Receipt) (file : List ℕ) → IsFront front from → GrownFrom from to file → Begins front file
  begins_by front from to file is grown = record { journal = grown.journal; stands = grown.stands; begins = front_trans front from grown.journal is grown.begins }

  pub answers : (request : RequestParts) (held : Held) (reply : ReplyParts) (at_hand : Option SettledBookState) (known : Option (List DayMinute)) (asked : Asked) → Asks request asked → (may_call_disk asked request.body ≡ false → (new ≡ old) × SaysAsked request.body asked reply)
      → StandsForJournal (reads old) held.journal → ends.EndsBy reads images moment since old new (may_call_disk asked request.body) held (answer held request.body asked) reply at_hand known
      → AnswersRequest reads images moment since old new request held reply (λ h. Holds at_hand (reads new) (images new) known h)
  answers request held reply at_hand known asked asks uncalled stands end =
      let is = became held request.body asked reply (λ h. Holds at_hand (reads new) (images new) known h) end.fate end.memory (λ none. (uncalled none).1) end.reply_is end.holds in
      record {
        wants = asked;
        fate = is.fate;
        asks = asks;
        reply_is = is.reply_is;
        holds = is.holds;
        uncalled = λ none. (uncalled none).0;
        apart = is.apart;
        memory = is.memory;
        left = end.left;
        written = is.writes held.journal (answer held request.body asked).held.journal (reads old) (reads new) end.written;
        kept = λ front all file now.
            ⊎_elim (λ before. all file before)
            (λ grown. begins_by front held.journal (answer held request.body asked).held.journal file (front_held front held.journal stands all) grown)
            (then_each images moment since old new (GrownFrom held.journal (answer held request.body asked).held.journal) counts end.left file now);
        told = λ tells. all_begin (working at_hand) (reads new) (images new) _ (end.works (is.tells tells)) is.holds.book;
      }
