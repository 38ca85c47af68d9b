-- How a request ends that takes the book: it was not opened, or a text was read of it.
use Rattle.std.proofs.Common.{◌≡◌, inr, ℕ, ◌==◌, true, false, List, Option, Some, None, Result, Ok, Err, IfOk, OnErr, OnOk, IsSomeAnd, IsTrue, option_map, sym, ◌∙◌, ap, subst}
use Rattle.gb_base.specs.DayMinute.{DayMinute}
use Rattle.act_model.specs.declared.receipts.Receipt.{Receipt}
use Rattle.intake.specs.Grown.{IsDurable, IsFront}
use Rattle.intake.specs.Requests.{Held}
use Rattle.intake.proofs.Durable.{front_refl}
use Rattle.receipt_journal.specs.BookState.{BookState}
use Rattle.receipt_journal.specs.declared.faults.BookFault.{BookFault}
use Rattle.registrar.specs.HasSettled.{IsRegisterOf}
use Rattle.registry_http.specs.declared.routes.Route.{Route}
use Rattle.settled_book.specs.SettledBookState.{SettledBookState}
use Rattle.settled_book.specs.Texts.{reads_register, text_of}
use Rattle.connections.specs.Answering.{is_failed, is_text_status}
use Rattle.connections.specs.Answers.{Answer, only, read_reply, text_reply}
use Rattle.connections.specs.Fates.{OutOfMemory}
use Rattle.connections.specs.Holding.{IsAllSettled, IsOpenOn}
use Rattle.connections.specs.Replies.{ReplyParts, is_reply_status, out_of_memory}
use Rattle.connections.specs.inner.Ends as ends
use Rattle.connections.specs.inner.Taking.{Finds, failure_of, opening_reply}
use Rattle.connections.proofs.EndsBy.{ends_failed, ends_only}
use Rattle.connections.proofs.GrownWrites.{opened_by, writes_unbegun}
use Rattle.connections.proofs.ItemEnds.{holds_open, some_works}
use Rattle.connections.proofs.ByDiskAlone.{HasStatus, failed_so}

-- a book that reads a text stays on the disk as it is
same_book : (settled before : SettledBookState) (reads : List ℕ) (images : List ℕ → Type 0) (journal : List Receipt) → settled.book ≡ before.book → IsOpenOn before reads images journal → IsOpenOn settled reads images journal
same_book settled before reads images journal same on = record {
  journal_is = ap (λ (b : BookState). b.journal) same ∙ on.journal_is;
  durable = subst (λ (b : BookState). IsDurable b reads images) (sym same) on.durable;
  stands = on.stands;
}

-- ---- the reply to a read

pub read_status : {V E : Type 0} (items : V → List ℕ) (text : Result (Option V) E) (reply : ReplyParts) → IfOk text (λ found. reply ≡ text_reply (option_map items found)) → OnErr text (reply ≡ out_of_memory) → HasStatus reply false
read_status items (Ok (Some v)) reply found fault = record { disk = ap (λ (r : ReplyParts). r.status == 503) found; no_journal = ap (λ (r : ReplyParts). r.status == 500) found; known = ap (λ (r : ReplyParts). is_reply_status r.status) found }
read_status items (Ok None) reply found fault = record { disk = ap (λ (r : ReplyParts). r.status == 503) found; no_journal = ap (λ (r : ReplyParts). r.status == 500) found; known = ap (λ (r : ReplyParts). is_reply_status r.status) found }
read_status items (Err e) reply found fault = record { disk = ap (λ (r : ReplyParts). r.status == 503) fault; no_journal = ap (λ (r : ReplyParts). r.status == 500) fault; known = ap (λ (r : ReplyParts). is_reply_status r.status) fault }

pub text_status : {V E : Type 0} (items : V → List ℕ) (text : Result (Option V) E) (reply : ReplyParts) → IfOk text (λ found. reply ≡ text_reply (option_map items found)) → OnErr text (reply ≡ out_of_memory) → is_text_status reply ≡ true
text_status items (Ok (Some v)) reply found fault = ap is_text_status found
text_status items (Ok None) reply found fault = ap is_text_status found
text_status items (Err e) reply found fault = ap is_text_status fault

-- after a text was read all is settled
pub read_settled : {V E : Type 0} (asked : Route) (before settled : SettledBookState) (text : Result (Option V) E) (reply : ReplyParts) → settled.book ≡ before.book
    → OnOk text (IsTrue (reads_register asked) → IsSomeAnd settled.register (IsRegisterOf before.book.journal)) → OnErr text (reply ≡ out_of_memory) → reads_register asked ≡ true → is_failed reply ≡ false → IsAllSettled (Some settled)
read_settled asked before settled (Ok found) reply same is fault reads sound = subst (λ (b : BookState). IsSomeAnd settled.register (IsRegisterOf b.journal)) (sym same) (is reads)
read_settled asked before settled (Err e) reply same is fault reads sound = failed_so reply _ (OutOfMemory, fault) sound

module _ {D : Type 0} (reads : D → List ℕ) (images : D → List ℕ → Type 0) (moment : D → ℕ) (since : D → ℕ → List ℕ → Type 0) (old new : D) (held : Held) (known : Option (List DayMinute)) (clock : known ≡ Some held.ticks) where
  pub ends_unopened : (wanted : Answer) (f : BookFault) (reply : ReplyParts) (at_hand : Option SettledBookState) → reply ≡ opening_reply f → at_hand ≡ None
      → Finds reads images moment since old new held.journal (Err f) → IsFront held.journal wanted.held.journal
      → ends.EndsBy reads images moment since old new true held wanted reply at_hand known
  ends_unopened wanted f reply at_hand is empty finds front =
      subst (λ (o : Option SettledBookState). ends.EndsBy reads images moment since old new true held wanted reply o known) (sym empty)
      (ends_failed reads images moment since old new true held wanted (failure_of f) reply None known is (record { file = finds.file; clock = clock; book = tt }) finds.left
      (writes_unbegun (failure_of f) held.journal wanted.held.journal (reads old) (reads new) finds.written) front)

  pub ends_read : {V E : Type 0} (items : V → List ℕ) (route : Route) (before settled : SettledBookState) (text : Result (Option V) E) (reply : ReplyParts) → images new (reads new)
      → Finds reads images moment since old new held.journal (Ok before) → before.book.log.failed ≡ false → settled.book ≡ before.book
      → IfOk text (λ found. option_map items found ≡ text_of before.book.journal route)
      → IfOk text (λ found. reply ≡ text_reply (option_map items found)) → OnErr text (reply ≡ out_of_memory)
      → ends.EndsBy reads images moment since old new true held (only held (read_reply held.journal route)) reply (Some settled) known
  ends_read items route before settled (Ok found) reply image finds works same read replied fault =
      let on = same_book settled before (reads new) (images new) held.journal same finds.there in
      let is : reply ≡ read_reply held.journal route = replied ∙ ap text_reply read ∙ ap (λ (j : List Receipt). read_reply j route) finds.there.journal_is in
      subst (λ r. ends.EndsBy reads images moment since old new true held (only held r) reply (Some settled) known) is
      (ends_only reads images moment since old new true held reply (Some settled) known (holds_open settled (reads new) (images new) known held image clock on) finds.left finds.written
      (λ tells. some_works settled (ap (λ (b : BookState). b.log.failed) same ∙ works)))
  ends_read items route before settled (Err e) reply image finds works same read replied fault =
      let on = same_book settled before (reads new) (images new) held.journal same finds.there in
      ends_failed reads images moment since old new true held (only held (read_reply held.journal route)) OutOfMemory reply (Some settled) known fault
      (holds_open settled (reads new) (images new) known held image clock on) finds.left (inr (opened_by held.journal (reads old) (reads new) finds.written)) (front_refl held.journal)
