-- What turns do to a disk whose file stands for no journal, one list of them after another.
use Rattle.std.proofs.Common.{◌≡◌, ⊎_elim, ℕ, ◌==◌, true, false, List, [], ◌∷◌, ◌++◌, refl, ◌∙◌, ap, subst}
use Rattle.std.proofs.lemmas.Bool.{cases_Bool}
use Rattle.std.proofs.lemmas.List.Elements.{All-append, All-cons, All-nil}
use Rattle.gb_outside.specs.Faults.{Counts}
use Rattle.intake.specs.Requests.{Held}
use Rattle.registry_http.specs.RequestParts.{RequestParts}
use Rattle.connections.specs.Answering.{AnswersNone, may_call_disk}
use Rattle.connections.specs.Answers.{answer}
use Rattle.connections.specs.Fates.{Fate, Answered, Failed, NotBegun, OutOfMemory, answer_by, is_apart}
use Rattle.connections.specs.Replies.{ReplyParts}
use Rattle.connections.specs.Serving as serving
use Rattle.connections.specs.Serving.{FailsUnbegun}
use Rattle.connections.specs.Turns.{Taken, Answering, Refusing, held_after}
use Rattle.connections.proofs.ByDiskAlone.{counts_still}
use Rattle.connections.proofs.DiskReplies.{disk_by_reply}
use Rattle.connections.proofs.EndsBy.{never_true}
use Rattle.connections.proofs.Grows.{uncalled_held}
use Rattle.connections.proofs.LinkEnds.{TurnTaken}
use Rattle.connections.proofs.TakenTurns.{counts_more, stays_more, stays_one}

module _ {D : Type 0} (faults : D → ℕ) where
  abbrev pub Takes : D → D → Held → List Taken → Type 0
  Takes old new held xs = serving.TakesNone faults old new held xs

  pub none_taken : (disk : D) (held : Held) → Takes disk disk held []
  none_taken disk held = record { failed = All-nil FailsUnbegun; stays = λ none. refl; disk = refl }

  pub none_refused : (disk : D) (held : Held) (reply : ReplyParts) → Takes disk disk held (Refusing reply ∷ [])
  none_refused disk held reply = record { failed = All-cons FailsUnbegun (Refusing reply) [] tt (All-nil FailsUnbegun); stays = λ none. refl; disk = (faults disk, counts_still (faults disk), refl) }

  pub none_joined : (old mid new : D) (held : Held) (xs ys : List Taken) → Takes old mid held xs → Takes mid new (held_after held xs) ys → Takes old new held (xs ++ ys)
  none_joined old mid new held xs ys first second = record {
    failed = All-append FailsUnbegun xs ys first.failed second.failed;
    stays = stays_more old mid new xs ys first.stays second.stays;
    disk = counts_more (faults old) (faults mid) (faults new) xs ys first.disk second.disk;
  }

  module _ (old new : D) (held : Held) (request : RequestParts) (reply : ReplyParts) (counts : Counts (faults old) (faults new) (reply.status == 503)) where
    -- of this fate
    taken_so : (HoldsNow : Held → Type 0) (none : AnswersNone old new request reply) (fate : Fate) → reply ≡ (answer_by fate held (answer held request.body none.wants)).reply
        → (may_call_disk none.wants request.body ≡ false → is_apart fate ≡ true) → FailsUnbegun (Answering request none.wants fate)
        → HoldsNow (answer_by fate held (answer held request.body none.wants)).held → TurnTaken Takes old new held request reply HoldsNow
    taken_so HoldsNow none fate reply_is apart fails holds = record {
      wants = none.wants;
      fate = fate;
      is = (refl, none.asks, apart);
      reply_is = reply_is;
      holds = holds;
      takes = record {
        failed = All-cons FailsUnbegun (Answering request none.wants fate) [] fails (All-nil FailsUnbegun);
        stays = stays_one old new (Answering request none.wants fate) (λ uncalled. (none.uncalled uncalled).0);
        disk = (faults new, subst (λ b. Counts (faults old) (faults new) b) (ap (λ (r : ReplyParts). r.status == 503) reply_is ∙ disk_by_reply held request.body none.wants fate) counts, refl);
      };
    }

    pub turn_none : (all : Held) → held ≡ all → AnswersNone old new request reply → TurnTaken Takes old new held request reply (λ h. h ≡ all)
    turn_none all same none = ⊎_elim
        (λ (calls : may_call_disk none.wants request.body ≡ true).
        let failure = none.failed calls in
        taken_so (λ h. h ≡ all) none (Failed failure.0 NotBegun) failure.1 (λ uncalled. never_true (may_call_disk none.wants request.body) _ uncalled calls) (λ again. (failure.0, refl)) same)
        (λ (uncalled : may_call_disk none.wants request.body ≡ false). ⊎_elim
        (λ is. taken_so (λ h. h ≡ all) none Answered (is held) (λ again. refl) (λ calls. never_true (may_call_disk none.wants request.body) _ uncalled calls)
        (uncalled_held held request.body none.wants uncalled ∙ same))
        (λ is. taken_so (λ h. h ≡ all) none (Failed OutOfMemory NotBegun) is (λ again. refl) (λ calls. never_true (may_call_disk none.wants request.body) _ uncalled calls) same)
        (none.uncalled uncalled).1)
        (cases_Bool (may_call_disk none.wants request.body))
