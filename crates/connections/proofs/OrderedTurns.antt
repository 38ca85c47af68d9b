-- In which order a link is read and written, turn by turn.
use Rattle.std.proofs.Common.{◌≡◌, ◌⊎◌, ⊎_elim, inl, inr, ℕ, ◌+◌, ◌<◌, false, List, [], ◌∷◌, ◌++◌, length, Option, Some, None, refl, sym, ◌∙◌, ap, subst, arith, length-append}
use Rattle.gb_outside.specs.Faults.{Counts}
use Rattle.registry_http.specs.RequestParts.{RequestParts}
use Rattle.registry_http.specs.Requests.{ReadsNext}
use Rattle.registry_http.specs.declared.requests.Next.{Next}
use Rattle.registry_http.specs.declared.requests.Next.TheVariants as next
use Rattle.connections.specs.LinkOrder.{EndsTurn, RepliesLast, ServesInOrder, Stage, TurnsInOrder, TurnsLast, TurnsOnce, WritesLast, served_so, stage}
use Rattle.connections.specs.Replies.{ReplyParts}
use Rattle.connections.specs.Serving.{is_link_fault}
use Rattle.connections.specs.declared.serving.Ended.TheVariants as ended
use Rattle.connections.specs.declared.serving.Served.{Served}
use Rattle.connections.specs.inner.Rounds.{AnswersNext, TurnsNext}

pub replies_last : {L : Type 0} (left written : L → Option (List ℕ)) (faults : L → ℕ) (reply : ReplyParts) (old new : L) (last : Served) → WritesLast (written old) (written new) reply last → left new ≡ left old → Counts (faults old) (faults new) (is_link_fault last.ended)
    → RepliesLast left written faults reply old new last
replies_last left written faults reply old new last wrote unread failed = record { unread = unread; wrote = wrote; failed = failed }

module _ {L T : Type 0} (left written : L → Option (List ℕ)) (faults : L → ℕ) (Answers : RequestParts → ReplyParts → T → T → Type 0) where
  -- ---- one turn

  pub next_of_request : (link read now : L) (old new : T) (kept behind : List ℕ) (request : RequestParts) (result : Option Served) → ReadsNext (left link) (left read) kept behind (next.Request request) → written read ≡ written link
      → Counts (faults link) (faults read) false → AnswersNext left written faults Answers request (stage read old) (stage now new) result
      → TurnsNext left written faults Answers (stage link old) kept (stage now new) behind result
  next_of_request link read now old new kept behind request None reads unwritten quiet answers = (
    answers.0,
    record {
      read = read;
      request = request;
      reads = reads;
      more = answers.2.more;
      unwritten = unwritten;
      answered = answers.1;
      unread = answers.2.unread;
      replied = answers.2.replied;
      quiet = (quiet.else_same refl, answers.2.quiet);
    },
  )
  next_of_request link read now old new kept behind request (Some last) reads unwritten quiet answers = record { read = read; answer = next.Request request; behind = behind; reads = reads; unwritten = unwritten; failed = quiet; ends = answers }

  -- at the end of a link nothing is done
  pub quiet_end : (read : L) (tools : T) (answer : Next) → (answer ≡ next.End) ⊎ (answer ≡ next.Cut) → EndsTurn left written faults Answers answer (stage read tools) (stage read tools) (served_so 0 ended.Finished)
  quiet_end read tools answer (inl is) = subst (λ (a : Next). EndsTurn left written faults Answers a (stage read tools) (stage read tools) (served_so 0 ended.Finished)) (sym is) (refl, refl)
  quiet_end read tools answer (inr is) = subst (λ (a : Next). EndsTurn left written faults Answers a (stage read tools) (stage read tools) (served_so 0 ended.Finished)) (sym is) (refl, refl)

  -- a reply that closes the link
  pub closes_by : (read now : L) (tools : T) (fixed given : ReplyParts) (last : Served) → given ≡ fixed → RepliesLast left written faults given read now last → RepliesLast left written faults fixed read now last × (tools ≡ tools)
  closes_by read now tools fixed given last is replies = (subst (λ (r : ReplyParts). RepliesLast left written faults r read now last) is replies, refl)

  -- ---- all turns

  turns_more : (old mid now : Stage L T) (kept kept_mid behind : List ℕ) (replies : List ReplyParts) (reply : ReplyParts) → TurnsInOrder left written faults Answers old kept replies mid kept_mid → TurnsOnce left written faults Answers mid kept_mid reply now behind
      → TurnsInOrder left written faults Answers old kept (replies ++ reply ∷ []) now behind
  turns_more old mid now kept kept_mid behind [] reply done turn = (
    now,
    behind,
    subst (λ (s : Stage L T). TurnsOnce left written faults Answers s kept reply now behind) done.0 (subst (λ (k : List ℕ). TurnsOnce left written faults Answers mid k reply now behind) done.1 turn),
    (refl, refl),
  )
  turns_more old mid now kept kept_mid behind (r ∷ replies) reply done turn = (done.0, done.1, done.2, turns_more done.0 mid now done.1 kept_mid behind replies reply done.3 turn)

  -- So many turns were taken in order.
  pub record WentInOrder (old now : Stage L T) (behind : List ℕ) (count : ℕ) : Type 0 where
    pub replies : List ReplyParts
    pub turns : TurnsInOrder left written faults Answers old [] replies now behind
    pub counted : length replies ≡ count

  pub order_none : (at : Stage L T) (kept : List ℕ) → kept ≡ [] → WentInOrder at at kept 0
  order_none at kept none = record { replies = []; turns = (refl, none); counted = refl }

  pub order_on : (old mid now : Stage L T) (kept behind : List ℕ) (count : ℕ) → WentInOrder old mid kept count → TurnsNext left written faults Answers mid kept now behind None → WentInOrder old now behind (count + 1)
  order_on old mid now kept behind count went turn = record {
    replies = went.replies ++ turn.0 ∷ [];
    turns = turns_more old mid now [] kept behind went.replies turn.0 went.turns turn.1;
    counted = omega (arith, went.counted, length-append went.replies (turn.0 ∷ []));
  }

  pub order_end : (most : ℕ) (old mid new : Stage L T) (kept : List ℕ) (count : ℕ) (last all : Served) → WentInOrder old mid kept count → TurnsLast left written faults Answers mid kept new last → count < most → all ≡ served_so (count + last.replies) last.ended
      → ServesInOrder left written faults Answers most old new all
  order_end most old mid new kept count last all went turn less is = record {
    replies = went.replies;
    mid = mid;
    kept = kept;
    turns = went.turns;
    ends = inr (record { fewer = omega (arith, went.counted, less); last = last; turn = turn; is = is ∙ ap (λ n. served_so (n + last.replies) last.ended) (sym went.counted) });
  }

  pub order_out : (most : ℕ) (old now : Stage L T) (kept : List ℕ) (count : ℕ) (all : Served) → WentInOrder old now kept count → count ≡ most → all ≡ served_so count ended.Finished → ServesInOrder left written faults Answers most old now all
  order_out most old now kept count all went whole is = record {
    replies = went.replies;
    mid = now;
    kept = kept;
    turns = went.turns;
    ends = inl (record { all = went.counted ∙ whole; untouched = refl; is = is ∙ ap (λ n. served_so n ended.Finished) whole });
  }

  -- ---- what each turn keeps

  module _ (Keeps : T → T → Type 0) (still : (t : T) → Keeps t t) (joins : (a b c : T) → Keeps a b → Keeps b c → Keeps a c)
      (answering : (request : RequestParts) (reply : ReplyParts) (a b : T) → Answers request reply a b → Keeps a b) where
    same_keeps : (a b : T) → b ≡ a → Keeps a b
    same_keeps a b same = subst (λ (t : T). Keeps a t) (sym same) (still a)

    turns_keep : (old now : Stage L T) (kept behind : List ℕ) (replies : List ReplyParts) → TurnsInOrder left written faults Answers old kept replies now behind → Keeps old.tools now.tools
    turns_keep old now kept behind [] done = same_keeps old.tools now.tools (ap (λ (s : Stage L T). s.tools) done.0)
    turns_keep old now kept behind (r ∷ replies) done =
        joins old.tools done.0.tools now.tools (answering done.2.request r old.tools done.0.tools done.2.answered) (turns_keep done.0 now done.1 behind replies done.3)

    end_keeps : (answer : Next) (old new : Stage L T) (last : Served) → EndsTurn left written faults Answers answer old new last → Keeps old.tools new.tools
    end_keeps (next.Request request) old new last ends = answering request ends.reply old.tools new.tools ends.answered
    end_keeps next.HeadFault old new last ends = same_keeps old.tools new.tools ends.1
    end_keeps next.BodyTooLong old new last ends = same_keeps old.tools new.tools ends.1
    end_keeps next.Memory old new last ends = same_keeps old.tools new.tools ends.1
    end_keeps next.End old new last ends = same_keeps old.tools new.tools (ap (λ (s : Stage L T). s.tools) ends.0)
    end_keeps next.Cut old new last ends = same_keeps old.tools new.tools (ap (λ (s : Stage L T). s.tools) ends.0)
    end_keeps next.LinkFault old new last ends = same_keeps old.tools new.tools (ap (λ (s : Stage L T). s.tools) ends.0)

    -- what each answer keeps a connection keeps that was served in order
    pub order_keeps : (most : ℕ) (old new : Stage L T) (served : Served) → ServesInOrder left written faults Answers most old new served → Keeps old.tools new.tools
    order_keeps most old new served order =
        let first = turns_keep old order.mid [] order.kept order.replies order.turns in ⊎_elim
        (λ all. subst (λ (s : Stage L T). Keeps old.tools s.tools) (sym all.untouched) first)
        (λ before. joins old.tools order.mid.tools new.tools first (end_keeps before.turn.answer (stage before.turn.read order.mid.tools) new before.last before.turn.ends))
        order.ends
