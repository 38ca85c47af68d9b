-- A connection on which no count rose and which found memory has all replies, none of which says that anything failed.
use Rattle.std.proofs.Common.{◌≡◌, ◌⊎◌, inl, inr, ⊎_elim, ℕ, ◌+◌, Bool, true, false, List, [], ◌∷◌, ◌++◌, drop, length, take, Option, refl, sym, ◌∙◌, ap, subst, append-nil, arith}
use Rattle.std.proofs.lemmas.Bool.{cases_Bool}
use Rattle.std.specs.Io.KnownBytes.{Appends}
use Rattle.std.specs.List.{AllZip, list_all, list_any}
use Rattle.gb_outside.specs.Faults.{Counts, Rose}
use Rattle.intake.specs.Requests.{Held}
use Rattle.registry_http.specs.RequestParts.{RequestParts}
use Rattle.registry_http.specs.Requests.{AtFront}
use Rattle.connections.specs.Answers.{answer}
use Rattle.connections.specs.Asking.{Asks}
use Rattle.connections.specs.Completeness.{AreReplies, Completes}
use Rattle.connections.specs.Fates.{Answered, Failed}
use Rattle.connections.specs.Replies.{ReplyParts, bytes_of}
use Rattle.connections.specs.Served.{Connection, IsOfTurns, IsWhole, taken_of, written_by}
use Rattle.connections.specs.Serving.{ServesLink, TakesTurns, fate_of, is_answered, is_link_fault, lacks_memory}
use Rattle.connections.specs.Turns.{Turn, Taken, Request, Refusal, End, Answering, Refusing, IsOf, answer_in, is_owed, replies_in, turns}
use Rattle.connections.specs.declared.serving.Ended.{Ended}
use Rattle.connections.specs.declared.serving.Ended.TheVariants as ended
use Rattle.connections.specs.declared.serving.Served.{Served}
use Rattle.connections.proofs.ServedReplies.{all_refuse, all_served, some_tick}
use Rattle.connections.proofs.TakenTurns.{none_failed}

-- ---- the replies to turns that were answered as they ask

abbrev all_answered : List Taken → Bool
all_answered xs = list_all (λ turn. is_answered (fate_of turn)) xs

owes_none : (us : List Turn) (held : Held) → list_any is_owed us ≡ false → AreReplies held us []
owes_none [] held none = refl
owes_none (Request request ∷ us) held none = absurd cc
owes_none (Refusal reply ∷ us) held none = absurd cc
owes_none (End ∷ us) held none = owes_none us held none

replies_are : (held : Held) (us : List Turn) (xs : List Taken) → AllZip IsOf (take (length xs) us) xs → all_answered xs ≡ true → list_any is_owed (drop (length xs) us) ≡ false
    → AreReplies held us (replies_in held xs)
replies_are held us [] are answered none = owes_none us held none
replies_are held [] (x ∷ xs) are answered none = absurd are
replies_are held (End ∷ us) (x ∷ xs) are answered none = absurd are.0
replies_are held (Refusal reply ∷ us) (Answering request asked fate ∷ xs) are answered none = absurd are.0
replies_are held (Refusal reply ∷ us) (Refusing taken ∷ xs) are answered none =
    (replies_in held xs, ap (λ (r : ReplyParts). r ∷ replies_in held xs) are.0, replies_are held us xs are.1 answered none)
replies_are held (Request request ∷ us) (Refusing reply ∷ xs) are answered none = absurd are.0
replies_are held (Request request ∷ us) (Answering taken asked (Failed failure progress) ∷ xs) are answered none = absurd cc
replies_are held (Request request ∷ us) (Answering taken asked Answered ∷ xs) are answered none =
    subst (λ (r : RequestParts). AreReplies held (Request r ∷ us) (replies_in held (Answering taken asked Answered ∷ xs))) are.0.0
    (asked, subst (λ (r : RequestParts). Asks r asked) (sym are.0.0) are.0.1, replies_in (answer held taken.body asked).held xs, refl, replies_are (answer held taken.body asked).held us xs are.1 answered none)

-- ---- a connection

count_replies : (held : Held) (xs : List Taken) → length (replies_in held xs) ≡ length xs
count_replies held [] = refl
count_replies held (x ∷ xs) = let rest = count_replies (answer_in held x).held xs in omega (arith, rest)

add_none : (n : ℕ) → n + 0 ≡ n
add_none n = omega arith

-- a connection that is whole wrote the replies to its turns
whole_is : (held : Held) (us : List Turn) (c : Connection) → IsOfTurns held us c → IsWhole us c → c.closing ≡ [] → all_answered (taken_of c) ≡ true
    → AreReplies held us (replies_in held c.replied) × (written_by held c ≡ bytes_of (replies_in held c.replied))
whole_is held us c is whole none answered =
    let taken : taken_of c ≡ c.replied = ap (λ l. c.replied ++ l) whole.none_begun ∙ append-nil c.replied in (
      replies_are held us c.replied (subst (λ l. AllZip IsOf (take (length l) us) l) taken is.are) (subst (λ l. all_answered l ≡ true) taken answered) (whole.all none),
      ap (λ l. bytes_of (replies_in held c.replied) ++ l) (whole.written ∙ ap bytes_of none) ∙ append-nil (bytes_of (replies_in held c.replied)),
    )

module _ {D : Type 0} (reads : D → List ℕ) (images : D → List ℕ → Type 0) (moment : D → ℕ) (since : D → ℕ → List ℕ → Type 0) (faults : D → ℕ) (old new : D) (held : Held) (w0 w1 : Option (List ℕ))
    (left : ℕ) (requests : List RequestParts) (end : AtFront) (served : Served) (HoldsNow : Held → Type 0) where
  pub completes : (link_old link_new : ℕ) → ServesLink (TakesTurns reads images moment since faults) old new held w0 w1 (turns left requests end) served HoldsNow
      → Counts link_old link_new (is_link_fault served.ended) → (Rose (faults old) (faults new) → ⊥) → (Rose link_old link_new → ⊥) → Completes held w0 w1 (turns left requests end) served
  completes link_old link_new is counts quiet link_quiet = by served.ended refl
    where
      c : Connection
      c = is.became

      lacks : Bool
      lacks = list_any (λ turn. lacks_memory (fate_of turn)) (taken_of c)

      lacked : (list_any (λ turn. lacks_memory (fate_of turn)) (taken_of c) ≡ true) ⊎ ((c.closing ≡ [] → ⊥) ⊎ (served.ended ≡ ended.Memory)) → Completes held w0 w1 (turns left requests end) served
      lacked why = inr (record {
        became = c;
        of_turns = is.of_turns;
        written = is.written;
        lacked = why;
        disk = none_failed (faults old) (faults new) (taken_of c) is.disk.disk quiet;
        journal = is.disk.journal;
        sound = λ fault. link_quiet (counts.failed_rose (ap is_link_fault fault));
        whole = is.finished;
        unwritten = λ memory. (is.unwritten memory, is.unfinished (λ finished. let never : ended.Memory ≡ ended.Finished = sym memory ∙ finished in absurd cc));
      })

      by_closing : served.ended ≡ ended.Finished → lacks ≡ false → (closing : List ReplyParts) → c.closing ≡ closing → Completes held w0 w1 (turns left requests end) served
      by_closing finished found (reply ∷ replies) closes = lacked (inr (inl (λ none. let never : reply ∷ replies ≡ [] = sym closes ∙ none in absurd cc)))
      by_closing finished found [] closes =
          let whole = is.finished finished in
          let wrote = whole_is held (turns left requests end) c is.of_turns whole.0 closes (is.disk.answered quiet found) in
          inl (record {
            finished = finished;
            replies = replies_in held c.replied;
            are = wrote.0;
            written = subst (λ l. Appends w0 w1 l) wrote.1 is.written;
            counted = whole.1 ∙ ap (λ l. length c.replied + length l) closes ∙ add_none (length c.replied) ∙ sym (count_replies held c.replied);
            sound = λ some. all_served (turns left requests end) held (replies_in held c.replied) wrote.0 (all_refuse left requests end) (some_tick held.ticks some);
          })

      by : (e : Ended) → served.ended ≡ e → Completes held w0 w1 (turns left requests end) served
      by ended.LinkFault ends = absurd (link_quiet (counts.failed_rose (ap is_link_fault ends)))
      by ended.Memory ends = lacked (inr (inr ends))
      by ended.Finished ends = ⊎_elim
          (λ (some : lacks ≡ true). lacked (inl some))
          (λ (found : lacks ≡ false). by_closing ends found c.closing refl)
          (cases_Bool lacks)
