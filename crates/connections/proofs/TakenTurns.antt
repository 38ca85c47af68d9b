-- What turns do to the disk, one list of them after another.
use Rattle.std.proofs.Common.{◌≡◌, ⊎_elim, ℕ, ◌≤◌, ◌==◌, Bool, true, false, ◌||◌, List, [], ◌∷◌, ◌++◌, refl, sym, ◌∙◌, ap, subst}
use Rattle.std.proofs.Math.Nat.{le_trans}
use Rattle.std.proofs.lemmas.Bool.{cases_Bool, or_parts}
use Rattle.std.proofs.lemmas.List.Folds.{list_any-append}
use Rattle.std.specs.List.{list_all, list_any}
use Rattle.gb_outside.specs.Faults.{Counts, Rose}
use Rattle.intake.specs.Grown.{GrownFrom}
use Rattle.intake.specs.Requests.{Held}
use Rattle.receipt_journal.specs.Standing.{StandsForJournal}
use Rattle.registry_http.specs.RequestParts.{RequestParts}
use Rattle.connections.specs.Answering.{AnswersRequest, is_from_disk, tells_of_file}
use Rattle.connections.specs.Answers.{answer}
use Rattle.connections.specs.Fates.{Fate, Answered, Failed, DiskFailed, NoJournal, OutOfMemory, answer_by, has_disk_failed}
use Rattle.connections.specs.Holding.{IsNoJournal}
use Rattle.connections.specs.Replies.{ReplyParts}
use Rattle.connections.specs.Served.{IsLeftIn}
use Rattle.connections.specs.Serving as serving
use Rattle.connections.specs.Serving.{CountsTurns, fate_of, is_answered, lacks_journal, lacks_memory}
use Rattle.connections.specs.Turns.{Taken, Answering, Refusing, calls_disk, held_after}
use Rattle.connections.proofs.ByDiskAlone.{counts_still}
use Rattle.connections.proofs.DiskReplies.{disk_by_reply, journal_by_reply}
use Rattle.connections.proofs.EndsBy.{not_from_disk}
use Rattle.connections.proofs.GrownWrites.{writes_more}
use Rattle.connections.proofs.LeftThen.{then_more, then_still, then_weakened}
use Rattle.connections.proofs.LinkEnds.{TurnTaken}
use Rattle.connections.proofs.TurnLists.{lack_more, left_first, left_later, left_one, told_more, told_still}

-- ---- counts

pub counts_both : (a b c : ℕ) (x y : Bool) → Counts a b x → Counts b c y → Counts a c (x || y)
counts_both a b c false y first second = subst (λ n. Counts n c y) (first.else_same refl) second
counts_both a b c true y first second = record {
  never_falls = le_trans first.never_falls second.never_falls;
  failed_rose = λ failed. le_trans (first.failed_rose refl) second.never_falls;
  else_same = λ sound. absurd cc;
}

-- ---- fates

answered_if : (fate : Fate) → has_disk_failed fate ≡ false → lacks_journal fate ≡ false → lacks_memory fate ≡ false → is_answered fate ≡ true
answered_if Answered disk journal memory = refl
answered_if (Failed DiskFailed progress) disk journal memory = absurd cc
answered_if (Failed NoJournal progress) disk journal memory = absurd cc
answered_if (Failed OutOfMemory progress) disk journal memory = absurd cc

abbrev pub is_disk : Taken → Bool
is_disk turn = has_disk_failed (fate_of turn)

abbrev is_journal : Taken → Bool
is_journal turn = lacks_journal (fate_of turn)

abbrev is_memory : Taken → Bool
is_memory turn = lacks_memory (fate_of turn)

-- one list of turns after another
pub counts_more : (a b c : ℕ) (xs ys : List Taken) → CountsTurns a xs b → CountsTurns b ys c → CountsTurns a (xs ++ ys) c
counts_more a b c [] ys first second = subst (λ n. CountsTurns n ys c) first second
counts_more a b c (x ∷ xs) ys first second = (first.0, first.1, counts_more first.0 b c xs ys first.2 second)

-- the disk stays where it is called in none
pub stays_more : {D : Type 0} (old mid new : D) (xs ys : List Taken) → (list_any calls_disk xs ≡ false → mid ≡ old) → (list_any calls_disk ys ≡ false → new ≡ mid) → list_any calls_disk (xs ++ ys) ≡ false → new ≡ old
stays_more old mid new xs ys first second none = let parts = or_parts _ _ (sym (list_any-append calls_disk xs ys) ∙ none) in second parts.1 ∙ first parts.0

-- of one turn
pub stays_one : {D : Type 0} (old new : D) (turn : Taken) → (calls_disk turn ≡ false → new ≡ old) → list_any calls_disk (turn ∷ []) ≡ false → new ≡ old
stays_one old new turn stays none = let parts = or_parts (calls_disk turn) false none in stays parts.0

-- over all of them the count rose just where it did in one
counts_any : (before now : ℕ) (xs : List Taken) → CountsTurns before xs now → Counts before now (list_any is_disk xs)
counts_any before now [] same = subst (λ n. Counts before n false) (sym same) (counts_still before)
counts_any before now (x ∷ xs) counts = counts_both before counts.0 now (is_disk x) (list_any is_disk xs) counts.1 (counts_any counts.0 now xs counts.2)

-- it did not rise, so the disk failed in none
pub none_failed : (before now : ℕ) (xs : List Taken) → CountsTurns before xs now → (Rose before now → ⊥) → list_any is_disk xs ≡ false
none_failed before now xs counts quiet = ⊎_elim
    (λ (failed : list_any is_disk xs ≡ true). absurd (quiet ((counts_any before now xs counts).failed_rose failed)))
    (λ (sound : list_any is_disk xs ≡ false). sound) (cases_Bool (list_any is_disk xs))

all_answered : (xs : List Taken) → list_any is_disk xs ≡ false → list_any is_journal xs ≡ false → list_any is_memory xs ≡ false → list_all (λ turn. is_answered (fate_of turn)) xs ≡ true
all_answered [] disk journal memory = refl
all_answered (x ∷ xs) disk journal memory =
    let d = or_parts _ _ disk in
    let j = or_parts _ _ journal in
    let m = or_parts _ _ memory in
    rw (answered_if (fate_of x) d.0 j.0 m.0) (all_answered xs d.1 j.1 m.1)

answered_by : (before now : ℕ) (xs : List Taken) → CountsTurns before xs now → list_any is_journal xs ≡ false → (Rose before now → ⊥) → list_any is_memory xs ≡ false
    → list_all (λ turn. is_answered (fate_of turn)) xs ≡ true
answered_by before now xs counts journal quiet memory = all_answered xs (none_failed before now xs counts quiet) journal memory

-- ---- turns

module _ {D : Type 0} (reads : D → List ℕ) (images : D → List ℕ → Type 0) (moment : D → ℕ) (since : D → ℕ → List ℕ → Type 0) (faults : D → ℕ) where
  abbrev pub Takes : D → D → Held → List Taken → Type 0
  Takes old new held xs = serving.TakesTurns reads images moment since faults old new held xs

  pub takes_none : (disk : D) (held : Held) → ((file : List ℕ) → since disk (moment disk) file → images disk file) → Takes disk disk held []
  takes_none disk held only_now = record {
    left = then_still images moment since disk (IsLeftIn held []) only_now;
    written = refl;
    kept = λ front all. all;
    told = tt;
    stays = λ none. refl;
    disk = refl;
    journal = refl;
    memory = tt;
    answered = λ quiet memory. refl;
  }

  pub takes_refusal : (disk : D) (held : Held) (reply : ReplyParts) → is_from_disk reply ≡ false → ((file : List ℕ) → since disk (moment disk) file → images disk file) → Takes disk disk held (Refusing reply ∷ [])
  takes_refusal disk held reply silent only_now = record {
    left = then_still images moment since disk (IsLeftIn held (Refusing reply ∷ [])) only_now;
    written = (reads disk, refl, refl);
    kept = λ front all. all;
    told = (λ from_disk. not_from_disk reply _ silent from_disk, tt);
    stays = λ none. refl;
    disk = (faults disk, counts_still (faults disk), refl);
    journal = refl;
    memory = (refl, tt);
    answered = λ quiet memory. refl;
  }

  pub takes_one : (old new : D) (request : RequestParts) (held : Held) (reply : ReplyParts) (HoldsNow : Held → Type 0) (is : AnswersRequest reads images moment since old new request held reply HoldsNow)
      → StandsForJournal (reads old) held.journal → (reply.status ≡ 500 → IsNoJournal (reads old)) → Counts (faults old) (faults new) (reply.status == 503)
      → Takes old new held (Answering request is.wants is.fate ∷ [])
  takes_one old new request held reply HoldsNow is stands none counts =
      let status : (answer_by is.fate held (answer held request.body is.wants)).reply.status ≡ reply.status = sym (ap (λ (r : ReplyParts). r.status) is.reply_is) in
      let failed : (reply.status == 503) ≡ has_disk_failed is.fate = ap (λ n. n == 503) (sym status) ∙ disk_by_reply held request.body is.wants is.fate in
      let rose : CountsTurns (faults old) (Answering request is.wants is.fate ∷ []) (faults new) = (faults new, subst (λ b. Counts (faults old) (faults new) b) failed counts, refl) in
      let found : list_any is_journal (Answering request is.wants is.fate ∷ []) ≡ false =
      sym (or_none (lacks_journal is.fate)) ∙ journal_by_reply (reads old) held.journal held request.body is.wants is.fate stands (λ is500. none (sym status ∙ is500)) in record {
        left = then_weakened images moment since old new (GrownFrom held.journal (answer held request.body is.wants).held.journal) (IsLeftIn held (Answering request is.wants is.fate ∷ []))
            (λ file grown. left_one held request is.wants is.fate file grown) is.left;
        written = (reads new, is.written, refl);
        kept = is.kept;
        told = (λ from_disk. is.told (ap (λ (r : ReplyParts). tells_of_file is.fate r) is.reply_is ∙ from_disk), tt);
        stays = stays_one old new (Answering request is.wants is.fate) is.uncalled;
        disk = rose;
        journal = found;
        memory = (is.memory, tt);
        answered = λ quiet memory. answered_by _ _ (Answering request is.wants is.fate ∷ []) rose found quiet memory;
      }
    where
      or_none : (b : Bool) → b ≡ (b || false)
      or_none true = refl
      or_none false = refl

  pub takes_then : (old mid new : D) (held : Held) (xs ys : List Taken) → ((t : ℕ) (c : List ℕ) → t ≤ moment mid → images mid c → since mid t c)
      → Takes old mid held xs → Takes mid new (held_after held xs) ys → Takes old new held (xs ++ ys)
  takes_then old mid new held xs ys counts first second =
      let P : List ℕ → Type 0 = IsLeftIn held (xs ++ ys) in
      let before = then_weakened images moment since old mid (IsLeftIn held xs) P (λ file left. left_first held xs ys file left) first.left in
      let after = then_weakened images moment since mid new (IsLeftIn (held_after held xs) ys) P (λ file left. left_later held xs ys file left) second.left in
      let rose : CountsTurns (faults old) (xs ++ ys) (faults new) = counts_more (faults old) (faults mid) (faults new) xs ys first.disk second.disk in
      let found : list_any is_journal (xs ++ ys) ≡ false = list_any-append is_journal xs ys ∙ ap (λ b. b || list_any is_journal ys) first.journal ∙ second.journal in record {
        left = then_more images moment since old mid new P counts before after;
        written = writes_more held xs ys (reads old) (reads mid) (reads new) first.written second.written;
        kept = λ front all. second.kept front (first.kept front all);
        told = told_more (images new) held xs ys (told_still (images mid) (images new) held xs second.kept first.told) second.told;
        stays = stays_more old mid new xs ys first.stays second.stays;
        disk = rose;
        journal = found;
        memory = lack_more held xs ys first.memory second.memory;
        answered = λ quiet memory. answered_by _ _ (xs ++ ys) rose found quiet memory;
      }

  pub turn_taken : (old new : D) (request : RequestParts) (held : Held) (reply : ReplyParts) (HoldsNow : Held → Type 0) (is : AnswersRequest reads images moment since old new request held reply HoldsNow)
      → StandsForJournal (reads old) held.journal → (reply.status ≡ 500 → IsNoJournal (reads old)) → Counts (faults old) (faults new) (reply.status == 503)
      → TurnTaken Takes old new held request reply HoldsNow
  turn_taken old new request held reply HoldsNow is stands none counts = record {
    wants = is.wants;
    fate = is.fate;
    is = (refl, is.asks, is.apart);
    reply_is = is.reply_is;
    holds = is.holds;
    takes = takes_one old new request held reply HoldsNow is stands none counts;
  }
