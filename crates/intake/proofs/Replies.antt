-- Requests that are answered, one list after the other.
use Rattle.std.proofs.Common.{◌≡◌, ℕ, true, false, cond, List, [], ◌∷◌, ◌++◌, refl, sym, ap, ◌∙◌, subst, append_assoc, append-nil, Option, Some, None}
use Rattle.std.specs.Io.KnownBytes.{Appends}
use Rattle.std.proofs.KnownBytes.{Appends-nil, Appends-trans}
use Rattle.gb_base.specs.DayMinute.{DayMinute}
use Rattle.gb_outside.specs.Bytes.{AppendsFront}
use Rattle.gb_outside.proofs.Moments.{followed, weakened, started}
use Rattle.act_model.specs.declared.items.Item.{Item}
use Rattle.act_model.specs.declared.receipts.Receipt.{Receipt}
use Rattle.act_model.specs.Receiving.{next_receipt}
use Rattle.receipt_journal.specs.Receiving.{is_received, journal_after}
use Rattle.receipt_journal.specs.Standing.{StandsForJournal}
use Rattle.receipt_journal.specs.declared.received.Received.{Received}
use Rattle.intake.specs.Grown.{IsFront, GrownFrom, DiskGrows}
use Rattle.intake.specs.Requests.{Medium, Held, received, replied_by_clock, reply_of, replies, held_after}
use Rattle.intake_requests.specs.declared.requests.Request.{Request}
use Rattle.intake_requests.specs.declared.requests.Request.TheVariants.{Nothing, Refused, Receive}
use Rattle.intake.specs.Answered.{Answered}
use Rattle.intake.specs.Receivers.{Shows}
use Rattle.intake.proofs.Durable.{front_refl}
use Rattle.intake.proofs.WrittenFrames.{frames_none, frames_wider, frames_then}

pub front_trans : {A : Type 0} (xs ys zs : List A) → IsFront xs ys → IsFront ys zs → IsFront xs zs
front_trans xs ys zs first second =
    (first.0 ++ second.0, second.1 ∙ ap (λ l. l ++ second.0) first.1 ∙ append_assoc xs first.0 second.0)

pub replies-append : (medium : Medium) (held : Held) (xs ys : List Request)
    → replies medium held (xs ++ ys) ≡ replies medium held xs ++ replies medium (held_after medium held xs) ys
replies-append medium held [] ys = refl
replies-append medium held (x ∷ xs) ys =
    ap (λ text. (reply_of medium held x).text ++ text) (replies-append medium (reply_of medium held x).held xs ys)
    ∙ sym (append_assoc (reply_of medium held x).text (replies medium (reply_of medium held x).held xs) _)

pub held_after-append : (medium : Medium) (held : Held) (xs ys : List Request)
    → held_after medium held (xs ++ ys) ≡ held_after medium (held_after medium held xs) ys
held_after-append medium held [] ys = refl
held_after-append medium held (x ∷ xs) ys = held_after-append medium (reply_of medium held x).held xs ys

-- ---- journals grow

grows_by_answer : (journal : List Receipt) (stamp : DayMinute) (sender reference : ℕ) (item : Item) (answer : Received)
    → IsFront journal (journal_after journal stamp sender reference item answer)
grows_by_answer journal stamp sender reference item answer =
    let next = next_receipt journal stamp sender reference item in
    elim (is_received answer) as (λ b. IsFront journal (cond b (journal ++ next ∷ []) journal)) [ true ↦ (next ∷ [], refl) | false ↦ front_refl journal ]

grows_by_clock : (medium : Medium) (journal : List Receipt) (ticks : List DayMinute) (sender reference : ℕ) (item : Item)
    → IsFront journal (replied_by_clock medium journal ticks sender reference item).held.journal
grows_by_clock medium journal [] sender reference item = front_refl journal
grows_by_clock medium journal (t ∷ []) sender reference item = grows_by_answer journal t sender reference item (received medium journal t sender reference item)
grows_by_clock medium journal (t ∷ u ∷ ticks) sender reference item = grows_by_answer journal t sender reference item (received medium journal t sender reference item)

grows_by : (medium : Medium) (held : Held) (request : Request) → IsFront held.journal (reply_of medium held request).held.journal
unfolding reply_of
grows_by medium held Nothing = front_refl held.journal
grows_by medium held (Refused text) = front_refl held.journal
grows_by medium held (Receive (Some stamp) from item) = grows_by_answer held.journal stamp from.sender from.reference item (received medium held.journal stamp from.sender from.reference item)
grows_by medium held (Receive None from item) = grows_by_clock medium held.journal held.ticks from.sender from.reference item

pub grows : (medium : Medium) (held : Held) (requests : List Request) → IsFront held.journal (held_after medium held requests).journal
grows medium held [] = front_refl held.journal
grows medium held (x ∷ xs) =
    front_trans held.journal (reply_of medium held x).held.journal (held_after medium held (x ∷ xs)).journal (grows_by medium held x) (grows medium (reply_of medium held x).held xs)

pub grows_longer : (medium : Medium) (held : Held) (xs ys : List Request) → IsFront (held_after medium held xs).journal (held_after medium held (xs ++ ys)).journal
grows_longer medium held xs ys = rw (held_after-append medium held xs ys) (grows medium (held_after medium held xs) ys)

-- ---- files that stand for a journal that has grown

pub grown_wider : (a b from to : List Receipt) (file : List ℕ) → IsFront a from → IsFront to b → GrownFrom from to file → GrownFrom a b file
grown_wider a b from to file begins ends is = record {
  journal = is.journal;
  stands = is.stands;
  begins = front_trans a from is.journal begins is.begins;
  ends = front_trans is.journal to b is.ends ends;
}

pub grown_at : (journal : List Receipt) (file : List ℕ) → StandsForJournal file journal → GrownFrom journal journal file
grown_at journal file stands = record { journal = journal; stands = stands; begins = front_refl journal; ends = front_refl journal }

module _ {D : Type 0} (reads : D → List ℕ) (moment : D → ℕ) (since : D → ℕ → List ℕ → Type 0) where
  pub disk_wider : (old new : D) (a b from to : List Receipt) → IsFront a from → IsFront from b → IsFront to b
      → DiskGrows reads moment since old new from to → DiskGrows reads moment since old new a b
  disk_wider old new a b from to begins within ends run = record {
    left = weakened moment since old new (GrownFrom from to) (GrownFrom a b) (λ file is. grown_wider a b from to file begins ends is) run.left;
    written = frames_wider a b from to (reads old) (reads new) begins within ends run.written;
  }

  -- a journal on a disk that grows twice grows from the first state to the last
  pub disk_then : (old mid new : D) (a b c : List Receipt) → IsFront a b → IsFront b c
      → DiskGrows reads moment since old mid a b → DiskGrows reads moment since mid new b c → DiskGrows reads moment since old new a c
  disk_then old mid new a b c first second run more =
      let before = disk_wider old mid a c a b (front_refl a) (front_trans a b c first second) second run in
      let behind = disk_wider mid new a c b c first second (front_refl c) more in record {
        left = followed moment since old mid new (GrownFrom a c) before.left behind.left;
        written = frames_then a c (reads old) (reads mid) (reads new) before.written behind.written;
      }

  -- a disk to which nothing is done counts as one whose journal grows, by nothing so far
  pub disk_same : (disk : D) (known : Option (List DayMinute)) (images : List ℕ → Type 0) (held : Held) (to : List Receipt) → IsFront held.journal to
      → Shows known images (since disk (moment disk)) held → DiskGrows reads moment since disk disk held.journal to
  disk_same disk known images held to front shows = record {
    left = started moment since disk (GrownFrom held.journal to) (λ c left.
        grown_wider held.journal to held.journal held.journal c (front_refl held.journal) front (grown_at held.journal c (shows.stands_now c left)));
    written = frames_none held.journal to (reads disk);
  }

-- ---- what is answered

pub answered_none : (medium : Medium) (held : Held) (holds : Option Held) (w : Option (List ℕ)) → holds ≡ Some held → Answered medium held holds w w []
answered_none medium held holds w is = record { wrote = Appends-nil w; holds = is }

pub answered_then : (medium : Medium) (held : Held) (h1 h2 : Option Held) (w0 w1 w2 : Option (List ℕ)) (xs ys : List Request)
    → Answered medium held h1 w0 w1 xs → Answered medium (held_after medium held xs) h2 w1 w2 ys → Answered medium held h2 w0 w2 (xs ++ ys)
answered_then medium held h1 h2 w0 w1 w2 xs ys first second = record {
  wrote = rw (replies-append medium held xs ys) (Appends-trans w0 w1 w2 (replies medium held xs) (replies medium (held_after medium held xs) ys) first.wrote second.wrote);
  holds = rw (held_after-append medium held xs ys) second.holds;
}

pub front_of_more : (a b c : Option (List ℕ)) (text more : List ℕ) → Appends a b text → AppendsFront b c more → AppendsFront a c (text ++ more)
front_of_more a b c text more before now = record {
  front = text ++ now.front;
  rest = now.rest;
  whole = ap (λ r. text ++ r) now.whole ∙ sym (append_assoc text now.front now.rest);
  added = Appends-trans a b c text now.front before now.added;
}

pub front_of_longer : (a b : Option (List ℕ)) (text more : List ℕ) → AppendsFront a b text → AppendsFront a b (text ++ more)
front_of_longer a b text more part = record {
  front = part.front;
  rest = part.rest ++ more;
  whole = ap (λ t. t ++ more) part.whole ∙ append_assoc part.front part.rest more;
  added = part.added;
}

pub whole_front : (a b : Option (List ℕ)) (text : List ℕ) → Appends a b text → AppendsFront a b text
whole_front a b text wrote = record { front = text; rest = []; whole = sym (append-nil text); added = wrote }

-- ---- what is done to a disk while requests are answered

module _ {D : Type 0} (reads : D → List ℕ) (moment : D → ℕ) (since : D → ℕ → List ℕ → Type 0) where
  -- the first requests are answered, others are worked on after them, and more may follow
  pub disk_within : (old mid new : D) (medium : Medium) (held : Held) (all xs ys zs : List Request) → all ≡ (xs ++ ys) ++ zs
      → DiskGrows reads moment since old mid held.journal (held_after medium held xs).journal
      → DiskGrows reads moment since mid new (held_after medium held xs).journal (held_after medium (held_after medium held xs) ys).journal
      → DiskGrows reads moment since old new held.journal (held_after medium held all).journal
  disk_within old mid new medium held all xs ys zs whole run more =
      let back : DiskGrows reads moment since old new held.journal (held_after medium (held_after medium held xs) ys).journal =
      disk_then reads moment since old mid new held.journal (held_after medium held xs).journal (held_after medium (held_after medium held xs) ys).journal
      (grows medium held xs) (grows medium (held_after medium held xs) ys) run more in
      rw whole (disk_wider reads moment since old new held.journal (held_after medium held ((xs ++ ys) ++ zs)).journal held.journal (held_after medium (held_after medium held xs) ys).journal
      (front_refl held.journal) (grows medium held ((xs ++ ys) ++ zs))
      (subst (λ (h : Held). IsFront h.journal (held_after medium held ((xs ++ ys) ++ zs)).journal) (held_after-append medium held xs ys) (grows_longer medium held (xs ++ ys) zs)) back)

  -- the first requests are answered, and then others, starting from what is held then
  pub done_then : (old mid new : D) (medium : Medium) (h0 h1 h2 : Option Held) (w0 w1 w2 : Option (List ℕ)) (xs ys all : List Request) → xs ++ ys ≡ all
      → ((held : Held) → h0 ≡ Some held → Answered medium held h1 w0 w1 xs × DiskGrows reads moment since old mid held.journal (held_after medium held xs).journal)
      → ((held : Held) → h1 ≡ Some held → Answered medium held h2 w1 w2 ys)
      → ((held : Held) → h1 ≡ Some held → DiskGrows reads moment since mid new held.journal (held_after medium held ys).journal)
      → (held : Held) → h0 ≡ Some held
      → Answered medium held h2 w0 w2 all × DiskGrows reads moment since old new held.journal (held_after medium held all).journal
  done_then old mid new medium h0 h1 h2 w0 w1 w2 xs ys all whole before answered grew held is =
      let first = before held is in (
        subst (Answered medium held h2 w0 w2) whole (answered_then medium held h1 h2 w0 w1 w2 xs ys first.0 (answered (held_after medium held xs) first.0.holds)),
        disk_within old mid new medium held all xs ys [] (sym whole ∙ sym (append-nil (xs ++ ys))) first.1 (grew (held_after medium held xs) first.0.holds),
      )

  -- what the first did to the disk is within what all do
  pub disk_by_first : (old new : D) (medium : Medium) (held : Held) (whole done rest : List Request) → whole ≡ done ++ rest
      → DiskGrows reads moment since old new held.journal (held_after medium held done).journal → DiskGrows reads moment since old new held.journal (held_after medium held whole).journal
  disk_by_first old new medium held whole done rest split run =
      rw split (disk_wider reads moment since old new held.journal (held_after medium held (done ++ rest)).journal held.journal (held_after medium held done).journal
      (front_refl held.journal) (grows medium held (done ++ rest)) (grows_longer medium held done rest) run)
