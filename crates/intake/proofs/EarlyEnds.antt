-- Requests whose session ended early.
use Rattle.std.proofs.Common.{◌≡◌, ℕ, List, [], ◌++◌, refl, sym, ap, ◌∙◌, subst, append_assoc, append-nil, arith, Option, Some}
use Rattle.std.proofs.KnownBytes.{Appends-nil, Appends-trans}
use Rattle.std.specs.Io.KnownBytes.{Appends}
use Rattle.gb_base.specs.DayMinute.{DayMinute}
use Rattle.gb_outside.specs.Bytes.{AppendsFront}
use Rattle.intake.specs.Answered.{Answered}
use Rattle.intake.specs.EarlyEnds.{EndsEarly}
use Rattle.intake.specs.Grown.{IsFront, GrownFrom}
use Rattle.intake.specs.Receivers.{Shows}
use Rattle.intake.specs.Requests.{Medium, Held, replies, held_after}
use Rattle.intake_requests.specs.declared.requests.Request.{Request}
use Rattle.intake.proofs.Durable.{front_refl}
use Rattle.intake.proofs.Replies.{replies-append, held_after-append, grown_at, front_of_longer}

-- what was written is a front of the replies to what was begun
pub front_of_early : (medium : Medium) (held : Held) (known : Option (List DayMinute)) (w0 w1 : Option (List ℕ)) (images : List ℕ → Type 0) (requests : List Request)
    → (early : EndsEarly medium held known w0 w1 images requests) → AppendsFront w0 w1 (replies medium held (early.replied ++ early.last))
front_of_early medium held known w0 w1 images requests early =
    let before = replies medium held early.replied in record {
      front = before ++ early.front;
      rest = early.begun.0;
      whole = replies-append medium held early.replied early.last ∙ ap (λ t. before ++ t) early.begun.1 ∙ sym (append_assoc before early.front early.begun.0);
      added = early.wrote;
    }

-- so it is a front of the replies to all requests
pub part_of_early : (medium : Medium) (held : Held) (known : Option (List DayMinute)) (w0 w1 : Option (List ℕ)) (images : List ℕ → Type 0) (requests : List Request)
    → EndsEarly medium held known w0 w1 images requests → AppendsFront w0 w1 (replies medium held requests)
part_of_early medium held known w0 w1 images requests early =
    let begun = early.replied ++ early.last in
    let all : requests ≡ begun ++ (early.next ++ early.rest) = early.whole ∙ sym (append_assoc early.replied early.last (early.next ++ early.rest)) in
    subst (AppendsFront w0 w1) (sym (ap (replies medium held) all ∙ replies-append medium held begun (early.next ++ early.rest)))
    (front_of_longer w0 w1 (replies medium held begun) _ (front_of_early medium held known w0 w1 images requests early))

-- what ends early among the first ends early among all
pub early_longer : (medium : Medium) (held : Held) (known : Option (List DayMinute)) (w0 w1 : Option (List ℕ)) (images : List ℕ → Type 0) (xs ys : List Request)
    → EndsEarly medium held known w0 w1 images xs → EndsEarly medium held known w0 w1 images (xs ++ ys)
early_longer medium held known w0 w1 images xs ys is = record {
  replied = is.replied;
  last = is.last;
  next = is.next;
  rest = is.rest ++ ys;
  whole = ap (λ l. l ++ ys) is.whole ∙ append_assoc is.replied (is.last ++ (is.next ++ is.rest)) ys
      ∙ ap (λ l. is.replied ++ l) (append_assoc is.last (is.next ++ is.rest) ys ∙ ap (λ l. is.last ++ l) (append_assoc is.next is.rest ys));
  one = is.one;
  front = is.front;
  begun = is.begun;
  wrote = is.wrote;
  clock = is.clock;
  received = is.received;
}

after_more : (medium : Medium) (held : Held) (xs ys zs : List Request) → held_after medium held ((xs ++ ys) ++ zs) ≡ held_after medium (held_after medium held xs) (ys ++ zs)
after_more medium held xs ys zs = ap (held_after medium held) (append_assoc xs ys zs) ∙ held_after-append medium held xs (ys ++ zs)

-- the first are answered, and the others end early
pub early_then : (medium : Medium) (held : Held) (h1 : Option Held) (known : Option (List DayMinute)) (w0 w1 w2 : Option (List ℕ)) (images : List ℕ → Type 0) (xs ys : List Request)
    → Answered medium held h1 w0 w1 xs → EndsEarly medium (held_after medium held xs) known w1 w2 images ys → EndsEarly medium held known w0 w2 images (xs ++ ys)
early_then medium held h1 known w0 w1 w2 images xs ys first at =
    let text = replies medium held xs in
    let more = replies medium (held_after medium held xs) at.replied in record {
      replied = xs ++ at.replied;
      last = at.last;
      next = at.next;
      rest = at.rest;
      whole = ap (λ l. xs ++ l) at.whole ∙ sym (append_assoc xs at.replied (at.last ++ (at.next ++ at.rest)));
      one = at.one;
      front = at.front;
      begun = subst (λ (h : Held). IsFront at.front (replies medium h at.last)) (sym (held_after-append medium held xs at.replied)) at.begun;
      wrote = subst (Appends w0 w2) (sym (ap (λ t. t ++ at.front) (replies-append medium held xs at.replied) ∙ append_assoc text more at.front))
          (Appends-trans w0 w1 w2 text (more ++ at.front) first.wrote at.wrote);
      clock = at.clock ∙ ap (λ (h : Held). Some h.ticks) (sym (after_more medium held xs at.replied (at.last ++ at.next)));
      received = λ file image. subst (λ (h : Held). GrownFrom h.journal (held_after medium held ((xs ++ at.replied) ++ (at.last ++ at.next))).journal file) (sym (after_more medium held xs at.replied at.last))
          (subst (λ (h : Held). GrownFrom (held_after medium (held_after medium held xs) (at.replied ++ at.last)).journal h.journal file) (sym (after_more medium held xs at.replied (at.last ++ at.next))) (at.received file image));
    }

-- where nothing of these requests is done, they end early
pub early_before : (medium : Medium) (held : Held) (known : Option (List DayMinute)) (w : Option (List ℕ)) (images since_now : List ℕ → Type 0) (requests : List Request)
    → Shows known images since_now held → EndsEarly medium held known w w images requests
early_before medium held known w images since_now requests shows = record {
  replied = [];
  last = [];
  next = [];
  rest = requests;
  whole = refl;
  one = omega arith;
  front = [];
  begun = front_refl [];
  wrote = Appends-nil w;
  clock = shows.ticks;
  received = λ file image. grown_at held.journal file (shows.stands file image);
}

-- where all of these requests are answered and nothing more was begun, they end early, too
pub early_all : (medium : Medium) (held : Held) (holds : Option Held) (known : Option (List DayMinute)) (w0 w1 : Option (List ℕ)) (images since_now : List ℕ → Type 0) (xs : List Request)
    → Answered medium held holds w0 w1 xs → Shows known images since_now (held_after medium held xs) → EndsEarly medium held known w0 w1 images xs
early_all medium held holds known w0 w1 images since_now xs answered shows =
    subst (λ rs. EndsEarly medium held known w0 w1 images rs) (append-nil xs)
    (early_then medium held holds known w0 w1 w1 images xs [] answered (early_before medium (held_after medium held xs) known w1 images since_now [] shows))

-- requests that end early do so, too, where there are fewer images
pub early_of_fewer : (medium : Medium) (held : Held) (known : Option (List DayMinute)) (w0 w1 : Option (List ℕ)) (images fewer : List ℕ → Type 0) (requests : List Request)
    → ((file : List ℕ) → fewer file → images file) → EndsEarly medium held known w0 w1 images requests → EndsEarly medium held known w0 w1 fewer requests
early_of_fewer medium held known w0 w1 images fewer requests are early = record {
  replied = early.replied;
  last = early.last;
  next = early.next;
  rest = early.rest;
  whole = early.whole;
  one = early.one;
  front = early.front;
  begun = early.begun;
  wrote = early.wrote;
  clock = early.clock;
  received = λ file image. early.received file (are file image);
}
