-- One request, and how far it came.
use Rattle.std.proofs.Common.{◌≡◌, ℕ, List, [], ◌∷◌, refl, sym, ap, ◌∙◌, subst, append-nil, arith, Option, Some}
use Rattle.std.specs.Io.KnownBytes.{Appends}
use Rattle.std.proofs.KnownBytes.{Appends-nil}
use Rattle.gb_base.specs.DayMinute.{DayMinute}
use Rattle.gb_outside.specs.Bytes.{AppendsFront}
use Rattle.receipt_journal.specs.Standing.{StandsForJournal}
use Rattle.intake.specs.Answered.{Answered}
use Rattle.intake.specs.EarlyEnds.{EndsEarly}
use Rattle.intake.specs.Grown.{GrownFrom}
use Rattle.intake.specs.Receivers.{Shows}
use Rattle.intake.specs.Requests.{Medium, Held, Replied, reply_of}
use Rattle.intake_requests.specs.declared.requests.Request.{Request}
use Rattle.intake_requests.specs.declared.requests.Request.TheVariants.{Nothing, Refused}
use Rattle.intake.proofs.Durable.{front_refl}
use Rattle.intake.proofs.Replies.{grown_at}

-- ---- the replies of requests that receive nothing

pub reply_of_nothing : (medium : Medium) (held : Held) (request : Request) → request ≡ Nothing → reply_of medium held request ≡ record { text = []; held = held }
unfolding reply_of
reply_of_nothing medium held request is = rw is refl

pub reply_of_refused : (medium : Medium) (held : Held) (request : Request) (text : List ℕ) → request ≡ Refused text → reply_of medium held request ≡ record { text = text; held = held }
unfolding reply_of
reply_of_refused medium held request text is = rw is refl

module _ (medium : Medium) (held : Held) (w0 w1 : Option (List ℕ)) (request : Request) where
  abbrev reply : Replied
  reply = reply_of medium held request

  -- the request is replied to whole
  pub answered_one : (holds : Option Held) (text : List ℕ) → text ≡ reply.text → Appends w0 w1 text → holds ≡ Some reply.held → Answered medium held holds w0 w1 (request ∷ [])
  answered_one holds text same wrote is = record { wrote = subst (Appends w0 w1) (same ∙ sym (append-nil reply.text)) wrote; holds = is }

  -- a front of the request's reply is written
  pub early_cut : (known : Option (List DayMinute)) (images : List ℕ → Type 0) (text : List ℕ) → text ≡ reply.text → AppendsFront w0 w1 text → known ≡ Some reply.held.ticks
      → ((file : List ℕ) → images file → StandsForJournal file reply.held.journal) → EndsEarly medium held known w0 w1 images (request ∷ [])
  early_cut known images text same wrote clock stands = record {
    replied = [];
    last = request ∷ [];
    next = [];
    rest = [];
    whole = refl;
    one = omega arith;
    front = wrote.front;
    begun = (wrote.rest, append-nil reply.text ∙ sym same ∙ wrote.whole);
    wrote = wrote.added;
    clock = clock;
    received = λ file image. grown_at reply.held.journal file (stands file image);
  }

  -- nothing of the request's reply is written
  pub early_unanswered : (known : Option (List DayMinute)) (images : List ℕ → Type 0) → w1 ≡ w0 → known ≡ Some reply.held.ticks
      → ((file : List ℕ) → images file → GrownFrom held.journal reply.held.journal file) → EndsEarly medium held known w0 w1 images (request ∷ [])
  early_unanswered known images stays clock left = record {
    replied = [];
    last = [];
    next = request ∷ [];
    rest = [];
    whole = refl;
    one = omega arith;
    front = [];
    begun = front_refl [];
    wrote = rw stays (Appends-nil w0);
    clock = clock;
    received = left;
  }

pub answered_nothing : (medium : Medium) (held : Held) (holds : Option Held) (w : Option (List ℕ)) (request : Request) → request ≡ Nothing → holds ≡ Some held → Answered medium held holds w w (request ∷ [])
answered_nothing medium held holds w request is has =
    let reply = reply_of_nothing medium held request is in
    answered_one medium held w w request holds [] (ap (λ (r : Replied). r.text) (sym reply)) (Appends-nil w) (has ∙ ap (λ (r : Replied). Some r.held) (sym reply))

pub answered_refused : (medium : Medium) (held : Held) (holds : Option Held) (w0 w1 : Option (List ℕ)) (request : Request) (text : List ℕ) → request ≡ Refused text → holds ≡ Some held → Appends w0 w1 text
    → Answered medium held holds w0 w1 (request ∷ [])
answered_refused medium held holds w0 w1 request text is has wrote =
    let reply = reply_of_refused medium held request text is in
    answered_one medium held w0 w1 request holds text (ap (λ (r : Replied). r.text) (sym reply)) wrote (has ∙ ap (λ (r : Replied). Some r.held) (sym reply))

pub early_refused : (medium : Medium) (held : Held) (known : Option (List DayMinute)) (w0 w1 : Option (List ℕ)) (images since_now : List ℕ → Type 0) (request : Request) (text : List ℕ) → request ≡ Refused text
    → AppendsFront w0 w1 text → Shows known images since_now held → EndsEarly medium held known w0 w1 images (request ∷ [])
early_refused medium held known w0 w1 images since_now request text is wrote shows =
    let reply = reply_of_refused medium held request text is in
    early_cut medium held w0 w1 request known images text (ap (λ (r : Replied). r.text) (sym reply)) wrote (shows.ticks ∙ ap (λ (r : Replied). Some r.held.ticks) (sym reply))
    (λ file image. subst (λ (r : Replied). StandsForJournal file r.held.journal) (sym reply) (shows.stands file image))
