-- How far a connection has come, turn by turn.
use Rattle.std.proofs.Common.{◌≡◌, ⊎_elim, ℕ, ◌+◌, ◌-◌, ◌<◌, ◌≤◌, ◌==◌, Bool, true, false, if◌then◌else◌, List, [], ◌∷◌, ◌++◌, length, Option, Some, None, refl, sym, ◌∙◌, ap, subst, arith, append_assoc, length-append}
use Rattle.std.proofs.KnownBytes.{Appends-nil, Appends-trans}
use Rattle.std.proofs.lemmas.Bool.{cases_Bool, eqb-true}
use Rattle.std.specs.Io.KnownBytes.{Appends}
use Rattle.std.specs.List.{AllZip}
use Rattle.intake.specs.Requests.{Held}
use Rattle.registry_http.specs.RequestLists.{AreRequests, IsLast, IsNext}
use Rattle.registry_http.specs.RequestParts.{RequestParts}
use Rattle.registry_http.specs.Requests.{AtFront, Whole, Nothing, Cut, HeadFault, BodyTooLong, ReadsNext}
use Rattle.registry_http.specs.declared.requests.Next.{Next}
use Rattle.registry_http.proofs.InTurn.{in_turn}
use Rattle.connections.specs.Replies.{bytes_of}
use Rattle.connections.specs.Serving.{ServesLink}
use Rattle.connections.specs.Turns.{Turn, Taken, Request, IsOf, answer_in, held_after, last_turn, replies_in, turns}
use Rattle.connections.specs.declared.serving.Ended.TheVariants as ended
use Rattle.connections.specs.declared.serving.Served.{Served}
use Rattle.connections.specs.inner.Rounds.{GoesOn}
use Rattle.connections.proofs.LinksServed.{served_later, served_none}
use Rattle.connections.proofs.TurnLists.{bytes_more, held_more, zip_push}

-- ---- the turns that are left

pub first_turn : (n : ℕ) (request : RequestParts) (requests : List RequestParts) (end : AtFront) → (n == 0) ≡ false
    → turns n (request ∷ requests) end ≡ Request request ∷ (if request.last then [] else turns (n - 1) requests end)
first_turn n request requests end some = ap (λ (b : Bool). if b then [] else Request request ∷ (if request.last then [] else turns (n - 1) requests end)) some

pub last_turns : (n : ℕ) (end : AtFront) → (n == 0) ≡ false → turns n [] end ≡ last_turn end
last_turns n end some = ap (λ (b : Bool). if b then [] else last_turn end) some

no_turns : (requests : List RequestParts) (end : AtFront) → turns 0 requests end ≡ []
no_turns [] end = refl
no_turns (request ∷ requests) end = refl

last_is_there : (end : AtFront) → IsLast end → 0 < length (last_turn end)
last_is_there (Whole request rest) is = absurd is
last_is_there Nothing is = omega arith
last_is_there Cut is = omega arith
last_is_there HeadFault is = omega arith
last_is_there BodyTooLong is = omega arith

-- while a reply is left, so is a turn
pub some_turn : (n : ℕ) (bytes : List ℕ) (requests : List RequestParts) (end : AtFront) → (n == 0) ≡ false → AreRequests bytes requests end → 0 < length (turns n requests end)
some_turn n bytes [] end some are = omega (arith, ap (λ (l : List Turn). length l) (last_turns n end some), last_is_there end are.1)
some_turn n bytes (request ∷ requests) end some are = omega (arith, ap (λ (l : List Turn). length l) (first_turn n request requests end some))

some_left : (n : ℕ) → 0 < n → (n == 0) ≡ false
some_left n some = ⊎_elim (λ (is : (n == 0) ≡ true). absurd (omega (arith, some, eqb-true n 0 is))) (λ (no : (n == 0) ≡ false). no) (cases_Bool (n == 0))

-- ---- what comes next of the link

-- what a read of the next request left: bytes that are still to come, and what it gave of the requests
pub record ComesNext (left : Option (List ℕ)) (kept : List ℕ) (requests : List RequestParts) (end : AtFront) (answer : Next) : Type 0 where
  pub input : List ℕ
  pub left_is : left ≡ Some input
  pub is : IsNext answer (kept ++ input) requests end

pub comes_next : (left_old left_new : Option (List ℕ)) (kept_old kept_new input : List ℕ) (answer : Next) (requests : List RequestParts) (end : AtFront) → left_old ≡ Some input
    → ReadsNext left_old left_new kept_old kept_new answer → AreRequests (kept_old ++ input) requests end → ComesNext left_new kept_new requests end answer
comes_next (Some bytes) (Some more) kept_old kept_new input answer requests end is reads are =
    record {
      input = more;
      left_is = refl;
      is = in_turn bytes more kept_old kept_new answer requests end reads (subst (λ l. AreRequests (kept_old ++ l) requests end) (sym (some_same bytes input is)) are);
    }
  where
    or_none : Option (List ℕ) → List ℕ
    or_none None = []
    or_none (Some l) = l

    some_same : (xs ys : List ℕ) → Some xs ≡ Some ys → xs ≡ ys
    some_same xs ys same = ap (λ (o : Option (List ℕ)). or_none o) same
comes_next (Some bytes) None kept_old kept_new input answer requests end is reads are = absurd reads.consumed
comes_next None left_new kept_old kept_new input answer requests end is reads are = absurd cc

-- ---- how far the connection has come

-- All turns so far were replied to whole, and these requests are left.
pub record Went {D : Type 0} (Takes : D → D → Held → List Taken → Type 0) (old now : D) (held : Held) (w0 w1 : Option (List ℕ))
    (us : List Turn) (most replies : ℕ) (end : AtFront) (MeetsNow : Held → List RequestParts → Type 0) : Type 0 where
  pub done : List Taken
  pub ahead : List Turn
  pub requests : List RequestParts
  pub are : AllZip IsOf ahead done
  pub whole : us ≡ ahead ++ turns (most - replies) requests end
  pub count : replies ≡ length done
  pub written : Appends w0 w1 (bytes_of (replies_in held done))
  pub meets : MeetsNow (held_after held done) requests
  pub disk : Takes old now held done

length_zip : (xs : List Turn) (ys : List Taken) → AllZip IsOf xs ys → length xs ≡ length ys
length_zip [] [] are = refl
length_zip [] (y ∷ ys) are = absurd are
length_zip (x ∷ xs) [] are = absurd are
length_zip (x ∷ xs) (y ∷ ys) are = omega (arith, length_zip xs ys are.1)

module _ {D : Type 0} (Takes : D → D → Held → List Taken → Type 0) where
  pub went_none : (disk : D) (held : Held) (w : Option (List ℕ)) (most : ℕ) (requests : List RequestParts) (end : AtFront) (MeetsNow : Held → List RequestParts → Type 0)
      → Takes disk disk held [] → MeetsNow held requests → Went Takes disk disk held w w (turns most requests end) most 0 end MeetsNow
  went_none disk held w most requests end MeetsNow none meets = record {
    done = [];
    ahead = [];
    requests = requests;
    are = tt;
    whole = ap (λ n. turns n requests end) (let same : most ≡ most - 0 = omega arith in same);
    count = refl;
    written = Appends-nil w;
    meets = meets;
    disk = none;
  }

  turn_off : (n m : ℕ) (request : RequestParts) (others requests : List RequestParts) (end : AtFront) → 0 < n → m ≡ n - 1 → requests ≡ request ∷ others → request.last ≡ false
      → turns n requests end ≡ Request request ∷ turns m others end
  turn_off n m request others requests end some less first more =
      ap (λ l. turns n l end) first ∙ first_turn n request others end (some_left n some)
      ∙ ap (λ (b : Bool). Request request ∷ (if b then [] else turns (n - 1) others end)) more ∙ ap (λ k. Request request ∷ turns k others end) (sym less)

  pub went_on : (old mid new : D) (held : Held) (w0 w1 w2 : Option (List ℕ)) (us : List Turn) (most replies : ℕ) (end : AtFront) (MeetsNow MeetsThen : Held → List RequestParts → Type 0)
      → ((done xs : List Taken) → Takes old mid held done → Takes mid new (held_after held done) xs → Takes old new held (done ++ xs)) → replies < most
      → (went : Went Takes old mid held w0 w1 us most replies end MeetsNow) → GoesOn Takes mid new (held_after held went.done) w1 w2 went.requests MeetsThen
      → Went Takes old new held w0 w2 us most (replies + 1) end MeetsThen
  went_on old mid new held w0 w1 w2 us most replies end MeetsNow MeetsThen joins less went turn = record {
    done = went.done ++ turn.taken ∷ [];
    ahead = went.ahead ++ Request turn.request ∷ [];
    requests = turn.others;
    are = zip_push went.ahead went.done (Request turn.request) turn.taken went.are turn.is;
    whole = went.whole ∙ ap (λ l. went.ahead ++ l) (turn_off (most - replies) (most - (replies + 1)) turn.request turn.others went.requests end (omega (arith, less)) (omega (arith, less)) turn.first turn.more)
        ∙ sym (append_assoc went.ahead (Request turn.request ∷ []) (turns (most - (replies + 1)) turn.others end));
    count = omega (arith, went.count, length-append went.done (turn.taken ∷ []));
    written = subst (λ bytes. Appends w0 w2 bytes) (sym (bytes_more held went.done (turn.taken ∷ [])))
        (Appends-trans w0 w1 w2 (bytes_of (replies_in held went.done)) (bytes_of ((answer_in (held_after held went.done) turn.taken).reply ∷ [])) went.written turn.written);
    meets = subst (λ (h : Held). MeetsThen h turn.others) (sym (held_more held went.done (turn.taken ∷ []))) turn.meets;
    disk = joins went.done (turn.taken ∷ []) went.disk turn.disk;
  }

  -- the turn after those was the last
  pub went_to_end : (old mid new : D) (held : Held) (w0 w1 w2 : Option (List ℕ)) (us : List Turn) (most replies : ℕ) (end : AtFront) (MeetsNow : Held → List RequestParts → Type 0) (HoldsNow : Held → Type 0) (served all : Served)
      → ((done xs : List Taken) → Takes old mid held done → Takes mid new (held_after held done) xs → Takes old new held (done ++ xs)) → replies < most
      → (went : Went Takes old mid held w0 w1 us most replies end MeetsNow)
      → ((n : ℕ) → (n == 0) ≡ false → ServesLink Takes mid new (held_after held went.done) w1 w2 (turns n went.requests end) served HoldsNow)
      → all.ended ≡ served.ended → all.replies ≡ replies + served.replies → ServesLink Takes old new held w0 w2 us all HoldsNow
  went_to_end old mid new held w0 w1 w2 us most replies end MeetsNow HoldsNow served all joins less went last ends adds =
      subst (λ l. ServesLink Takes old new held w0 w2 l all HoldsNow) (sym went.whole)
      (served_later Takes old mid new w0 w1 w2 held went.ahead (turns (most - replies) went.requests end) went.done HoldsNow served all (joins went.done) went.are
      (length_zip went.ahead went.done went.are) went.written went.disk (last (most - replies) (some_left (most - replies) (omega (arith, less)))) ends (omega (arith, adds, went.count)))

  -- no turn is left
  pub went_out : (old now : D) (held : Held) (w0 w1 : Option (List ℕ)) (us : List Turn) (most replies : ℕ) (end : AtFront) (MeetsNow : Held → List RequestParts → Type 0) (HoldsNow : Held → Type 0) (all : Served)
      → ((h : Held) → Takes now now h []) → ((done xs : List Taken) → Takes old now held done → Takes now now (held_after held done) xs → Takes old now held (done ++ xs)) → most ≤ replies
      → ((h : Held) (requests : List RequestParts) → MeetsNow h requests → HoldsNow h) → Went Takes old now held w0 w1 us most replies end MeetsNow
      → all.ended ≡ ended.Finished → all.replies ≡ replies → ServesLink Takes old now held w0 w1 us all HoldsNow
  went_out old now held w0 w1 us most replies end MeetsNow HoldsNow all none joins over holds went is adds =
      let out : most - replies ≡ 0 = omega (arith, over) in
      let whole : went.ahead ++ [] ≡ us = sym (went.whole ∙ ap (λ n. went.ahead ++ turns n went.requests end) out ∙ ap (λ l. went.ahead ++ l) (no_turns went.requests end)) in
      subst (λ l. ServesLink Takes old now held w0 w1 l all HoldsNow) whole
      (served_later Takes old now now w0 w1 w1 held went.ahead [] went.done HoldsNow (record { replies = 0; ended = ended.Finished }) all (joins went.done) went.are
      (length_zip went.ahead went.done went.are) went.written went.disk
      (served_none Takes now now w1 w1 (record { replies = 0; ended = ended.Finished }) (held_after held went.done) [] HoldsNow (holds (held_after held went.done) went.requests went.meets)
      (none (held_after held went.done)) refl (λ finished. refl) (λ no. absurd (no refl)) (λ memory. absurd cc) refl)
      is (omega (arith, adds, went.count)))
