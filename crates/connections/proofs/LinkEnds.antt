-- What a turn comes to by what came next of the link: a request, a refusal, or an end.
use Rattle.std.proofs.Common.{◌≡◌, ℕ, ◌-◌, ◌≤◌, ◌==◌, Bool, true, false, if◌then◌else◌, List, [], ◌∷◌, length, Option, Some, None, refl, sym, ◌∙◌, ap, subst}
use Rattle.std.specs.Io.KnownBytes.{Appends}
use Rattle.std.specs.List.{list_any}
use Rattle.act_json.specs.Lines.{longest_line}
use Rattle.intake.specs.Requests.{Held}
use Rattle.registry_http.specs.RequestLists.{AreRequests}
use Rattle.registry_http.specs.RequestParts.{RequestParts}
use Rattle.registry_http.specs.Requests.{AtFront, Whole, StandsIn}
use Rattle.connections.specs.Answers.{answer}
use Rattle.connections.specs.Asking.{Asked}
use Rattle.connections.specs.Fates.{Fate, answer_by}
use Rattle.connections.specs.LinkOrder.{WritesLast}
use Rattle.connections.specs.Replies.{ReplyParts, bytes_of, out_of_memory}
use Rattle.connections.specs.Serving.{ServesLink}
use Rattle.connections.specs.Turns.{Turn, Taken, Request, Refusal, Answering, Refusing, End, IsOf, answer_in, is_owed, last_turn, turns}
use Rattle.connections.specs.declared.serving.Ended.TheVariants as ended
use Rattle.connections.specs.declared.serving.Served.{Served}
use Rattle.connections.specs.inner.Rounds.{GoesOn, IsTurn}
use Rattle.connections.proofs.LinksServed.{served_close, served_none, served_turn}
use Rattle.connections.proofs.LinkTurns.{first_turn, last_turns, some_turn}

-- a request of a link has a body that a line may have
pub short_body : (bytes rest : List ℕ) (request : RequestParts) → StandsIn bytes (Whole request rest) → length request.body ≤ longest_line
short_body bytes rest request is = subst (λ (r : RequestParts). length r.body ≤ longest_line) (sym is.4) is.3

-- A turn of a request was taken: what it asks for, what became of it, and what it did.
pub record TurnTaken {D : Type 0} (Takes : D → D → Held → List Taken → Type 0) (old new : D) (held : Held) (request : RequestParts) (reply : ReplyParts) (HoldsNow : Held → Type 0) : Type 0 where
  pub wants : Asked
  pub fate : Fate
  pub is : IsOf (Request request) (Answering request wants fate)
  pub reply_is : reply ≡ (answer_by fate held (answer held request.body wants)).reply
  pub holds : HoldsNow (answer_by fate held (answer held request.body wants)).held
  pub takes : Takes old new held (Answering request wants fate ∷ [])

module _ {D : Type 0} (Takes : D → D → Held → List Taken → Type 0) where
  -- ---- a request

  module _ (old new : D) (held : Held) (w0 w1 : Option (List ℕ)) (request : RequestParts) (requests : List RequestParts) (end : AtFront) (reply : ReplyParts) (HoldsNow : Held → Type 0)
      (turn : TurnTaken Takes old new held request reply HoldsNow) where
    pub request_ends : (served : Served) → (served.ended ≡ ended.Finished → request.last ≡ true) → WritesLast w0 w1 reply served → (n : ℕ) → (n == 0) ≡ false
        → ServesLink Takes old new held w0 w1 (turns n (request ∷ requests) end) served HoldsNow
    request_ends served last ends n some =
        subst (λ us. ServesLink Takes old new held w0 w1 us served HoldsNow) (sym (first_turn n request requests end some))
        (served_turn Takes old new w0 w1 served held (Request request) (if request.last then [] else turns (n - 1) requests end) (Answering request turn.wants turn.fate) HoldsNow turn.is turn.holds turn.takes
        (λ whole. ap (λ (b : Bool). if b then [] else turns (n - 1) requests end) (last whole)) (subst (λ (r : ReplyParts). WritesLast w0 w1 r served) turn.reply_is ends))

    pub request_goes_on : request.last ≡ false → Appends w0 w1 (bytes_of (reply ∷ [])) → GoesOn Takes old new held w0 w1 (request ∷ requests) (λ h others. HoldsNow h × (others ≡ requests))
    request_goes_on more wrote = record {
      request = request;
      others = requests;
      first = refl;
      more = more;
      taken = Answering request turn.wants turn.fate;
      is = turn.is;
      written = subst (λ (r : ReplyParts). Appends w0 w1 (bytes_of (r ∷ []))) turn.reply_is wrote;
      meets = (turn.holds, refl);
      disk = turn.takes;
    }

  -- a turn of the first of the requests, which were read and not written
  pub turn_of : (old new : D) (held : Held) (w w0 w1 : Option (List ℕ)) (request : RequestParts) (others requests : List RequestParts) (end : AtFront) (HoldsNow : Held → Type 0) (MeetsNow : Held → List RequestParts → Type 0) (result : Option Served)
      → w0 ≡ w → requests ≡ request ∷ others → ((h : Held) → HoldsNow h → MeetsNow h others)
      → IsTurn Takes old new held w0 w1 (request ∷ others) end HoldsNow (λ h rest. HoldsNow h × (rest ≡ others)) result
      → IsTurn Takes old new held w w1 requests end HoldsNow MeetsNow result
  turn_of old new held w w0 w1 request others requests end HoldsNow MeetsNow None same first meets turn = record {
    request = turn.request;
    others = turn.others;
    first = first ∙ turn.first;
    more = turn.more;
    taken = turn.taken;
    is = turn.is;
    written = subst (λ (v : Option (List ℕ)). Appends v w1 (bytes_of ((answer_in held turn.taken).reply ∷ []))) same turn.written;
    meets = subst (λ l. MeetsNow (answer_in held turn.taken).held l) (sym turn.meets.1) (meets (answer_in held turn.taken).held turn.meets.0);
    disk = turn.disk;
  }
  turn_of old new held w w0 w1 request others requests end HoldsNow MeetsNow (Some served) same first meets turn = λ n some.
      subst (λ (v : Option (List ℕ)). ServesLink Takes old new held v w1 (turns n requests end) served HoldsNow) same
      (subst (λ l. ServesLink Takes old new held w0 w1 (turns n l end) served HoldsNow) (sym first) (turn n some))

  -- ---- no request

  module _ (disk : D) (held : Held) (none : Takes disk disk held []) (w w0 w1 : Option (List ℕ)) (requests : List RequestParts) (end : AtFront) (HoldsNow : Held → Type 0) (holds : HoldsNow held)
      (served : Served) (same : w0 ≡ w) where
    abbrev Ends : Type 0
    Ends = (n : ℕ) → (n == 0) ≡ false → ServesLink Takes disk disk held w w1 (turns n requests end) served HoldsNow

    from_old : (n : ℕ) → ServesLink Takes disk disk held w0 w1 (turns n requests end) served HoldsNow → ServesLink Takes disk disk held w w1 (turns n requests end) served HoldsNow
    from_old n is = subst (λ (v : Option (List ℕ)). ServesLink Takes disk disk held v w1 (turns n requests end) served HoldsNow) same is

    turns_are : (n : ℕ) (last : AtFront) → (n == 0) ≡ false → requests ≡ [] → end ≡ last → turns n requests end ≡ last_turn last
    turns_are n last some empty is = ap (λ l. turns n l end) empty ∙ ap (λ (e : AtFront). turns n [] e) is ∙ last_turns n last some

    -- the bytes end
    pub none_ends : (last : AtFront) → requests ≡ [] → end ≡ last → last_turn last ≡ End ∷ [] → w1 ≡ w0 → served.ended ≡ ended.Finished → served.replies ≡ 0 → Ends
    none_ends last empty is silent wrote finished zero = λ n some. from_old n
        (served_none Takes disk disk w0 w1 served held (turns n requests end) HoldsNow holds none wrote
        (λ again. ap (λ (l : List Turn). list_any is_owed l) (turns_are n last some empty is ∙ silent)) (λ no. absurd (no finished))
        (λ memory. let never : ended.Finished ≡ ended.Memory = sym finished ∙ memory in absurd cc) zero)

    -- the link failed
    pub cut_off : (bytes : List ℕ) → AreRequests bytes requests end → w1 ≡ w0 → served.ended ≡ ended.LinkFault → served.replies ≡ 0 → Ends
    cut_off bytes are wrote failed zero = λ n some. from_old n
        (served_none Takes disk disk w0 w1 served held (turns n requests end) HoldsNow holds none wrote
        (λ finished. let never : ended.LinkFault ≡ ended.Finished = sym failed ∙ finished in absurd cc) (λ no. some_turn n bytes requests end some are)
        (λ memory. let never : ended.LinkFault ≡ ended.Memory = sym failed ∙ memory in absurd cc) zero)

    -- the bytes are refused
    pub refusal_ends : (last : AtFront) (reply given : ReplyParts) → given ≡ reply → requests ≡ [] → end ≡ last → last_turn last ≡ Refusal reply ∷ [] → Takes disk disk held (Refusing reply ∷ []) → WritesLast w0 w1 given served → Ends
    refusal_ends last reply given gives empty is one refuses ends = λ n some. from_old n
        (subst (λ us. ServesLink Takes disk disk held w0 w1 us served HoldsNow) (sym (turns_are n last some empty is ∙ one))
        (served_turn Takes disk disk w0 w1 served held (Refusal reply) [] (Refusing reply) HoldsNow refl holds refuses
        (λ finished. refl) (subst (λ (r : ReplyParts). WritesLast w0 w1 r served) gives ends)))

    -- no memory was found
    pub memory_ends : (bytes : List ℕ) → AreRequests bytes requests end → (given : ReplyParts) → given ≡ out_of_memory → WritesLast w0 w1 given served → Ends
    memory_ends bytes are given gives ends = λ n some. from_old n
        (served_close Takes disk disk w0 w1 served held (turns n requests end) HoldsNow holds none (some_turn n bytes requests end some are)
        (subst (λ (r : ReplyParts). WritesLast w0 w1 r served) gives ends))
