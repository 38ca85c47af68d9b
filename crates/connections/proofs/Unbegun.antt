-- How a request ends that calls no disk: it has no route, its body is no item, or no memory was found before the book was taken.
use Rattle.std.proofs.Common.{◌≡◌, ◌≢◌, ◌⊎◌, inl, inr, ℕ, Bool, true, false, List, Option, Result, Err, is_ok, refl, sym, ◌∙◌, ap, subst}
use Rattle.gb_base.specs.DayMinute.{DayMinute}
use Rattle.act_json.specs.Lines.{ReadsAs}
use Rattle.act_json.specs.declared.lines.LineFault.{LineFault}
use Rattle.act_json.specs.declared.lines.LineFault.TheVariants as line
use Rattle.act_model.specs.declared.items.Item.{Item}
use Rattle.intake.specs.Grown.{IsFront}
use Rattle.intake.specs.Requests.{Held}
use Rattle.registry_http.specs.RequestParts.{RequestParts}
use Rattle.registry_http.specs.Routes.{IsRoute, method_of, path_of}
use Rattle.registry_http.specs.declared.finding.RouteFault.{RouteFault}
use Rattle.registry_http.specs.declared.finding.RouteFault.TheVariants as routing
use Rattle.registry_http.specs.declared.routes.Route.{Route}
use Rattle.settled_book.specs.SettledBookState.{SettledBookState}
use Rattle.connections.specs.Answering.{AnswersNone, IsFailure, SaysAsked, is_from_disk, may_call_disk}
use Rattle.connections.specs.Answers.{Answer, answer, body_answer, malformed, only}
use Rattle.connections.specs.Asking.{Asked, Asks, NoRoute, WrongMethod}
use Rattle.connections.specs.Fates.{OutOfMemory}
use Rattle.connections.specs.Holding.{Holds}
use Rattle.connections.specs.Replies.{ReplyParts, not_found, out_of_memory, wrong_method}
use Rattle.connections.specs.inner.Ends as ends
use Rattle.connections.specs.inner.Taking.{IsReplyToFault, unrouted_reply}
use Rattle.connections.proofs.AlwaysAsked.{always_asked}
use Rattle.connections.proofs.EndsBy.{ends_failed, ends_only, leaves_now, not_from_disk}
use Rattle.connections.proofs.GrownWrites.{writes_nothing}
use Rattle.connections.proofs.Grows.{answer_grows, body_grows}
use Rattle.connections.proofs.ByDiskAlone.{IsApart}

-- ---- such a reply tells nothing of a disk

out_of_memory_apart : IsApart out_of_memory
out_of_memory_apart = record { no_disk = refl; no_journal = refl; known = refl; silent = refl }

malformed_apart : (fault : LineFault) → IsApart (malformed fault)
malformed_apart line.NotJson = record { no_disk = refl; no_journal = refl; known = refl; silent = refl }
malformed_apart (line.NotItem path) = record { no_disk = refl; no_journal = refl; known = refl; silent = refl }
malformed_apart line.Memory = record { no_disk = refl; no_journal = refl; known = refl; silent = refl }

pub apart_by_body : (fault : LineFault) (reply : ReplyParts) → IsReplyToFault fault reply → IsApart reply
apart_by_body fault reply (inl is) = subst IsApart (sym is) (malformed_apart fault)
apart_by_body fault reply (inr (path, is)) = subst IsApart (sym is) out_of_memory_apart

unrouted_apart : (fault : RouteFault) → IsApart (unrouted_reply fault)
unrouted_apart routing.NotFound = record { no_disk = refl; no_journal = refl; known = refl; silent = refl }
unrouted_apart routing.WrongMethod = record { no_disk = refl; no_journal = refl; known = refl; silent = refl }
unrouted_apart routing.Memory = record { no_disk = refl; no_journal = refl; known = refl; silent = refl }

pub apart_by_route : (fault : RouteFault) (reply : ReplyParts) → reply ≡ unrouted_reply fault → IsApart reply
apart_by_route fault reply is = subst IsApart (sym is) (unrouted_apart fault)

malformed_tells_none : (fault : LineFault) → is_from_disk (malformed fault) ≡ false
malformed_tells_none line.NotJson = refl
malformed_tells_none (line.NotItem path) = refl
malformed_tells_none line.Memory = refl

-- what was found of a request that has no route
abbrev pub unfound : RouteFault → Result Route RouteFault
unfound fault = Err fault

-- what finding no route says of the request's path, and of its method
pub asks_none : (request : RequestParts) (path : List ℕ) → path ≡ request.path → ((r : Route) → IsRoute r → path ≢ path_of r) → Asks request NoRoute
asks_none request path is none = λ r good same. none r good (is ∙ same)

pub asks_other : (request : RequestParts) (path method : List ℕ) → path ≡ request.path → method ≡ request.method
    → (r : Route) × IsRoute r × (path ≡ path_of r) × (method ≢ method_of r) → Asks request WrongMethod
asks_other request path method is by other = (other.0, other.1, sym is ∙ other.2, λ same. other.3 (by ∙ same))

-- ---- where the file stands for no journal

-- memory may run out whatever the body is
pub lacking_body : (meant : Result (ℕ × ℕ × Item) LineFault) (fault : LineFault) (reply : ReplyParts) → ReadsAs {A = ℕ × ℕ × Item} (Err fault) meant → IsReplyToFault fault reply
    → is_ok meant ≡ true → reply ≡ out_of_memory
lacking_body meant line.NotJson reply same (inl is) item = let never : true ≡ false = sym item ∙ ap is_ok same in absurd cc
lacking_body meant (line.NotItem path) reply same (inl is) item = let never : true ≡ false = sym item ∙ ap is_ok same in absurd cc
lacking_body meant line.Memory reply same (inl is) item = is
lacking_body meant fault reply same (inr (path, is)) item = is

pub unfound_body : (meant : Result (ℕ × ℕ × Item) LineFault) (fault : LineFault) (reply : ReplyParts) → ReadsAs {A = ℕ × ℕ × Item} (Err fault) meant → IsReplyToFault fault reply
    → is_ok meant ≡ true → IsFailure reply
unfound_body meant fault reply same replied item = (OutOfMemory, lacking_body meant fault reply same replied item)

pub refused_body : (meant : Result (ℕ × ℕ × Item) LineFault) (fault : LineFault) (reply : ReplyParts) → ReadsAs {A = ℕ × ℕ × Item} (Err fault) meant → IsReplyToFault fault reply
    → ((held : Held) → reply ≡ (body_answer held meant).reply) ⊎ (reply ≡ out_of_memory)
refused_body meant line.NotJson reply same (inl is) = inl (λ held. is ∙ sym (ap (λ (m : Result (ℕ × ℕ × Item) LineFault). (body_answer held m).reply) same))
refused_body meant (line.NotItem path) reply same (inl is) = inl (λ held. is ∙ sym (ap (λ (m : Result (ℕ × ℕ × Item) LineFault). (body_answer held m).reply) same))
refused_body meant line.Memory reply same (inl is) = inr is
refused_body meant fault reply same (inr (path, is)) = inr is

-- What a request asks for that has no route, and what it is answered.
pub record IsUnrouted (request : RequestParts) (reply : ReplyParts) : Type 0 where
  pub wants : Asked
  pub asks : Asks request wants
  pub lacks : may_call_disk wants request.body ≡ true → reply ≡ out_of_memory
  pub says : may_call_disk wants request.body ≡ false → SaysAsked request.body wants reply

pub is_unrouted : (request : RequestParts) (fault : RouteFault) (reply : ReplyParts) → reply ≡ unrouted_reply fault
    → (unfound fault ≡ unfound routing.NotFound → Asks request NoRoute) → (unfound fault ≡ unfound routing.WrongMethod → Asks request WrongMethod) → IsUnrouted request reply
is_unrouted request routing.NotFound reply is none other = record { wants = NoRoute; asks = none refl; lacks = λ calls. absurd cc; says = λ uncalled. inl (λ held. is) }
is_unrouted request routing.WrongMethod reply is none other = record { wants = WrongMethod; asks = other refl; lacks = λ calls. absurd cc; says = λ uncalled. inl (λ held. is) }
is_unrouted request routing.Memory reply is none other =
    let always = always_asked request in record { wants = always.wants; asks = always.asks; lacks = λ calls. is; says = λ uncalled. inr is }

pub unrouted_none : {D : Type 0} (disk : D) (request : RequestParts) (reply : ReplyParts) → IsUnrouted request reply → AnswersNone disk disk request reply
unrouted_none disk request reply found = record { wants = found.wants; asks = found.asks; failed = λ calls. (OutOfMemory, found.lacks calls); uncalled = λ uncalled. (refl, found.says uncalled) }

-- ---- how it ends

module _ {D : Type 0} (reads : D → List ℕ) (images : D → List ℕ → Type 0) (moment : D → ℕ) (since : D → ℕ → List ℕ → Type 0) (disk : D)
    (only_now : (file : List ℕ) → since disk (moment disk) file → images disk file) (at_hand : Option SettledBookState) (known : Option (List DayMinute)) (held : Held)
    (holds : Holds at_hand (reads disk) (images disk) known held) where
  abbrev IsEnd : Bool → Answer → ReplyParts → Type 0
  IsEnd calls wanted reply = ends.EndsBy reads images moment since disk disk calls held wanted reply at_hand known

  pub silent_end : (reply : ReplyParts) → is_from_disk reply ≡ false → IsEnd false (only held reply) reply
  silent_end reply silent = ends_only reads images moment since disk disk false held reply at_hand known holds (leaves_now reads images moment since disk held.journal only_now) refl (λ tells. not_from_disk reply _ silent tells)

  pub memory_end : (calls : Bool) (wanted : Answer) (reply : ReplyParts) → reply ≡ out_of_memory → IsFront held.journal wanted.held.journal → IsEnd calls wanted reply
  memory_end calls wanted reply is front = ends_failed reads images moment since disk disk calls held wanted OutOfMemory reply at_hand known is holds (leaves_now reads images moment since disk held.journal only_now) (writes_nothing calls held.journal wanted.held.journal (reads disk)) front

  malformed_by : (meant : Result (ℕ × ℕ × Item) LineFault) (fault : LineFault) (reply : ReplyParts) → meant ≡ Err fault → reply ≡ malformed fault → IsEnd (is_ok meant) (body_answer held meant) reply
  malformed_by meant fault reply same is =
      subst (λ (m : Result (ℕ × ℕ × Item) LineFault). IsEnd (is_ok m) (body_answer held m) reply) (sym same)
      (subst (λ r. IsEnd false (only held r) reply) is (silent_end reply (ap is_from_disk is ∙ malformed_tells_none fault)))

  pub body_end : (meant : Result (ℕ × ℕ × Item) LineFault) (fault : LineFault) (reply : ReplyParts) → ReadsAs {A = ℕ × ℕ × Item} (Err fault) meant → IsReplyToFault fault reply
      → IsEnd (is_ok meant) (body_answer held meant) reply
  body_end meant line.NotJson reply same (inl is) = malformed_by meant line.NotJson reply same is
  body_end meant (line.NotItem path) reply same (inl is) = malformed_by meant (line.NotItem path) reply same is
  body_end meant line.Memory reply same (inl is) = memory_end (is_ok meant) (body_answer held meant) reply is (body_grows held meant)
  body_end meant fault reply same (inr (path, is)) = memory_end (is_ok meant) (body_answer held meant) reply is (body_grows held meant)

  -- a request that has no route: what it asks for, and how it ends
  pub record EndsUnrouted (request : RequestParts) (reply : ReplyParts) : Type 0 where
    pub wants : Asked
    pub asks : Asks request wants
    pub says : may_call_disk wants request.body ≡ false → SaysAsked request.body wants reply
    pub end : IsEnd (may_call_disk wants request.body) (answer held request.body wants) reply

  unrouted_by : (request : RequestParts) (fault : RouteFault) → (unfound fault ≡ unfound routing.NotFound → Asks request NoRoute) → (unfound fault ≡ unfound routing.WrongMethod → Asks request WrongMethod)
      → EndsUnrouted request (unrouted_reply fault)
  unrouted_by request routing.NotFound none other = record { wants = NoRoute; asks = none refl; says = λ uncalled. inl (λ h. refl); end = silent_end not_found refl }
  unrouted_by request routing.WrongMethod none other = record { wants = WrongMethod; asks = other refl; says = λ uncalled. inl (λ h. refl); end = silent_end wrong_method refl }
  unrouted_by request routing.Memory none other =
      let always = always_asked request in record {
        wants = always.wants;
        asks = always.asks;
        says = λ uncalled. inr refl;
        end = memory_end (may_call_disk always.wants request.body) (answer held request.body always.wants) out_of_memory refl (answer_grows held request.body always.wants);
      }

  pub ends_unrouted : (request : RequestParts) (fault : RouteFault) (reply : ReplyParts) → reply ≡ unrouted_reply fault
      → (unfound fault ≡ unfound routing.NotFound → Asks request NoRoute) → (unfound fault ≡ unfound routing.WrongMethod → Asks request WrongMethod) → EndsUnrouted request reply
  ends_unrouted request fault reply is none other = subst (EndsUnrouted request) (sym is) (unrouted_by request fault none other)
