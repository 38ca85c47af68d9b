use Rattle.std.proofs.Common.{◌≡◌, ◌∙◌, ⊎_elim, ℕ, ◌==◌, false, [], ◌∷◌, ◌++◌, refl, subst}
use Rattle.registry_http.specs.RequestLists.{IsNext}
use Rattle.registry_http.specs.Requests.{AtFront, Nothing, Cut, HeadFault, BodyTooLong}
use Rattle.registry_http.specs.declared.requests.Next.{Next}
use Rattle.registry_http.specs.declared.requests.Next.TheVariants as next
use Rattle.connections.specs.Answering.{AnswersTurn}
use Rattle.connections.specs.Holding.{Holds}
use Rattle.connections.specs.Replies.{bad_request, body_too_long, out_of_memory}
use Rattle.connections.specs.Serving.{ServesLink, TakesNone, TakesTurns}
use Rattle.connections.specs.Tools.{tools}
use Rattle.connections.specs.Turns.{End, last_turn, turns}
use Rattle.connections.specs.declared.serving.Ended.TheVariants.{Finished}
use Rattle.connections.specs.inner.Rounds.{Meets}
use Rattle.connections.proofs.NoBook.{none_still}
use Rattle.connections.proofs.LinkEnds.{cut_off, memory_ends, none_ends, refusal_ends, turn_of}
use Rattle.connections.proofs.LinkTurns.{comes_next}
use Rattle.connections.proofs.NoneTaken.{none_refused, none_taken}
use Rattle.connections.proofs.TakenTurns.{takes_none, takes_refusal}
use Rattle.connections.proofs.OrderedTurns.{closes_by, next_of_request, quiet_end, replies_last}
use Rattle.connections.proofs.ToldLinks.{same_told}
use Rattle.connections.proofs.clerks.Clerk.serve_next.Goals as goal

pub returns-in-Request-clause-turn : goal.returns-in-Request-clause-turn
returns-in-Request-clause-turn g c = λ tells held requests end meets.
    let comes = comes_next (g.L.Link.left c.args.link.now) (g.L.Link.left c.next_request.new.link) c.args.rest.now.items c.next_request.new.rest.items meets.input (next.Request c.in-Request.request) requests end
    meets.left_is c.in-Request.ensures.answer meets.are in
    turn_of (TakesTurns g.D.Disk.reads g.D.Disk.images g.D.Disk.moment g.D.Disk.since g.D.Disk.faults) c.args.disk.now c.serve_request.new.disk held (g.L.Link.written c.args.link.now) (g.L.Link.written c.next_request.new.link)
    (g.L.Link.written c.serve_request.new.link) c.in-Request.request comes.is.0 requests end
    (λ h. Holds c.serve_request.new.self (g.D.Disk.reads c.serve_request.new.disk) (g.D.Disk.images c.serve_request.new.disk) (g.C.Clock.ticks c.serve_request.new.clock) h)
    (λ h others. Meets (Holds c.serve_request.new.self (g.D.Disk.reads c.serve_request.new.disk) (g.D.Disk.images c.serve_request.new.disk) (g.C.Clock.ticks c.serve_request.new.clock)) (g.L.Link.left c.serve_request.new.link)
    c.next_request.new.rest.items end h others)
    c.serve_request.result c.in-Request.ensures.written comes.is.1
    (λ h holds. record { holds = holds; input = comes.input; left_is = c.serve_request.ensures.left ∙ comes.left_is; are = comes.is.2 })
    (c.serve_request.ensures.turn tells held comes.is.0 end meets.holds)

pub returns-in-End-clause-turn : goal.returns-in-End-clause-turn
returns-in-End-clause-turn g c = λ tells held requests end meets.
    let comes = comes_next (g.L.Link.left c.args.link.now) (g.L.Link.left c.next_request.new.link) c.args.rest.now.items c.next_request.new.rest.items meets.input c.next_request.result requests end
    meets.left_is c.next_request.ensures.answer meets.are in
    let ends : (last : AtFront) → requests ≡ [] → end ≡ last → last_turn last ≡ End ∷ [] → (n : ℕ) → (n == 0) ≡ false
    → ServesLink (TakesTurns g.D.Disk.reads g.D.Disk.images g.D.Disk.moment g.D.Disk.since g.D.Disk.faults) c.args.disk.now c.args.disk.now held (g.L.Link.written c.args.link.now) (g.L.Link.written c.next_request.new.link) (turns n requests end)
    (record { replies = 0; ended = Finished }) (λ h. Holds c.args.self.now (g.D.Disk.reads c.args.disk.now) (g.D.Disk.images c.args.disk.now) (g.C.Clock.ticks c.args.clock.now) h) =
    λ last none is silent.
    none_ends (TakesTurns g.D.Disk.reads g.D.Disk.images g.D.Disk.moment g.D.Disk.since g.D.Disk.faults) c.args.disk.now held (takes_none g.D.Disk.reads g.D.Disk.images g.D.Disk.moment g.D.Disk.since g.D.Disk.faults c.args.disk.now held (λ file left. g.met.D.Disk.only_now c.args.disk.now file tells left)) (g.L.Link.written c.args.link.now)
    (g.L.Link.written c.args.link.now) (g.L.Link.written c.next_request.new.link) requests end (λ h. Holds c.args.self.now (g.D.Disk.reads c.args.disk.now) (g.D.Disk.images c.args.disk.now) (g.C.Clock.ticks c.args.clock.now) h) meets.holds
    (record { replies = 0; ended = Finished }) refl last none is silent c.next_request.ensures.written refl refl in
    ⊎_elim
    (λ is. let at = subst (λ (a : Next). IsNext a (c.next_request.new.rest.items ++ comes.input) requests end) is comes.is in ends Nothing at.0 at.1 refl)
    (λ is. let at = subst (λ (a : Next). IsNext a (c.next_request.new.rest.items ++ comes.input) requests end) is comes.is in ends Cut at.0 at.1 refl)
    c.in-End.is

pub returns-in-HeadFault-clause-turn : goal.returns-in-HeadFault-clause-turn
returns-in-HeadFault-clause-turn g c = λ tells held requests end meets.
    let comes = comes_next (g.L.Link.left c.args.link.now) (g.L.Link.left c.next_request.new.link) c.args.rest.now.items c.next_request.new.rest.items meets.input next.HeadFault requests end
    meets.left_is c.in-HeadFault.ensures.answer meets.are in
    refusal_ends (TakesTurns g.D.Disk.reads g.D.Disk.images g.D.Disk.moment g.D.Disk.since g.D.Disk.faults) c.args.disk.now held (takes_none g.D.Disk.reads g.D.Disk.images g.D.Disk.moment g.D.Disk.since g.D.Disk.faults c.args.disk.now held (λ file left. g.met.D.Disk.only_now c.args.disk.now file tells left)) (g.L.Link.written c.args.link.now)
    (g.L.Link.written c.next_request.new.link) (g.L.Link.written c.close.new.link) requests end (λ h. Holds c.args.self.now (g.D.Disk.reads c.args.disk.now) (g.D.Disk.images c.args.disk.now) (g.C.Clock.ticks c.args.clock.now) h) meets.holds
    c.close.result c.in-HeadFault.ensures.written HeadFault bad_request c.bad_request.result c.bad_request.ensures comes.is.0 comes.is.1 refl (takes_refusal g.D.Disk.reads g.D.Disk.images g.D.Disk.moment g.D.Disk.since g.D.Disk.faults c.args.disk.now held bad_request refl (λ file left. g.met.D.Disk.only_now c.args.disk.now file tells left)) c.close.ensures.ends

pub returns-in-BodyTooLong-clause-turn : goal.returns-in-BodyTooLong-clause-turn
returns-in-BodyTooLong-clause-turn g c = λ tells held requests end meets.
    let comes = comes_next (g.L.Link.left c.args.link.now) (g.L.Link.left c.next_request.new.link) c.args.rest.now.items c.next_request.new.rest.items meets.input next.BodyTooLong requests end
    meets.left_is c.in-BodyTooLong.ensures.answer meets.are in
    refusal_ends (TakesTurns g.D.Disk.reads g.D.Disk.images g.D.Disk.moment g.D.Disk.since g.D.Disk.faults) c.args.disk.now held (takes_none g.D.Disk.reads g.D.Disk.images g.D.Disk.moment g.D.Disk.since g.D.Disk.faults c.args.disk.now held (λ file left. g.met.D.Disk.only_now c.args.disk.now file tells left)) (g.L.Link.written c.args.link.now)
    (g.L.Link.written c.next_request.new.link) (g.L.Link.written c.close-in-BodyTooLong.new.link) requests end (λ h. Holds c.args.self.now (g.D.Disk.reads c.args.disk.now) (g.D.Disk.images c.args.disk.now) (g.C.Clock.ticks c.args.clock.now) h) meets.holds
    c.close-in-BodyTooLong.result c.in-BodyTooLong.ensures.written BodyTooLong body_too_long c.body_too_long.result c.body_too_long.ensures comes.is.0 comes.is.1 refl (takes_refusal g.D.Disk.reads g.D.Disk.images g.D.Disk.moment g.D.Disk.since g.D.Disk.faults c.args.disk.now held body_too_long refl (λ file left. g.met.D.Disk.only_now c.args.disk.now file tells left)) c.close-in-BodyTooLong.ensures.ends

pub returns-in-LinkFault-clause-turn : goal.returns-in-LinkFault-clause-turn
returns-in-LinkFault-clause-turn g c = λ tells held requests end meets.
    cut_off (TakesTurns g.D.Disk.reads g.D.Disk.images g.D.Disk.moment g.D.Disk.since g.D.Disk.faults) c.args.disk.now held (takes_none g.D.Disk.reads g.D.Disk.images g.D.Disk.moment g.D.Disk.since g.D.Disk.faults c.args.disk.now held (λ file left. g.met.D.Disk.only_now c.args.disk.now file tells left)) (g.L.Link.written c.args.link.now)
    (g.L.Link.written c.args.link.now) (g.L.Link.written c.next_request.new.link) requests end (λ h. Holds c.args.self.now (g.D.Disk.reads c.args.disk.now) (g.D.Disk.images c.args.disk.now) (g.C.Clock.ticks c.args.clock.now) h) meets.holds
    _ refl (c.args.rest.now.items ++ meets.input) meets.are c.in-LinkFault.ensures.written refl refl

pub returns-in-Memory-clause-turn : goal.returns-in-Memory-clause-turn
returns-in-Memory-clause-turn g c = λ tells held requests end meets.
    memory_ends (TakesTurns g.D.Disk.reads g.D.Disk.images g.D.Disk.moment g.D.Disk.since g.D.Disk.faults) c.args.disk.now held (takes_none g.D.Disk.reads g.D.Disk.images g.D.Disk.moment g.D.Disk.since g.D.Disk.faults c.args.disk.now held (λ file left. g.met.D.Disk.only_now c.args.disk.now file tells left)) (g.L.Link.written c.args.link.now)
    (g.L.Link.written c.next_request.new.link) (g.L.Link.written c.close-in-Memory.new.link) requests end (λ h. Holds c.args.self.now (g.D.Disk.reads c.args.disk.now) (g.D.Disk.images c.args.disk.now) (g.C.Clock.ticks c.args.clock.now) h) meets.holds
    c.close-in-Memory.result c.in-Memory.ensures.written (c.args.rest.now.items ++ meets.input) meets.are c.out_of_memory.result c.out_of_memory.ensures c.close-in-Memory.ensures.ends

-- ---- where the file stands for no journal

pub returns-in-Request-clause-none_turn : goal.returns-in-Request-clause-none_turn
returns-in-Request-clause-none_turn g c = λ tells was none held all requests end meets.
    let comes = comes_next (g.L.Link.left c.args.link.now) (g.L.Link.left c.next_request.new.link) c.args.rest.now.items c.next_request.new.rest.items meets.input (next.Request c.in-Request.request) requests end
    meets.left_is c.in-Request.ensures.answer meets.are in
    turn_of (TakesNone g.D.Disk.faults) c.args.disk.now c.serve_request.new.disk held (g.L.Link.written c.args.link.now) (g.L.Link.written c.next_request.new.link)
    (g.L.Link.written c.serve_request.new.link) c.in-Request.request comes.is.0 requests end
    (λ h. h ≡ all)
    (λ h others. Meets (λ k. k ≡ all) (g.L.Link.left c.serve_request.new.link)
    c.next_request.new.rest.items end h others)
    c.serve_request.result c.in-Request.ensures.written comes.is.1
    (λ h holds. record { holds = holds; input = comes.input; left_is = c.serve_request.ensures.left ∙ comes.left_is; are = comes.is.2 })
    (c.serve_request.ensures.none_turn tells was none held all comes.is.0 end meets.holds)

pub returns-in-End-clause-none_turn : goal.returns-in-End-clause-none_turn
returns-in-End-clause-none_turn g c = λ tells was none held all requests end meets.
    let comes = comes_next (g.L.Link.left c.args.link.now) (g.L.Link.left c.next_request.new.link) c.args.rest.now.items c.next_request.new.rest.items meets.input c.next_request.result requests end
    meets.left_is c.next_request.ensures.answer meets.are in
    let ends : (last : AtFront) → requests ≡ [] → end ≡ last → last_turn last ≡ End ∷ [] → (n : ℕ) → (n == 0) ≡ false
    → ServesLink (TakesNone g.D.Disk.faults) c.args.disk.now c.args.disk.now held (g.L.Link.written c.args.link.now) (g.L.Link.written c.next_request.new.link) (turns n requests end)
    (record { replies = 0; ended = Finished }) (λ h. h ≡ all) =
    λ last none is silent.
    none_ends (TakesNone g.D.Disk.faults) c.args.disk.now held (none_taken g.D.Disk.faults c.args.disk.now held) (g.L.Link.written c.args.link.now)
    (g.L.Link.written c.args.link.now) (g.L.Link.written c.next_request.new.link) requests end (λ h. h ≡ all) meets.holds
    (record { replies = 0; ended = Finished }) refl last none is silent c.next_request.ensures.written refl refl in
    ⊎_elim
    (λ is. let at = subst (λ (a : Next). IsNext a (c.next_request.new.rest.items ++ comes.input) requests end) is comes.is in ends Nothing at.0 at.1 refl)
    (λ is. let at = subst (λ (a : Next). IsNext a (c.next_request.new.rest.items ++ comes.input) requests end) is comes.is in ends Cut at.0 at.1 refl)
    c.in-End.is

pub returns-in-HeadFault-clause-none_turn : goal.returns-in-HeadFault-clause-none_turn
returns-in-HeadFault-clause-none_turn g c = λ tells was none held all requests end meets.
    let comes = comes_next (g.L.Link.left c.args.link.now) (g.L.Link.left c.next_request.new.link) c.args.rest.now.items c.next_request.new.rest.items meets.input next.HeadFault requests end
    meets.left_is c.in-HeadFault.ensures.answer meets.are in
    refusal_ends (TakesNone g.D.Disk.faults) c.args.disk.now held (none_taken g.D.Disk.faults c.args.disk.now held) (g.L.Link.written c.args.link.now)
    (g.L.Link.written c.next_request.new.link) (g.L.Link.written c.close.new.link) requests end (λ h. h ≡ all) meets.holds
    c.close.result c.in-HeadFault.ensures.written HeadFault bad_request c.bad_request.result c.bad_request.ensures comes.is.0 comes.is.1 refl (none_refused g.D.Disk.faults c.args.disk.now held bad_request) c.close.ensures.ends

pub returns-in-BodyTooLong-clause-none_turn : goal.returns-in-BodyTooLong-clause-none_turn
returns-in-BodyTooLong-clause-none_turn g c = λ tells was none held all requests end meets.
    let comes = comes_next (g.L.Link.left c.args.link.now) (g.L.Link.left c.next_request.new.link) c.args.rest.now.items c.next_request.new.rest.items meets.input next.BodyTooLong requests end
    meets.left_is c.in-BodyTooLong.ensures.answer meets.are in
    refusal_ends (TakesNone g.D.Disk.faults) c.args.disk.now held (none_taken g.D.Disk.faults c.args.disk.now held) (g.L.Link.written c.args.link.now)
    (g.L.Link.written c.next_request.new.link) (g.L.Link.written c.close-in-BodyTooLong.new.link) requests end (λ h. h ≡ all) meets.holds
    c.close-in-BodyTooLong.result c.in-BodyTooLong.ensures.written BodyTooLong body_too_long c.body_too_long.result c.body_too_long.ensures comes.is.0 comes.is.1 refl (none_refused g.D.Disk.faults c.args.disk.now held body_too_long) c.close-in-BodyTooLong.ensures.ends

pub returns-in-LinkFault-clause-none_turn : goal.returns-in-LinkFault-clause-none_turn
returns-in-LinkFault-clause-none_turn g c = λ tells was none held all requests end meets.
    cut_off (TakesNone g.D.Disk.faults) c.args.disk.now held (none_taken g.D.Disk.faults c.args.disk.now held) (g.L.Link.written c.args.link.now)
    (g.L.Link.written c.args.link.now) (g.L.Link.written c.next_request.new.link) requests end (λ h. h ≡ all) meets.holds
    _ refl (c.args.rest.now.items ++ meets.input) meets.are c.in-LinkFault.ensures.written refl refl

pub returns-in-Memory-clause-none_turn : goal.returns-in-Memory-clause-none_turn
returns-in-Memory-clause-none_turn g c = λ tells was none held all requests end meets.
    memory_ends (TakesNone g.D.Disk.faults) c.args.disk.now held (none_taken g.D.Disk.faults c.args.disk.now held) (g.L.Link.written c.args.link.now)
    (g.L.Link.written c.next_request.new.link) (g.L.Link.written c.close-in-Memory.new.link) requests end (λ h. h ≡ all) meets.holds
    c.close-in-Memory.result c.in-Memory.ensures.written (c.args.rest.now.items ++ meets.input) meets.are c.out_of_memory.result c.out_of_memory.ensures c.close-in-Memory.ensures.ends

pub returns-in-Request-clause-told : goal.returns-in-Request-clause-told
returns-in-Request-clause-told g c = λ told. c.serve_request.ensures.told (same_told (g.L.Link.written c.args.link.now) (g.L.Link.written c.next_request.new.link) c.next_request.ensures.written told)

pub returns-in-End-clause-told : goal.returns-in-End-clause-told
returns-in-End-clause-told g c = λ told. same_told (g.L.Link.written c.args.link.now) (g.L.Link.written c.next_request.new.link) c.next_request.ensures.written told

pub returns-in-HeadFault-clause-told : goal.returns-in-HeadFault-clause-told
returns-in-HeadFault-clause-told g c = λ told. c.close.ensures.told (same_told (g.L.Link.written c.args.link.now) (g.L.Link.written c.next_request.new.link) c.next_request.ensures.written told)

pub returns-in-BodyTooLong-clause-told : goal.returns-in-BodyTooLong-clause-told
returns-in-BodyTooLong-clause-told g c = λ told. c.close-in-BodyTooLong.ensures.told (same_told (g.L.Link.written c.args.link.now) (g.L.Link.written c.next_request.new.link) c.next_request.ensures.written told)

pub returns-in-LinkFault-clause-told : goal.returns-in-LinkFault-clause-told
returns-in-LinkFault-clause-told g c = λ told. same_told (g.L.Link.written c.args.link.now) (g.L.Link.written c.next_request.new.link) c.next_request.ensures.written told

pub returns-in-Memory-clause-told : goal.returns-in-Memory-clause-told
returns-in-Memory-clause-told g c = λ told. c.close-in-Memory.ensures.told (same_told (g.L.Link.written c.args.link.now) (g.L.Link.written c.next_request.new.link) c.next_request.ensures.written told)

-- ---- no request, so no call of the disk

pub returns-in-End-clause-no_book : goal.returns-in-End-clause-no_book
returns-in-End-clause-no_book g c = λ tells was none.
    none_still g.D.Disk.reads g.D.Disk.images g.D.Disk.moment g.D.Disk.since c.args.disk.now c.args.self.now (λ file left. g.met.D.Disk.only_now c.args.disk.now file tells left) was

pub returns-in-HeadFault-clause-no_book : goal.returns-in-HeadFault-clause-no_book
returns-in-HeadFault-clause-no_book g c = λ tells was none.
    none_still g.D.Disk.reads g.D.Disk.images g.D.Disk.moment g.D.Disk.since c.args.disk.now c.args.self.now (λ file left. g.met.D.Disk.only_now c.args.disk.now file tells left) was

pub returns-in-BodyTooLong-clause-no_book : goal.returns-in-BodyTooLong-clause-no_book
returns-in-BodyTooLong-clause-no_book g c = λ tells was none.
    none_still g.D.Disk.reads g.D.Disk.images g.D.Disk.moment g.D.Disk.since c.args.disk.now c.args.self.now (λ file left. g.met.D.Disk.only_now c.args.disk.now file tells left) was

pub returns-in-LinkFault-clause-no_book : goal.returns-in-LinkFault-clause-no_book
returns-in-LinkFault-clause-no_book g c = λ tells was none.
    none_still g.D.Disk.reads g.D.Disk.images g.D.Disk.moment g.D.Disk.since c.args.disk.now c.args.self.now (λ file left. g.met.D.Disk.only_now c.args.disk.now file tells left) was

pub returns-in-Memory-clause-no_book : goal.returns-in-Memory-clause-no_book
returns-in-Memory-clause-no_book g c = λ tells was none.
    none_still g.D.Disk.reads g.D.Disk.images g.D.Disk.moment g.D.Disk.since c.args.disk.now c.args.self.now (λ file left. g.met.D.Disk.only_now c.args.disk.now file tells left) was

-- ---- in which order the link was read and written

pub returns-in-Request-clause-order : goal.returns-in-Request-clause-order
returns-in-Request-clause-order g c =
    next_of_request g.L.Link.left g.L.Link.written g.L.Link.faults (AnswersTurn g.D.Disk.tells g.D.Disk.reads g.D.Disk.images g.D.Disk.faults g.C.Clock.ticks) c.args.link.now c.next_request.new.link c.serve_request.new.link
    (tools c.args.disk.now c.args.self.now c.args.clock.now) (tools c.serve_request.new.disk c.serve_request.new.self c.serve_request.new.clock) c.args.rest.now.items c.next_request.new.rest.items c.in-Request.request c.serve_request.result
    c.in-Request.ensures.answer c.next_request.ensures.written c.in-Request.ensures.cause c.serve_request.ensures.replied

pub returns-in-End-clause-order : goal.returns-in-End-clause-order
returns-in-End-clause-order g c = record {
  read = c.next_request.new.link;
  answer = c.next_request.result;
  behind = c.next_request.new.rest.items;
  reads = c.next_request.ensures.answer;
  unwritten = c.next_request.ensures.written;
  failed = c.next_request.ensures.cause;
  ends = quiet_end g.L.Link.left g.L.Link.written g.L.Link.faults (AnswersTurn g.D.Disk.tells g.D.Disk.reads g.D.Disk.images g.D.Disk.faults g.C.Clock.ticks) c.next_request.new.link (tools c.args.disk.now c.args.self.now c.args.clock.now) c.next_request.result c.in-End.is;
}

pub returns-in-LinkFault-clause-order : goal.returns-in-LinkFault-clause-order
returns-in-LinkFault-clause-order g c = record {
  read = c.next_request.new.link;
  answer = next.LinkFault;
  behind = c.next_request.new.rest.items;
  reads = c.in-LinkFault.ensures.answer;
  unwritten = c.next_request.ensures.written;
  failed = c.in-LinkFault.ensures.cause;
  ends = (refl, refl);
}

pub returns-in-HeadFault-clause-order : goal.returns-in-HeadFault-clause-order
returns-in-HeadFault-clause-order g c = record {
  read = c.next_request.new.link;
  answer = next.HeadFault;
  behind = c.next_request.new.rest.items;
  reads = c.in-HeadFault.ensures.answer;
  unwritten = c.next_request.ensures.written;
  failed = c.in-HeadFault.ensures.cause;
  ends = closes_by g.L.Link.left g.L.Link.written g.L.Link.faults (AnswersTurn g.D.Disk.tells g.D.Disk.reads g.D.Disk.images g.D.Disk.faults g.C.Clock.ticks) c.next_request.new.link c.close.new.link (tools c.args.disk.now c.args.self.now c.args.clock.now)
      bad_request c.bad_request.result c.close.result c.bad_request.ensures
      (replies_last g.L.Link.left g.L.Link.written g.L.Link.faults c.bad_request.result c.next_request.new.link c.close.new.link c.close.result c.close.ensures.ends c.close.ensures.left c.close.ensures.cause);
}

pub returns-in-BodyTooLong-clause-order : goal.returns-in-BodyTooLong-clause-order
returns-in-BodyTooLong-clause-order g c = record {
  read = c.next_request.new.link;
  answer = next.BodyTooLong;
  behind = c.next_request.new.rest.items;
  reads = c.in-BodyTooLong.ensures.answer;
  unwritten = c.next_request.ensures.written;
  failed = c.in-BodyTooLong.ensures.cause;
  ends = closes_by g.L.Link.left g.L.Link.written g.L.Link.faults (AnswersTurn g.D.Disk.tells g.D.Disk.reads g.D.Disk.images g.D.Disk.faults g.C.Clock.ticks) c.next_request.new.link c.close-in-BodyTooLong.new.link (tools c.args.disk.now c.args.self.now c.args.clock.now)
      body_too_long c.body_too_long.result c.close-in-BodyTooLong.result c.body_too_long.ensures
      (replies_last g.L.Link.left g.L.Link.written g.L.Link.faults c.body_too_long.result c.next_request.new.link c.close-in-BodyTooLong.new.link c.close-in-BodyTooLong.result c.close-in-BodyTooLong.ensures.ends c.close-in-BodyTooLong.ensures.left c.close-in-BodyTooLong.ensures.cause);
}

pub returns-in-Memory-clause-order : goal.returns-in-Memory-clause-order
returns-in-Memory-clause-order g c = record {
  read = c.next_request.new.link;
  answer = next.Memory;
  behind = c.next_request.new.rest.items;
  reads = c.in-Memory.ensures.answer;
  unwritten = c.next_request.ensures.written;
  failed = c.in-Memory.ensures.cause;
  ends = closes_by g.L.Link.left g.L.Link.written g.L.Link.faults (AnswersTurn g.D.Disk.tells g.D.Disk.reads g.D.Disk.images g.D.Disk.faults g.C.Clock.ticks) c.next_request.new.link c.close-in-Memory.new.link (tools c.args.disk.now c.args.self.now c.args.clock.now)
      out_of_memory c.out_of_memory.result c.close-in-Memory.result c.out_of_memory.ensures
      (replies_last g.L.Link.left g.L.Link.written g.L.Link.faults c.out_of_memory.result c.next_request.new.link c.close-in-Memory.new.link c.close-in-Memory.result c.close-in-Memory.ensures.ends c.close-in-Memory.ensures.left c.close-in-Memory.ensures.cause);
}
