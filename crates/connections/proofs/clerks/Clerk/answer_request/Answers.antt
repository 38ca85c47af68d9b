use Rattle.std.proofs.Common.{◌≡◌, ◌∙◌, Bool, true, false, List, ℕ, ap, inl, refl, sym, subst}
use Rattle.connections.specs.Answering.{SaysAsked, may_call_disk, posts_item}
use Rattle.connections.specs.Answers.{answer}
use Rattle.connections.specs.Asking.{AskedFor}
use Rattle.connections.specs.Fates.{OutOfMemory}
use Rattle.connections.specs.Tools.{tools}
use Rattle.connections.specs.inner.Ends.{EndsBy, Serves}
use Rattle.connections.proofs.Answered.{answers}
use Rattle.connections.proofs.ByDiskAlone.{failed_so, failure_to_text, still}
use Rattle.connections.proofs.Grows.{posting_calls, text_calls}
use Rattle.connections.proofs.SameTools.{same_disk}
use Rattle.connections.proofs.Unbegun.{IsUnrouted, apart_by_route, asks_none, asks_other, ends_unrouted, is_unrouted, unrouted_none}
use Rattle.connections.proofs.clerks.Clerk.answer_request.Goals as goal

-- ---- it has no route

pub returns-in-Err-clause-answers : goal.returns-in-Err-clause-answers
returns-in-Err-clause-answers g c = λ tells held holds.
    let ends = ends_unrouted g.D.Disk.reads g.D.Disk.images g.D.Disk.moment g.D.Disk.since c.args.disk.now (λ file left. g.met.D.Disk.only_now c.args.disk.now file tells left)
    c.args.self.now (g.C.Clock.ticks c.args.clock.now) held holds c.args.request.now c.in-Err.fault c.unrouted.result c.unrouted.ensures
    (λ is. asks_none c.args.request.now c.path.result.now c.path.ensures (c.in-Err.ensures.not_found is))
    (λ is. asks_other c.args.request.now c.path.result.now c.method.result.now c.path.ensures c.method.ensures (c.in-Err.ensures.wrong_method is)) in
    answers g.D.Disk.reads g.D.Disk.images g.D.Disk.moment g.D.Disk.since c.args.disk.now c.args.disk.now (g.met.D.Disk.reads_is_image c.args.disk.now tells)
    (λ t file le image. g.met.D.Disk.counts_now c.args.disk.now t file tells le image)
    c.args.request.now held c.unrouted.result c.args.self.now (g.C.Clock.ticks c.args.clock.now) ends.wants ends.asks (λ none. (refl, ends.says none)) holds.file ends.end

served : (g : _) (c : goal.After-unrouted g) → Serves g.D.Disk.tells g.D.Disk.reads g.D.Disk.images g.D.Disk.moment g.D.Disk.since g.D.Disk.faults c.args.disk.now c.args.disk.now c.args.self.now c.args.self.now c.unrouted.result
served g c = still g.D.Disk.tells g.D.Disk.reads g.D.Disk.images g.D.Disk.moment g.D.Disk.since g.D.Disk.faults c.args.disk.now c.args.self.now c.unrouted.result
    (λ tells file left. g.met.D.Disk.only_now c.args.disk.now file tells left) c.requires.stands_open (apart_by_route c.in-Err.fault c.unrouted.result c.unrouted.ensures)

found_none : (g : _) (c : goal.After-unrouted g) → IsUnrouted c.args.request.now c.unrouted.result
found_none g c =
    is_unrouted c.args.request.now c.in-Err.fault c.unrouted.result c.unrouted.ensures
    (λ is. asks_none c.args.request.now c.path.result.now c.path.ensures (c.in-Err.ensures.not_found is))
    (λ is. asks_other c.args.request.now c.path.result.now c.method.result.now c.path.ensures c.method.ensures (c.in-Err.ensures.wrong_method is))

pub returns-in-Err-clause-no_journal : goal.returns-in-Err-clause-no_journal
returns-in-Err-clause-no_journal g c = (served g c).no_journal

pub returns-in-Err-clause-not_opened : goal.returns-in-Err-clause-not_opened
returns-in-Err-clause-not_opened g c = (served g c).not_opened

pub returns-in-Err-clause-status : goal.returns-in-Err-clause-status
returns-in-Err-clause-status g c = (served g c).status

pub returns-in-Err-clause-no_book : goal.returns-in-Err-clause-no_book
returns-in-Err-clause-no_book g c = (served g c).no_book

pub returns-in-Err-clause-answers_none : goal.returns-in-Err-clause-answers_none
returns-in-Err-clause-answers_none g c = λ tells was none. unrouted_none c.args.disk.now c.args.request.now c.unrouted.result (found_none g c)

-- ---- it has one

uncalled : (g : _) (c : goal.After-answer_route g) → may_call_disk (AskedFor c.in-Ok.route) c.args.request.now.body ≡ false
    → (tools c.answer_route.new.disk c.answer_route.new.self c.answer_route.new.clock ≡ tools c.args.disk.now c.args.self.now c.args.clock.now) × SaysAsked c.args.request.now.body (AskedFor c.in-Ok.route) c.answer_route.result
uncalled g c = subst (λ (body : List ℕ). may_call_disk (AskedFor c.in-Ok.route) body ≡ false
    → (tools c.answer_route.new.disk c.answer_route.new.self c.answer_route.new.clock ≡ tools c.args.disk.now c.args.self.now c.args.clock.now) × SaysAsked body (AskedFor c.in-Ok.route) c.answer_route.result) c.body.ensures
    c.answer_route.ensures.uncalled

pub returns-clause-answers : goal.returns-clause-answers
returns-clause-answers g c = λ tells held holds.
    let end = subst (λ (body : List ℕ). EndsBy g.D.Disk.reads g.D.Disk.images g.D.Disk.moment g.D.Disk.since c.args.disk.now c.answer_route.new.disk (may_call_disk (AskedFor c.in-Ok.route) body) held (answer held body (AskedFor c.in-Ok.route))
    c.answer_route.result c.answer_route.new.self (g.C.Clock.ticks c.answer_route.new.clock)) c.body.ensures (c.answer_route.ensures.ends tells held holds) in
    answers g.D.Disk.reads g.D.Disk.images g.D.Disk.moment g.D.Disk.since c.args.disk.now c.answer_route.new.disk (g.met.D.Disk.reads_is_image c.args.disk.now tells)
    (λ t file le image. g.met.D.Disk.counts_now c.answer_route.new.disk t file tells le image)
    c.args.request.now held c.answer_route.result c.answer_route.new.self (g.C.Clock.ticks c.answer_route.new.clock) (AskedFor c.in-Ok.route)
    (c.in-Ok.ensures.found.0, sym c.path.ensures ∙ c.in-Ok.ensures.found.1, sym c.method.ensures ∙ c.in-Ok.ensures.found.2)
    (λ none. (same_disk _ _ (uncalled g c none).0, (uncalled g c none).1)) holds.file end

pub returns-clause-answers_none : goal.returns-clause-answers_none
returns-clause-answers_none g c = λ tells was none. record {
  wants = AskedFor c.in-Ok.route;
  asks = (c.in-Ok.ensures.found.0, sym c.path.ensures ∙ c.in-Ok.ensures.found.1, sym c.method.ensures ∙ c.in-Ok.ensures.found.2);
  failed = λ calls. c.answer_route.ensures.unfound tells was none (ap (λ (body : List ℕ). may_call_disk (AskedFor c.in-Ok.route) body) c.body.ensures ∙ calls);
  uncalled = λ none. (same_disk _ _ (uncalled g c none).0, (uncalled g c none).1);
}

pub returns-clause-no_book : goal.returns-clause-no_book
returns-clause-no_book g c = c.answer_route.ensures.serves.no_book

-- ---- what it does to the tools

pub returns-in-Err-clause-turn : goal.returns-in-Err-clause-turn
returns-in-Err-clause-turn g c =
    let none = found_none g c in
    let body = c.args.request.now.body in
    record {
      wants = none.wants;
      asks = none.asks;
      uncalled = λ uncalled. (refl, none.says uncalled);
      disk = (served g c).disk;
      had_none = (served g c).had_none;
      kept = (served g c).kept_open;
      failed = (served g c).failed;
      left = λ calls sound. failed_so c.unrouted.result _ (OutOfMemory, none.lacks calls) sound;
      untouched = λ works other. refl;
      unreceived = λ works other sound. refl;
      text = λ reads. failure_to_text c.unrouted.result (OutOfMemory, none.lacks (text_calls none.wants body reads));
      read = λ reads sound. failed_so c.unrouted.result _ (OutOfMemory, none.lacks (text_calls none.wants body reads)) sound;
      unread = λ none works. refl;
      clock_kept = λ other. refl;
      asked = λ posts. inl (record { same = refl; lacks = none.lacks (posting_calls none.wants body posts) });
    }

posted : (g : _) (c : goal.After-answer_route g) (b : Bool) → posts_item (AskedFor c.in-Ok.route) c.args.request.now.body ≡ b → posts_item (AskedFor c.in-Ok.route) c.body.result.now ≡ b
posted g c b is = ap (λ (body : List ℕ). posts_item (AskedFor c.in-Ok.route) body) c.body.ensures ∙ is

pub returns-clause-turn : goal.returns-clause-turn
returns-clause-turn g c = record {
  wants = AskedFor c.in-Ok.route;
  asks = (c.in-Ok.ensures.found.0, sym c.path.ensures ∙ c.in-Ok.ensures.found.1, sym c.method.ensures ∙ c.in-Ok.ensures.found.2);
  uncalled = uncalled g c;
  disk = c.answer_route.ensures.serves.disk;
  had_none = c.answer_route.ensures.serves.had_none;
  kept = c.answer_route.ensures.serves.kept_open;
  failed = c.answer_route.ensures.serves.failed;
  left = λ calls sound. c.answer_route.ensures.works (ap (λ (body : List ℕ). may_call_disk (AskedFor c.in-Ok.route) body) c.body.ensures ∙ calls) sound;
  untouched = λ works none. c.answer_route.ensures.untouched works (posted g c false none);
  unreceived = λ works other sound. c.answer_route.ensures.unreceived works other sound;
  text = λ reads. c.answer_route.ensures.text reads;
  read = λ reads sound. c.answer_route.ensures.read reads sound;
  unread = λ none works. c.answer_route.ensures.unread none works;
  clock_kept = λ none. c.answer_route.ensures.clock_kept (posted g c false none);
  asked = λ posts. c.answer_route.ensures.asked (posted g c true posts);
}

pub returns-in-Err-clause-made : goal.returns-in-Err-clause-made
returns-in-Err-clause-made g c = λ tells was. was

pub returns-clause-made : goal.returns-clause-made
returns-clause-made g c = c.answer_route.ensures.serves.made
