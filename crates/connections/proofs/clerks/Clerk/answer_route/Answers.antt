use Rattle.std.proofs.Common.{◌≡◌, ◌∙◌, true, false, ap, refl, sym, subst}
use Rattle.registry_http.specs.declared.routes.Route.{Route}
use Rattle.settled_book.specs.Texts.{reads_register}
use Rattle.connections.specs.Answering.{SaysAsked, may_call_disk, posts_item}
use Rattle.connections.specs.Answers.{Answer, answer}
use Rattle.connections.specs.Asking.{AskedFor}
use Rattle.connections.specs.Tools.{tools}
use Rattle.connections.specs.inner.Ends.{EndsBy}
use Rattle.connections.proofs.Grows.{answer_reads, other_reads, reading_calls, reading_posts_none}
use Rattle.connections.proofs.SameTools.{same_clock, same_disk}
use Rattle.connections.proofs.clerks.Clerk.answer_route.Goals as goal

pub returns-in-Post-clause-ends : goal.returns-in-Post-clause-ends
returns-in-Post-clause-ends g c = λ tells held holds.
    subst (λ (r : Route). EndsBy g.D.Disk.reads g.D.Disk.images g.D.Disk.moment g.D.Disk.since c.args.disk.now c.post.new.disk (may_call_disk (AskedFor r) c.args.body.now) held (answer held c.args.body.now (AskedFor r)) c.post.result c.post.new.self (g.C.Clock.ticks c.post.new.clock))
    (sym c.in-Post.is) (c.post.ensures.ends tells held holds)

pub returns-in_default-clause-ends : goal.returns-in_default-clause-ends
returns-in_default-clause-ends g c = λ tells held holds.
    subst (λ b. EndsBy g.D.Disk.reads g.D.Disk.images g.D.Disk.moment g.D.Disk.since c.args.disk.now c.read.new.disk b held (answer held c.args.body.now (AskedFor c.args.route)) c.read.result c.read.new.self (g.C.Clock.ticks c.args.clock.now))
    (sym (reading_calls c.args.body.now c.args.route c.in_default.not-Post))
    (subst (λ (wanted : Answer). EndsBy g.D.Disk.reads g.D.Disk.images g.D.Disk.moment g.D.Disk.since c.args.disk.now c.read.new.disk true held wanted c.read.result c.read.new.self (g.C.Clock.ticks c.args.clock.now))
    (sym (answer_reads held c.args.body.now c.args.route c.in_default.not-Post)) (c.read.ensures.ends tells (g.C.Clock.ticks c.args.clock.now) held holds))

pub returns-in-Post-clause-uncalled : goal.returns-in-Post-clause-uncalled
returns-in-Post-clause-uncalled g c = λ none.
    let uncalled = c.post.ensures.uncalled (sym (ap (λ (r : Route). may_call_disk (AskedFor r) c.args.body.now) c.in-Post.is) ∙ none) in
    (uncalled.0, subst (λ (r : Route). SaysAsked c.args.body.now (AskedFor r) c.post.result) (sym c.in-Post.is) uncalled.1)

pub returns-in_default-clause-uncalled : goal.returns-in_default-clause-uncalled
returns-in_default-clause-uncalled g c = λ none. let never : true ≡ false = sym (reading_calls c.args.body.now c.args.route c.in_default.not-Post) ∙ none in absurd cc

pub returns-in-Post-clause-unfound : goal.returns-in-Post-clause-unfound
returns-in-Post-clause-unfound g c = λ tells was none calls.
    c.post.ensures.unfound tells was none (sym (ap (λ (r : Route). may_call_disk (AskedFor r) c.args.body.now) c.in-Post.is) ∙ calls)

pub returns-in_default-clause-unfound : goal.returns-in_default-clause-unfound
returns-in_default-clause-unfound g c = λ tells was none calls. c.read.ensures.unfound tells was none

pub returns-in-Post-clause-works : goal.returns-in-Post-clause-works
returns-in-Post-clause-works g c = λ calls sound. c.post.ensures.works (sym (ap (λ (r : Route). may_call_disk (AskedFor r) c.args.body.now) c.in-Post.is) ∙ calls) sound

pub returns-in_default-clause-works : goal.returns-in_default-clause-works
returns-in_default-clause-works g c = λ calls sound. c.read.ensures.works sound

unposted : (g : _) (c : goal.After-post g) → posts_item (AskedFor c.args.route) c.args.body.now ≡ false → tools c.post.new.disk c.post.new.self c.post.new.clock ≡ tools c.args.disk.now c.args.self.now c.args.clock.now
unposted g c none = (c.post.ensures.uncalled (sym (ap (λ (r : Route). posts_item (AskedFor r) c.args.body.now) c.in-Post.is) ∙ none)).0

pub returns-in-Post-clause-untouched : goal.returns-in-Post-clause-untouched
returns-in-Post-clause-untouched g c = λ works none. same_disk _ _ (unposted g c none)

pub returns-in_default-clause-untouched : goal.returns-in_default-clause-untouched
returns-in_default-clause-untouched g c = λ works none. c.read.ensures.untouched works

pub returns-in-Post-clause-unreceived : goal.returns-in-Post-clause-unreceived
returns-in-Post-clause-unreceived g c = λ works other sound. c.post.ensures.unreceived works other sound

pub returns-in_default-clause-unreceived : goal.returns-in_default-clause-unreceived
returns-in_default-clause-unreceived g c = λ works other sound. c.read.ensures.untouched works

-- ---- the clock, and what is settled

pub returns-in-Post-clause-text : goal.returns-in-Post-clause-text
returns-in-Post-clause-text g c = λ reads. let never : false ≡ true = sym (ap reads_register c.in-Post.is) ∙ reads in absurd cc

pub returns-in_default-clause-text : goal.returns-in_default-clause-text
returns-in_default-clause-text g c = λ reads. c.read.ensures.says

pub returns-in-Post-clause-read : goal.returns-in-Post-clause-read
returns-in-Post-clause-read g c = λ reads sound. let never : false ≡ true = sym (ap reads_register c.in-Post.is) ∙ reads in absurd cc

pub returns-in_default-clause-read : goal.returns-in_default-clause-read
returns-in_default-clause-read g c = λ reads sound. c.read.ensures.settled reads sound

pub returns-in-Post-clause-unread : goal.returns-in-Post-clause-unread
returns-in-Post-clause-unread g c = λ none some. c.post.ensures.unread some

pub returns-in_default-clause-unread : goal.returns-in_default-clause-unread
returns-in_default-clause-unread g c = λ none some. let never : true ≡ false = sym (other_reads c.args.route c.in_default.not-Post) ∙ none in absurd cc

pub returns-in-Post-clause-clock_kept : goal.returns-in-Post-clause-clock_kept
returns-in-Post-clause-clock_kept g c = λ none. same_clock _ _ (unposted g c none)

pub returns-in_default-clause-clock_kept : goal.returns-in_default-clause-clock_kept
returns-in_default-clause-clock_kept g c = λ none. refl

pub returns-in-Post-clause-asked : goal.returns-in-Post-clause-asked
returns-in-Post-clause-asked g c = λ posts. c.post.ensures.asked (sym (ap (λ (r : Route). posts_item (AskedFor r) c.args.body.now) c.in-Post.is) ∙ posts)

pub returns-in_default-clause-asked : goal.returns-in_default-clause-asked
returns-in_default-clause-asked g c = λ posts. let never : false ≡ true = sym (reading_posts_none c.args.body.now c.args.route c.in_default.not-Post) ∙ posts in absurd cc
