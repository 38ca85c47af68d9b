use Rattle.std.proofs.Common.{◌≡◌, ◌∙◌, true, false, ap, inl, inr, is_ok, refl, sym, subst}
use Rattle.act_json.specs.Lines.{item_of}
use Rattle.connections.specs.Answers.{body_answer}
use Rattle.connections.specs.inner.Ends.{EndsBy}
use Rattle.connections.proofs.ByDiskAlone.{failed_so, still}
use Rattle.connections.proofs.Unbegun.{apart_by_body, body_end, lacking_body, refused_body, unfound_body}
use Rattle.connections.proofs.clerks.Clerk.post.Goals as goal

pub returns-in-Err-clause-ends : goal.returns-in-Err-clause-ends
returns-in-Err-clause-ends g c = λ tells held holds.
    body_end g.D.Disk.reads g.D.Disk.images g.D.Disk.moment g.D.Disk.since c.args.disk.now (λ file left. g.met.D.Disk.only_now c.args.disk.now file tells left) c.args.self.now (g.C.Clock.ticks c.args.clock.now) held holds
    (item_of c.args.body.now) c.in-Err.fault c.malformed.result c.in-Err.ensures.exact c.malformed.ensures

pub returns-in-Err-clause-serves : goal.returns-in-Err-clause-serves
returns-in-Err-clause-serves g c =
    still g.D.Disk.tells g.D.Disk.reads g.D.Disk.images g.D.Disk.moment g.D.Disk.since g.D.Disk.faults c.args.disk.now c.args.self.now c.malformed.result
    (λ tells file left. g.met.D.Disk.only_now c.args.disk.now file tells left) c.requires.stands_open
    (apart_by_body c.in-Err.fault c.malformed.result c.malformed.ensures)

pub returns-clause-ends : goal.returns-clause-ends
returns-clause-ends g c = λ tells held holds.
    subst (λ read. EndsBy g.D.Disk.reads g.D.Disk.images g.D.Disk.moment g.D.Disk.since c.args.disk.now c.post_item.new.disk (is_ok read) held (body_answer held read) c.post_item.result c.post_item.new.self (g.C.Clock.ticks c.post_item.new.clock))
    (sym c.in-Ok.ensures.exact) (c.post_item.ensures.ends tells held holds)

pub returns-in-Err-clause-uncalled : goal.returns-in-Err-clause-uncalled
returns-in-Err-clause-uncalled g c = λ none. (refl, refused_body (item_of c.args.body.now) c.in-Err.fault c.malformed.result c.in-Err.ensures.exact c.malformed.ensures)

pub returns-clause-uncalled : goal.returns-clause-uncalled
returns-clause-uncalled g c = λ none. let never : true ≡ false = sym (ap is_ok c.in-Ok.ensures.exact) ∙ none in absurd cc

pub returns-in-Err-clause-unfound : goal.returns-in-Err-clause-unfound
returns-in-Err-clause-unfound g c = λ tells was none item. unfound_body (item_of c.args.body.now) c.in-Err.fault c.malformed.result c.in-Err.ensures.exact c.malformed.ensures item

pub returns-clause-unfound : goal.returns-clause-unfound
returns-clause-unfound g c = λ tells was none item. c.post_item.ensures.unfound tells was none

pub returns-in-Err-clause-works : goal.returns-in-Err-clause-works
returns-in-Err-clause-works g c = λ item sound.
    failed_so c.malformed.result _ (unfound_body (item_of c.args.body.now) c.in-Err.fault c.malformed.result c.in-Err.ensures.exact c.malformed.ensures item) sound

pub returns-clause-works : goal.returns-clause-works
returns-clause-works g c = λ item sound. c.post_item.ensures.works sound

pub returns-in-Err-clause-unreceived : goal.returns-in-Err-clause-unreceived
returns-in-Err-clause-unreceived g c = λ works other sound. refl

pub returns-clause-unreceived : goal.returns-clause-unreceived
returns-clause-unreceived g c = λ works other sound. c.post_item.ensures.unreceived works other sound

-- ---- the clock, and what is settled

pub returns-in-Err-clause-asked : goal.returns-in-Err-clause-asked
returns-in-Err-clause-asked g c = λ item. inl (record { same = refl; lacks = lacking_body (item_of c.args.body.now) c.in-Err.fault c.malformed.result c.in-Err.ensures.exact c.malformed.ensures item })

pub returns-clause-asked : goal.returns-clause-asked
returns-clause-asked g c = λ item. inr c.post_item.ensures.asked

pub returns-in-Err-clause-unread : goal.returns-in-Err-clause-unread
returns-in-Err-clause-unread g c = λ some. refl

pub returns-clause-unread : goal.returns-clause-unread
returns-clause-unread g c = λ some. c.post_item.ensures.unread some
