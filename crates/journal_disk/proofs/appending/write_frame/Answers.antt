use Rattle.std.proofs.Common.{◌≡◌, ℕ, List, ◌∷◌, length, subst, ap, arith, inl, Result, Ok, Err, OnOk}
use Rattle.gb_outside.specs.Images.{Holds}
use Rattle.gb_outside.proofs.Moments.{followed, weakened}
use Rattle.journal_disk.specs.Layout.{the_heading, appended}
use Rattle.journal_disk.specs.Appending.{FramesWithOrWithout}
use Rattle.journal_disk.proofs.Puts.{put_twice}
use Rattle.journal_disk.proofs.Torn.{torn_within, torn_then}
use Rattle.journal_disk.proofs.Appends.{record_put, record_written, gate_put, gate_written}
use Rattle.journal_disk.proofs.appending.write_frame.Goals as goal

-- what follows from two facts holds on Ok where both hold on Ok
on_ok : {T E P Q R : Type 0} (r : Result T E) → OnOk r P → OnOk r Q → (P → Q → R) → OnOk r R
on_ok (Ok x) p q then = then p q
on_ok (Err e) p q then = tt

pub returns-in_err-put-clause-any_moment : goal.returns-in_err-put-clause-any_moment
returns-in_err-put-clause-any_moment g c = λ yes bodies stands.
    weakened g.D.Disk.moment g.D.Disk.since _ _ _ (FramesWithOrWithout the_heading bodies c.args.body.now) (λ file from. inl (record_put _ bodies c.args.body.now _ _ stands _ file from)) (c.put.ensures.any_moment yes)

pub returns-clause-any_moment : goal.returns-clause-any_moment
returns-clause-any_moment g c = λ yes bodies stands.
    let P = FramesWithOrWithout the_heading bodies c.args.body.now in
    let first = weakened g.D.Disk.moment g.D.Disk.since _ _ _ P (λ file from. inl (record_put _ bodies c.args.body.now _ _ stands _ file from)) (c.put.ensures.any_moment yes) in
    let staged = record_written _ bodies c.args.body.now _ _ stands _ _ c.fill.ensures (c.in_ok-put.ensures.written yes) in
    let second = weakened g.D.Disk.moment g.D.Disk.since _ _ _ P (gate_put _ bodies c.args.body.now _ _ stands c.requires.body _ _ _ staged (c.in_ok-put.ensures.settled yes)) (c.put-2.ensures.any_moment yes) in
    followed g.D.Disk.moment g.D.Disk.since _ _ _ P first second

pub returns-clause-appended : goal.returns-clause-appended
returns-clause-appended g c = on_ok c.put-2.result c.put-2.ensures.written c.put-2.ensures.settled (λ written settled yes bodies stands.
    let staged = record_written _ bodies c.args.body.now _ _ stands _ _ c.fill.ensures (c.in_ok-put.ensures.written yes) in
    gate_written _ bodies c.args.body.now _ _ stands c.requires.body _ _ _ staged (c.in_ok-put.ensures.settled yes) _ _ (written yes) (settled yes))

pub returns-clause-written : goal.returns-clause-written
returns-clause-written g c = on_ok c.put-2.result c.put-2.ensures.written c.put-2.ensures.settled (λ written settled yes.
    subst (λ (l : List ℕ). Holds (g.D.Disk.reads c.args.disk.now) c.args.gate (1 ∷ l) (g.D.Disk.reads c.put-2.new.disk)) c.fill.ensures
    (put_twice _ _ _ c.fill.new.behind c.args.gate 1 (c.requires.within yes) (c.in_ok-put.ensures.written yes) (written yes)))

pub returns-clause-torn : goal.returns-clause-torn
returns-clause-torn g c = λ yes.
    let size = length (appended c.args.body.now) in
    let long : length (1 ∷ c.fill.new.behind) ≡ size = ap (λ (l : List ℕ). length (1 ∷ l)) c.fill.ensures in
    let behind = torn_within _ _ c.args.gate size _ _ (omega arith) (omega (arith, long)) (c.put.ensures.torn yes) in
    let gate = torn_within c.args.gate 1 c.args.gate size _ _ (omega arith) (omega arith) (c.put-2.ensures.torn yes) in
    torn_then c.args.gate size _ _ _ behind gate
