use Rattle.std.proofs.Common.{◌≡◌, inl, ⊎_elim, ℕ, List, [], refl, sym, ap, subst, take, arith, IsTrue}
use Rattle.act_model.specs.declared.receipts.Receipt.{Receipt}
use Rattle.journal_disk.specs.Opening.{AnswersSynced}
use Rattle.receipt_journal.specs.Standing.{records, StandsForJournal}
use Rattle.receipt_journal.proofs.Standings.{journal_once}
use Rattle.registry_office.specs.Disks.{KeepsGrown, LeftNewly, WritesBehind}
use Rattle.intake.specs.Grown.{IsFront, DiskGrows}
use Rattle.intake.specs.Intakes.{whole_of, cut_of}
use Rattle.registry_office.specs.Receivings.{EndsEarlyOnDisk, SessionReceives}
use Rattle.intake.specs.Requests.{OnDisk, Held, holding, held_after}
use Rattle.registry_office.specs.Statuses.{disk_fault}
use Rattle.registry_office.specs.Tasks.{receiving, Told}
use Rattle.intake.proofs.Durable.{durable_stands}
use Rattle.intake.proofs.EarlyEnds.{early_of_fewer}
use Rattle.registry_office.proofs.Opened.{early_unopened, grows_synced, grows_further, keeps_grown, opening_status, disk_at_opening, found_at_opening, session_not_none, found_by_session, session_no_door, session_no_usage, none_written, no_front, made_at_opening, made_by_session, made_of_journal, makes_at_opening, left_by_opening, left_of, cut_by_source}
use Rattle.intake.proofs.Replies.{grows}
use Rattle.intake.proofs.SessionInputs.{took_none}
use Rattle.registry_office.proofs.Takings.{part_of_session, begins_of}
use Rattle.registry_office.proofs.OpenedFrames.{frames_after_opening, frames_unopened}
use Rattle.registry_office.proofs.receiving.receive_disk.Goals as goal

-- the book's journal is the one that the file stood for
same : (g : _) (c : goal.After-drop-book-inside-in-Ok-7 g) (held : Held) → IsTrue g.D.Disk.tells → StandsForJournal (g.D.Disk.reads c.args.disk.now) held.journal → holding c.in-Ok.book.journal held.ticks ≡ held
same g c held tells stands = ap (λ (j : List Receipt). holding j held.ticks) (journal_once (g.D.Disk.reads c.args.disk.now) c.in-Ok.book.journal held.journal (c.in-Ok.ensures.opened tells).found stands)

-- what the session did
session : (g : _) (c : goal.After-drop-book-inside-in-Ok-7 g) (held : Held) (input : List ℕ) → Told (receiving c.args.intake) g.D.Disk.tells (g.D.Disk.reads c.args.disk.now) (g.S.Source.left c.args.source.now) (g.C.Clock.ticks c.args.clock.now) held input
    → SessionReceives (whole_of c.args.intake) (cut_of c.args.intake) held input (g.S.Source.left c.args.source.now) (g.S.Source.left c.receive.new.source) (g.C.Clock.ticks c.receive.new.clock) (g.K.Sink.written c.args.sink.now) (g.K.Sink.written c.receive.new.sink) c.receive.new.book.journal g.D.Disk.reads g.D.Disk.images g.D.Disk.moment g.D.Disk.since c.open.new.disk c.receive.new.disk c.receive.result
session g c held input told =
    subst (λ (h : Held). SessionReceives (whole_of c.args.intake) (cut_of c.args.intake) h input (g.S.Source.left c.args.source.now) (g.S.Source.left c.receive.new.source) (g.C.Clock.ticks c.receive.new.clock) (g.K.Sink.written c.args.sink.now) (g.K.Sink.written c.receive.new.sink) c.receive.new.book.journal g.D.Disk.reads g.D.Disk.images g.D.Disk.moment g.D.Disk.since c.open.new.disk c.receive.new.disk c.receive.result)
    (same g c held (told.disk_tells refl) (told.disk_stands refl)) (c.receive.ensures.session held.ticks input (record { disk = told.disk_tells refl; clock = told.clock_tells refl; source = told.source_left refl }))

-- what it did to the disk, and what the opening did before
moments : (g : _) (c : goal.After-drop-book-inside-in-Ok-7 g) (held : Held) (to : List Receipt) → IsTrue g.D.Disk.tells → StandsForJournal (g.D.Disk.reads c.args.disk.now) held.journal → IsFront held.journal to
    → DiskGrows g.D.Disk.reads g.D.Disk.moment g.D.Disk.since c.open.new.disk c.receive.new.disk held.journal to
    → KeepsGrown g.D.Disk.reads g.D.Disk.images g.D.Disk.moment g.D.Disk.since c.args.disk.now c.receive.new.disk (disk_fault c.receive.result) held.journal to
moments g c held to tells stands front grew =
    grows_further g.D.Disk.reads g.D.Disk.images g.D.Disk.moment g.D.Disk.since c.args.disk.now c.open.new.disk c.receive.new.disk held.journal to _
    (grows_synced g.D.Disk.reads g.D.Disk.images g.D.Disk.moment g.D.Disk.since c.args.disk.now c.open.new.disk held.journal to stands front (c.in-Ok.ensures.any_moment tells)) grew.left

bytes : (g : _) (c : goal.After-drop-book-inside-in-Ok-7 g) (held : Held) (to : List Receipt) → IsTrue g.D.Disk.tells → IsFront held.journal to
    → DiskGrows g.D.Disk.reads g.D.Disk.moment g.D.Disk.since c.open.new.disk c.receive.new.disk held.journal to
    → WritesBehind (disk_fault c.receive.result) held.journal to (g.D.Disk.reads c.args.disk.now) (g.D.Disk.reads c.receive.new.disk)
bytes g c held to tells front grew =
    frames_after_opening (disk_fault c.receive.result) held.journal to (g.D.Disk.reads c.args.disk.now) (g.D.Disk.reads c.open.new.disk) (g.D.Disk.reads c.receive.new.disk)
    (c.in-Ok.ensures.kept tells).same (c.in-Ok.ensures.made tells refl) (c.in-Ok.ensures.torn tells) front grew.written

pub returns-in-Ok-clause-written : goal.returns-in-Ok-clause-written
returns-in-Ok-clause-written g c = λ held input told ok. (session g c held input told).written ok

pub returns-in-Ok-clause-stands_at_end : goal.returns-in-Ok-clause-stands_at_end
returns-in-Ok-clause-stands_at_end g c = λ held input file told ok image.
    subst (λ (j : List Receipt). StandsForJournal file j) ((session g c held input told).received ok)
    (durable_stands c.receive.new.book (g.D.Disk.reads c.receive.new.disk) (g.D.Disk.images c.receive.new.disk) file (c.receive.ensures.stands (told.disk_tells refl) (ap disk_fault ok)) image)

pub returns-in-Ok-clause-ticks : goal.returns-in-Ok-clause-ticks
returns-in-Ok-clause-ticks g c = λ held input told ok. (session g c held input told).ticks ok

pub returns-in-Ok-clause-part : goal.returns-in-Ok-clause-part
returns-in-Ok-clause-part g c = λ held input told other.
    part_of_session (whole_of c.args.intake) (cut_of c.args.intake) (begins_of c.args.intake) held input (g.S.Source.left c.args.source.now) _ _ _ _ _ g.D.Disk.reads g.D.Disk.images g.D.Disk.moment g.D.Disk.since c.open.new.disk c.receive.new.disk c.receive.result (told.source_left refl) (session g c held input told) other

pub returns-in-Ok-clause-early : goal.returns-in-Ok-clause-early
returns-in-Ok-clause-early g c = λ held input told other.
    let took = (session g c held input told).early other in
    record {
      read = took.read;
      consumed = took.consumed;
      did = record {
        requests = took.did.0;
        asked = took.did.1;
        ends = early_of_fewer OnDisk held (g.C.Clock.ticks c.receive.new.clock) (g.K.Sink.written c.args.sink.now) (g.K.Sink.written c.receive.new.sink) (g.D.Disk.images c.receive.new.disk) (LeftNewly (disk_fault c.receive.result) (g.D.Disk.images c.args.disk.now) (g.D.Disk.images c.receive.new.disk)) took.did.0
            (λ file left. left_of (disk_fault c.receive.result) (g.D.Disk.images c.args.disk.now) (g.D.Disk.images c.receive.new.disk) file left) took.did.2;
        grown = moments g c held (held_after OnDisk held took.did.0).journal (told.disk_tells refl) (told.disk_stands refl) (grows OnDisk held took.did.0) took.did.3;
        frames = bytes g c held (held_after OnDisk held took.did.0).journal (told.disk_tells refl) (grows OnDisk held took.did.0) took.did.3;
      };
    }

pub returns-in-Ok-clause-cut : goal.returns-in-Ok-clause-cut
returns-in-Ok-clause-cut g c = λ held input told which. (session g c held input told).cut_replies which

pub returns-in-Ok-clause-cut_journal : goal.returns-in-Ok-clause-cut_journal
returns-in-Ok-clause-cut_journal g c = λ held input file told which image.
    let took = (session g c held input told).cut_journal which in
    record {
      read = took.read;
      consumed = took.consumed;
      did = subst (λ (j : List Receipt). StandsForJournal file j) took.did
          (durable_stands c.receive.new.book (g.D.Disk.reads c.receive.new.disk) (g.D.Disk.images c.receive.new.disk) file (c.receive.ensures.stands (told.disk_tells refl) (cut_by_source c.receive.result which)) image);
    }

pub returns-in-Ok-clause-cut_ticks : goal.returns-in-Ok-clause-cut_ticks
returns-in-Ok-clause-cut_ticks g c = λ held input told which. (session g c held input told).cut_ticks which

pub returns-in-Ok-clause-acknowledged : goal.returns-in-Ok-clause-acknowledged
returns-in-Ok-clause-acknowledged g c = λ held input front back file told split some wrote image. (session g c held input told).acknowledged front back file split wrote image

pub returns-in-Ok-clause-any_moment : goal.returns-in-Ok-clause-any_moment
returns-in-Ok-clause-any_moment g c = λ held input told.
    moments g c held (held_after OnDisk held (whole_of c.args.intake input)).journal (told.disk_tells refl) (told.disk_stands refl) (grows OnDisk held (whole_of c.args.intake input)) (session g c held input told).grows

pub returns-in-Ok-clause-frames : goal.returns-in-Ok-clause-frames
returns-in-Ok-clause-frames g c = λ held input told.
    bytes g c held (held_after OnDisk held (whole_of c.args.intake input)).journal (told.disk_tells refl) (grows OnDisk held (whole_of c.args.intake input)) (session g c held input told).grows

pub returns-in-Ok-clause-found : goal.returns-in-Ok-clause-found
returns-in-Ok-clause-found g c = λ tells. found_by_session c.receive.result (g.D.Disk.reads c.args.disk.now) c.receive.ensures.others (c.in-Ok.book.journal, (c.in-Ok.ensures.opened tells).found)

pub returns-in-Ok-clause-made : goal.returns-in-Ok-clause-made
returns-in-Ok-clause-made g c = λ tells which.
    made_of_journal (records c.receive.new.book.journal) (g.D.Disk.reads c.receive.new.disk) (c.receive.ensures.stands tells (made_by_session c.receive.result (g.D.Disk.reads c.args.disk.now) c.receive.ensures.others which)).stands.journal

pub returns-in-Ok-clause-unopened : goal.returns-in-Ok-clause-unopened
returns-in-Ok-clause-unopened g c = λ tells none. absurd (none (c.in-Ok.book.journal, (c.in-Ok.ensures.opened tells).found))

pub returns-in-Ok-clause-unopened_by : goal.returns-in-Ok-clause-unopened_by
returns-in-Ok-clause-unopened_by g c = λ none. absurd (session_not_none c.receive.result c.receive.ensures.others none)

pub returns-in-Ok-clause-kept : goal.returns-in-Ok-clause-kept
returns-in-Ok-clause-kept g c = λ tells none. absurd (none (c.in-Ok.book.journal, (c.in-Ok.ensures.opened tells).found))

pub returns-in-Ok-clause-kept_any_moment : goal.returns-in-Ok-clause-kept_any_moment
returns-in-Ok-clause-kept_any_moment g c = λ tells none. absurd (none (c.in-Ok.book.journal, (c.in-Ok.ensures.opened tells).found))

pub returns-in-Ok-clause-no_usage : goal.returns-in-Ok-clause-no_usage
returns-in-Ok-clause-no_usage g c = λ is. session_no_usage c.receive.result c.receive.ensures.others is

pub returns-in-Ok-clause-no_door : goal.returns-in-Ok-clause-no_door
returns-in-Ok-clause-no_door g c = session_no_door c.receive.result c.receive.ensures.others

pub returns-in-Err-clause-written : goal.returns-in-Err-clause-written
returns-in-Err-clause-written g c = λ held input told ok. absurd ((opening_status c.status_of_opening.result c.in-Err.fault c.status_of_opening.ensures).not_ok ok)

pub returns-in-Err-clause-stands_at_end : goal.returns-in-Err-clause-stands_at_end
returns-in-Err-clause-stands_at_end g c = λ held input file told ok image. absurd ((opening_status c.status_of_opening.result c.in-Err.fault c.status_of_opening.ensures).not_ok ok)

pub returns-in-Err-clause-ticks : goal.returns-in-Err-clause-ticks
returns-in-Err-clause-ticks g c = λ held input told ok. absurd ((opening_status c.status_of_opening.result c.in-Err.fault c.status_of_opening.ensures).not_ok ok)

pub returns-in-Err-clause-part : goal.returns-in-Err-clause-part
returns-in-Err-clause-part g c = λ held input told other. no_front (g.K.Sink.written c.args.sink.now) _

-- an opening that failed leaves the journal that was found, and writes of an unmade file alone
synced : (g : _) (c : goal.After-status_of_opening g) → IsTrue g.D.Disk.tells → AnswersSynced g.D.Disk.reads g.D.Disk.images g.D.Disk.moment g.D.Disk.since c.args.disk.now c.open.new.disk (disk_fault c.status_of_opening.result)
synced g c tells =
    subst (AnswersSynced g.D.Disk.reads g.D.Disk.images g.D.Disk.moment g.D.Disk.since c.args.disk.now c.open.new.disk) (sym (disk_at_opening c.status_of_opening.result c.in-Err.fault c.status_of_opening.ensures)) (c.in-Err.ensures.any_moment tells)

unopened_bytes : (g : _) (c : goal.After-status_of_opening g) (from to : List Receipt) → IsTrue g.D.Disk.tells → WritesBehind (disk_fault c.status_of_opening.result) from to (g.D.Disk.reads c.args.disk.now) (g.D.Disk.reads c.open.new.disk)
unopened_bytes g c from to tells =
    frames_unopened (disk_fault c.status_of_opening.result) from to (g.D.Disk.reads c.args.disk.now) (g.D.Disk.reads c.open.new.disk) (c.in-Err.ensures.kept tells).same
    (makes_at_opening c.status_of_opening.result c.in-Err.fault (g.D.Disk.reads c.args.disk.now) (g.D.Disk.reads c.open.new.disk) c.status_of_opening.ensures (c.in-Err.ensures.made tells)) (c.in-Err.ensures.torn tells)

pub returns-in-Err-clause-early : goal.returns-in-Err-clause-early
returns-in-Err-clause-early g c = λ held input told other.
    let requests = cut_of c.args.intake (take 67108864 []) in
    let to = (held_after OnDisk held requests).journal in
    took_none (g.S.Source.left c.args.source.now) (λ read. EndsEarlyOnDisk (whole_of c.args.intake) (cut_of c.args.intake) held read (g.S.Source.left c.args.source.now) (g.C.Clock.ticks c.args.clock.now) (g.K.Sink.written c.args.sink.now)
    (g.K.Sink.written c.args.sink.now) g.D.Disk.reads g.D.Disk.images g.D.Disk.moment g.D.Disk.since c.args.disk.now c.open.new.disk c.status_of_opening.result) (record {
      requests = requests;
      asked = inl refl;
      ends = early_unopened held (g.C.Clock.ticks c.args.clock.now) (g.K.Sink.written c.args.sink.now) (LeftNewly (disk_fault c.status_of_opening.result) (g.D.Disk.images c.args.disk.now) (g.D.Disk.images c.open.new.disk)) requests (told.clock_tells refl)
          (λ file left. left_by_opening g.D.Disk.reads g.D.Disk.images g.D.Disk.moment g.D.Disk.since c.args.disk.now c.open.new.disk (λ t c1 le image. g.met.D.Disk.counts_now c.open.new.disk t c1 (told.disk_tells refl) le image)
          (disk_fault c.status_of_opening.result) held.journal file (told.disk_stands refl) (synced g c (told.disk_tells refl)) left);
      grown = keeps_grown g.D.Disk.reads g.D.Disk.images g.D.Disk.moment g.D.Disk.since c.args.disk.now c.open.new.disk held.journal to _ (told.disk_stands refl) (grows OnDisk held requests) (synced g c (told.disk_tells refl));
      frames = unopened_bytes g c held.journal to (told.disk_tells refl);
    })

pub returns-in-Err-clause-cut : goal.returns-in-Err-clause-cut
returns-in-Err-clause-cut g c = λ held input told which. absurd (⊎_elim (opening_status c.status_of_opening.result c.in-Err.fault c.status_of_opening.ensures).not_read (opening_status c.status_of_opening.result c.in-Err.fault c.status_of_opening.ensures).not_long which)

pub returns-in-Err-clause-cut_journal : goal.returns-in-Err-clause-cut_journal
returns-in-Err-clause-cut_journal g c = λ held input file told which image. absurd (⊎_elim (opening_status c.status_of_opening.result c.in-Err.fault c.status_of_opening.ensures).not_read (opening_status c.status_of_opening.result c.in-Err.fault c.status_of_opening.ensures).not_long which)

pub returns-in-Err-clause-cut_ticks : goal.returns-in-Err-clause-cut_ticks
returns-in-Err-clause-cut_ticks g c = λ held input told which. absurd (⊎_elim (opening_status c.status_of_opening.result c.in-Err.fault c.status_of_opening.ensures).not_read (opening_status c.status_of_opening.result c.in-Err.fault c.status_of_opening.ensures).not_long which)

pub returns-in-Err-clause-acknowledged : goal.returns-in-Err-clause-acknowledged
returns-in-Err-clause-acknowledged g c = λ held input front back file told split some wrote image. absurd (some (none_written (g.K.Sink.written c.args.sink.now) _ wrote))

pub returns-in-Err-clause-any_moment : goal.returns-in-Err-clause-any_moment
returns-in-Err-clause-any_moment g c = λ held input told.
    keeps_grown g.D.Disk.reads g.D.Disk.images g.D.Disk.moment g.D.Disk.since c.args.disk.now c.open.new.disk held.journal (held_after OnDisk held (whole_of c.args.intake input)).journal _ (told.disk_stands refl) (grows OnDisk held (whole_of c.args.intake input))
    (synced g c (told.disk_tells refl))

pub returns-in-Err-clause-frames : goal.returns-in-Err-clause-frames
returns-in-Err-clause-frames g c = λ held input told. unopened_bytes g c held.journal (held_after OnDisk held (whole_of c.args.intake input)).journal (told.disk_tells refl)

pub returns-in-Err-clause-short : goal.returns-in-Err-clause-short
returns-in-Err-clause-short g c = λ other. took_none _ _ (omega arith)

pub returns-in-Err-clause-long : goal.returns-in-Err-clause-long
returns-in-Err-clause-long g c = λ long. absurd ((opening_status c.status_of_opening.result c.in-Err.fault c.status_of_opening.ensures).not_long long)

pub returns-in-Err-clause-at_end : goal.returns-in-Err-clause-at_end
returns-in-Err-clause-at_end g c = λ ok. absurd ((opening_status c.status_of_opening.result c.in-Err.fault c.status_of_opening.ensures).not_ok ok)

pub returns-in-Err-clause-found : goal.returns-in-Err-clause-found
returns-in-Err-clause-found g c = λ tells. found_at_opening c.status_of_opening.result c.in-Err.fault (g.D.Disk.reads c.args.disk.now) c.status_of_opening.ensures (c.in-Err.ensures.refused tells)

pub returns-in-Err-clause-made : goal.returns-in-Err-clause-made
returns-in-Err-clause-made g c = λ tells. made_at_opening c.status_of_opening.result c.in-Err.fault (g.D.Disk.reads c.args.disk.now) (g.D.Disk.reads c.open.new.disk) c.status_of_opening.ensures (c.in-Err.ensures.made tells)

pub returns-in-Err-clause-kept_any_moment : goal.returns-in-Err-clause-kept_any_moment
returns-in-Err-clause-kept_any_moment g c = λ tells none. synced g c tells

pub returns-in-Err-clause-no_usage : goal.returns-in-Err-clause-no_usage
returns-in-Err-clause-no_usage g c = (opening_status c.status_of_opening.result c.in-Err.fault c.status_of_opening.ensures).not_usage

pub returns-in-Err-clause-no_door : goal.returns-in-Err-clause-no_door
returns-in-Err-clause-no_door g c = (opening_status c.status_of_opening.result c.in-Err.fault c.status_of_opening.ensures).no_door
