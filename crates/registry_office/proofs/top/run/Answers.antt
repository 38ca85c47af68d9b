use Rattle.std.proofs.Common.{◌≡◌, inl, inr, ℕ, Some, take, refl, subst, sym, ap, ◌∙◌}
use Rattle.std.specs.Io.KnownBytes.{Appends}
use Rattle.gb_outside.specs.Bytes.{AppendsFront}
use Rattle.receipt_journal.specs.Standing.{StandsForJournal}
use Rattle.registry_office.specs.Disks.{LeftNewly}
use Rattle.registry_office.specs.Receivings.{EndsEarlyOnDisk}
use Rattle.intake.specs.Intakes.{whole_of, cut_of}
use Rattle.registry_office.specs.Servings.{ServesInTurn, ServesOffice}
use Rattle.intake.specs.Requests.{OnDisk, held_after, replies}
use Rattle.intake.specs.Sessions.{Took}
use Rattle.registry_office.specs.Statuses.{disk_fault}
use Rattle.registry_office.specs.Tasks.{Task, Told}
use Rattle.intake.proofs.SessionInputs.{if_some_at, took_none}
use Rattle.registry_office.proofs.Opened.{front_unwritten, no_front, none_written}
use Rattle.registry_office.proofs.Takings.{cut_by_status, err_by_status, of_session, read_part_of_early}
use Rattle.registry_office.proofs.TasksOfWords.{task_is}
use Rattle.registry_office.proofs.top.run.Goals as goal

pub returns-in-Ok-Settle-clause-part : goal.returns-in-Ok-Settle-clause-part
returns-in-Ok-Settle-clause-part g c = λ begun other.
    let is = task_is _ _ _ c.in-Ok-Settle.ensures.command c.in-Ok-Settle.field-0-is in
    subst (λ (task : Task). AppendsFront (g.K.Sink.written c.args.sink.now) (g.K.Sink.written c.settle_disk.new.sink) (task.outcome begun.held begun.input).written) (sym is)
    (c.settle_disk.ensures.part (begun.told.disk_tells (ap (λ (task : Task). task.uses_disk) is)) begun.held.journal (begun.told.disk_stands (ap (λ (task : Task). task.uses_disk) is)))

pub returns-in-Ok-Settle-clause-replies_alone : goal.returns-in-Ok-Settle-clause-replies_alone
returns-in-Ok-Settle-clause-replies_alone g c = λ begun other sound. front_unwritten (g.K.Sink.written c.args.sink.now) (g.K.Sink.written c.settle_disk.new.sink) _ (c.settle_disk.ensures.unwritten other sound)

pub returns-in-Ok-SettleLines-clause-replies_alone : goal.returns-in-Ok-SettleLines-clause-replies_alone
returns-in-Ok-SettleLines-clause-replies_alone g c = λ begun other sound.
    let is = task_is _ _ _ c.in-Ok-SettleLines.ensures.command c.in-Ok-SettleLines.field-0-is in
    subst (λ (task : Task). AppendsFront (g.K.Sink.written c.args.sink.now) (g.K.Sink.written c.settle_lines.new.sink) (task.replies begun.held (task.requests begun.input))) (sym is)
    (if_some_at (g.S.Source.left c.args.source.now) begun.input _ (begun.told.source_left (ap (λ (task : Task). task.uses_input) is))
    (err_by_status c.settle_lines.result c.status_of.result _ c.status_of.ensures other c.settle_lines.ensures.replies_alone (sym (of_session c.settle_lines.result c.status_of.result c.status_of.ensures).2 ∙ sound)))

pub returns-in-Ok-Receive-clause-replies_alone : goal.returns-in-Ok-Receive-clause-replies_alone
returns-in-Ok-Receive-clause-replies_alone g c = λ begun other sound.
    let is = task_is _ _ _ c.in-Ok-Receive.ensures.command c.in-Ok-Receive.field-0-is in
    subst (λ (task : Task). AppendsFront (g.K.Sink.written c.args.sink.now) (g.K.Sink.written c.receive_disk.new.sink) (task.replies begun.held (task.requests begun.input))) (sym is)
    (c.receive_disk.ensures.part begun.held begun.input (subst (λ (task : Task). Told task g.D.Disk.tells (g.D.Disk.reads c.args.disk.now) (g.S.Source.left c.args.source.now) (g.C.Clock.ticks c.args.clock.now) begun.held begun.input) is begun.told) other)

pub returns-in-Ok-Serve-clause-replies_alone : goal.returns-in-Ok-Serve-clause-replies_alone
returns-in-Ok-Serve-clause-replies_alone g c = λ begun other sound. no_front (g.K.Sink.written c.args.sink.now) _

pub returns-in-Ok-Sample-clause-replies_alone : goal.returns-in-Ok-Sample-clause-replies_alone
returns-in-Ok-Sample-clause-replies_alone g c = λ begun other sound. front_unwritten (g.K.Sink.written c.args.sink.now) (g.K.Sink.written c.settle_sample.new.sink) _ (c.settle_sample.ensures.unwritten other sound)

pub returns-in-Ok-SettleLines-clause-read_part : goal.returns-in-Ok-SettleLines-clause-read_part
returns-in-Ok-SettleLines-clause-read_part g c = λ begun uses other unended.
    let is = task_is _ _ _ c.in-Ok-SettleLines.ensures.command c.in-Ok-SettleLines.field-0-is in
    subst (λ (task : Task). Took (g.S.Source.left c.args.source.now) (g.S.Source.left c.settle_lines.new.source) (λ read. AppendsFront (g.K.Sink.written c.args.sink.now) (g.K.Sink.written c.settle_lines.new.sink) (task.replies begun.held (task.cut_requests (take 67108864 read))))) (sym is)
    (err_by_status c.settle_lines.result c.status_of.result _ c.status_of.ensures other c.settle_lines.ensures.read_part unended)

pub returns-in-Ok-SettleLines-clause-cut : goal.returns-in-Ok-SettleLines-clause-cut
returns-in-Ok-SettleLines-clause-cut g c = λ begun which.
    let is = task_is _ _ _ c.in-Ok-SettleLines.ensures.command c.in-Ok-SettleLines.field-0-is in
    subst (λ (task : Task). Took (g.S.Source.left c.args.source.now) (g.S.Source.left c.settle_lines.new.source) (λ read. Appends (g.K.Sink.written c.args.sink.now) (g.K.Sink.written c.settle_lines.new.sink) (task.replies begun.held (task.cut_requests (take 67108864 read))))) (sym is)
    (c.settle_lines.ensures.cut (cut_by_status c.settle_lines.result c.status_of.result c.status_of.ensures which))

pub returns-in-Ok-Receive-clause-read_part : goal.returns-in-Ok-Receive-clause-read_part
returns-in-Ok-Receive-clause-read_part g c = λ begun uses other unended.
    let is = task_is _ _ _ c.in-Ok-Receive.ensures.command c.in-Ok-Receive.field-0-is in
    let took = c.receive_disk.ensures.early begun.held begun.input (subst (λ (task : Task). Told task g.D.Disk.tells (g.D.Disk.reads c.args.disk.now) (g.S.Source.left c.args.source.now) (g.C.Clock.ticks c.args.clock.now) begun.held begun.input) is begun.told) other in
    subst (λ (task : Task). Took (g.S.Source.left c.args.source.now) (g.S.Source.left c.receive_disk.new.source) (λ read. AppendsFront (g.K.Sink.written c.args.sink.now) (g.K.Sink.written c.receive_disk.new.sink) (task.replies begun.held (task.cut_requests (take 67108864 read))))) (sym is)
    (read_part_of_early OnDisk (whole_of c.in-Ok-Receive.intake) (cut_of c.in-Ok-Receive.intake) begun.held (g.S.Source.left c.args.source.now) (g.S.Source.left c.receive_disk.new.source) (g.C.Clock.ticks c.receive_disk.new.clock) (g.K.Sink.written c.args.sink.now) (g.K.Sink.written c.receive_disk.new.sink)
    (LeftNewly (disk_fault c.receive_disk.result) (g.D.Disk.images c.args.disk.now) (g.D.Disk.images c.receive_disk.new.disk)) (record { read = took.read; consumed = took.consumed; did = (took.did.requests, took.did.asked, took.did.ends) }) unended)

pub returns-in-Ok-Receive-clause-cut : goal.returns-in-Ok-Receive-clause-cut
returns-in-Ok-Receive-clause-cut g c = λ begun which.
    let is = task_is _ _ _ c.in-Ok-Receive.ensures.command c.in-Ok-Receive.field-0-is in
    subst (λ (task : Task). Took (g.S.Source.left c.args.source.now) (g.S.Source.left c.receive_disk.new.source) (λ read. Appends (g.K.Sink.written c.args.sink.now) (g.K.Sink.written c.receive_disk.new.sink) (task.replies begun.held (task.cut_requests (take 67108864 read))))) (sym is)
    (c.receive_disk.ensures.cut begun.held begun.input (subst (λ (task : Task). Told task g.D.Disk.tells (g.D.Disk.reads c.args.disk.now) (g.S.Source.left c.args.source.now) (g.C.Clock.ticks c.args.clock.now) begun.held begun.input) is begun.told) which)

pub returns-in-Ok-Receive-clause-cut_journal : goal.returns-in-Ok-Receive-clause-cut_journal
returns-in-Ok-Receive-clause-cut_journal g c = λ begun file receiving which image.
    let is = task_is _ _ _ c.in-Ok-Receive.ensures.command c.in-Ok-Receive.field-0-is in
    subst (λ (task : Task). Took (g.S.Source.left c.args.source.now) (g.S.Source.left c.receive_disk.new.source) (λ read. StandsForJournal file (held_after OnDisk begun.held (task.cut_requests (take 67108864 read))).journal)) (sym is)
    (c.receive_disk.ensures.cut_journal begun.held begun.input file (subst (λ (task : Task). Told task g.D.Disk.tells (g.D.Disk.reads c.args.disk.now) (g.S.Source.left c.args.source.now) (g.C.Clock.ticks c.args.clock.now) begun.held begun.input) is begun.told) which image)

pub returns-in-Ok-Receive-clause-cut_ticks : goal.returns-in-Ok-Receive-clause-cut_ticks
returns-in-Ok-Receive-clause-cut_ticks g c = λ begun receiving which.
    let is = task_is _ _ _ c.in-Ok-Receive.ensures.command c.in-Ok-Receive.field-0-is in
    subst (λ (task : Task). Took (g.S.Source.left c.args.source.now) (g.S.Source.left c.receive_disk.new.source) (λ read. g.C.Clock.ticks c.receive_disk.new.clock ≡ Some (held_after OnDisk begun.held (task.cut_requests (take 67108864 read))).ticks)) (sym is)
    (c.receive_disk.ensures.cut_ticks begun.held begun.input (subst (λ (task : Task). Told task g.D.Disk.tells (g.D.Disk.reads c.args.disk.now) (g.S.Source.left c.args.source.now) (g.C.Clock.ticks c.args.clock.now) begun.held begun.input) is begun.told) which)

pub returns-in-Ok-Receive-clause-early : goal.returns-in-Ok-Receive-clause-early
returns-in-Ok-Receive-clause-early g c = λ begun receiving other.
    let is = task_is _ _ _ c.in-Ok-Receive.ensures.command c.in-Ok-Receive.field-0-is in
    inr (subst (λ (task : Task). Took (g.S.Source.left c.args.source.now) (g.S.Source.left c.receive_disk.new.source) (λ read. EndsEarlyOnDisk task.requests task.cut_requests begun.held read (g.S.Source.left c.receive_disk.new.source) (g.C.Clock.ticks c.receive_disk.new.clock)
    (g.K.Sink.written c.args.sink.now) (g.K.Sink.written c.receive_disk.new.sink) g.D.Disk.reads g.D.Disk.images g.D.Disk.moment g.D.Disk.since c.args.disk.now c.receive_disk.new.disk c.receive_disk.result)) (sym is)
    (c.receive_disk.ensures.early begun.held begun.input (subst (λ (task : Task). Told task g.D.Disk.tells (g.D.Disk.reads c.args.disk.now) (g.S.Source.left c.args.source.now) (g.C.Clock.ticks c.args.clock.now) begun.held begun.input) is begun.told) other))

pub returns-in-Ok-Receive-clause-made : goal.returns-in-Ok-Receive-clause-made
returns-in-Ok-Receive-clause-made g c = λ tells uses. inr (c.receive_disk.ensures.made tells)

pub returns-in-Ok-Serve-clause-made : goal.returns-in-Ok-Serve-clause-made
returns-in-Ok-Serve-clause-made g c = λ tells uses. inr (c.serve.ensures.made tells)

pub returns-in-Ok-Serve-clause-served : goal.returns-in-Ok-Serve-clause-served
returns-in-Ok-Serve-clause-served g c = λ most held waiting asked up_to tells holds waits asks.
    let is = task_is _ _ _ c.in-Ok-Serve.ensures.command c.in-Ok-Serve.field-0-is in
    let these : Some c.in-Ok-Serve.requests ≡ Some most = sym (ap (λ (task : Task). task.serves) is) ∙ up_to in
    let same : c.in-Ok-Serve.requests ≡ most = cc in
    inr (subst (λ (m : ℕ). ServesOffice g.D.Disk.reads g.D.Disk.images g.D.Disk.moment g.D.Disk.since g.D.Disk.faults c.args.disk.now c.serve.new.disk held m waiting asked (g.L.Listener.waiting c.serve.new.door) (g.L.Listener.served c.args.door.now) (g.L.Listener.served c.serve.new.door) (g.C.Clock.ticks c.serve.new.clock) c.serve.result)
    same (c.serve.ensures.serves tells held waiting asked holds waits asks))

pub returns-in-Ok-Serve-clause-served_in_turn : goal.returns-in-Ok-Serve-clause-served_in_turn
returns-in-Ok-Serve-clause-served_in_turn g c = λ most up_to.
    let is = task_is _ _ _ c.in-Ok-Serve.ensures.command c.in-Ok-Serve.field-0-is in
    let these : Some c.in-Ok-Serve.requests ≡ Some most = sym (ap (λ (task : Task). task.serves) is) ∙ up_to in
    let same : c.in-Ok-Serve.requests ≡ most = cc in
    inr (subst (λ (m : ℕ). ServesInTurn g.L.Listener.waiting g.L.Listener.served g.L.Listener.faults g.L.Link.Link.left g.L.Link.Link.written g.L.Link.Link.faults g.D.Disk.tells g.D.Disk.reads g.D.Disk.images g.D.Disk.faults g.C.Clock.ticks m c.args.door.now c.serve.new.door c.args.disk.now c.serve.new.disk c.args.clock.now c.serve.new.clock c.serve.result)
    same c.serve.ensures.order)

-- ---- the words are no command, or no memory was found for them

pub returns-in-Err-Usage-clause-replies_alone : goal.returns-in-Err-Usage-clause-replies_alone
returns-in-Err-Usage-clause-replies_alone g c = λ begun other sound. no_front (g.K.Sink.written c.args.sink.now) _

pub returns-in-Err-Memory-clause-replies_alone : goal.returns-in-Err-Memory-clause-replies_alone
returns-in-Err-Memory-clause-replies_alone g c = λ begun other sound. no_front (g.K.Sink.written c.args.sink.now) _

pub returns-in-Err-Memory-clause-read_part : goal.returns-in-Err-Memory-clause-read_part
returns-in-Err-Memory-clause-read_part g c = λ begun uses other unended. took_none (g.S.Source.left c.args.source.now) _ (no_front (g.K.Sink.written c.args.sink.now) _)

pub returns-in-Err-Memory-clause-early : goal.returns-in-Err-Memory-clause-early
returns-in-Err-Memory-clause-early g c = λ begun receiving other. inl (record { memory = refl; source = refl; sink = refl; disk = refl; clock = refl; door = refl })

pub returns-in-Err-Memory-clause-acknowledged : goal.returns-in-Err-Memory-clause-acknowledged
returns-in-Err-Memory-clause-acknowledged g c = λ begun front back file receiving split told wrote image.
    absurd (told (none_written (g.K.Sink.written c.args.sink.now) (replies OnDisk begun.held front) wrote))
