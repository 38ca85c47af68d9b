use Rattle.std.proofs.Common.{inl, inr, Option, Some, List, refl, subst, sym}
use Rattle.gb_base.specs.DayMinute.{DayMinute}
use Rattle.gb_outside.specs.Faults.{Counts}
use Rattle.connections.specs.Holding.{Holds}
use Rattle.connections.proofs.SettledClerks.{holds_still, stands_still}
use Rattle.registry_office.proofs.Opened.{disk_at_opening, made_at_opening, makes_at_opening}
use Rattle.registry_office.proofs.ServedDoors.{found_by_door, made_open, served_none, served_opened}
use Rattle.registry_office.proofs.ServedInTurn.{opens_then_serves}
use Rattle.registry_office.proofs.serving.serve.Goals as goal

pub serve_door-requires : goal.serve_door-requires
serve_door-requires g c = λ tells. stands_still c.in-Ok.clerk c.settle.new.self (g.D.Disk.reads c.open.new.disk) (g.D.Disk.images c.open.new.disk) c.settle.ensures.book (c.in-Ok.ensures.stands_open tells)

pub returns-clause-serves : goal.returns-clause-serves
returns-clause-serves g c = λ tells held waiting asked is waits asks.
    served_opened g.D.Disk.reads g.D.Disk.images g.D.Disk.moment g.D.Disk.since g.D.Disk.faults c.args.disk.now c.serve_door.new.disk held c.args.requests waiting asked (g.L.Listener.served c.args.door.now) (g.C.Clock.ticks c.serve_door.new.clock)
    c.open.new.disk (g.L.Listener.waiting c.serve_door.new.door) (g.L.Listener.served c.serve_door.new.door) c.serve_door.new.self c.serve_door.result c.status_of_door.result
    (λ t file le image. g.met.D.Disk.counts_now c.open.new.disk t file tells le image) is.stands (c.in-Ok.ensures.any_moment tells) c.in-Ok.ensures.cause (c.in-Ok.ensures.kept tells) (c.in-Ok.ensures.made tells refl) (c.in-Ok.ensures.torn tells)
    (c.serve_door.ensures.serves tells held waiting asked
    (subst (λ (known : Option (List DayMinute)). Holds c.settle.new.self (g.D.Disk.reads c.open.new.disk) (g.D.Disk.images c.open.new.disk) known held) (sym is.clock) (holds_still c.in-Ok.clerk c.settle.new.self (g.D.Disk.reads c.open.new.disk) (g.D.Disk.images c.open.new.disk) (Some held.ticks) held c.settle.ensures.book (c.in-Ok.ensures.holds tells held is.stands))) waits asks)
    c.status_of_door.ensures

pub returns-in-Err-clause-serves : goal.returns-in-Err-clause-serves
returns-in-Err-clause-serves g c = λ tells held waiting asked is waits asks.
    served_none g.D.Disk.reads g.D.Disk.images g.D.Disk.moment g.D.Disk.since g.D.Disk.faults c.args.disk.now c.open.new.disk held c.args.requests waiting asked (g.L.Listener.served c.args.door.now) (g.C.Clock.ticks c.args.clock.now)
    c.in-Err.fault c.status_of_opening.result (c.in-Err.ensures.any_moment tells) c.in-Err.ensures.cause (c.in-Err.ensures.kept tells) (c.in-Err.ensures.made tells) (c.in-Err.ensures.torn tells) is (g.L.Listener.waiting c.args.door.now) waits c.status_of_opening.ensures

-- ---- the file is found, and made

pub returns-clause-found : goal.returns-clause-found
returns-clause-found g c = λ tells. found_by_door c.status_of_door.result c.serve_door.result (g.D.Disk.reads c.args.disk.now) c.status_of_door.ensures (c.in-Ok.ensures.journal tells)

pub returns-clause-made : goal.returns-clause-made
returns-clause-made g c = λ tells which. c.serve_door.ensures.made tells (made_open c.in-Ok.clerk (g.D.Disk.reads c.open.new.disk) (g.D.Disk.images c.open.new.disk) c.in-Ok.ensures.opened (c.in-Ok.ensures.stands_open tells))

pub returns-in-Err-clause-made : goal.returns-in-Err-clause-made
returns-in-Err-clause-made g c = λ tells. made_at_opening c.status_of_opening.result c.in-Err.fault (g.D.Disk.reads c.args.disk.now) (g.D.Disk.reads c.open.new.disk) c.status_of_opening.ensures (c.in-Err.ensures.made tells)

-- ---- in which order the door was served

pub returns-clause-order : goal.returns-clause-order
returns-clause-order g c = inl (opens_then_serves g.L.Listener.waiting g.L.Listener.served g.L.Listener.faults g.L.Link.Link.left g.L.Link.Link.written g.L.Link.Link.faults g.D.Disk.tells g.D.Disk.reads g.D.Disk.images g.D.Disk.faults g.C.Clock.ticks
    c.args.requests c.args.door.now c.serve_door.new.door c.args.disk.now c.open.new.disk c.serve_door.new.disk c.args.clock.now c.serve_door.new.clock c.in-Ok.clerk c.settle.new.self c.serve_door.new.self c.serve_door.result c.status_of_door.result
    c.in-Ok.ensures.opened c.in-Ok.ensures.opens c.in-Ok.ensures.unsettled c.in-Ok.ensures.cause c.in-Ok.ensures.made c.in-Ok.ensures.kept c.settle.ensures.book c.settle.ensures.settled c.serve_door.ensures.order c.status_of_door.ensures)

pub returns-in-Err-clause-order : goal.returns-in-Err-clause-order
returns-in-Err-clause-order g c = inr (record {
  fault = c.in-Err.fault;
  is = c.status_of_opening.ensures;
  refused = c.in-Err.ensures.refused;
  cause = subst (Counts (g.D.Disk.faults c.args.disk.now) (g.D.Disk.faults c.open.new.disk)) (sym (disk_at_opening c.status_of_opening.result c.in-Err.fault c.status_of_opening.ensures)) c.in-Err.ensures.cause;
  made = λ tells. makes_at_opening c.status_of_opening.result c.in-Err.fault (g.D.Disk.reads c.args.disk.now) (g.D.Disk.reads c.open.new.disk) c.status_of_opening.ensures (c.in-Err.ensures.made tells);
  kept = c.in-Err.ensures.kept;
  torn = c.in-Err.ensures.torn;
  door = refl;
  clock = refl;
})
