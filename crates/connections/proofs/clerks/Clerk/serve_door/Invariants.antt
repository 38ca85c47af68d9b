use Rattle.std.proofs.Common.{◌≡◌, ℕ, ◌-◌, ◌≤◌, List, None, Some, IsSome, IsTrue}
use Rattle.std.specs.List.{AllZip}
use Rattle.journal_disk.specs.Layout.{the_heading, IsMade}
use Rattle.intake.specs.Requests.{Held}
use Rattle.connections.specs.Answering.{AnswersTurn, OpensNone}
use Rattle.connections.specs.Doors.{AskSo, LinkRequests}
use Rattle.connections.specs.Holding.{Holds, StandsForNone, StandsOpen, working}
use Rattle.connections.specs.LinkOrder.{stage}
use Rattle.connections.specs.Serving.{TakesNone, TakesTurns}
use Rattle.connections.specs.Tools.{tools}
use Rattle.connections.proofs.DoorOrders.{WentEach}
use Rattle.connections.proofs.DoorRounds.{WentLinks}
use Rattle.connections.proofs.clerks.Clerk.serve_door.Given as goal

abbrev pub decreases-loop-left : goal.decreases-loop-left
decreases-loop-left g l = l.most - l.links

abbrev pub invariant-loop-left : goal.invariant-loop-left
invariant-loop-left g l = record {
  few : l.links ≤ l.most;
  stands_open : IsTrue g.D.Disk.tells → StandsOpen l.self (g.D.Disk.reads l.disk) (g.D.Disk.images l.disk);
  made : IsTrue g.D.Disk.tells → IsMade the_heading (g.D.Disk.reads l.fn.disk) → IsMade the_heading (g.D.Disk.reads l.disk);
  no_book : IsTrue g.D.Disk.tells → working l.fn.self ≡ None → StandsForNone (g.D.Disk.reads l.fn.disk) → OpensNone g.D.Disk.reads g.D.Disk.images g.D.Disk.moment g.D.Disk.since l.fn.disk l.disk l.self;
  same_clock : IsTrue g.D.Disk.tells → working l.fn.self ≡ None → StandsForNone (g.D.Disk.reads l.fn.disk) → l.clock ≡ l.fn.clock;
  order : WentEach g.L.Listener.waiting g.L.Listener.served g.L.Listener.faults g.L.Link.Link.left g.L.Link.Link.written g.L.Link.Link.faults (AnswersTurn g.D.Disk.tells g.D.Disk.reads g.D.Disk.images g.D.Disk.faults g.C.Clock.ticks) l.most (stage l.fn.door (tools l.fn.disk l.fn.self l.fn.clock)) (stage l.door (tools l.disk l.self l.clock)) l.left l.links;
  handed_back : IsSome (g.L.Listener.served l.fn.door) → IsSome (g.L.Listener.served l.door) × (g.L.Listener.out l.door ≡ g.L.Listener.out l.fn.door);
  quiet : g.L.Listener.faults l.door ≡ g.L.Listener.faults l.fn.door;
  went : IsTrue g.D.Disk.tells → (held : Held) (waiting : List (List ℕ)) (asked : List LinkRequests)
      → Holds l.fn.self (g.D.Disk.reads l.fn.disk) (g.D.Disk.images l.fn.disk) (g.C.Clock.ticks l.fn.clock) held → g.L.Listener.waiting l.fn.door ≡ Some waiting → AllZip AskSo waiting asked
      → WentLinks (TakesTurns g.D.Disk.reads g.D.Disk.images g.D.Disk.moment g.D.Disk.since g.D.Disk.faults) l.fn.disk l.disk held l.most waiting asked (g.L.Listener.waiting l.door) (g.L.Listener.served l.fn.door) (g.L.Listener.served l.door)
      (λ h. Holds l.self (g.D.Disk.reads l.disk) (g.D.Disk.images l.disk) (g.C.Clock.ticks l.clock) h) l.left l.links;
  went_none : IsTrue g.D.Disk.tells → working l.fn.self ≡ None → StandsForNone (g.D.Disk.reads l.fn.disk) → (held : Held) (waiting : List (List ℕ)) (asked : List LinkRequests)
      → g.L.Listener.waiting l.fn.door ≡ Some waiting → AllZip AskSo waiting asked
      → WentLinks (TakesNone g.D.Disk.faults) l.fn.disk l.disk held l.most waiting asked (g.L.Listener.waiting l.door) (g.L.Listener.served l.fn.door) (g.L.Listener.served l.door) (λ h. h ≡ held) l.left l.links;
}
