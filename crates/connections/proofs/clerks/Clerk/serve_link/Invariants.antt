use Rattle.std.proofs.Common.{◌≡◌, ℕ, ◌-◌, ◌≤◌, List, None, Some, IsSome, IsTrue}
use Rattle.journal_disk.specs.Layout.{the_heading, IsMade}
use Rattle.intake.specs.Requests.{Held}
use Rattle.registry_http.specs.RequestLists.{AreRequests}
use Rattle.registry_http.specs.RequestParts.{RequestParts}
use Rattle.registry_http.specs.Requests.{AtFront}
use Rattle.connections.specs.Answering.{AnswersTurn, OpensNone}
use Rattle.connections.specs.Holding.{Holds, StandsForNone, StandsOpen, working}
use Rattle.connections.specs.LinkOrder.{stage}
use Rattle.connections.specs.Serving.{TakesNone, TakesTurns}
use Rattle.connections.specs.Tools.{tools}
use Rattle.connections.specs.Turns.{turns}
use Rattle.connections.specs.inner.Rounds.{Meets}
use Rattle.connections.proofs.LinkTurns.{Went}
use Rattle.connections.proofs.OrderedTurns.{WentInOrder}
use Rattle.connections.proofs.clerks.Clerk.serve_link.Given as goal

abbrev pub decreases-loop-replies : goal.decreases-loop-replies
decreases-loop-replies g l = l.left - l.replies

abbrev pub invariant-loop-replies : goal.invariant-loop-replies
invariant-loop-replies g l = record {
  few : l.replies ≤ l.left;
  stands_open : IsTrue g.D.Disk.tells → StandsOpen l.self (g.D.Disk.reads l.disk) (g.D.Disk.images l.disk);
  made : IsTrue g.D.Disk.tells → IsMade the_heading (g.D.Disk.reads l.fn.disk) → IsMade the_heading (g.D.Disk.reads l.disk);
  no_book : IsTrue g.D.Disk.tells → working l.fn.self ≡ None → StandsForNone (g.D.Disk.reads l.fn.disk) → OpensNone g.D.Disk.reads g.D.Disk.images g.D.Disk.moment g.D.Disk.since l.fn.disk l.disk l.self;
  same_clock : IsTrue g.D.Disk.tells → working l.fn.self ≡ None → StandsForNone (g.D.Disk.reads l.fn.disk) → l.clock ≡ l.fn.clock;
  told : IsSome (g.L.Link.written l.fn.link) → IsSome (g.L.Link.written l.link);
  order : WentInOrder g.L.Link.left g.L.Link.written g.L.Link.faults (AnswersTurn g.D.Disk.tells g.D.Disk.reads g.D.Disk.images g.D.Disk.faults g.C.Clock.ticks) (stage l.fn.link (tools l.fn.disk l.fn.self l.fn.clock)) (stage l.link (tools l.disk l.self l.clock)) l.rest.items l.replies;
  quiet : g.L.Link.faults l.link ≡ g.L.Link.faults l.fn.link;
  went : IsTrue g.D.Disk.tells → (held : Held) (input : List ℕ) (requests : List RequestParts) (end : AtFront)
      → Holds l.fn.self (g.D.Disk.reads l.fn.disk) (g.D.Disk.images l.fn.disk) (g.C.Clock.ticks l.fn.clock) held → g.L.Link.left l.fn.link ≡ Some input → AreRequests input requests end
      → Went (TakesTurns g.D.Disk.reads g.D.Disk.images g.D.Disk.moment g.D.Disk.since g.D.Disk.faults) l.fn.disk l.disk held (g.L.Link.written l.fn.link) (g.L.Link.written l.link) (turns l.left requests end) l.left l.replies end
      (λ h others. Meets (Holds l.self (g.D.Disk.reads l.disk) (g.D.Disk.images l.disk) (g.C.Clock.ticks l.clock)) (g.L.Link.left l.link) l.rest.items end h others);
  went_none : IsTrue g.D.Disk.tells → working l.fn.self ≡ None → StandsForNone (g.D.Disk.reads l.fn.disk) → (held : Held) (input : List ℕ) (requests : List RequestParts) (end : AtFront)
      → g.L.Link.left l.fn.link ≡ Some input → AreRequests input requests end
      → Went (TakesNone g.D.Disk.faults) l.fn.disk l.disk held (g.L.Link.written l.fn.link) (g.L.Link.written l.link) (turns l.left requests end) l.left l.replies end
      (λ h others. Meets (λ k. k ≡ held) (g.L.Link.left l.link) l.rest.items end h others);
}
