-- The line goes on, or is cut again.
use Rattle.rank_slots.specs.inner.SpanLists.{lists_of}
use Rattle.rank_slots.proofs.KeptLines.{begins_anew, goes_on}
use Rattle.rank_slots.proofs.spans.Spans.keep_or_cut.Goals as goal

pub returns-in-Some-clause-left : goal.returns-in-Some-clause-left
returns-in-Some-clause-left c =
    goes_on (lists_of c.args.self.now) c.args.last_places.now c.args.places.now c.args.last_swaps.now c.in-Some.further.now c.args.swaps.now c.requires.last c.in-Some.ensures.places c.in-Some.ensures.swaps c.requires.swaps

pub returns-in-None-clause-left : goal.returns-in-None-clause-left
returns-in-None-clause-left c = begins_anew (lists_of c.cut.new.self) c.args.places.now c.args.swaps.now c.cut.ensures.cut c.cut.ensures.few c.requires.swaps
