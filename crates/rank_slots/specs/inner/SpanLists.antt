-- What the lists of a line in spans are in contracts.
use Rattle.rank_slots.specs.declared.spans.Spans.{Spans}
use Rattle.rank_slots.specs.inner.Spans.{SpanLists}

-- the elements of the lists
abbrev pub lists_of : Spans → SpanLists
lists_of a = record { spans = a.spans.items; links = a.links.items; heads = a.heads.items }
