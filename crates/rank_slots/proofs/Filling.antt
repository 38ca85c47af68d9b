-- What fills the slots of a line.
use Rattle.std.proofs.Common.{◌≡◌, ◌≤◌, List, [], filter, not, refl, true, arith, ap, ◌∙◌}
use Rattle.std.specs.List.{IsDistinct}
use Rattle.std.proofs.lemmas.List.Elements.{All-nil}
use Rattle.gb_base.specs.RightNo.{RightNo}
use Rattle.rank_slots.specs.CanFill.{CanFill, CanKnot, CanSwap, StandsAlone}
use Rattle.rank_slots.specs.CentLine.{cent_line, exchange_all, is_dropped, written}
use Rattle.rank_slots.specs.Filled.{empty, line}
use Rattle.rank_slots.specs.declared.places.Place.{Place}
use Rattle.rank_slots.specs.declared.places.Swap.{Swap}
use Rattle.rank_slots.specs.declared.spans.Span.{Span}
use Rattle.rank_slots.specs.inner.Pieces.{line_of}
use Rattle.rank_slots.specs.inner.Spans.{line_of_spans}

-- a line that was cut, exchanged and written without the cents of dropped places
pub made_of_spans : (places : List Place) (swaps : List Swap) (row sorted : List Span) (made : List RightNo) → line_of_spans row ≡ exchange_all (written places) swaps → sorted ≡ row
    → made ≡ filter (λ c. not (is_dropped places c)) (line_of_spans sorted) → made ≡ cent_line places swaps
unfolding cent_line
made_of_spans places swaps row sorted made line is written_of = written_of ∙ ap (filter (λ c. not (is_dropped places c))) (ap line_of_spans is ∙ line)

-- a line without places has no cents
pub no_cents : line_of [] ≡ line empty
unfolding cent_line
no_cents = refl

-- a line without places can be filled in
pub nothing_fits : CanFill empty
unfolding IsDistinct
nothing_fits = record {
  places = record {
    few = omega arith;
    distinct = tt;
    first = refl;
    dropped = All-nil (λ p. p.dropped ≡ true → StandsAlone [] p.right);
    claims = All-nil (λ p. 1 ≤ p.claim);
    sum = omega arith;
  };
  swaps = All-nil (CanSwap []);
  knots = All-nil (CanKnot [] []);
  once = tt;
}
