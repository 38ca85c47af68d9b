-- A line that is kept goes on by the exchanges that are left.
use Rattle.std.proofs.Common.{◌≡◌, All, List, [], ◌++◌, ap, arith, drop, length, refl, subst, sym, ◌∙◌}
use Rattle.std.proofs.lemmas.List.{length-append}
use Rattle.std.proofs.lemmas.List.Elements.{All-drop}
use Rattle.std.proofs.lemmas.List.Sums.{fold-append}
use Rattle.std.proofs.Math.Seq.{drop-append_seam}
use Rattle.rank_slots.specs.CanFill.{CanSwap}
use Rattle.rank_slots.specs.CentLine.{exchange, exchange_all, written}
use Rattle.rank_slots.specs.declared.places.Place.{Place}
use Rattle.rank_slots.specs.declared.places.Swap.{Swap}
use Rattle.rank_slots.specs.inner.Spans.{AreMadeOf, AreToGoOn, SpanLists, StandInOrder}
use Rattle.rank_slots.proofs.ClaimedSpans.{claimed_in_order}
use Rattle.rank_slots.proofs.Filling.{nothing_fits}

-- the same places, and exchanges that begin with those that are made
pub goes_on : (a : SpanLists) (last places : List Place) (made further swaps : List Swap) → AreMadeOf a last made → last ≡ places → swaps ≡ made ++ further → All (CanSwap places) swaps
    → AreToGoOn a places further swaps
goes_on a last places made further swaps kept same begins can = record {
  line = exchange_all (written places) made;
  stand = subst (λ ps. StandInOrder a ps (exchange_all (written ps) made)) same kept.stand;
  goes_on = sym (fold-append exchange (written places) made further) ∙ ap (exchange_all (written places)) (sym begins);
  few = omega (arith, kept.few, ap length same, ap length begins, length-append made further);
  can_swap = subst (All (CanSwap places)) (ap (drop (length made)) begins ∙ drop-append_seam made further) (All-drop (CanSwap places) (length made) swaps can);
}

-- places that are cut again
pub begins_anew : (a : SpanLists) (places : List Place) (swaps : List Swap) → StandInOrder a places (written places) → length a.spans ≡ length places → All (CanSwap places) swaps → AreToGoOn a places swaps swaps
begins_anew a places swaps stand few can = record { line = written places; stand = stand; goes_on = refl; few = omega (arith, few); can_swap = can }

-- no spans are made of no places
pub none_made : (a : SpanLists) (places : List Place) (swaps : List Swap) → a.spans ≡ [] → a.links ≡ [] → a.heads ≡ [] → places ≡ [] → swaps ≡ [] → AreMadeOf a places swaps
none_made a places swaps spans links heads no_places no_swaps =
    subst (λ ps. AreMadeOf a ps swaps) (sym no_places)
    (subst (AreMadeOf a []) (sym no_swaps) (record {
      stand = claimed_in_order a [] nothing_fits.places spans (ap length links) (ap length heads) (λ n within. absurd (omega (arith, within))) (λ n within. absurd (omega (arith, within)));
      few = omega (arith, ap length spans);
    }))
