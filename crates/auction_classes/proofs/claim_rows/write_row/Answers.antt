-- One more stands in the row.
use Rattle.std.proofs.Common.{None, [], ◌∷◌, ◌++◌, take, sym, ap, arith, ◌∙◌}
use Rattle.std.specs.List.{last_or}
use Rattle.std.proofs.lemmas.List.{take_more}
use Rattle.auction_classes.specs.Claims.{claim_after, in_row}
use Rattle.auction_classes.proofs.ClaimsInRow.{row_push}
use Rattle.auction_classes.proofs.claim_rows.write_row.Goals as goal

pub loop-i-preserved : goal.loop-i-preserved
loop-i-preserved c =
    let xs = c.args.claims.now in
    let i = c.loop-i.i in
    let x = c.index-claims-i.result in
    let more = take_more xs i x c.loop-i-test.true ∙ ap (λ y. take i xs ++ y ∷ []) (sym c.index-claims-i.is) in
    record {
      row =
          c.push_copy.ensures.items ∙ ap (λ y. c.loop-i.items.items ++ y ∷ []) c.claim_after.ensures
          ∙ ap (λ ys. ys ++ claim_after (last_or None (take i xs)) x ∷ []) c.loop-i.invariant.row
          ∙ sym (row_push (take i xs) x) ∙ ap in_row (sym more);
      few = omega (arith, c.push_copy.ensures.len, c.loop-i.invariant.few);
      capacity = c.push_copy.ensures.capacity ∙ c.loop-i.invariant.capacity;
    }
