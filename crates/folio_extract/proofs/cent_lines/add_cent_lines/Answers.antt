use Rattle.std.proofs.Common.{◌++◌, ◌+◌, ◌<◌, ap, subst, sym, ◌∙◌, arith}
use Rattle.std.specs.Option.{option_copied}
use Rattle.std.specs.String.{string_bytes}
use Rattle.gb_base.specs.Limits.{most_sum}
use Rattle.folio_extract.specs.CentTexts.{joined_groups, line_text, piece_line, piece_lines}
use Rattle.folio_extract.proofs.CentLines.{WritesOn, goes_on, takes}
use Rattle.folio_extract.proofs.PieceRuns.{cents_of}
use Rattle.folio_extract.proofs.cent_lines.add_cent_lines.Goals as goal

pub total-cents-requires : goal.total-cents-requires
total-cents-requires c =
    let places = c.args.slots.now.filled.places in
    let whole = string_bytes c.args.text.now ++ line_text c.args.slots.now.filled in
    let first = sym c.first.ensures.value ∙ ap option_copied c.in-Some.is in
    let run = takes places (string_bytes c.loop-first.text) whole c.loop-first.from c.loop-first.rest.now c.in-Some.first.now c.run_len.result first c.run_len.ensures.some c.loop-first.invariant in
    let below = run.below in
    let begun = c.loop-first.invariant.begun in
    subst (λ ps. cents_of ps < most_sum) (sym c.split_at.ensures.front) (omega (arith, below, begun))

pub loop-first-init : goal.loop-first-init
loop-first-init c =
    let places = c.args.slots.now.filled.places in
    let sum = c.pieces-rest.ensures.sum in
    record {
      written = ap (λ ps. string_bytes c.args.text.now ++ piece_lines places 1 (joined_groups places ps)) c.pieces-rest.ensures.value;
      begun = omega arith;
      bound = omega (arith, sum);
      some = c.pieces-rest.ensures.some;
    }

pub loop-first-preserved : goal.loop-first-preserved
loop-first-preserved c =
    let places = c.args.slots.now.filled.places in
    let old = string_bytes c.loop-first.text in
    let new = string_bytes c.add_piece.new.text in
    let whole = string_bytes c.args.text.now ++ line_text c.args.slots.now.filled in
    let first = sym c.first.ensures.value ∙ ap option_copied c.in-Some.is in
    let cents = c.total-cents.ensures ∙ ap cents_of c.split_at.ensures.front in
    let added = c.in_ok-add_piece.ensures ∙ ap (λ g. old ++ piece_line c.loop-first.from c.total-cents.result g) c.group.ensures.value in
    subst (λ ps. WritesOn places new whole (c.loop-first.from + c.total-cents.result) ps) (sym c.split_at.ensures.back)
    (goes_on places old new whole c.loop-first.from c.total-cents.result c.loop-first.rest.now c.in-Some.first.now c.run_len.result first c.run_len.ensures.some c.run_len.ensures.value
    cents added c.loop-first.invariant)
