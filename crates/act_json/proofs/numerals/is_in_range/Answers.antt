-- The numeral is the text after the minus, or the whole text.
use Rattle.std.proofs.Common.{true, false, drop, sym, ap, ◌∙◌, arith, take_all, length-drop, is_some}
use Rattle.fast_float.specs.Text.{scan}
use Rattle.serde_json.specs.Read.{number_from}
use Rattle.act_json.proofs.NumberTexts.{with_minus, without_minus}
use Rattle.act_json.proofs.numerals.is_in_range.Goals as goal

pub returns-then-has_minus : goal.returns-then-has_minus
returns-then-has_minus c =
    let s = c.args.text.now in
    c.is_in_range_below_zero.ensures ∙ ap (λ p. is_some (number_from true p)) (c.scan.ensures.parts ∙ ap scan (take_all _ (drop 1 s) (omega (arith, length-drop 1 s))))
    ∙ ap is_some (sym (with_minus s (sym c.if-has_minus.ensures.value)))

pub returns-else-has_minus : goal.returns-else-has_minus
returns-else-has_minus c =
    c.is_in_range_from_zero.ensures ∙ ap (λ p. is_some (number_from false p)) c.scan-else-has_minus.ensures.parts
    ∙ ap is_some (sym (without_minus c.args.text.now (sym c.if-has_minus.ensures.value)))
