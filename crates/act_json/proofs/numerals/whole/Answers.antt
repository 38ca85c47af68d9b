-- The text has a minus, or its numeral is the whole of it.
use Rattle.std.proofs.Common.{false, negsuc, drop, sym, ap, ◌∙◌}
use Rattle.std.specs.Prelude.{unwrap_or}
use Rattle.fast_float.specs.Text.{scan}
use Rattle.serde_json.specs.Data.{negative}
use Rattle.serde_json.specs.Find.{as_u64}
use Rattle.serde_json.specs.Read.{number_from}
use Rattle.act_json.proofs.NumberTexts.{with_minus, without_minus, none_with_minus}
use Rattle.act_json.proofs.numerals.whole.Goals as goal

pub returns-then-has_minus : goal.returns-then-has_minus
returns-then-has_minus c =
    none_with_minus (scan (drop 1 c.args.text.now)) ∙ ap (λ n. as_u64 (unwrap_or n (negative (negsuc 0)))) (sym (with_minus c.args.text.now (sym c.if-has_minus.ensures.value)))

pub returns-else-has_minus : goal.returns-else-has_minus
returns-else-has_minus c =
    c.positive.ensures ∙ ap (λ p. as_u64 (unwrap_or (number_from false p) (negative (negsuc 0)))) c.scan.ensures.parts
    ∙ ap (λ n. as_u64 (unwrap_or n (negative (negsuc 0)))) (sym (without_minus c.args.text.now (sym c.if-has_minus.ensures.value)))
