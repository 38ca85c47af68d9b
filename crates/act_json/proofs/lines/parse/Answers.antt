-- The line is what its tree says, unless a number is out of range.
use Rattle.std.proofs.Common.{ap, ◌∙◌, arith}
use Rattle.std.proofs.lemmas.Str.{is_utf8-from_IsUtf8}
use Rattle.json.specs.Value.{value_view}
use Rattle.act_json.specs.inner.Values.{said}
use Rattle.act_json.proofs.Parsed.{json_is, narrow_is}
use Rattle.act_json.proofs.Said.{where_fits}
use Rattle.act_json.proofs.lines.parse.Goals as goal

pub returns-then-is_in_range-clause-exact : goal.returns-then-is_in_range-clause-exact
returns-then-is_in_range-clause-exact c =
    let j = value_view c.in_ok-value.value in
    json_is c.args.line.now c.in-Ok.text.now j c.is_in_range.result c.in-Ok.ensures.cases.0 (is_utf8-from_IsUtf8 _ c.in-Ok.ensures.cases.1) c.in_ok-value.ensures c.is_in_range.ensures
    ∙ ap (λ b. where_fits b (said j)) c.if-is_in_range.true

pub returns-then-is_in_range-clause-narrow : goal.returns-then-is_in_range-clause-narrow
returns-then-is_in_range-clause-narrow c =
    let short = narrow_is c.args.line.now c.in-Ok.text.now (value_view c.in_ok-value.value) c.is_in_range.result c.in-Ok.ensures.cases.0 c.in_ok-value.ensures c.is_in_range.ensures c.if-is_in_range.true in
    omega (arith, short, c.requires)

pub returns-clause-exact : goal.returns-clause-exact
returns-clause-exact c =
    let j = value_view c.in_ok-value.value in
    json_is c.args.line.now c.in-Ok.text.now j c.is_in_range.result c.in-Ok.ensures.cases.0 (is_utf8-from_IsUtf8 _ c.in-Ok.ensures.cases.1) c.in_ok-value.ensures c.is_in_range.ensures
    ∙ ap (λ b. where_fits b (said j)) c.if-is_in_range.false
