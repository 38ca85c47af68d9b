use Rattle.std.proofs.Common.{ap, ◌∙◌, arith}
use Rattle.std.specs.Result.{result_ok}
use Rattle.std.proofs.lemmas.Fmt.{parse-decimal}
use Rattle.registry_http.proofs.Numbers.{number_text, number_missing, number_value}
use Rattle.registry_http.proofs.finding.path_number.Goals as goal

pub returns-in_err-get : goal.returns-in_err-get
returns-in_err-get c = λ n small is. number_missing n _ _ is (c.in_err-get.ensures (number_text n _ small is))

pub returns : goal.returns
returns c = λ n small is.
    c.ok.ensures.value
    ∙ ap (λ r. result_ok r) (parse-decimal 32 n c.in_ok-get.field-0.now _ small (omega arith)
    (number_value n _ _ is (c.in_ok-get.ensures (number_text n _ small is))) c.parse.ensures.value.0)
