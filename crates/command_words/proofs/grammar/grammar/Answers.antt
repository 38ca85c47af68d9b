use Rattle.std.proofs.Common.{◌∙◌, ap₂, map}
use Rattle.std.specs.Prelude.{fold}
use Rattle.std.proofs.lemmas.Result.{IfOk-weaker}
use Rattle.clap.specs.Words.{with_rule}
use Rattle.command_words.specs.inner.Parsing.{grundbuch, rule_by}
use Rattle.command_words.proofs.grammar.grammar.Goals as goal

pub returns : goal.returns
unfolding grundbuch
returns c = IfOk-weaker c.with_options.result _ _ (λ command are.
    are ∙ ap₂ (λ start options. fold with_rule start (map rule_by options))
    (c.in_ok-word.ensures.shape c.new.ensures.optional.1 ∙ ap₂ with_rule c.start.ensures c.new.ensures.rule)
    c.all_options.ensures) c.with_options.ensures
