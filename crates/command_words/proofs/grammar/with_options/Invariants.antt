use Rattle.std.proofs.Common.{◌≡◌, drop, map}
use Rattle.std.specs.Prelude.{fold}
use Rattle.clap.specs.Words.{app_of, with_rule}
use Rattle.command_words.specs.inner.Parsing.{rule_by}
use Rattle.command_words.proofs.grammar.with_options.Given as goal

abbrev pub invariant-loop-option : goal.invariant-loop-option
invariant-loop-option l =
    fold with_rule (app_of l.grammar) (map rule_by (drop l.option-index l.options)) ≡ fold with_rule (app_of l.fn.start) (map rule_by l.options)
