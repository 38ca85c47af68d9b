-- The command line as `clap` is told it, and what it makes of it.
use Rattle.std.specs.Prelude.{ℕ, ◌==◌, ◌||◌, Bool, true, false, not, List, [], ◌∷◌, ◌++◌, codes, fold, map, Option, Some, None, option_map, if◌then◌else◌}
use Rattle.std.specs.Borrow.{Bor}
use Rattle.clap.specs.Walk.{Row, Rule, Text}
use Rattle.clap.specs.Simple.{App, Shape, new_app, new_rule, new_shape, on_top, with_rule}
use Rattle.clap.specs.declared.builder.action.ArgAction.TheVariants.{Set, SetTrue}
use Rattle.clap.specs.declared.builder.value_parser.ValueParser.TheVariants as vp
use Rattle.clap.specs.declared.builder.value_parser.Reading.TheVariants as reading
use Rattle.clap.specs.declared.parser.matches.ValueSource.TheVariants.{CommandLine}
use Rattle.command_words.specs.CommandTable.{all_options, name_of}
use Rattle.command_words.specs.Words.{Piece, flags, takes_value, valued}
use Rattle.command_words.specs.declared.table.CommandOption.{CommandOption}

-- two hyphens have more behind them
abbrev pub is_long : List ℕ → Bool
is_long [] = false
is_long (b ∷ []) = false
is_long (b ∷ c ∷ text) = b == 45

-- the word begins with no hyphen, or with two hyphens and more behind them
abbrev pub is_formed : List ℕ → Bool
is_formed [] = true
is_formed (b ∷ text) = not (b == 45) || is_long text

-- ---- as it is told

abbrev pub option_rule : Text → Rule
option_rule name = record (new_rule name) { long = Some name }

abbrev pub flag_rule : Text → Rule
flag_rule name = record (new_rule name) {
  long = Some name;
  action = Some SetTrue;
}

abbrev pub rule_by : CommandOption → Rule
rule_by o = if takes_value o then option_rule (name_of o) else flag_rule (name_of o)

abbrev pub bare : App
bare = on_top (λ s. record s { no_binary_name = true; disable_help_flag = true }) (new_app (codes "grundbuch"))

unfoldable pub grundbuch : App
grundbuch = fold with_rule (with_rule bare (new_rule (codes "command"))) (map rule_by all_options)

-- ---- as it is built

abbrev pub built_command : Rule
built_command = record (new_rule (codes "command")) {
  index = Some 1;
  action = Some Set;
  range = Some (record { start_inclusive = 1; end_inclusive = 1 });
  parser = Some vp.String;
}

abbrev pub built_option : Text → Rule
built_option name = record (new_rule name) {
  long = Some name;
  action = Some Set;
  range = Some (record { start_inclusive = 1; end_inclusive = 1 });
  parser = Some vp.String;
}

abbrev pub built_flag : Text → Rule
built_flag name = record (new_rule name) {
  long = Some name;
  action = Some SetTrue;
  range = Some (record { start_inclusive = 0; end_inclusive = 0 });
  defaults = codes "false" ∷ [];
  missing = codes "true" ∷ [];
  parser = Some vp.Bool;
}

unfoldable pub rules : List Rule
rules = built_command ∷ (map built_option valued ++ map built_flag flags)

abbrev pub shape : Shape
shape = record (new_shape (codes "grundbuch")) {
  rules = rules;
  no_binary_name = true;
  disable_help_flag = true;
  disable_help_subcommand = true;
  is_built = true;
}

-- the entry that a piece has
abbrev pub row : Piece → Row
row piece = record {
  id = piece.0;
  values = piece.1 ∷ [];
  count = None;
  source = Some CommandLine;
  reading = reading.AsWritten;
}

-- ---- as it is read

abbrev pub text_of : Option (Bor Text) → Option Text
text_of = option_map (λ s. s.now)
