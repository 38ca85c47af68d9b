use Rattle.std.proofs.Common.{◌≡◌, ◌++◌, drop, flat_map}
use Rattle.std.specs.String.{string_bytes}
use Rattle.folio_extract.specs.RankTables.{exercise_line}
use Rattle.folio_extract.proofs.exchange_lines.add_exercise_lines.Given as goal

abbrev pub invariant-loop-exercise : goal.invariant-loop-exercise
invariant-loop-exercise l =
    string_bytes l.text ++ flat_map exercise_line (drop l.exercise-index l.exercises) ≡ string_bytes l.fn.text ++ flat_map exercise_line l.exercises
