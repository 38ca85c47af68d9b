-- The table of commands: the word that says each, its options, and the range of each option's value.
use Rattle.std.specs.Prelude.{ℕ, List, [], ◌∷◌, codes, Option, Some, None, find, option_map}
use Rattle.std.specs.Str.{bytes_eq}
use Rattle.act_model.specs.Limits.{most_receipts}
use Rattle.command_words.specs.declared.table.CommandWord.{CommandWord}
use Rattle.command_words.specs.declared.table.CommandWord.TheVariants.{Take, Settle, Serve, Sample, Opening}
use Rattle.command_words.specs.declared.table.CommandOption.{CommandOption}
use Rattle.command_words.specs.declared.table.CommandOption.TheVariants.{Desks, Requests, Seed, Size, Sender, Lines}
use Rattle.command_words.specs.declared.table.ValueRange.{ValueRange}

-- the commands, each after the word that says it
abbrev pub commands : List (List ℕ × CommandWord)
commands =
    (codes "take", Take)
    ∷ (codes "settle", Settle)
    ∷ (codes "serve", Serve)
    ∷ (codes "sample", Sample)
    ∷ (codes "opening", Opening)
    ∷ []

-- the options that the command asks for
abbrev pub required_of : CommandWord → List CommandOption
required_of Take = []
required_of Settle = Desks ∷ []
required_of Serve = Desks ∷ Requests ∷ []
required_of Sample = Seed ∷ Size ∷ Desks ∷ []
required_of Opening = Sender ∷ []

-- the options that may stand besides
abbrev pub optional_of : CommandWord → List CommandOption
optional_of Settle = Lines ∷ []
optional_of other = []

-- all options; those without a value stand last
abbrev pub all_options : List CommandOption
all_options =
    Desks
    ∷ Requests
    ∷ Seed
    ∷ Size
    ∷ Sender
    ∷ Lines
    ∷ []

-- the name of the option, as it stands after two hyphens
abbrev pub name_of : CommandOption → List ℕ
name_of Desks = codes "desks"
name_of Requests = codes "requests"
name_of Seed = codes "seed"
name_of Size = codes "size"
name_of Sender = codes "sender"
name_of Lines = codes "lines"

-- the range of the option's value; None where it has no value
abbrev pub range_of : CommandOption → Option ValueRange
range_of Desks = Some (record { low = 1; high = 64 })
range_of Requests = Some (record { low = 1; high = 1000000 })
range_of Seed = Some (record { low = 0; high = 9999999999 })
range_of Size = Some (record { low = 1; high = most_receipts })
range_of Sender = Some (record { low = 0; high = 4294967295 })
range_of Lines = None

-- the command that this word says
abbrev pub word_of : List ℕ → Option CommandWord
word_of text = option_map (λ row. row.1) (find (λ row. bytes_eq row.0 text) commands)
