-- The words of the command line: which of them are a command, and which one.
use Rattle.std.specs.Prelude.{ℕ, ◌≤◌, ◌==◌, ◌&&◌, ◌||◌, Bool, true, false, not, if◌then◌else◌, List, [], ◌∷◌, ◌++◌, map, codes, Option, Some, None}
use Rattle.std.specs.Prelude.{filter, find, is_some, option_map, option_and_then}
use Rattle.std.specs.List.{list_any, list_all, before_first, after_first}
use Rattle.std.specs.Str.{bytes_eq}
use Rattle.gb_base.specs.Numerals.{number_in}
use Rattle.gb_base.specs.Optional.{◌>>=◌}
use Rattle.act_model.specs.Limits.{most_receipts}
use Rattle.intake.specs.declared.intakes.Intake.TheVariants.{Lines, OpeningList}
use Rattle.command_words.specs.CommandTable.{all_options, name_of, optional_of, range_of, required_of, word_of}
use Rattle.command_words.specs.declared.commands.Command.{Command}
use Rattle.command_words.specs.declared.commands.Command.TheVariants.{Settle, SettleLines, Serve, Receive, Sample}
use Rattle.command_words.specs.declared.table.CommandOption.{CommandOption}
use Rattle.command_words.specs.declared.table.CommandOption.TheVariants as option
use Rattle.command_words.specs.declared.table.CommandWord.{CommandWord}
use Rattle.command_words.specs.declared.table.CommandWord.TheVariants as word
use Rattle.command_words.specs.declared.table.ValueRange.{ValueRange}

-- What one word is: a word that no hyphen begins, the name of an option without a value, the name of
-- an option whose value is to follow, the name of an option with its value, or none of these.
pub data Form : Type 0 where
  bare : List ℕ → Form
  flag : List ℕ → Form
  named : List ℕ → Form
  assigned : List ℕ → List ℕ → Form
  wrong : Form

-- the option has a value
abbrev pub takes_value : CommandOption → Bool
takes_value o = is_some (range_of o)

-- the names of the options that have a value, and of those that have none
abbrev pub valued : List (List ℕ)
valued = map name_of (filter takes_value all_options)

abbrev pub flags : List (List ℕ)
flags = map name_of (filter (λ o. not (takes_value o)) all_options)

-- an option of this name has a value
abbrev pub has_value : List ℕ → Bool
has_value name = list_any (λ known. bytes_eq known name) valued

-- an option of this name has none
abbrev pub is_flag : List ℕ → Bool
is_flag name = list_any (λ known. bytes_eq known name) flags

-- the byte is `=`
abbrev pub is_equals : ℕ → Bool
is_equals b = b == 61

-- the form of an option by its name, with a value behind `=` or without
abbrev pub option_form : List ℕ → Option (List ℕ) → Form
option_form name None = if has_value name then named name else (if is_flag name then flag name else wrong)
option_form name (Some value) = if has_value name then assigned name value else wrong

-- the form of `--` and this text: the name ends at the first `=`
abbrev pub long_form : List ℕ → Form
long_form text = option_form (before_first is_equals text) (if list_any is_equals text then Some (after_first is_equals text) else None)

-- the form of a hyphen (45) and this text: only a second hyphen goes on
abbrev pub hyphen_form : List ℕ → Form
hyphen_form [] = wrong
hyphen_form (b ∷ text) = if b == 45 then long_form text else wrong

-- the form of a word
abbrev pub form_of : List ℕ → Form
form_of [] = bare []
form_of (b ∷ text) = if b == 45 then hyphen_form text else bare (b ∷ text)

-- A piece of the command line: a value, under the name of its option. The word that says the command
-- stands under `command`, and an option without a value has the value `true`.
abbrev pub Piece : Type 0
Piece = List ℕ × List ℕ

-- one more piece, in front
abbrev pub put : Piece → Option (List Piece) → Option (List Piece)
put piece = option_map (λ pieces. piece ∷ pieces)

-- the pieces that words of these forms are; None where they are none
abbrev pub pieces_of : List Form → Option (List Piece)
pieces_of [] = Some []
pieces_of (bare word ∷ rest) = put (codes "command", word) (pieces_of rest)
pieces_of (flag name ∷ rest) = put (name, codes "true") (pieces_of rest)
pieces_of (assigned name value ∷ rest) = put (name, value) (pieces_of rest)
pieces_of (named name ∷ bare value ∷ rest) = put (name, value) (pieces_of rest)
pieces_of (other ∷ rest) = None

-- a piece stands under this name
abbrev pub has_name : List ℕ → List Piece → Bool
has_name name pieces = list_any (λ piece. bytes_eq piece.0 name) pieces

-- each piece stands under a name that none before it has
abbrev pub once_each : List Piece → List Piece → Bool
once_each before [] = true
once_each before (piece ∷ rest) = not (has_name piece.0 before) && once_each (before ++ piece ∷ []) rest

-- the value under this name
abbrev pub value_of : List ℕ → List Piece → Option (List ℕ)
value_of name pieces = option_map (λ piece. piece.1) (find (λ piece. bytes_eq piece.0 name) pieces)

-- the value is `true`
abbrev pub is_true : Option (List ℕ) → Bool
is_true None = false
is_true (Some value) = bytes_eq value (codes "true")

-- what stands under each name
abbrev pub Values : Type 0
Values = List ℕ → Option (List ℕ)

-- an option of this range stands, under whose name this is
abbrev pub stands_by : Option ValueRange → Option (List ℕ) → Bool
stands_by (Some range) value = is_some value
stands_by None value = is_true value

-- the option stands
abbrev pub stands : Values → CommandOption → Bool
stands under o = stands_by (range_of o) (under (name_of o))

-- the number that this text writes, in the range
abbrev pub number_by : Option ValueRange → List ℕ → Option ℕ
number_by (Some range) text = number_in range.low range.high text
number_by None text = None

-- the number of the option, where it stands and the number is in its range
abbrev pub number : Values → CommandOption → Option ℕ
number under o = option_and_then (number_by (range_of o)) (under (name_of o))

-- the option is one of these
abbrev pub is_among : List CommandOption → CommandOption → Bool
is_among own o = list_any (λ one. bytes_eq (name_of one) (name_of o)) own

-- each option that the command asks for stands
abbrev pub has_required : CommandWord → (CommandOption → Bool) → Bool
has_required word standing = list_all standing (required_of word)

-- each option that stands is one that the command asks for, or one that may stand besides
abbrev pub has_no_other : CommandWord → (CommandOption → Bool) → Bool
has_no_other word standing =
    list_all (λ o. not (standing o) || (is_among (required_of word) o || is_among (optional_of word) o)) all_options

-- the option has a number in its range, where it stands and has a value
abbrev pub is_in_range : (CommandOption → Bool) → (CommandOption → Option ℕ) → CommandOption → Bool
is_in_range standing number_at o = not (standing o && takes_value o) || is_some (number_at o)

-- each option that stands and has a value has a number in its range
abbrev pub has_numbers : (CommandOption → Bool) → (CommandOption → Option ℕ) → Bool
has_numbers standing number_at = list_all (is_in_range standing number_at) all_options

-- the command of a word, by which options stand and which numbers they have
abbrev pub command_by : CommandWord → (CommandOption → Bool) → (CommandOption → Option ℕ) → Option Command
command_by word.Take standing number_at = Some (Receive Lines)
command_by word.Settle standing number_at = do
  desks ← number_at option.Desks
  Some (if standing option.Lines then SettleLines desks else Settle desks)
command_by word.Serve standing number_at = do
  desks ← number_at option.Desks
  requests ← number_at option.Requests
  Some (Serve desks requests)
command_by word.Sample standing number_at = do
  seed ← number_at option.Seed
  size ← number_at option.Size
  desks ← number_at option.Desks
  Some (Sample seed size desks)
command_by word.Opening standing number_at = do
  sender ← number_at option.Sender
  Some (Receive (OpeningList sender))

-- the command of a word, where the options that stand are right
abbrev pub command_right : CommandWord → (CommandOption → Bool) → (CommandOption → Option ℕ) → Option Command
command_right word standing number_at =
    if has_required word standing && (has_no_other word standing && has_numbers standing number_at) then command_by word standing number_at else None

-- the command, by what stands under each name
abbrev pub command_with : Values → Option Command
command_with under =
    option_and_then (λ word. command_right word (stands under) (number under)) (option_and_then word_of (under (codes "command")))

-- the command of pieces, each of which stands under a name of its own
abbrev pub command_once : List Piece → Option Command
command_once pieces = if once_each [] pieces then command_with (λ name. value_of name pieces) else None

-- the command of these words; None where they are none
unfoldable pub command_of : List (List ℕ) → Option Command
command_of words = option_and_then command_once (pieces_of (map form_of words))

-- a command that settles has 1 to 64 desks
abbrev pub HasDesks : Command → Type 0
HasDesks (Settle desks) = (1 ≤ desks) × (desks ≤ 64)
HasDesks (SettleLines desks) = (1 ≤ desks) × (desks ≤ 64)
HasDesks (Serve desks requests) = (1 ≤ desks) × (desks ≤ 64)
HasDesks (Sample seed size desks) = (1 ≤ desks) × (desks ≤ 64)
HasDesks other = Unit {0}

-- a journal that is generated has 1 to 200,000 receipts
abbrev pub HasSize : Command → Type 0
HasSize (Sample seed size desks) = (1 ≤ size) × (size ≤ most_receipts)
HasSize other = Unit {0}

-- the office serves 1 to 1,000,000 requests
abbrev pub HasRequests : Command → Type 0
HasRequests (Serve desks requests) = (1 ≤ requests) × (requests ≤ 1000000)
HasRequests other = Unit {0}

-- the command of the words of a run, each of which is read as its bytes; none where they are none
abbrev pub commanded : {W : Type 0} → (W → List ℕ) → List W → Option Command
commanded bytes words = command_of (map bytes words)
