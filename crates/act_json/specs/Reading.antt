-- Reading a JSON value from left to right: what it says, or its first wrong path.
use Rattle.std.specs.Prelude.{ℕ, ◌+◌, List, [], ◌∷◌, ◌++◌, ◌&&◌, Bool, true, false, Option, Some, None, option_and_then, is_some, Result, Ok, Err, if◌then◌else◌, codes, decimal, length, bytes_eq}
use Rattle.std.specs.List.{list_any}
use Rattle.serde_json.specs.Data.{Data, Items, no_items, item, Members}
use Rattle.serde_json.specs.Data as json
use Rattle.serde_json.specs.Find.{get, as_number, as_u64, as_bool, as_str, as_array, as_object}
use Rattle.gb_base.specs.Limits.{is_between}

-- a value, or the path that is wrong, seen from where reading began: it is empty where the value itself is wrong
abbrev pub Read : Type 0 → Type 0
Read A = Result A (List ℕ)

-- reads on with the value that was read; where a path is wrong, the first one is the answer
infixl 10 ◌>>=◌
abbrev pub ◌>>=◌ : {A B : Type 0} → Read A → (A → Read B) → Read B
(Ok x) >>= next = next x
(Err path) >>= next = Err path

-- reads on without the value that was read
infixl 10 ◌>>◌
abbrev pub ◌>>◌ : {A B : Type 0} → Read A → Read B → Read B
(Ok x) >> next = next
(Err path) >> next = Err path

-- a path, seen from the value that has a part of this name
abbrev pub below : List ℕ → List ℕ → List ℕ
below name [] = name
below name (b ∷ path) = name ++ codes "." ++ b ∷ path

-- what was read of a part of this name
abbrev pub within : {A : Type 0} → List ℕ → Read A → Read A
within name (Ok x) = Ok x
within name (Err path) = Err (below name path)

-- the value is wrong where there is nothing
abbrev pub wanted : {A : Type 0} → Option A → Read A
wanted (Some x) = Ok x
wanted None = Err []

-- the value is wrong where the test fails
abbrev pub wants : Bool → Read (Unit {0})
wants true = Ok tt
wants false = Err []

-- the value is an object
abbrev pub an_object : Data → Read (Unit {0})
an_object d = wants (is_some (as_object d))

-- the member of this name, which has to be there
abbrev pub member : {A : Type 0} → List ℕ → (Data → Read A) → Data → Read A
member name read d = within name (wanted (get name d) >>= read)

-- what a reader says of a value that may be there
abbrev pub if_there : {A : Type 0} → (Data → Read A) → Option Data → Read (Option A)
if_there read None = Ok None
if_there read (Some d) = read d >>= λ x. Ok (Some x)

-- the member of this name, where it is there
abbrev pub optional : {A : Type 0} → List ℕ → (Data → Read A) → Data → Read (Option A)
optional name read d = within name (if_there read (get name d))

-- all members have one of these names
abbrev pub are_named : List (List ℕ) → Members → Bool
are_named names json.no_members = true
are_named names (json.member name d ms) = list_any (bytes_eq name) names && are_named names ms

-- the object has no member of another name than these
abbrev pub only : List (List ℕ) → Data → Read (Unit {0})
only names d = do
  ms ← wanted (as_object d)
  if are_named names ms then Ok tt else Err (codes "*")

-- each element in turn, the first of them at index i
abbrev pub elements : {A : Type 0} → (Data → Read A) → ℕ → Items → Read (List A)
elements read i no_items = Ok []
elements read i (item d ds) = do
  x ← within (decimal i) (read d)
  xs ← elements read (i + 1) ds
  Ok (x ∷ xs)

-- an array, whose elements are read before they are counted
abbrev pub array_of : {A : Type 0} → ℕ → ℕ → (Data → Read A) → Data → Read (List A)
array_of low high read d = do
  ds ← wanted (as_array d)
  xs ← elements read 0 ds
  wants (is_between low high (length xs))
  Ok xs

-- a number from low to high, written without sign, fraction and exponent
abbrev pub read_whole : ℕ → ℕ → Data → Read ℕ
read_whole low high d = do
  n ← wanted (option_and_then as_u64 (as_number d))
  wants (is_between low high n)
  Ok n

-- true or false
abbrev pub truth : Data → Read Bool
truth d = wanted (as_bool d)

-- what a word stands for
abbrev pub look_up : {A : Type 0} → List (List ℕ × A) → List ℕ → Option A
look_up [] text = None
look_up ((word, x) ∷ words) text = if bytes_eq text word then Some x else look_up words text

-- one of these words
abbrev pub word_of : {A : Type 0} → List (List ℕ × A) → Data → Read A
word_of words d = wanted (option_and_then (look_up words) (as_str d))

-- the word by which an object says its kind, in the member of this name
abbrev pub kind_word : {A : Type 0} → List ℕ → (Data → Read A) → Data → Read A
kind_word name read d = an_object d >> member name read d
