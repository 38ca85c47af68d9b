-- What `clap` answers, in the words of the grammar.
use Rattle.std.proofs.Common.{◌≡◌, ◌∙◌, ◌==◌, ◌&&◌, ◌||◌, ◌++◌, ap, refl, sym, subst, Bool, true, false, List, [], ◌∷◌, map, codes, Option, Some, None, inl, inr, if◌then◌else◌}
use Rattle.std.specs.Prelude.{Err, IfErr, IfOk, Ok, Result, fold, is_some, option_and_then}
use Rattle.std.specs.List.{list_all, list_any}
use Rattle.std.specs.Str.{bytes_eq}
use Rattle.std.proofs.lemmas.Slice.Eq.{bytes_eq-Decides}
use Rattle.clap.specs.Walk.{Held, Row, Rule, Text, finished, first_of, has_row, nothing_held, rows_after, rows_of, settled, walk, walk_from, with_default}
use Rattle.clap.specs.Matches.{first_value, found_of}
use Rattle.clap.specs.Kinds.{FailsBy, HasKind, Kinds, or_else}
use Rattle.clap.specs.Faults.{built_fault, check_fault, defaults_fault, fault_of, given_default_fault, is_simple_and_free, settle_fault, walk_fault}
use Rattle.clap.specs.Simple.{App, HasMatchesOf, is_simple as all_simple, matches_of, names_of}
use Rattle.clap.specs.Values.{kind_of}
use Rattle.clap.specs.declared.builder.value_parser.Reading.TheVariants.{AsWritten}
use Rattle.clap.specs.declared.parser.matches.ValueSource.TheVariants.{DefaultValue}
use Rattle.clap.specs.declared.parser.matches.ArgMatches.{ArgMatches}
use Rattle.clap.specs.declared.error.Error.{Error}
use Rattle.clap.specs.declared.error.kind.ErrorKind.{ErrorKind}
use Rattle.clap.specs.declared.error.kind.ErrorKind.TheVariants.{OutOfMemory}
use Rattle.command_words.specs.declared.reading.WordsFault.{WordsFault}
use Rattle.command_words.specs.declared.reading.WordsFault.TheVariants.{Usage}
use Rattle.clap.specs.declared.parser.matches.Found.{Found}
use Rattle.clap.proofs.FaultLemmas.{leaf_fault}
use Rattle.clap.proofs.WalkLemmas.{both, first_value-rows}
use Rattle.command_words.specs.declared.commands.Command.{Command}
use Rattle.command_words.specs.CommandTable.{name_of, range_of, word_of}
use Rattle.command_words.specs.declared.table.CommandOption.{CommandOption}
use Rattle.command_words.specs.declared.table.CommandOption.TheVariants.{Desks, Requests, Seed, Size, Sender, Lines}
use Rattle.command_words.specs.declared.table.ValueRange.{ValueRange}
use Rattle.command_words.specs.Words.{Form, Piece, Values, assigned, flag, flags, named, number_by, put, command_of, command_once, command_right, command_with, form_of, is_flag, is_true, pieces_of, stands_by, value_of, valued, wrong, bare}
use Rattle.command_words.specs.inner.Parsing.{built_flag, built_option, grundbuch, is_formed, row, rules, shape}
use Rattle.command_words.proofs.Parsed.{Accepted, Agrees, forms, main, passes}
use Rattle.command_words.proofs.Rules.{appends, is_built, is_simple, neither}
use Rattle.command_words.proofs.Turns.{same}
use Rattle.command_words.proofs.Walking.{between, ends, fails}

-- ---- after the walk nothing fails

quiet : List Rule → Type 0
quiet [] = Unit {0}
quiet (a ∷ rest) = (given_default_fault a a.defaults ≡ []) × quiet rest

same_both : (b : Bool) (x y : Kinds) → x ≡ [] → y ≡ [] → (if b then x else y) ≡ []
same_both true x y e d = e
same_both false x y e d = d

no_default_fails : (rows : List Row) (rs : List Rule) → quiet rs → defaults_fault rows rs ≡ []
unfolding quiet defaults_fault
no_default_fails rows [] q = refl
no_default_fails rows (a ∷ rest) q =
    ap (λ k. or_else k (defaults_fault (with_default rows a) rest)) (same_both _ [] (given_default_fault a a.defaults) refl q.0)
    ∙ no_default_fails (with_default rows a) rest q.1

options_quiet : (ks : List Text) (rest : List Rule) → quiet rest → quiet (map built_option ks ++ rest)
unfolding quiet
options_quiet [] rest q = q
options_quiet (k ∷ ks) rest q = (refl, options_quiet ks rest q)

flags_quiet : (ks : List Text) → quiet (map built_flag ks)
unfolding quiet
flags_quiet [] = tt
flags_quiet (k ∷ ks) = (refl, flags_quiet ks)

all_quiet : quiet rules
unfolding quiet rules
all_quiet = (refl, options_quiet valued (map built_flag flags) (flags_quiet flags))

none_wanted : (rows : List Row) → check_fault shape rows false ≡ []
unfolding rules
none_wanted rows = refl

alone : (s d k : Kinds) → d ≡ [] → k ≡ [] → or_else s (or_else d k) ≡ s
alone [] d k e f = rw (e, f) refl
alone (x ∷ xs) d k e f = refl

faults_are : (words : List Text) → fault_of grundbuch words ≡ fails (between [] None 1) words
unfolding fails grundbuch
faults_are words =
    ap (λ a. built_fault a nothing_held words) is_built
    ∙ leaf_fault (record { top = shape; subs = [] }) nothing_held words refl
    ∙ ap (or_else (walk_fault shape [] (walk_from nothing_held) words))
    (alone (settle_fault rules false (walk rules [] nothing_held words).held) _ _
    (no_default_fails (settled rules (walk rules [] nothing_held words).held).rows rules all_quiet)
    (none_wanted (finished rules (walk rules [] nothing_held words).held)))

-- ---- the entries

-- the entries, and one by default for each option without a value that has none
abbrev with_flags : List Text → List Row → List Row
with_flags ks rows = fold with_default rows (map built_flag ks)

both_same : (b : Bool) (x : List Row) → (if b then x else x) ≡ x
both_same true x = refl
both_same false x = refl

none_given : (ks : List Text) (rest : List Rule) (rows : List Row) → fold with_default rows (map built_option ks ++ rest) ≡ fold with_default rows rest
none_given [] rest rows = refl
none_given (k ∷ ks) rest rows =
    ap (λ r. fold with_default r (map built_option ks ++ rest)) (both_same (has_row k rows) rows) ∙ none_given ks rest rows

finished_is : (h : Held) → finished rules h ≡ with_flags flags (settled rules h).rows
unfolding rules
finished_is h =
    ap (λ r. fold with_default r (map built_option valued ++ map built_flag flags)) (both_same (has_row (codes "command") (settled rules h).rows) (settled rules h).rows)
    ∙ none_given valued (map built_flag flags) (settled rules h).rows

matches_are : (words : List Text) → matches_of grundbuch words ≡ with_flags flags (ends (between [] None 1) words)
unfolding ends grundbuch
matches_are words =
    ap (λ a. rows_after a.top.rules (names_of a) words) is_built ∙ finished_is (walk rules [] nothing_held words).held

first_row : (name : Text) (pieces : List Piece) → first_of name (map row pieces) ≡ value_of name pieces
first_row name [] = refl
first_row name (p ∷ ps) = go (bytes_eq p.0 name) refl (first_row name ps)
  where
    go : (b : Bool) → bytes_eq p.0 name ≡ b → first_of name (map row ps) ≡ value_of name ps → first_of name (map row (p ∷ ps)) ≡ value_of name (p ∷ ps)
    go true e next = rw e refl
    go false e next = rw e next

-- ---- the entry by default of an option without a value

abbrev by_default : Text → Row
by_default k = record { id = k; values = codes "false" ∷ []; count = None; source = Some DefaultValue; reading = AsWritten }

behind_all : (k name : Text) (rows : List Row) → bytes_eq k name ≡ false → first_of name (rows ++ by_default k ∷ []) ≡ first_of name rows
behind_all k name [] other = rw other refl
behind_all k name (r ∷ rs) other = go (bytes_eq r.id name) refl (behind_all k name rs other)
  where
    go : (b : Bool) → bytes_eq r.id name ≡ b → first_of name (rs ++ by_default k ∷ []) ≡ first_of name rs
        → first_of name ((r ∷ rs) ++ by_default k ∷ []) ≡ first_of name (r ∷ rs)
    go true e next = rw e refl
    go false e next = rw e next

with_more : (k : Text) (rows : List Row) → has_row k rows ≡ false → with_default rows (built_flag k) ≡ rows ++ by_default k ∷ []
with_more k rows h = rw h (appends k AsWritten DefaultValue (codes "false" ∷ []) rows h)

other_first : (k name : Text) (rows : List Row) → bytes_eq k name ≡ false → first_of name (with_default rows (built_flag k)) ≡ first_of name rows
other_first k name rows other = go (has_row k rows) refl
  where
    go : (b : Bool) → has_row k rows ≡ b → first_of name (with_default rows (built_flag k)) ≡ first_of name rows
    go true e = rw e refl
    go false e = ap (first_of name) (with_more k rows e) ∙ behind_all k name rows other

-- what stands under another name stays
others_first : (ks : List Text) (name : Text) (rows : List Row) → list_any (λ k. bytes_eq k name) ks ≡ false → first_of name (with_flags ks rows) ≡ first_of name rows
others_first [] name rows h = refl
others_first (k ∷ ks) name rows h =
    let n = neither (bytes_eq k name) (list_any (λ k. bytes_eq k name) ks) h in
    others_first ks name (with_default rows (built_flag k)) n.1 ∙ other_first k name rows n.0

none_first : (k : Text) (rows : List Row) → has_row k rows ≡ false
    → (is_true (first_of k (rows ++ by_default k ∷ [])) ≡ false) × (is_true (first_of k rows) ≡ false)
none_first k [] h = (rw (same k) refl, refl)
none_first k (r ∷ rs) h = go (bytes_eq r.id k) refl (none_first k rs)
  where
    go : (b : Bool) → bytes_eq r.id k ≡ b
        → (has_row k rs ≡ false → (is_true (first_of k (rs ++ by_default k ∷ [])) ≡ false) × (is_true (first_of k rs) ≡ false))
        → (is_true (first_of k ((r ∷ rs) ++ by_default k ∷ [])) ≡ false) × (is_true (first_of k (r ∷ rs)) ≡ false)
    go true e next = let bad : true ≡ false = rw e at h in absurd (cc)
    go false e next = let n = next (rw e at h) in (rw e n.0, rw e n.1)

-- whether the value is `true` stays under each name
true_first : (k name : Text) (rows : List Row) → is_true (first_of name (with_default rows (built_flag k))) ≡ is_true (first_of name rows)
true_first k name rows = go (bytes_eq k name) (has_row k rows) refl refl
  where
    here : has_row k rows ≡ false → is_true (first_of k (with_default rows (built_flag k))) ≡ is_true (first_of k rows)
    here e = let n = none_first k rows e in ap (λ l. is_true (first_of k l)) (with_more k rows e) ∙ n.0 ∙ sym n.1

    go : (a b : Bool) → bytes_eq k name ≡ a → has_row k rows ≡ b → is_true (first_of name (with_default rows (built_flag k))) ≡ is_true (first_of name rows)
    go a true e d = rw d refl
    go false false e d = ap is_true (other_first k name rows e)
    go true false e d =
        subst (λ n. is_true (first_of n (with_default rows (built_flag k))) ≡ is_true (first_of n rows)) ((bytes_eq-Decides k name).0 e) (here d)

trues_first : (ks : List Text) (name : Text) (rows : List Row) → is_true (first_of name (with_flags ks rows)) ≡ is_true (first_of name rows)
trues_first [] name rows = refl
trues_first (k ∷ ks) name rows = trues_first ks name (with_default rows (built_flag k)) ∙ true_first k name rows

-- ---- the command

-- what is read of an option by its range is the same, where its value is, or where it has none and is `true` in both or in neither
Alike : Option ValueRange → Option Text → Option Text → Type 0
Alike (Some range) x y = x ≡ y
Alike None x y = is_true x ≡ is_true y

alike_stand : (r : Option ValueRange) (x y : Option Text) → Alike r x y → stands_by r x ≡ stands_by r y
unfolding Alike
alike_stand (Some range) x y e = ap is_some e
alike_stand None x y e = e

no_number : (x : Option Text) → option_and_then (number_by None) x ≡ None
no_number None = refl
no_number (Some text) = refl

alike_number : (r : Option ValueRange) (x y : Option Text) → Alike r x y → option_and_then (number_by r) x ≡ option_and_then (number_by r) y
unfolding Alike
alike_number (Some range) x y e = ap (option_and_then (number_by (Some range))) e
alike_number None x y e = no_number x ∙ sym (no_number y)

agree : (f g : Values) → f (codes "command") ≡ g (codes "command")
    → ((o : CommandOption) → Alike (range_of o) (f (name_of o)) (g (name_of o))) → command_with f ≡ command_with g
agree f g word alike =
    λ i. option_and_then (λ word. command_right word (λ o. alike_stand (range_of o) (f (name_of o)) (g (name_of o)) (alike o) i) (λ o. alike_number (range_of o) (f (name_of o)) (g (name_of o)) (alike o) i))
    (option_and_then word_of (word i))

same_command : (f : Found) (pieces : List Piece) → rows_of f ≡ with_flags flags (map row pieces)
    → command_with (first_value f) ≡ command_with (λ name. value_of name pieces)
unfolding Alike
same_command f pieces are = agree (first_value f) (λ name. value_of name pieces) (at (codes "command") refl) alike
  where
    at : (name : Text) → is_flag name ≡ false → first_value f name ≡ value_of name pieces
    at name other = first_value-rows f name ∙ ap (first_of name) are ∙ others_first flags name (map row pieces) other ∙ first_row name pieces

    true_at : (name : Text) → is_true (first_value f name) ≡ is_true (value_of name pieces)
    true_at name =
        ap is_true (first_value-rows f name ∙ ap (first_of name) are) ∙ trues_first flags name (map row pieces) ∙ ap is_true (first_row name pieces)

    alike : (o : CommandOption) → Alike (range_of o) (first_value f (name_of o)) (value_of (name_of o) pieces)
    alike Desks = at (codes "desks") refl
    alike Requests = at (codes "requests") refl
    alike Seed = at (codes "seed") refl
    alike Size = at (codes "size") refl
    alike Sender = at (codes "sender") refl
    alike Lines = true_at (codes "lines")

all_of_map : {W : Type 0} (f : W → Text) (p : Text → Bool) (ws : List W) → list_all (λ w. p (f w)) ws ≡ list_all p (map f ws)
all_of_map f p [] = refl
all_of_map f p (w ∷ ws) = ap (λ b. p (f w) && b) (all_of_map f p ws)

-- the parse from its start
start : (words : List Text) → list_all is_formed words ≡ true → Agrees [] words (fails (between [] None 1) words) (ends (between [] None 1) words)
start words formed = main words formed [] None 1 [] (record { are = refl; clear = refl; place_is = refl })

-- a parse that fails nowhere found the command
pub found_command : (words : List Text) (f : Found) → list_all is_formed words ≡ true → fault_of grundbuch words ≡ [] → rows_of f ≡ matches_of grundbuch words
    → command_of words ≡ command_with (first_value f)
unfolding command_of
found_command words f formed clear are = go (start words formed)
  where
    accepted : Accepted [] words (fails (between [] None 1) words) (ends (between [] None 1) words) → command_of words ≡ command_with (first_value f)
    accepted a =
        ap (option_and_then command_once) a.are ∙ rw a.once (sym (same_command f a.pieces (are ∙ matches_are words ∙ ap (with_flags flags) a.rows)))

    go : Agrees [] words (fails (between [] None 1) words) (ends (between [] None 1) words) → command_of words ≡ command_with (first_value f)
    go (inl a) = accepted a
    go (inr r) = absurd (r.failed (sym (faults_are words) ∙ clear))

refused_is_none : (o : Option (List Piece)) → passes [] o ≡ false → option_and_then command_once o ≡ None
refused_is_none None h = refl
refused_is_none (Some ps) h = rw h refl

-- words at which the parse fails are no command
pub no_command_there : (words : List Text) → list_all is_formed words ≡ true → (fault_of grundbuch words ≡ [] → ⊥) → command_of words ≡ None
unfolding command_of
no_command_there words formed failing = go (start words formed)
  where
    go : Agrees [] words (fails (between [] None 1) words) (ends (between [] None 1) words) → command_of words ≡ None
    go (inl a) = absurd (failing (faults_are words ∙ a.clear))
    go (inr r) = refused_is_none (pieces_of (forms words)) r.none

-- ---- words of another form

abbrev is_wrong : Form → Bool
is_wrong wrong = true
is_wrong other = false

wrong_form : (word : Text) → is_formed word ≡ false → is_wrong (form_of word) ≡ true
wrong_form [] h = absurd (cc)
wrong_form (b ∷ []) h = go (b == 45) refl
  where
    go : (t : Bool) → (b == 45) ≡ t → is_wrong (form_of (b ∷ [])) ≡ true
    go true e = rw e refl
    go false e = let bad : true ≡ false = rw e at h in absurd (cc)
wrong_form (b ∷ c ∷ []) h = go (b == 45) (c == 45) refl refl
  where
    go : (t u : Bool) → (b == 45) ≡ t → (c == 45) ≡ u → is_wrong (form_of (b ∷ c ∷ [])) ≡ true
    go true true e d = rw (e, d) refl
    go true false e d = rw (e, d) refl
    go false u e d = let bad : true ≡ false = rw e at h in absurd (cc)
wrong_form (b ∷ c ∷ x ∷ xs) h = go (b == 45) (c == 45) refl refl
  where
    go : (t u : Bool) → (b == 45) ≡ t → (c == 45) ≡ u → is_wrong (form_of (b ∷ c ∷ x ∷ xs)) ≡ true
    go true true e d = let bad : true ≡ false = rw (e, d) at h in absurd (cc)
    go true false e d = rw (e, d) refl
    go false u e d = let bad : true ≡ false = rw e at h in absurd (cc)

or_true : (b : Bool) → (b || true) ≡ true
or_true true = refl
or_true false = refl

some_wrong : (words : List Text) → list_all is_formed words ≡ false → list_any is_wrong (forms words) ≡ true
some_wrong [] h = absurd (cc)
some_wrong (w ∷ ws) h = go (is_formed w) refl (some_wrong ws)
  where
    go : (b : Bool) → is_formed w ≡ b → (list_all is_formed ws ≡ false → list_any is_wrong (forms ws) ≡ true) → list_any is_wrong (forms (w ∷ ws)) ≡ true
    go true e next = ap (λ b. is_wrong (form_of w) || b) (next (rw e at h)) ∙ or_true (is_wrong (form_of w))
    go false e next = ap (λ b. b || list_any is_wrong (forms ws)) (wrong_form w e)

no_pieces : (fs : List Form) → list_any is_wrong fs ≡ true → pieces_of fs ≡ None
no_pieces [] h = absurd (cc)
no_pieces (bare w ∷ rest) h = ap (put (codes "command", w)) (no_pieces rest h)
no_pieces (flag n ∷ rest) h = ap (put (n, codes "true")) (no_pieces rest h)
no_pieces (assigned n v ∷ rest) h = ap (put (n, v)) (no_pieces rest h)
no_pieces (named n ∷ []) h = refl
no_pieces (named n ∷ bare v ∷ rest) h = ap (put (n, v)) (no_pieces rest h)
no_pieces (named n ∷ flag m ∷ rest) h = refl
no_pieces (named n ∷ assigned m v ∷ rest) h = refl
no_pieces (named n ∷ named m ∷ rest) h = refl
no_pieces (named n ∷ wrong ∷ rest) h = refl
no_pieces (wrong ∷ rest) h = refl

pub unformed : {W : Type 0} (bytes : W → Text) (words : List W) → list_all (λ w. is_formed (bytes w)) words ≡ false → command_of (map bytes words) ≡ None
unfolding command_of
unformed bytes words h =
    ap (option_and_then command_once) (no_pieces (forms (map bytes words)) (some_wrong (map bytes words) (sym (all_of_map bytes is_formed words) ∙ h)))

pub formed_all : {W : Type 0} (bytes : W → Text) (words : List W) → list_all (λ w. is_formed (bytes w)) words ≡ true → list_all is_formed (map bytes words) ≡ true
formed_all bytes words h = sym (all_of_map bytes is_formed words) ∙ h

-- ---- what `clap` says of a parse

pub found_is : (a : App) (words : List Text) (r : Result ArgMatches Error) → a ≡ grundbuch → (is_simple_and_free a ≡ true → FailsBy (fault_of a words) r)
    → IfOk r (HasMatchesOf a words) → IfOk r (λ m. (fault_of grundbuch words ≡ []) × (rows_of (found_of m) ≡ matches_of grundbuch words))
found_is a words (Ok m) is kinds has = (
  ap (λ x. fault_of x words) (sym is) ∙ kinds (ap is_simple_and_free is ∙ is_simple),
  (has (ap all_simple is ∙ (both _ _ is_simple).0)).0 ∙ ap (λ x. matches_of x words) is,
)
found_is a words (Err e) is kinds has = tt

pub refused_is : (a : App) (words : List Text) (r : Result ArgMatches Error) → a ≡ grundbuch → (is_simple_and_free a ≡ true → FailsBy (fault_of a words) r)
    → IfErr r (λ e. fault_of grundbuch words ≡ [] → kind_of e ≡ OutOfMemory)
refused_is a words (Ok m) is kinds = tt
refused_is a words (Err e) is kinds = λ clear.
    let has : HasKind [] e = subst (λ k. HasKind k e) (ap (λ x. fault_of x words) is ∙ clear) (kinds (ap is_simple_and_free is ∙ is_simple)) in
    elim has [ inl h ↦ h | inr h ↦ absurd h ]

-- ---- what is answered

abbrev pub Reads : List Text → Result Command WordsFault → Type 0
Reads words r = IfOk r (λ c. command_of words ≡ Some c) × IfErr r (λ fault. fault ≡ Usage → command_of words ≡ None)

pub read_found : (words : List Text) (f : Found) (r : Result Command WordsFault) → list_all is_formed words ≡ true
    → (fault_of grundbuch words ≡ []) × (rows_of f ≡ matches_of grundbuch words)
    → IfOk r (λ c. command_with (first_value f) ≡ Some c) → IfErr r (λ _. command_with (first_value f) ≡ None) → Reads words r
read_found words f (Ok c) formed found ok err = (found_command words f formed found.0 found.1 ∙ ok, tt)
read_found words f (Err e) formed found ok err = (tt, λ usage. found_command words f formed found.0 found.1 ∙ err)

pub read_refused : (words : List Text) (kind : ErrorKind) (fault : WordsFault) → list_all is_formed words ≡ true
    → (fault_of grundbuch words ≡ [] → kind ≡ OutOfMemory) → (fault ≡ Usage → kind ≡ OutOfMemory → ⊥) → fault ≡ Usage → command_of words ≡ None
read_refused words kind fault formed refused other usage = no_command_there words formed (λ clear. other usage (refused clear))
