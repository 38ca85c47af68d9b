-- What `clap` finds in its rules under a name, and what a use of a rule comes to.
use Rattle.std.proofs.Common.{◌≡◌, ◌∙◌, ◌&&◌, ◌||◌, ◌++◌, ap, refl, subst, sym, Bool, true, false, List, [], ◌∷◌, map, codes, Some, None}
use Rattle.std.specs.Prelude.{find, is_some, not}
use Rattle.std.specs.List.{list_all, list_any}
use Rattle.std.specs.Str.{bytes_eq}
use Rattle.std.proofs.lemmas.List.{append-nil}
use Rattle.std.proofs.lemmas.Slice.Eq.{bytes_eq-Decides}
use Rattle.clap.proofs.WalkLemmas.{both}
use Rattle.clap.specs.Walk.{Row, Rule, Text, arg_by_id, arg_by_index, arg_by_long, has_long, has_row, with_values, without}
use Rattle.clap.specs.Faults.{is_simple_and_free}
use Rattle.clap.specs.Simple.{built}
use Rattle.clap.specs.declared.builder.value_parser.Reading.{Reading}
use Rattle.clap.specs.declared.parser.matches.ValueSource.{ValueSource}
use Rattle.command_words.specs.Words.{Piece, flags, has_name, has_value, is_flag, valued}
use Rattle.command_words.specs.inner.Parsing.{built_command, built_flag, built_option, grundbuch, row, rules, shape}

not_true : (b : Bool) → not b ≡ true → b ≡ false
not_true true h = absurd (cc)
not_true false h = refl

-- what holds at each of some names holds at a name that is among them
by_name : (p : Text → Bool) (known : List Text) → list_all p known ≡ true → (name : Text) → list_any (λ k. bytes_eq k name) known ≡ true → p name ≡ true
by_name p [] all name h = absurd (cc)
by_name p (k ∷ ks) all name h = go (bytes_eq k name) refl (both (p k) (list_all p ks) all) (by_name p ks)
  where
    go : (b : Bool) → bytes_eq k name ≡ b → (p k ≡ true) × (list_all p ks ≡ true)
        → (list_all p ks ≡ true → (name : Text) → list_any (λ k. bytes_eq k name) ks ≡ true → p name ≡ true) → p name ≡ true
    go true e here next = subst (λ n. p n ≡ true) ((bytes_eq-Decides k name).0 e) here.0
    go false e here next = next here.1 name (rw e at h)

-- no option is named as the word of the command
pub no_command : (name : Text) → has_value name ≡ true → bytes_eq name (codes "command") ≡ false
no_command name h = not_true _ (by_name (λ n. not (bytes_eq n (codes "command"))) valued refl name h)

pub flag_no_command : (name : Text) → is_flag name ≡ true → bytes_eq name (codes "command") ≡ false
flag_no_command name h = not_true _ (by_name (λ n. not (bytes_eq n (codes "command"))) flags refl name h)

command_is_none : (name : Text) → has_value name ≡ true → bytes_eq (codes "command") name ≡ false
command_is_none name h = not_true _ (by_name (λ n. not (bytes_eq (codes "command") n)) valued refl name h)

-- a test that finds the rule of a name by that name alone
abbrev FindsByName : (Text → Rule → Bool) → (Text → Rule) → Type 0
FindsByName found build = (k name : Text) (b : Bool) → bytes_eq k name ≡ b → found name (build k) ≡ b

found_here : (found : Text → Rule → Bool) (build : Text → Rule) → FindsByName found build → (name : Text) (ks : List Text) (rest : List Rule)
    → list_any (λ k. bytes_eq k name) ks ≡ true → find (found name) (map build ks ++ rest) ≡ Some (build name)
found_here found build finds name [] rest h = absurd (cc)
found_here found build finds name (k ∷ ks) rest h = go (bytes_eq k name) refl (found_here found build finds name ks rest)
  where
    go : (b : Bool) → bytes_eq k name ≡ b → (list_any (λ k. bytes_eq k name) ks ≡ true → find (found name) (map build ks ++ rest) ≡ Some (build name))
        → find (found name) (map build (k ∷ ks) ++ rest) ≡ Some (build name)
    go true e next = rw (finds k name true e) (ap (λ n. Some (build n)) ((bytes_eq-Decides k name).0 e))
    go false e next = rw (finds k name false e) (next (rw e at h))

pub neither : (a b : Bool) → (a || b) ≡ false → (a ≡ false) × (b ≡ false)
neither true b h = absurd (cc)
neither false b h = (refl, h)

found_past : (found : Text → Rule → Bool) (build : Text → Rule) → FindsByName found build → (name : Text) (ks : List Text) (rest : List Rule)
    → list_any (λ k. bytes_eq k name) ks ≡ false → find (found name) (map build ks ++ rest) ≡ find (found name) rest
found_past found build finds name [] rest h = refl
found_past found build finds name (k ∷ ks) rest h =
    let n = neither (bytes_eq k name) (list_any (λ k. bytes_eq k name) ks) h in
    rw (finds k name false n.0) (found_past found build finds name ks rest n.1)

abbrev by_its_id : Text → Rule → Bool
by_its_id name a = bytes_eq a.id name

abbrev by_its_long : Text → Rule → Bool
by_its_long name a = not (is_some a.index) && has_long a name

or_false : (b : Bool) → (b || false) ≡ b
or_false true = refl
or_false false = refl

long_option : FindsByName by_its_long built_option
long_option k name b e = or_false (bytes_eq k name) ∙ e

long_flag : FindsByName by_its_long built_flag
long_flag k name b e = or_false (bytes_eq k name) ∙ e

pub by_id : (name : Text) → has_value name ≡ true → arg_by_id rules name ≡ Some (built_option name)
unfolding rules
by_id name h = rw (command_is_none name h) (found_here by_its_id built_option (λ k n b e. e) name valued (map built_flag flags) h)

pub by_long : (name : Text) → has_value name ≡ true → arg_by_long rules name ≡ Some (built_option name)
unfolding rules
by_long name h = found_here by_its_long built_option long_option name valued (map built_flag flags) h

pub flag_by_long : (name : Text) → has_value name ≡ false → is_flag name ≡ true → arg_by_long rules name ≡ Some (built_flag name)
unfolding rules
flag_by_long name h is =
    found_past by_its_long built_option long_option name valued (map built_flag flags) h
    ∙ ap (find (by_its_long name)) (sym (append-nil (map built_flag flags)))
    ∙ found_here by_its_long built_flag long_flag name flags [] is

pub none_by_long : (name : Text) → has_value name ≡ false → is_flag name ≡ false → arg_by_long rules name ≡ None
unfolding rules
none_by_long name h other =
    found_past by_its_long built_option long_option name valued (map built_flag flags) h
    ∙ ap (find (by_its_long name)) (sym (append-nil (map built_flag flags)))
    ∙ found_past by_its_long built_flag long_flag name flags [] other

pub command_by_id : arg_by_id rules (codes "command") ≡ Some built_command
unfolding rules
command_by_id = refl

pub first_place : arg_by_index rules 1 ≡ Some built_command
unfolding rules
first_place = refl

pub second_place : arg_by_index rules 2 ≡ None
unfolding rules
second_place = refl

-- ---- the grammar, built

pub is_built : built grundbuch ≡ record { top = shape; subs = [] }
unfolding rules grundbuch
is_built = refl

pub is_simple : is_simple_and_free grundbuch ≡ true
unfolding rules grundbuch
is_simple = refl

-- ---- rows

pub has_row_of : (name : Text) (pieces : List Piece) → has_row name (map row pieces) ≡ has_name name pieces
has_row_of name [] = refl
has_row_of name (p ∷ ps) = ap (λ b. bytes_eq p.0 name || b) (has_row_of name ps)

stays : (id : Text) (rows : List Row) → has_row id rows ≡ false → without id rows ≡ rows
stays id [] h = refl
stays id (r ∷ rs) h = let n = neither (bytes_eq r.id id) (has_row id rs) h in rw n.0 (ap (λ l. r ∷ l) (stays id rs n.1))

pub appends : (id : Text) (how : Reading) (s : ValueSource) (values : List Text) (rows : List Row) → has_row id rows ≡ false
    → with_values id how s values rows ≡ rows ++ record { id = id; values = values; count = None; source = Some s; reading = how } ∷ []
appends id how s values [] h = refl
appends id how s values (r ∷ rs) h = let n = neither (bytes_eq r.id id) (has_row id rs) h in rw n.0 (ap (λ l. r ∷ l) (appends id how s values rs n.1))

-- a value that is new goes behind the others
pub goes_behind : (id : Text) (how : Reading) (s : ValueSource) (values : List Text) (rows : List Row) → has_row id rows ≡ false
    → with_values id how s values (without id rows) ≡ rows ++ record { id = id; values = values; count = None; source = Some s; reading = how } ∷ []
goes_behind id how s values rows h = rw (stays id rows h) (appends id how s values rows h)

pub row_more : (before : List Piece) (p : Piece) → map row before ++ row p ∷ [] ≡ map row (before ++ p ∷ [])
row_more [] p = refl
row_more (q ∷ qs) p = ap (λ l. row q ∷ l) (row_more qs p)
