-- The parse fails nowhere just where the words are pieces, each under a name of its own, and its
-- entries are those pieces.
use Rattle.std.proofs.Common.{◌≡◌, ◌∙◌, ◌⊎◌, ◌||◌, ◌++◌, ap, refl, sym, subst, ℕ, Bool, true, false, List, [], ◌∷◌, map, codes, Option, Some, None, inl, inr, if◌then◌else◌}
use Rattle.std.specs.List.{list_all}
use Rattle.std.specs.Str.{bytes_eq}
use Rattle.std.proofs.lemmas.List.{append-nil, append_assoc}
use Rattle.clap.proofs.WalkLemmas.{both}
use Rattle.clap.specs.Lexer.{long_of}
use Rattle.clap.specs.declared.builder.value_parser.Reading.TheVariants.{AsWritten}
use Rattle.clap.specs.declared.parser.matches.ValueSource.TheVariants.{CommandLine}
use Rattle.clap.specs.Walk.{Row, Text, Walk, arg_by_long, has_row, settled_rows, used, walked}
use Rattle.clap.specs.Kinds.{Kinds, or_else}
use Rattle.clap.specs.Faults.{settle_fault, turn_fault}
use Rattle.command_words.specs.Words.{Form, Piece, flag, form_of, has_name, has_value, is_flag, named, assigned, once_each, option_form, pieces_of, put, wrong}
use Rattle.command_words.specs.inner.Parsing.{built_flag, built_option, is_formed, row, rules, shape}
use Rattle.command_words.proofs.Rules.{by_id, command_by_id, flag_by_long, flag_no_command, goes_behind, has_row_of, no_command, none_by_long, row_more}
use Rattle.command_words.proofs.Turns.{Turns, assigned_again, assigned_turn, command_turn, command_waits, flag_again, flag_turn, name_turn, second_command, value_turn}
use Rattle.command_words.proofs.Walking.{Waits, behind_name, between, ends, ends_end, ends_step, fails, fails_end, fails_step, first_clear, held, idle_long, long_stuck, named_long}
use Rattle.command_words.proofs.WordForms.{IsLong, IsBare, by_form}

abbrev pub forms : List Text → List Form
forms words = map form_of words

-- pieces behind those before them, each under a name of its own
abbrev pub passes : List Piece → Option (List Piece) → Bool
passes before None = false
passes before (Some pieces) = once_each before pieces

pub record Accepted (before : List Piece) (words : List Text) (f : Kinds) (e : List Row) : Type 0 where
  pub pieces : List Piece
  pub are : pieces_of (forms words) ≡ Some pieces
  pub once : once_each before pieces ≡ true
  pub clear : f ≡ []
  pub rows : e ≡ map row (before ++ pieces)

pub record Refused (before : List Piece) (words : List Text) (f : Kinds) : Type 0 where
  pub none : passes before (pieces_of (forms words)) ≡ false
  pub failed : f ≡ [] → ⊥

abbrev pub Agrees : List Piece → List Text → Kinds → List Row → Type 0
Agrees before words f e = Accepted before words f e ⊎ Refused before words f

-- where a command stood, the next word has the second place
abbrev pub place_of : List Piece → ℕ
place_of before = if has_name (codes "command") before then 2 else 1

-- the parse stands between two pieces, and those before are its entries
pub record Stands (rows : List Row) (p : Waits) (place : ℕ) (before : List Piece) : Type 0 where
  pub are : settled_rows rules p rows ≡ map row before
  pub clear : settle_fault rules false (held rows p) ≡ []
  pub place_is : place ≡ place_of before

abbrev pub Goes : List Text → Type 0
Goes words = (rows : List Row) (p : Waits) (place : ℕ) (before : List Piece) → Stands rows p place before
    → Agrees before words (fails (between rows p place) words) (ends (between rows p place) words)

-- ---- the list of pieces

has_more : (name : Text) (before : List Piece) (p : Piece) → has_name name (before ++ p ∷ []) ≡ (has_name name before || bytes_eq p.0 name)
has_more name [] p = or_false (bytes_eq p.0 name)
  where
    or_false : (b : Bool) → (b || false) ≡ b
    or_false true = refl
    or_false false = refl
has_more name (q ∷ qs) p = step (bytes_eq q.0 name) _ _ _ (has_more name qs p)
  where
    step : (a b c d : Bool) → b ≡ (c || d) → (a || b) ≡ ((a || c) || d)
    step true b c d e = refl
    step false b c d e = e

-- a piece whose name is new, and what follows agrees
put_new : (before : List Piece) (p : Piece) (words rest : List Text) (f g : Kinds) (e d : List Row) → has_name p.0 before ≡ false
    → pieces_of (forms words) ≡ put p (pieces_of (forms rest)) → f ≡ g → e ≡ d → Agrees (before ++ p ∷ []) rest g d → Agrees before words f e
put_new before p words rest f g e d new is same_f same_e (inl a) = inl (record {
  pieces = p ∷ a.pieces;
  are = is ∙ ap (put p) a.are;
  once = rw (new, a.once) refl;
  clear = same_f ∙ a.clear;
  rows = same_e ∙ a.rows ∙ ap (map row) (append_assoc {A = Piece} before (p ∷ []) a.pieces);
})
put_new before p words rest f g e d new is same_f same_e (inr r) = inr (record {
  none = ap (passes before) is ∙ later (pieces_of (forms rest)) r.none;
  failed = λ clear. r.failed (sym same_f ∙ clear);
})
  where
    later : (o : Option (List Piece)) → passes (before ++ p ∷ []) o ≡ false → passes before (put p o) ≡ false
    later None h = refl
    later (Some ps) h = rw (new, h) refl

-- a piece whose name is not new
put_again : (before : List Piece) (p : Piece) (words rest : List Text) (f : Kinds) (e : List Row) → has_name p.0 before ≡ true
    → pieces_of (forms words) ≡ put p (pieces_of (forms rest)) → (f ≡ [] → ⊥) → Agrees before words f e
put_again before p words rest f e old is failed = inr (record {
  none = ap (passes before) is ∙ later (pieces_of (forms rest));
  failed = failed;
})
  where
    later : (o : Option (List Piece)) → passes before (put p o) ≡ false
    later None = refl
    later (Some ps) = rw old refl

-- ---- turns

blocked : (w : Walk) (word : Text) (rest : List Text) → (turn_fault shape [] w word ≡ [] → ⊥) → fails w (word ∷ rest) ≡ [] → ⊥
blocked w word rest stuck clear = stuck (first_clear _ _ (sym (fails_step w word rest) ∙ clear))

passed : (w after : Walk) (word : Text) (rest : List Text) → Turns w word after → fails w (word ∷ rest) ≡ fails after rest
passed w after word rest t =
    fails_step w word rest ∙ ap (λ k. or_else k (fails (walked rules [] w word) rest)) t.clear ∙ ap (λ x. fails x rest) t.there

ended : (w after : Walk) (word : Text) (rest : List Text) → Turns w word after → ends w (word ∷ rest) ≡ ends after rest
ended w after word rest t = ends_step w word rest ∙ ap (λ x. ends x rest) t.there

-- ---- what waits for the next turn

row_new : (name : Text) (rows : List Row) (before : List Piece) → rows ≡ map row before → has_row name rows ≡ has_name name before
row_new name rows before e = ap (has_row name) e ∙ has_row_of name before

joins : (rows : List Row) (before : List Piece) (p : Piece) → rows ≡ map row before → rows ++ row p ∷ [] ≡ map row (before ++ p ∷ [])
joins rows before p e = ap (λ l. l ++ row p ∷ []) e ∙ row_more before p

option_waits : (name value : Text) (rows : List Row) (place : ℕ) (before : List Piece) → has_value name ≡ true → rows ≡ map row before
    → has_name name before ≡ false → place ≡ place_of (before ++ (name, value) ∷ [])
    → Stands rows (Some (name, value ∷ [])) place (before ++ (name, value) ∷ [])
option_waits name value rows place before known are new at =
    let fresh : has_row name rows ≡ false = row_new name rows before are ∙ new in
    record {
      are = rw (by_id name known) (goes_behind name AsWritten CommandLine (value ∷ []) rows fresh) ∙ joins rows before (name, value) are;
      clear = rw (by_id name known, fresh) refl;
      place_is = at;
    }

option_fails : (name value : Text) (rows : List Row) (before : List Piece) → has_value name ≡ true → rows ≡ map row before
    → has_name name before ≡ true → settle_fault rules false (held rows (Some (name, value ∷ []))) ≡ [] → ⊥
option_fails name value rows before known are old e =
    let there : has_row name rows ≡ true = row_new name rows before are ∙ old in
    let bad = rw (by_id name known, there) at e in cc

nothing_fails : (name : Text) (rows : List Row) → has_value name ≡ true → settle_fault rules false (held rows (Some (name, []))) ≡ [] → ⊥
nothing_fails name rows known e = let bad = rw (by_id name known) at e in cc

command_waits_then : (word : Text) (rows : List Row) (before : List Piece) → rows ≡ map row before
    → has_name (codes "command") before ≡ false
    → Stands rows (Some (codes "command", word ∷ [])) 2 (before ++ (codes "command", word) ∷ [])
command_waits_then word rows before are new =
    let fresh : has_row (codes "command") rows ≡ false = row_new (codes "command") rows before are ∙ new in
    record {
      are = rw command_by_id (goes_behind (codes "command") AsWritten CommandLine (word ∷ []) rows fresh) ∙ joins rows before (codes "command", word) are;
      clear = rw (command_by_id, fresh) refl;
      place_is = rw (has_more (codes "command") before (codes "command", word), new) refl;
    }

or_false : (b : Bool) → (b || false) ≡ b
or_false true = refl
or_false false = refl

stays_at : (before : List Piece) (p : Piece) (place : ℕ) → bytes_eq p.0 (codes "command") ≡ false → place ≡ place_of before
    → place ≡ place_of (before ++ p ∷ [])
stays_at before p place other at = rw (has_more (codes "command") before p, other, or_false (has_name (codes "command") before)) at

one_or_two : (place : ℕ) (before : List Piece) → place ≡ place_of before → (place ≡ 1) ⊎ (place ≡ 2)
one_or_two place before at = go (has_name (codes "command") before) refl
  where
    go : (b : Bool) → has_name (codes "command") before ≡ b → (place ≡ 1) ⊎ (place ≡ 2)
    go true e = inr (at ∙ rw e refl)
    go false e = inl (at ∙ rw e refl)

-- where what waits fails, all that follows fails too
stuck : (rows : List Row) (p : Waits) (place : ℕ) → (place ≡ 1) ⊎ (place ≡ 2) → (settle_fault rules false (held rows p) ≡ [] → ⊥)
    → (words : List Text) → list_all is_formed words ≡ true → fails (between rows p place) words ≡ [] → ⊥
stuck rows p place at bad [] formed = λ clear. bad (sym (fails_end (between rows p place)) ∙ clear)
stuck rows p place at bad (word ∷ rest) formed = blocked (between rows p place) word rest (turn (by_form word (both (is_formed word) (list_all is_formed rest) formed).0))
  where
    bare_at : IsBare word → (place ≡ 1) ⊎ (place ≡ 2) → turn_fault shape [] (between rows p place) word ≡ [] → ⊥
    bare_at is (inl e) clear = bad (command_waits rows p word is (subst (λ n. turn_fault shape [] (between rows p n) word ≡ []) e clear))
    bare_at is (inr e) clear = second_command rows p word is (subst (λ n. turn_fault shape [] (between rows p n) word ≡ []) e clear)

    turn : IsBare word ⊎ IsLong word → turn_fault shape [] (between rows p place) word ≡ [] → ⊥
    turn (inl is) clear = bare_at is at clear
    turn (inr is) clear = long_stuck (arg_by_long rules is.name) is.value (held rows p) bad (idle_long rows p place word is clear)

-- ---- each form of a first word

bare_step : (word : Text) (rest : List Text) → IsBare word → Goes rest → Goes (word ∷ rest)
bare_step word rest is next rows p place before s = go (has_name (codes "command") before) refl
  where
    pieces_are : pieces_of (forms (word ∷ rest)) ≡ put (codes "command", word) (pieces_of (forms rest))
    pieces_are = ap (λ x. pieces_of (x ∷ forms rest)) is.form

    second : (n : ℕ) → n ≡ 2 → fails (between rows p n) (word ∷ rest) ≡ [] → ⊥
    second n e = blocked (between rows p n) word rest (λ clear. second_command rows p word is (subst (λ m. turn_fault shape [] (between rows p m) word ≡ []) e clear))

    first : (n : ℕ) → n ≡ 1 → has_name (codes "command") before ≡ false → Agrees before (word ∷ rest) (fails (between rows p n) (word ∷ rest)) (ends (between rows p n) (word ∷ rest))
    first n e new =
        let t = command_turn rows p word is s.clear in
        let after = between (settled_rows rules p rows) (Some (codes "command", word ∷ [])) 2 in
        subst (λ m. Agrees before (word ∷ rest) (fails (between rows p m) (word ∷ rest)) (ends (between rows p m) (word ∷ rest))) (sym e)
        (put_new before (codes "command", word) (word ∷ rest) rest _ _ _ _ new pieces_are (passed (between rows p 1) after word rest t) (ended (between rows p 1) after word rest t)
        (next (settled_rows rules p rows) (Some (codes "command", word ∷ [])) 2 (before ++ (codes "command", word) ∷ []) (command_waits_then word (settled_rows rules p rows) before s.are new)))

    go : (b : Bool) → has_name (codes "command") before ≡ b → Agrees before (word ∷ rest) (fails (between rows p place) (word ∷ rest)) (ends (between rows p place) (word ∷ rest))
    go true e = put_again before (codes "command", word) (word ∷ rest) rest _ _ e pieces_are (second place (s.place_is ∙ rw e refl))
    go false e = first place (s.place_is ∙ rw e refl) e

wrong_step : (word : Text) (rest : List Text) (rows : List Row) (p : Waits) (place : ℕ) (before : List Piece) → form_of word ≡ wrong
    → (turn_fault shape [] (between rows p place) word ≡ [] → ⊥)
    → Agrees before (word ∷ rest) (fails (between rows p place) (word ∷ rest)) (ends (between rows p place) (word ∷ rest))
wrong_step word rest rows p place before form failing = inr (record {
  none = ap (λ x. passes before (pieces_of (x ∷ forms rest))) form;
  failed = blocked (between rows p place) word rest failing;
})

flag_step : (word name : Text) (rest : List Text) → form_of word ≡ flag name → long_of word ≡ Some (name, None)
    → bytes_eq word (45 ∷ 45 ∷ []) ≡ false → has_value name ≡ false → is_flag name ≡ true → Goes rest → Goes (word ∷ rest)
flag_step word name rest form long end_no bare is next rows p place before s = go (has_name name before) refl
  where
    pieces_are : pieces_of (forms (word ∷ rest)) ≡ put (name, codes "true") (pieces_of (forms rest))
    pieces_are = ap (λ x. pieces_of (x ∷ forms rest)) form

    go : (b : Bool) → has_name name before ≡ b → Agrees before (word ∷ rest) (fails (between rows p place) (word ∷ rest)) (ends (between rows p place) (word ∷ rest))
    go true e =
        let there : has_row name (settled_rows rules p rows) ≡ true = row_new name (settled_rows rules p rows) before s.are ∙ e in
        put_again before (name, codes "true") (word ∷ rest) rest _ _ e pieces_are
        (blocked (between rows p place) word rest (flag_again rows p place word name long end_no bare is s.clear there))
    go false e =
        let fresh : has_row name (settled_rows rules p rows) ≡ false = row_new name (settled_rows rules p rows) before s.are ∙ e in
        let t = flag_turn rows p place word name long end_no bare is s.clear fresh in
        let after = between (used (built_flag name) [] (settled_rows rules p rows)) None place in
        put_new before (name, codes "true") (word ∷ rest) rest _ _ _ _ e pieces_are (passed (between rows p place) after word rest t) (ended (between rows p place) after word rest t)
        (next (used (built_flag name) [] (settled_rows rules p rows)) None place (before ++ (name, codes "true") ∷ []) (record {
          are = goes_behind name AsWritten CommandLine (codes "true" ∷ []) (settled_rows rules p rows) fresh
              ∙ joins (settled_rows rules p rows) before (name, codes "true") s.are;
          clear = refl;
          place_is = stays_at before (name, codes "true") place (flag_no_command name is) s.place_is;
        }))

assigned_step : (word name value : Text) (rest : List Text) → form_of word ≡ assigned name value → long_of word ≡ Some (name, Some value)
    → bytes_eq word (45 ∷ 45 ∷ []) ≡ false → has_value name ≡ true → Goes rest → Goes (word ∷ rest)
assigned_step word name value rest form long end_no known next rows p place before s = go (has_name name before) refl
  where
    pieces_are : pieces_of (forms (word ∷ rest)) ≡ put (name, value) (pieces_of (forms rest))
    pieces_are = ap (λ x. pieces_of (x ∷ forms rest)) form

    go : (b : Bool) → has_name name before ≡ b → Agrees before (word ∷ rest) (fails (between rows p place) (word ∷ rest)) (ends (between rows p place) (word ∷ rest))
    go true e =
        let there : has_row name (settled_rows rules p rows) ≡ true = row_new name (settled_rows rules p rows) before s.are ∙ e in
        put_again before (name, value) (word ∷ rest) rest _ _ e pieces_are
        (blocked (between rows p place) word rest (assigned_again rows p place word name value long end_no known s.clear there))
    go false e =
        let fresh : has_row name (settled_rows rules p rows) ≡ false = row_new name (settled_rows rules p rows) before s.are ∙ e in
        let t = assigned_turn rows p place word name value long end_no known s.clear fresh in
        let after = between (used (built_option name) (value ∷ []) (settled_rows rules p rows)) None place in
        put_new before (name, value) (word ∷ rest) rest _ _ _ _ e pieces_are (passed (between rows p place) after word rest t) (ended (between rows p place) after word rest t)
        (next (used (built_option name) (value ∷ []) (settled_rows rules p rows)) None place (before ++ (name, value) ∷ []) (record {
          are = goes_behind name AsWritten CommandLine (value ∷ []) (settled_rows rules p rows) fresh
              ∙ joins (settled_rows rules p rows) before (name, value) s.are;
          clear = refl;
          place_is = stays_at before (name, value) place (no_command name known) s.place_is;
        }))

-- the name of an option, before its value
record IsNamed (word name : Text) : Type 0 where
  form : form_of word ≡ named name
  long : long_of word ≡ Some (name, None)
  end_no : bytes_eq word (45 ∷ 45 ∷ []) ≡ false
  known : has_value name ≡ true

named_alone : (word name : Text) → IsNamed word name → Goes (word ∷ [])
named_alone word name is rows p place before s =
    let t = name_turn rows p place word name is.long is.end_no is.known s.clear in
    let after = behind_name (settled_rows rules p rows) name place in
    inr (record {
      none = ap (λ x. passes before (pieces_of (x ∷ []))) is.form;
      failed = λ clear. nothing_fails name (settled_rows rules p rows) is.known
          (sym (fails_end after) ∙ sym (passed (between rows p place) after word [] t) ∙ clear);
    })

-- no form of a long name is a value
no_value : (name : Text) (n : Text) (v : Option Text) (fs : List Form) → pieces_of (named name ∷ option_form n v ∷ fs) ≡ None
no_value name n None fs = go (has_value n) (is_flag n) refl refl
  where
    go : (a b : Bool) → has_value n ≡ a → is_flag n ≡ b → pieces_of (named name ∷ option_form n None ∷ fs) ≡ None
    go true b e d = rw e refl
    go false true e d = rw (e, d) refl
    go false false e d = rw (e, d) refl
no_value name n (Some v) fs = go (has_value n) refl
  where
    go : (a : Bool) → has_value n ≡ a → pieces_of (named name ∷ option_form n (Some v) ∷ fs) ≡ None
    go true e = rw e refl
    go false e = rw e refl

named_bare : (word name value : Text) (rest : List Text) → IsNamed word name → IsBare value → list_all is_formed rest ≡ true → Goes rest
    → Goes (word ∷ value ∷ rest)
named_bare word name value rest is bare_is formed next rows p place before s = go (has_name name before) refl
  where
    pieces_are : pieces_of (forms (word ∷ value ∷ rest)) ≡ put (name, value) (pieces_of (forms rest))
    pieces_are = ap (λ x. pieces_of (x ∷ form_of value ∷ forms rest)) is.form ∙ ap (λ x. pieces_of (named name ∷ x ∷ forms rest)) bare_is.form

    now : List Row
    now = settled_rows rules p rows

    t : Turns (between rows p place) word (behind_name now name place)
    t = name_turn rows p place word name is.long is.end_no is.known s.clear

    u : Turns (behind_name now name place) value (between now (Some (name, value ∷ [])) place)
    u = value_turn now name place value bare_is is.known

    fails_as : fails (between rows p place) (word ∷ value ∷ rest) ≡ fails (between now (Some (name, value ∷ [])) place) rest
    fails_as = passed (between rows p place) (behind_name now name place) word (value ∷ rest) t
        ∙ passed (behind_name now name place) (between now (Some (name, value ∷ [])) place) value rest u

    ends_as : ends (between rows p place) (word ∷ value ∷ rest) ≡ ends (between now (Some (name, value ∷ [])) place) rest
    ends_as = ended (between rows p place) (behind_name now name place) word (value ∷ rest) t
        ∙ ended (behind_name now name place) (between now (Some (name, value ∷ [])) place) value rest u

    go : (b : Bool) → has_name name before ≡ b → Agrees before (word ∷ value ∷ rest) (fails (between rows p place) (word ∷ value ∷ rest)) (ends (between rows p place) (word ∷ value ∷ rest))
    go true e = put_again before (name, value) (word ∷ value ∷ rest) rest _ _ e pieces_are
        (λ clear. stuck now (Some (name, value ∷ [])) place (one_or_two place before s.place_is) (option_fails name value now before is.known s.are e) rest formed (sym fails_as ∙ clear))
    go false e = put_new before (name, value) (word ∷ value ∷ rest) rest _ _ _ _ e pieces_are fails_as ends_as
        (next now (Some (name, value ∷ [])) place (before ++ (name, value) ∷ [])
        (option_waits name value now place before is.known s.are e (stays_at before (name, value) place (no_command name is.known) s.place_is)))

named_long_step : (word name value : Text) (rest : List Text) → IsNamed word name → IsLong value → Goes (word ∷ value ∷ rest)
named_long_step word name value rest is long rows p place before s =
    let now = settled_rows rules p rows in
    let after = behind_name now name place in
    let t = name_turn rows p place word name is.long is.end_no is.known s.clear in
    inr (record {
      none = ap (λ x. passes before (pieces_of (x ∷ form_of value ∷ forms rest))) is.form
          ∙ ap (λ x. passes before (pieces_of (named name ∷ x ∷ forms rest))) long.form
          ∙ ap (passes before) (no_value name long.name long.value (forms rest));
      failed = λ clear. blocked after value rest
          (λ clear_turn. long_stuck (arg_by_long rules long.name) long.value (held now (Some (name, []))) (nothing_fails name now is.known)
          (named_long now name place value long clear_turn))
          (sym (passed (between rows p place) after word (value ∷ rest) t) ∙ clear);
    })

-- what a first word with the name of an option comes to
abbrev Names : Text → List Text → Type 0
Names word rest = (name : Text) → IsNamed word name → Goes (word ∷ rest)

long_step : (word : Text) (rest : List Text) → IsLong word → Goes rest → Names word rest → Goes (word ∷ rest)
long_step word rest is next names = by_value is.value refl
  where
    unknown : has_value is.name ≡ false → is_flag is.name ≡ false → form_of word ≡ wrong → Goes (word ∷ rest)
    unknown h l form rows p place before s = wrong_step word rest rows p place before form
        (λ clear. let bad = rw (none_by_long is.name h l) at (idle_long rows p place word is clear) in cc)

    no_flag_value : (v : Text) → is.value ≡ Some v → has_value is.name ≡ false → is_flag is.name ≡ true → form_of word ≡ wrong → Goes (word ∷ rest)
    no_flag_value v e h l form rows p place before s = wrong_step word rest rows p place before form
        (λ clear. let bad = rw (flag_by_long is.name h l, e) at (idle_long rows p place word is clear) in cc)

    by_flag : (b : Bool) → is_flag is.name ≡ b → has_value is.name ≡ false → (v : Option Text) → is.value ≡ v → Goes (word ∷ rest)
    by_flag true l h None e = flag_step word is.name rest (is.form ∙ rw (e, h, l) refl) (is.long ∙ rw e refl) is.no_end h l next
    by_flag true l h (Some v) e = no_flag_value v e h l (is.form ∙ rw (e, h) refl)
    by_flag false l h None e = unknown h l (is.form ∙ rw (e, h, l) refl)
    by_flag false l h (Some v) e = unknown h l (is.form ∙ rw (e, h) refl)

    by_known : (b : Bool) → has_value is.name ≡ b → (v : Option Text) → is.value ≡ v → Goes (word ∷ rest)
    by_known true h None e = names is.name (record {
      form = is.form ∙ rw (e, h) refl;
      long = is.long ∙ rw e refl;
      end_no = is.no_end;
      known = h;
    })
    by_known true h (Some v) e = assigned_step word is.name v rest (is.form ∙ rw (e, h) refl) (is.long ∙ rw e refl) is.no_end h next
    by_known false h v e = by_flag (is_flag is.name) refl h v e

    by_value : (v : Option Text) → is.value ≡ v → Goes (word ∷ rest)
    by_value v e = by_known (has_value is.name) refl v e

step : (word : Text) (rest : List Text) → is_formed word ≡ true → Goes rest → Names word rest → Goes (word ∷ rest)
step word rest formed next names = go (by_form word formed)
  where
    go : IsBare word ⊎ IsLong word → Goes (word ∷ rest)
    go (inl is) = bare_step word rest is next
    go (inr is) = long_step word rest is next names

pub main : (words : List Text) → list_all is_formed words ≡ true → Goes words
main [] formed = λ rows p place before s. inl (record {
  pieces = [];
  are = refl;
  once = refl;
  clear = fails_end (between rows p place) ∙ s.clear;
  rows = ends_end (between rows p place) ∙ s.are ∙ ap (map row) (sym (append-nil before));
})
main (word ∷ []) formed =
    step word [] (both (is_formed word) true formed).0 (main [] refl) (λ name is. named_alone word name is)
main (word ∷ value ∷ rest) formed =
    let f = both (is_formed word) (list_all is_formed (value ∷ rest)) formed in
    let g = both (is_formed value) (list_all is_formed rest) f.1 in
    step word (value ∷ rest) f.0 (main (value ∷ rest) f.1) (λ name is. follow name is (by_form value g.0) g.1 (main rest g.1))
  where
    follow : (name : Text) → IsNamed word name → IsBare value ⊎ IsLong value → list_all is_formed rest ≡ true → Goes rest → Goes (word ∷ value ∷ rest)
    follow name is (inl bare_is) formed_rest next = named_bare word name value rest is bare_is formed_rest next
    follow name is (inr long) formed_rest next = named_long_step word name value rest is long
