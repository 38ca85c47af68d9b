-- The turns of the parse at each form of a word.
use Rattle.std.proofs.Common.{◌≡◌, ◌&&◌, refl, ℕ, Bool, true, false, List, [], ◌∷◌, codes, Some, None}
use Rattle.std.specs.Str.{bytes_eq}
use Rattle.std.proofs.lemmas.Slice.Eq.{bytes_eq-Decides}
use Rattle.clap.specs.Lexer.{long_of}
use Rattle.clap.specs.Walk.{Row, Text, Walk, has_row, is_pending, settled_rows, used, walked}
use Rattle.clap.specs.Faults.{settle_fault, turn_fault}
use Rattle.command_words.specs.Words.{has_value, is_flag}
use Rattle.command_words.specs.inner.Parsing.{built_command, built_flag, built_option, rules, shape}
use Rattle.command_words.proofs.Rules.{by_id, by_long, first_place, flag_by_long, second_place}
use Rattle.command_words.proofs.Walking.{Waits, behind_name, between, held}
use Rattle.command_words.proofs.WordForms.{IsBare}

-- a turn does not fail, and the parse stands at `after` then
pub record Turns (w : Walk) (word : Text) (after : Walk) : Type 0 where
  pub clear : turn_fault shape [] w word ≡ []
  pub there : walked rules [] w word ≡ after

never : (b : Bool) → (b && false) ≡ false
never true = refl
never false = refl

pub same : (name : Text) → bytes_eq name name ≡ true
same name = (bytes_eq-Decides name name).1 refl

pub command_turn : (rows : List Row) (p : Waits) (word : Text) → IsBare word → settle_fault rules false (held rows p) ≡ []
    → Turns (between rows p 1) word (between (settled_rows rules p rows) (Some (codes "command", word ∷ [])) 2)
unfolding walked
command_turn rows p word is free = record {
  clear = rw (is.no_end, is.long, is.short, first_place, never (is_pending built_command p)) free;
  there = rw (is.no_end, is.long, is.short, first_place, never (is_pending built_command p)) refl;
}

-- a use that waits and fails lets no command pass either
pub command_waits : (rows : List Row) (p : Waits) (word : Text) → IsBare word → turn_fault shape [] (between rows p 1) word ≡ []
    → settle_fault rules false (held rows p) ≡ []
command_waits rows p word is e = rw (is.no_end, is.long, is.short, first_place, never (is_pending built_command p)) at e

pub second_command : (rows : List Row) (p : Waits) (word : Text) → IsBare word → turn_fault shape [] (between rows p 2) word ≡ [] → ⊥
second_command rows p word is e =
    let bad = rw (is.no_end, is.long, is.short, second_place) at e in cc

pub flag_turn : (rows : List Row) (p : Waits) (place : ℕ) (word name : Text) → long_of word ≡ Some (name, None)
    → bytes_eq word (45 ∷ 45 ∷ []) ≡ false → has_value name ≡ false → is_flag name ≡ true → settle_fault rules false (held rows p) ≡ []
    → has_row name (settled_rows rules p rows) ≡ false
    → Turns (between rows p place) word (between (used (built_flag name) [] (settled_rows rules p rows)) None place)
unfolding walked
flag_turn rows p place word name long no_end bare is free new = record {
  clear = rw (no_end, long, flag_by_long name bare is, free, new) refl;
  there = rw (no_end, long, flag_by_long name bare is) refl;
}

pub assigned_turn : (rows : List Row) (p : Waits) (place : ℕ) (word name value : Text) → long_of word ≡ Some (name, Some value)
    → bytes_eq word (45 ∷ 45 ∷ []) ≡ false → has_value name ≡ true → settle_fault rules false (held rows p) ≡ []
    → has_row name (settled_rows rules p rows) ≡ false
    → Turns (between rows p place) word (between (used (built_option name) (value ∷ []) (settled_rows rules p rows)) None place)
unfolding walked
assigned_turn rows p place word name value long no_end known free new = record {
  clear = rw (no_end, long, by_long name known, free, new) refl;
  there = rw (no_end, long, by_long name known) refl;
}

pub flag_again : (rows : List Row) (p : Waits) (place : ℕ) (word name : Text) → long_of word ≡ Some (name, None)
    → bytes_eq word (45 ∷ 45 ∷ []) ≡ false → has_value name ≡ false → is_flag name ≡ true → settle_fault rules false (held rows p) ≡ []
    → has_row name (settled_rows rules p rows) ≡ true → turn_fault shape [] (between rows p place) word ≡ [] → ⊥
flag_again rows p place word name long no_end bare is free old e =
    let bad = rw (no_end, long, flag_by_long name bare is, free, old) at e in cc

pub assigned_again : (rows : List Row) (p : Waits) (place : ℕ) (word name value : Text) → long_of word ≡ Some (name, Some value)
    → bytes_eq word (45 ∷ 45 ∷ []) ≡ false → has_value name ≡ true → settle_fault rules false (held rows p) ≡ []
    → has_row name (settled_rows rules p rows) ≡ true → turn_fault shape [] (between rows p place) word ≡ [] → ⊥
assigned_again rows p place word name value long no_end known free old e =
    let bad = rw (no_end, long, by_long name known, free, old) at e in cc

pub name_turn : (rows : List Row) (p : Waits) (place : ℕ) (word name : Text) → long_of word ≡ Some (name, None)
    → bytes_eq word (45 ∷ 45 ∷ []) ≡ false → has_value name ≡ true → settle_fault rules false (held rows p) ≡ []
    → Turns (between rows p place) word (behind_name (settled_rows rules p rows) name place)
unfolding walked
name_turn rows p place word name long no_end known free = record {
  clear = rw (no_end, long, by_long name known, free) refl;
  there = rw (no_end, long, by_long name known) refl;
}

pub value_turn : (rows : List Row) (name : Text) (place : ℕ) (word : Text) → IsBare word → has_value name ≡ true
    → Turns (behind_name rows name place) word (between rows (Some (name, word ∷ [])) place)
unfolding walked
value_turn rows name place word is known = record {
  clear = rw (is.no_end, is.long, is.short) refl;
  there = rw (is.no_end, is.long, is.short, by_id name known, same name) refl;
}
