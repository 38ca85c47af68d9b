-- One turn of the parse, from where it stands between two pieces.
use Rattle.std.proofs.Common.{◌≡◌, refl, ℕ, Bool, true, false, List, [], ◌∷◌, Option, Some, None}
use Rattle.std.specs.Prelude.{fold}
use Rattle.clap.specs.Walk.{Held, Row, Rule, Text, Walk, arg_by_long, idle, option, settled, takes_values, walked}
use Rattle.clap.specs.Kinds.{Kinds, or_else}
use Rattle.clap.specs.Faults.{long_fault, settle_fault, turn_fault, walk_fault}
use Rattle.command_words.specs.inner.Parsing.{rules, shape}
use Rattle.command_words.proofs.WordForms.{IsLong}

abbrev pub Waits : Type 0
Waits = Option (Text × List Text)

abbrev pub held : List Row → Waits → Held
held rows p = record { rows = rows; pending = p; skip = 0 }

-- the parse between two pieces
abbrev pub between : List Row → Waits → ℕ → Walk
between rows p place = record { held = held rows p; waiting = idle; position = place; is_trailing = false; stopped = None }

-- the parse after the name of an option
abbrev pub behind_name : List Row → Text → ℕ → Walk
behind_name rows name place =
    record { held = held rows (Some (name, [])); waiting = option name; position = place; is_trailing = false; stopped = None }

-- what the walk over these words comes to, and the last use
unfoldable pub fails : Walk → List Text → Kinds
fails w words = or_else (walk_fault shape [] w words) (settle_fault rules false (fold (walked rules []) w words).held)

-- the entries that the walk leaves
unfoldable pub ends : Walk → List Text → List Row
ends w words = (settled rules (fold (walked rules []) w words).held).rows

-- ---- none failed

pub first_clear : (a b : Kinds) → or_else a b ≡ [] → a ≡ []
first_clear [] b h = refl
first_clear (k ∷ ks) b h = h

joined : (a b d : Kinds) → or_else (or_else a b) d ≡ or_else a (or_else b d)
joined [] b d = refl
joined (k ∷ ks) b d = refl

pub fails_step : (w : Walk) (word : Text) (rest : List Text)
    → fails w (word ∷ rest) ≡ or_else (turn_fault shape [] w word) (fails (walked rules [] w word) rest)
unfolding walk_fault fails
fails_step w word rest =
    joined (turn_fault shape [] w word) (walk_fault shape [] (walked rules [] w word) rest) (settle_fault rules false (fold (walked rules []) (walked rules [] w word) rest).held)

pub ends_step : (w : Walk) (word : Text) (rest : List Text) → ends w (word ∷ rest) ≡ ends (walked rules [] w word) rest
unfolding ends
ends_step w word rest = refl

pub fails_end : (w : Walk) → fails w [] ≡ settle_fault rules false w.held
unfolding walk_fault fails
fails_end w = refl

pub ends_end : (w : Walk) → ends w [] ≡ (settled rules w.held).rows
unfolding ends
ends_end w = refl

-- ---- words with a long name, whatever waits

abbrev pub at : Held → ℕ → Walk
at h place = record { held = h; waiting = idle; position = place; is_trailing = false; stopped = None }

-- a use that waits and fails lets no long name pass
pub long_stuck : (o : Option Rule) (v : Option Text) (h : Held) → (settle_fault rules false h ≡ [] → ⊥) → long_fault rules false o v h ≡ [] → ⊥
long_stuck None v h stuck e = cc
long_stuck (Some a) v h stuck e = go (takes_values a) refl v e
  where
    go : (t : Bool) → takes_values a ≡ t → (v : Option Text) → long_fault rules false (Some a) v h ≡ [] → ⊥
    go true t (Some x) e = stuck (first_clear _ _ (rw t at e))
    go true t None e = stuck (rw t at e)
    go false t (Some x) e = let bad = rw t at e in cc
    go false t None e = stuck (first_clear _ _ (rw t at e))

pub idle_long : (rows : List Row) (p : Waits) (place : ℕ) (word : Text) (is : IsLong word)
    → turn_fault shape [] (between rows p place) word ≡ [] → long_fault rules false (arg_by_long rules is.name) is.value (held rows p) ≡ []
idle_long rows p place word is e = first_clear _ _ (rw (is.no_end, is.long) at e)

pub named_long : (rows : List Row) (name : Text) (place : ℕ) (word : Text) (is : IsLong word)
    → turn_fault shape [] (behind_name rows name place) word ≡ [] → long_fault rules false (arg_by_long rules is.name) is.value (held rows (Some (name, []))) ≡ []
named_long rows name place word is e = first_clear _ _ (rw (is.no_end, is.long) at e)
