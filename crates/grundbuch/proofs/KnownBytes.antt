-- Known bytes that a call keeps, and what a later call does to them.
use Rattle.std.proofs.Common.{ℕ, List, [], ◌++◌, ◌∙◌, refl, sym, ap}
use Rattle.std.proofs.lemmas.List.{append-nil}
use Rattle.std.specs.Prelude.{Option, None, Some}
use Rattle.std.specs.Io.KnownBytes.{Appends, Consumes, Keeps}

pub keeps_then_keeps : (a b c : Option (List ℕ)) → Keeps a b → Keeps b c → Keeps a c
keeps_then_keeps None b c kept later = tt
keeps_then_keeps (Some xs) None c kept later = absurd kept
keeps_then_keeps (Some xs) (Some ys) None kept later = later
keeps_then_keeps (Some xs) (Some ys) (Some zs) kept later = later ∙ kept

pub keeps_then_consumes : (a b c : Option (List ℕ)) (bytes : List ℕ) → Keeps a b → Consumes b c bytes → Consumes a c bytes
keeps_then_consumes None b c bytes kept later = tt
keeps_then_consumes (Some xs) None c bytes kept later = absurd kept
keeps_then_consumes (Some xs) (Some ys) None bytes kept later = later
keeps_then_consumes (Some xs) (Some ys) (Some zs) bytes kept later = sym kept ∙ later

pub keeps_then_appends : (a b c : Option (List ℕ)) (bytes : List ℕ) → Keeps a b → Appends b c bytes → Appends a c bytes
keeps_then_appends None b c bytes kept later = tt
keeps_then_appends (Some xs) None c bytes kept later = absurd kept
keeps_then_appends (Some xs) (Some ys) None bytes kept later = later
keeps_then_appends (Some xs) (Some ys) (Some zs) bytes kept later = later ∙ ap (λ front. front ++ bytes) kept

pub keeps_itself : (a : Option (List ℕ)) → Keeps a a
keeps_itself None = tt
keeps_itself (Some xs) = refl

-- A call that adds no byte keeps those that are known.
pub adds_nothing : (a b : Option (List ℕ)) → Appends a b [] → Keeps a b
adds_nothing None b later = tt
adds_nothing (Some xs) None later = absurd later
adds_nothing (Some xs) (Some ys) later = later ∙ append-nil xs
