-- Texts that are written piece by piece.
use Rattle.std.proofs.Common.{◌≡◌, ℕ, ◌+◌, ◌-◌, List, length, take, drop, sym, Option, take-append-drop}
use Rattle.std.proofs.Math.Seq.{take-add}
use Rattle.std.proofs.KnownBytes.{Appends-trans}
use Rattle.std.proofs.lemmas.List.{take_rest}
use Rattle.std.specs.Io.KnownBytes.{Appends}
use Rattle.gb_outside.specs.Bytes.{AppendsFront}

-- one more piece of a text is written
pub Appends-take : (a b c : Option (List ℕ)) (text : List ℕ) (done count : ℕ) → Appends a b (take done text)
    → Appends b c (take count (take (length text - done) (drop done text))) → Appends a c (take (done + count) text)
Appends-take a b c text done count before now =
    rw (take-add done count text)
    (Appends-trans a b c (take done text) (take count (drop done text)) before (rw (take_rest text done) at now))

-- where a sink that has a front of a text then fails, it has that front
pub AppendsFront-take : (a b c : Option (List ℕ)) (text : List ℕ) (done : ℕ) → Appends a b (take done text) → c ≡ b → AppendsFront a c text
AppendsFront-take a b c text done written stays = record {
  front = take done text;
  rest = drop done text;
  whole = sym (take-append-drop done text);
  added = rw stays written;
}
