-- Bytes that are written piece by piece.
use Rattle.std.proofs.Common.{◌≡◌, ℕ, ◌+◌, ◌-◌, ◌<◌, List, length, take, drop, sym, Option, take-append-drop, arith}
use Rattle.std.proofs.Math.Seq.{take-add}
use Rattle.std.proofs.KnownBytes.{Appends-trans}
use Rattle.std.proofs.lemmas.List.{length-drop, take_rest}
use Rattle.std.specs.Io.KnownBytes.{Appends}
use Rattle.registry_http.specs.Replies.{AppendsPart}

-- a further piece is written
pub Appends-take : (a b c : Option (List ℕ)) (text : List ℕ) (done count : ℕ) → Appends a b (take done text)
    → Appends b c (take count (take (length text - done) (drop done text))) → Appends a c (take (done + count) text)
Appends-take a b c text done count before now =
    rw (take-add done count text)
    (Appends-trans a b c (take done text) (take count (drop done text)) before (rw (take_rest text done) at now))

-- where a link got some of the bytes and not all, and then fails, it has a front of them that is not the whole
pub AppendsPart-take : (a b c : Option (List ℕ)) (text : List ℕ) (done : ℕ) → done < length text → Appends a b (take done text) → c ≡ b → AppendsPart a c text
AppendsPart-take a b c text done more written stays = record {
  front = take done text;
  rest = drop done text;
  whole = sym (take-append-drop done text);
  short = omega (arith, length-drop done text, more);
  added = rw stays written;
}
