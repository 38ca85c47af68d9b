-- Bytes outside the range of writes stay, also where writes were cut short.
use Rattle.std.proofs.Common.{◌≡◌, ℕ, ◌+◌, ◌-◌, ◌≤◌, List, ◌++◌, length, take, drop, Result, Ok, Err, refl, sym, ◌∙◌, ap, arith, append_assoc, length-append, length-drop, length-take-le, take-take, drop-drop, take_at, drop_at}
use Rattle.gb_outside.specs.Images.{Holds, Torn, WritesAt}

pub torn_nothing : (at n : ℕ) (c : List ℕ) → Torn at n c c
torn_nothing at n c = record { before = refl; after = refl; no_shorter = omega arith; no_longer = omega arith }

-- a file that is torn in a range is torn in any larger one
pub torn_within : (at n from size : ℕ) (old new : List ℕ) → from ≤ at → at + n ≤ from + size → Torn at n old new → Torn from size old new
torn_within at n from size old new low high torn =
    let more = from + size - (at + n) in
    let end : at + n + more ≡ from + size = omega (arith, high) in
    let behind : (l : List ℕ) → drop (from + size) l ≡ drop more (drop (at + n) l) = λ l. ap (λ k. drop k l) (sym end) ∙ sym (drop-drop more (at + n) l) in
    record {
      before = sym (take-take from at new low) ∙ ap (λ (l : List ℕ). take from l) torn.before ∙ take-take from at old low;
      after = behind new ∙ ap (λ (l : List ℕ). drop more l) torn.after ∙ sym (behind old);
      no_shorter = torn.no_shorter;
      no_longer = omega (arith, torn.no_longer, high);
    }

-- two writes in a range, one after the other, tear the file there alone
pub torn_then : (at n : ℕ) (old mid new : List ℕ) → Torn at n old mid → Torn at n mid new → Torn at n old new
torn_then at n old mid new first second = record {
  before = second.before ∙ first.before;
  after = second.after ∙ first.after;
  no_shorter = omega (arith, first.no_shorter, second.no_shorter);
  no_longer = omega (arith, first.no_longer, second.no_longer);
}

-- a write that was not cut short tears the file in its range alone
pub torn_whole : (at : ℕ) (piece old new : List ℕ) → at ≤ length old → Holds old at piece new → Torn at (length piece) old new
torn_whole at piece old new within holds =
    let rest = drop (at + length piece) old in
    let ahead : length (take at old) ≡ at = length-take-le at old within in
    let both : length (take at old ++ piece) ≡ at + length piece = omega (arith, length-append (take at old) piece, ahead) in
    let long : length new ≡ at + length piece + length rest = omega (arith, ap length holds, length-append (take at old ++ piece) rest, both) in
    record {
      before = ap (λ (l : List ℕ). take at l) (holds ∙ append_assoc (take at old) piece rest) ∙ take_at (take at old) (piece ++ rest) at ahead;
      after = ap (λ (l : List ℕ). drop (at + length piece) l) holds ∙ drop_at (take at old ++ piece) rest (at + length piece) both;
      no_shorter = omega (arith, long, length-drop (at + length piece) old);
      no_longer = omega (arith, long, length-drop (at + length piece) old);
    }

-- whatever a write answers, it tears the file in its range alone
pub torn_by : {E : Type 0} (answer : Result (Unit {0}) E) (at : ℕ) (piece old new : List ℕ) → at ≤ length old → WritesAt old new at answer piece → Torn at (length piece) old new
torn_by (Ok done) at piece old new within holds = torn_whole at piece old new within holds
torn_by (Err e) at piece old new within torn = torn
