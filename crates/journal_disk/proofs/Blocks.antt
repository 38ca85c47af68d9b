-- Reading a made file block by block.
use Rattle.std.proofs.Common.{◌≡◌, ◌≢◌, ◌⊎◌, inl, inr, ⊎_elim, ℕ, ◌+◌, ◌<◌, ◌≤◌, List, [], ◌∷◌, ◌++◌, length, take, drop, All, refl, sym, ◌∙◌, ap, subst, arith, append_assoc, append-nil, length-append, take-append-drop}
use Rattle.std.proofs.lemmas.List.{drop_at, drop-drop, drop_all}
use Rattle.std.proofs.lemmas.List.Elements.{All-nil, All-append}
use Rattle.journal_disk.specs.FrameAt.{FrameAt}
use Rattle.journal_disk.specs.Layout.{the_heading, IsBody, measured, frames, first_gate, end_of, frames_from, IsMade, IsNoFrame, IsJournal, IsBad}
use Rattle.journal_disk.specs.Opening.{AreFramesTo}
use Rattle.journal_disk.specs.inner.Scan.{IsWrong, IsShort, Ends, Scanned}
use Rattle.journal_disk.specs.declared.scan.Ending.{Ending}
use Rattle.journal_disk.specs.declared.scan.Ending.TheVariants.{Closed, Wrong, Short}
use Rattle.journal_disk.proofs.FrameBytes.{frames-append, length-measured}

-- a made file that is read up to a gate, with these bytes from the gate on
pub record ReadTo (file : List ℕ) (at : ℕ) (found : List FrameAt) (behind : List ℕ) : Type 0 where
  pub mark : ℕ
  pub bodies : List (List ℕ)
  pub made : mark ≢ 0
  pub sizes : All IsBody bodies
  pub offset : at ≡ end_of the_heading bodies
  pub frames_are : found ≡ frames_from (first_gate the_heading) bodies
  pub whole : file ≡ mark ∷ (the_heading ++ frames bodies ++ behind)

-- what stands from the gate on is what follows the bytes before it
pub drop_read : (file : List ℕ) (at : ℕ) (found : List FrameAt) (behind : List ℕ) → ReadTo file at found behind → drop at file ≡ behind
drop_read file at found behind read =
    let front = read.mark ∷ (the_heading ++ frames read.bodies) in
    let long : length front ≡ at = omega (arith, read.offset, length-append the_heading (frames read.bodies)) in
    ap (λ (l : List ℕ). drop at l) read.whole ∙ drop_at front behind at long

pub read_none : (file : List ℕ) → IsMade the_heading file → ReadTo file 9 [] (drop 9 file)
read_none file is =
    let behind : drop 9 file ≡ is.gate ∷ is.rest = ap (λ (l : List ℕ). drop 9 l) is.whole in
    record { mark = is.mark; bodies = []; made = is.made; sizes = All-nil IsBody; offset = refl; frames_are = refl; whole = is.whole ∙ ap (λ (l : List ℕ). is.mark ∷ (the_heading ++ l)) (sym behind) }

frames_from-append : (at : ℕ) (bodies more : List (List ℕ)) → frames_from at (bodies ++ more) ≡ frames_from at bodies ++ frames_from (at + length (frames bodies)) more
frames_from-append at [] more = ap (λ n. frames_from n more) (omega arith)
frames_from-append at (body ∷ bodies) more =
    let offset : at + 5 + length body + length (frames bodies) ≡ at + length (frames (body ∷ bodies)) =
    omega (arith, length-append (measured body) (frames bodies), length-measured body) in
    ap (λ (l : List FrameAt). record { at = at; body = body } ∷ l) (frames_from-append (at + 5 + length body) bodies more
    ∙ ap (λ n. frames_from (at + 5 + length body) bodies ++ frames_from n more) offset)

-- no frames, and the first gate, which ends them
pub frames_none : AreFramesTo the_heading [] (first_gate the_heading)
frames_none = record { bodies = []; sizes = All-nil IsBody; frames_are = refl; ends = refl }

pub frames_more : (block : List ℕ) (at end : ℕ) (found now : List FrameAt) (ending : Ending) → AreFramesTo the_heading found at → Scanned at block found now end ending → AreFramesTo the_heading now end
frames_more block at end found now ending are scanned = record {
  bodies = are.bodies ++ scanned.bodies;
  sizes = All-append IsBody are.bodies scanned.bodies are.sizes scanned.sizes;
  frames_are =
      scanned.added
      ∙ ap (λ (l : List FrameAt). l ++ frames_from at scanned.bodies) are.frames_are
      ∙ ap (λ n. frames_from (first_gate the_heading) are.bodies ++ frames_from n scanned.bodies) are.ends
      ∙ sym (frames_from-append (first_gate the_heading) are.bodies scanned.bodies);
  ends = omega (arith, are.ends, scanned.end_is, ap length (frames-append are.bodies scanned.bodies), length-append (frames are.bodies) (frames scanned.bodies));
}

-- one block more is read, up to where no frame begins in it
pub read_block : (file : List ℕ) (at size : ℕ) (found now : List FrameAt) (end : ℕ) (ending : Ending) → ReadTo file at found (drop at file)
    → (scanned : Scanned at (take size (drop at file)) found now end ending) → ReadTo file end now (scanned.rest ++ drop (at + size) file)
read_block file at size found now end ending read scanned =
    let tail = drop (at + size) file in
    let cut : drop at file ≡ frames scanned.bodies ++ (scanned.rest ++ tail) =
    sym (take-append-drop size (drop at file))
    ∙ ap (λ (l : List ℕ). l ++ drop size (drop at file)) scanned.whole
    ∙ ap (λ (l : List ℕ). frames scanned.bodies ++ scanned.rest ++ l) (drop-drop size at file)
    ∙ append_assoc (frames scanned.bodies) scanned.rest tail in
    record {
      mark = read.mark;
      bodies = read.bodies ++ scanned.bodies;
      made = read.made;
      sizes = All-append IsBody read.bodies scanned.bodies read.sizes scanned.sizes;
      offset = omega (arith, read.offset, scanned.end_is, ap length (frames-append read.bodies scanned.bodies), length-append (frames read.bodies) (frames scanned.bodies));
      frames_are =
          scanned.added
          ∙ ap (λ (l : List FrameAt). l ++ frames_from at scanned.bodies) read.frames_are
          ∙ ap (λ n. frames_from (first_gate the_heading) read.bodies ++ frames_from n scanned.bodies) read.offset
          ∙ sym (frames_from-append 9 read.bodies scanned.bodies);
      whole =
          read.whole
          ∙ ap (λ (l : List ℕ). read.mark ∷ (the_heading ++ frames read.bodies ++ l)) cut
          ∙ ap (λ (l : List ℕ). read.mark ∷ l) (sym (append_assoc (the_heading ++ frames read.bodies) (frames scanned.bodies) (scanned.rest ++ tail)))
          ∙ ap (λ (l : List ℕ). read.mark ∷ (l ++ (scanned.rest ++ tail))) (append_assoc the_heading (frames read.bodies) (frames scanned.bodies) ∙ ap (λ (l : List ℕ). the_heading ++ l) (sym (frames-append read.bodies scanned.bodies)));
    }

-- what a block says of the file, where it was read from a disk that has the file
pub record BlockRead (file : List ℕ) (at size : ℕ) (now : List FrameAt) (end : ℕ) (ending : Ending) : Type 0 where
  pub rest : List ℕ
  pub ends : Ends rest ending
  pub read : ReadTo file end now (rest ++ drop (at + size) file)

pub block_read : (file other block : List ℕ) (at size : ℕ) (found now : List FrameAt) (end : ℕ) (ending : Ending) → other ≡ file → ReadTo file at found (drop at file)
    → block ≡ take size (drop at other) → Scanned at block found now end ending → BlockRead file at size now end ending
block_read file other block at size found now end ending same read is scanned =
    let here : Scanned at (take size (drop at file)) found now end ending = subst (λ (l : List ℕ). Scanned at l found now end ending) (is ∙ ap (λ (l : List ℕ). take size (drop at l)) same) scanned in
    record { rest = here.rest; ends = here.ends; read = read_block file at size found now end ending read here }

-- the reading goes on to the next block
pub read_on : (file : List ℕ) (at : ℕ) (found : List FrameAt) (behind : List ℕ) → ReadTo file at found behind → ReadTo file at found (drop at file)
read_on file at found behind read = subst (ReadTo file at found) (sym (drop_read file at found behind read)) read

wrong_none : (rest tail : List ℕ) → IsWrong rest → IsNoFrame (rest ++ tail)
wrong_none [] tail wrong = absurd wrong
wrong_none (a ∷ []) tail wrong = absurd wrong
wrong_none (a ∷ b ∷ []) tail wrong = absurd wrong
wrong_none (a ∷ b ∷ c ∷ []) tail wrong = absurd wrong
wrong_none (a ∷ b ∷ c ∷ d ∷ rest) tail wrong = ⊎_elim (λ zero. inl zero) (λ long. inr (inl long)) wrong

short_none : (rest : List ℕ) → IsShort rest → IsNoFrame rest
short_none [] short = tt
short_none (a ∷ []) short = tt
short_none (a ∷ b ∷ []) short = tt
short_none (a ∷ b ∷ c ∷ []) short = tt
short_none (a ∷ b ∷ c ∷ d ∷ rest) short = inr (inr short.1)

short_length : (rest : List ℕ) → IsShort rest → length rest ≤ 1028
short_length [] short = omega arith
short_length (a ∷ []) short = omega arith
short_length (a ∷ b ∷ []) short = omega arith
short_length (a ∷ b ∷ c ∷ []) short = omega arith
short_length (a ∷ b ∷ c ∷ d ∷ rest) short = omega (arith, short.0, short.1)

-- where a closed gate ends the frames of a block, the file is a journal with the frames that were found
pub ends_closed : (file : List ℕ) (at size end : ℕ) (found : List FrameAt) (ending : Ending) → BlockRead file at size found end ending → ending ≡ Closed
    → (bodies : List (List ℕ)) × IsJournal the_heading file bodies × (end ≡ end_of the_heading bodies) × (found ≡ frames_from (first_gate the_heading) bodies)
ends_closed file at size end found ending block is =
    let read = block.read in
    let tail = drop (at + size) file in
    let ends : Ends block.rest Closed = subst (Ends block.rest) is block.ends in (
      read.bodies,
      record {
        mark = read.mark;
        gate = ends.0;
        rest = ends.1 ++ tail;
        made = read.made;
        closed = ends.3;
        sizes = read.sizes;
        whole = read.whole ∙ ap (λ (l : List ℕ). read.mark ∷ (the_heading ++ frames read.bodies ++ (l ++ tail))) ends.2;
      },
      read.offset,
      read.frames_are,
    )

ends_bad : (file : List ℕ) (end : ℕ) (found : List FrameAt) (rest : List ℕ) → ReadTo file end found (1 ∷ rest) → IsNoFrame rest
    → (bodies : List (List ℕ)) × IsBad the_heading file bodies × (end ≡ end_of the_heading bodies) × (found ≡ frames_from (first_gate the_heading) bodies)
ends_bad file end found rest read none = (
  read.bodies,
  record { mark = read.mark; rest = rest; made = read.made; sizes = read.sizes; none = none; whole = read.whole },
  read.offset,
  read.frames_are,
)

ends_wrong : (file : List ℕ) (at size end : ℕ) (found : List FrameAt) (ending : Ending) → BlockRead file at size found end ending → ending ≡ Wrong
    → (bodies : List (List ℕ)) × IsBad the_heading file bodies × (end ≡ end_of the_heading bodies) × (found ≡ frames_from (first_gate the_heading) bodies)
ends_wrong file at size end found ending block is =
    let tail = drop (at + size) file in
    let ends : Ends block.rest Wrong = subst (Ends block.rest) is block.ends in
    ends_bad file end found (ends.0 ++ tail) (subst (ReadTo file end found) (ap (λ (l : List ℕ). l ++ tail) ends.1) block.read) (wrong_none ends.0 tail ends.2)

ends_short : (file : List ℕ) (at size end : ℕ) (found : List FrameAt) (ending : Ending) → BlockRead file at size found end ending → length file ≤ at + size → ending ≡ Short
    → (bodies : List (List ℕ)) × IsBad the_heading file bodies × (end ≡ end_of the_heading bodies) × (found ≡ frames_from (first_gate the_heading) bodies)
ends_short file at size end found ending block last is =
    let ends : Ends block.rest Short = subst (Ends block.rest) is block.ends in
    let none : drop (at + size) file ≡ [] = drop_all (at + size) file last in
    ends_bad file end found ends.0 (subst (ReadTo file end found) (ap (λ (l : List ℕ). block.rest ++ l) none ∙ append-nil block.rest ∙ ends.1) block.read) (short_none ends.0 ends.2)

pub ends_open : (file : List ℕ) (at size end : ℕ) (found : List FrameAt) (ending : Ending) → BlockRead file at size found end ending → (ending ≡ Short → length file ≤ at + size)
    → (ending ≡ Short) ⊎ (ending ≡ Wrong) → (bodies : List (List ℕ)) × IsBad the_heading file bodies × (end ≡ end_of the_heading bodies) × (found ≡ frames_from (first_gate the_heading) bodies)
ends_open file at size end found ending block last (inl short) = ends_short file at size end found ending block (last short) short
ends_open file at size end found ending block last (inr wrong) = ends_wrong file at size end found ending block wrong

-- a block that is long enough and is cut short has a whole frame
pub moves : (at : ℕ) (block : List ℕ) (found now : List FrameAt) (end : ℕ) → 1030 ≤ length block → Scanned at block found now end Short → at < end
moves at block found now end long scanned =
    omega (arith, scanned.end_is, ap length scanned.whole, length-append (frames scanned.bodies) scanned.rest, ap length scanned.ends.1, short_length scanned.ends.0 scanned.ends.2)

-- the gate where the frames end is in the block
pub ends_within : (at : ℕ) (block : List ℕ) (found now : List FrameAt) (end : ℕ) (ending : Ending) → Scanned at block found now end ending → end < at + length block
ends_within at block found now end ending scanned =
    omega (arith, scanned.end_is, ap length scanned.whole, length-append (frames scanned.bodies) scanned.rest, some scanned.rest ending scanned.ends)
  where
    some : (rest : List ℕ) (ending : Ending) → Ends rest ending → 1 ≤ length rest
    some rest Closed ends = omega (arith, ap length ends.2)
    some rest Wrong ends = omega (arith, ap length ends.1)
    some rest Short ends = omega (arith, ap length ends.1)
