-- Frames found in bytes, one after another.
use Rattle.std.proofs.Common.{◌≡◌, ℕ, zero, suc, ◌+◌, ◌*◌, ◌<◌, ◌≤◌, List, [], ◌∷◌, ◌++◌, length, get_or, take, drop, refl, sym, ◌∙◌, ap, arith, append_assoc, append-nil, add-zero, All, length-append, take-append-drop, length-drop, length-take-le}
use Rattle.std.proofs.lemmas.List.{take_at, drop_at}
use Rattle.std.proofs.lemmas.List.Elements.{All-nil, All-push}
use Rattle.std.proofs.lemmas.Nat.{be_bytes_4}
use Rattle.std.specs.Int.{w32, to_be_bytes}
use Rattle.journal_disk.specs.FrameAt.{FrameAt}
use Rattle.journal_disk.specs.Layout.{IsBody, measured, frames, frames_from}
use Rattle.journal_disk.specs.inner.Scan.{Begins}

-- a whole frame begins where four bytes say the size of a body, and the body follows with something after it
pub begins : (bytes : List ℕ) (size : ℕ) → 5 ≤ length bytes → get_or bytes 0 0 ≡ 1 → ((i : ℕ) → get_or bytes i 0 < 256)
    → size ≡ get_or bytes 1 0 * 16777216 + get_or bytes 2 0 * 65536 + get_or bytes 3 0 * 256 + get_or bytes 4 0
    → 1 ≤ size → size ≤ 1024 → size < length (drop 5 bytes) → Begins bytes size
begins [] size five gate bytes_fit is some few fits = absurd (omega arith)
begins (g ∷ []) size five gate bytes_fit is some few fits = absurd (omega arith)
begins (g ∷ a ∷ []) size five gate bytes_fit is some few fits = absurd (omega arith)
begins (g ∷ a ∷ b ∷ []) size five gate bytes_fit is some few fits = absurd (omega arith)
begins (g ∷ a ∷ b ∷ c ∷ []) size five gate bytes_fit is some few fits = absurd (omega arith)
begins (g ∷ a ∷ b ∷ c ∷ d ∷ rest) size five gate bytes_fit is some few fits =
    let quad : List ℕ = a ∷ b ∷ c ∷ d ∷ [] in
    let sized : length (take size rest) ≡ size = length-take-le size rest (omega arith) in
    let small : (i : ℕ) → get_or quad i 0 < 256 = four (bytes_fit 1) (bytes_fit 2) (bytes_fit 3) (bytes_fit 4) in
    let spelled : to_be_bytes w32 (length (take size rest)) ≡ quad = be_bytes_4 quad (length (take size rest)) refl small (sized ∙ is) in
    record {
      body = take size rest;
      rest = drop size rest;
      is_body = record { not_empty = omega (arith, sized); not_long = omega (arith, sized) };
      sized = sized;
      gate_behind = omega (arith, length-drop size rest);
      whole =
          ap (λ (n : ℕ). n ∷ a ∷ b ∷ c ∷ d ∷ rest) gate
          ∙ ap (λ (l : List ℕ). 1 ∷ a ∷ b ∷ c ∷ d ∷ l) (sym (take-append-drop size rest))
          ∙ ap (λ (l : List ℕ). 1 ∷ (l ++ take size rest ++ drop size rest)) (sym spelled);
    }
  where
    four : {a b c d : ℕ} → a < 256 → b < 256 → c < 256 → d < 256 → (i : ℕ) → get_or (a ∷ b ∷ c ∷ d ∷ []) i 0 < 256
    four fa fb fc fd zero = fa
    four fa fb fc fd (suc zero) = fb
    four fa fb fc fd (suc (suc zero)) = fc
    four fa fb fc fd (suc (suc (suc zero))) = fd
    four fa fb fc fd (suc (suc (suc (suc i)))) = omega arith

pub length-measured : (body : List ℕ) → length (measured body) ≡ 4 + length body
length-measured body = length-append (to_be_bytes w32 (length body)) body

pub frames-append : (bodies more : List (List ℕ)) → frames (bodies ++ more) ≡ frames bodies ++ frames more
frames-append [] more = refl
frames-append (body ∷ bodies) more =
    ap (λ (l : List ℕ). 1 ∷ (measured body ++ l)) (frames-append bodies more) ∙ ap (λ (l : List ℕ). 1 ∷ l) (sym (append_assoc (measured body) (frames bodies) (frames more)))

pub frames-push : (bodies : List (List ℕ)) (body : List ℕ) → frames (bodies ++ body ∷ []) ≡ frames bodies ++ 1 ∷ measured body
frames-push bodies body = frames-append bodies (body ∷ []) ∙ ap (λ (l : List ℕ). frames bodies ++ 1 ∷ l) (append-nil (measured body))

pub length-frames-push : (bodies : List (List ℕ)) (body : List ℕ) → length (frames (bodies ++ body ∷ [])) ≡ length (frames bodies) + 5 + length body
length-frames-push bodies body =
    omega (arith, ap length (frames-push bodies body), length-append (frames bodies) (1 ∷ measured body), length-measured body)

pub frames_from-push : (at : ℕ) (bodies : List (List ℕ)) (body : List ℕ) → frames_from at (bodies ++ body ∷ []) ≡ frames_from at bodies ++ record { at = at + length (frames bodies); body = body } ∷ []
frames_from-push at [] body = ap (λ n. record { at = n; body = body } ∷ []) (sym (add-zero at))
frames_from-push at (first ∷ bodies) body =
    let offset : at + 5 + length first + length (frames bodies) ≡ at + length (frames (first ∷ bodies)) =
    omega (arith, length-append (measured first) (frames bodies), length-measured first) in
    ap (λ (l : List FrameAt). record { at = at; body = first } ∷ l) (frames_from-push (at + 5 + length first) bodies body
    ∙ ap (λ n. frames_from (at + 5 + length first) bodies ++ record { at = n; body = body } ∷ []) offset)

-- whole frames so far, and a gate after them
pub record SoFar (at : ℕ) (bytes : List ℕ) (before now : List FrameAt) (gate : ℕ) (rest : List ℕ) : Type 0 where
  pub bodies : List (List ℕ)
  pub sizes : All IsBody bodies
  pub whole : bytes ≡ frames bodies ++ rest
  pub offset : gate ≡ at + length (frames bodies)
  pub added : now ≡ before ++ frames_from at bodies
  pub some : 0 < length rest

pub none_yet : (at : ℕ) (bytes : List ℕ) (before : List FrameAt) → 0 < length bytes → SoFar at bytes before before at bytes
none_yet at bytes before some = record { bodies = []; sizes = All-nil IsBody; whole = refl; offset = sym (add-zero at); added = sym (append-nil before); some = some }

-- what is left after a frame is what follows its five bytes of head and its body
pub cut_behind : (rest : List ℕ) (size : ℕ) (begun : Begins rest size) → drop (5 + size) rest ≡ begun.rest
cut_behind rest size begun =
    let long : length (1 ∷ measured begun.body) ≡ 5 + size = omega (arith, length-measured begun.body, begun.sized) in
    ap (λ (l : List ℕ). drop (5 + size) l) begun.whole ∙ drop_at (1 ∷ measured begun.body) begun.rest (5 + size) long

pub cut_body : (rest : List ℕ) (size : ℕ) (begun : Begins rest size) → drop 5 (take (5 + size) rest) ≡ begun.body
cut_body rest size begun =
    let long : length (1 ∷ measured begun.body) ≡ 5 + size = omega (arith, length-measured begun.body, begun.sized) in
    ap (λ (l : List ℕ). drop 5 (take (5 + size) l)) begun.whole
    ∙ ap (λ (l : List ℕ). drop 5 l) (take_at (1 ∷ measured begun.body) begun.rest (5 + size) long)
    ∙ drop_at (1 ∷ to_be_bytes w32 (length begun.body)) begun.body 5 refl

-- one frame more
pub one_more : (at : ℕ) (bytes : List ℕ) (before now next : List FrameAt) (gate : ℕ) (rest behind : List ℕ) (size : ℕ) → SoFar at bytes before now gate rest
    → (begun : Begins rest size) → next ≡ now ++ record { at = gate; body = begun.body } ∷ [] → behind ≡ begun.rest → SoFar at bytes before next (gate + (5 + size)) behind
one_more at bytes before now next gate rest behind size so_far begun pushed behind_is =
    let body = begun.body in
    record {
      bodies = so_far.bodies ++ body ∷ [];
      sizes = All-push IsBody so_far.bodies body so_far.sizes begun.is_body;
      whole =
          so_far.whole
          ∙ ap (λ (l : List ℕ). frames so_far.bodies ++ l) begun.whole
          ∙ sym (append_assoc (frames so_far.bodies) (1 ∷ measured body) begun.rest)
          ∙ ap (λ (l : List ℕ). l ++ begun.rest) (sym (frames-push so_far.bodies body))
          ∙ ap (λ (l : List ℕ). frames (so_far.bodies ++ body ∷ []) ++ l) (sym behind_is);
      offset = omega (arith, so_far.offset, length-frames-push so_far.bodies body, begun.sized);
      added =
          pushed
          ∙ ap (λ (l : List FrameAt). l ++ record { at = gate; body = body } ∷ []) so_far.added
          ∙ append_assoc before (frames_from at so_far.bodies) (record { at = gate; body = body } ∷ [])
          ∙ ap (λ (n : ℕ). before ++ (frames_from at so_far.bodies ++ record { at = n; body = body } ∷ [])) so_far.offset
          ∙ ap (λ (l : List FrameAt). before ++ l) (sym (frames_from-push at so_far.bodies body));
      some = omega (arith, ap length behind_is, begun.gate_behind);
    }
