-- The cents ahead of the first that passes a test are those of the pieces ahead of its piece.
use Rattle.std.proofs.Common.{◌≡◌, ℕ, ◌+◌, ◌≤◌, Bool, true, false, cond, not, List, [], ◌∷◌, ◌++◌, length, refl, replicate, sym, take, zero, suc, arith, ◌∙◌}
use Rattle.std.specs.List.{position_or_len}
use Rattle.std.proofs.lemmas.List.{length-append, length-replicate}
use Rattle.gb_base.specs.RightNo.{RightNo}
use Rattle.rank_slots.specs.declared.places.Piece.{Piece}
use Rattle.rank_slots.specs.inner.Pieces.{AreJoined, line_of}

-- how many stand ahead of the first that passes, where n of one that fails come first
behind_others : (test : RightNo → Bool) (n : ℕ) (c : RightNo) (cs : List RightNo) → test c ≡ false → position_or_len test (replicate n c ++ cs) ≡ n + position_or_len test cs
behind_others test zero c cs other = omega arith
behind_others test (suc n) c cs other =
    let rest = behind_others test n c cs other in
    (λ i. cond (not (other i)) (1 + position_or_len test (replicate n c ++ cs)) 0) ∙ omega arith

at_once : (test : RightNo → Bool) (n : ℕ) (c : RightNo) (cs : List RightNo) → 1 ≤ n → test c ≡ true → position_or_len test (replicate n c ++ cs) ≡ 0
at_once test zero c cs some this = absurd (omega arith)
at_once test (suc n) c cs some this = λ i. cond (not (this i)) (1 + position_or_len test (replicate n c ++ cs)) 0

-- one more piece at the front, where it passes, and where it does not
with_piece : (b : Bool) (test : RightNo → Bool) (p : Piece) (ps : List Piece) → test p.right ≡ b → 1 ≤ p.cents
    → position_or_len test (line_of ps) ≡ length (line_of (take (position_or_len (λ q. test q.right) ps) ps))
    → position_or_len test (line_of (p ∷ ps)) ≡ length (line_of (take (position_or_len (λ q. test q.right) (p ∷ ps)) (p ∷ ps)))
with_piece true test p ps this some rest =
    at_once test p.cents p.right (line_of ps) some this
    ∙ sym (λ i. length (line_of (take (cond (not (this i)) (1 + position_or_len (λ q. test q.right) ps) 0) (p ∷ ps))))
with_piece false test p ps other some rest =
    let k = position_or_len (λ q. test q.right) ps in
    let next : 1 + k ≡ suc k = omega arith in
    behind_others test p.cents p.right (line_of ps) other
    ∙ (λ i. sym (length-replicate p.cents p.right) i + rest i)
    ∙ sym ((λ i. length (line_of (take (cond (not (other i)) (1 + k) 0) (p ∷ ps))))
    ∙ (λ i. length (line_of (take (next i) (p ∷ ps))))
    ∙ length-append (replicate p.cents p.right) (line_of (take k ps)))

pub cents_of_pieces_ahead : (test : RightNo → Bool) (ps : List Piece) → AreJoined ps → position_or_len test (line_of ps) ≡ length (line_of (take (position_or_len (λ p. test p.right) ps) ps))
cents_of_pieces_ahead test [] joined = refl
cents_of_pieces_ahead test (p ∷ ps) joined = with_piece (test p.right) test p ps refl joined.0 (cents_of_pieces_ahead test ps joined.1.1)
