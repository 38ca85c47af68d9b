-- Pieces that are joined: what they become with more cents, and that their line has no others.
use Rattle.std.proofs.Common.{◌≡◌, ℕ, ◌+◌, ◌≤◌, All, false, cond, List, [], ◌∷◌, ◌++◌, get_or, length, refl, replicate, set, subst, sym, take, zero, suc, ap, arith, ◌∙◌}
use Rattle.std.specs.List.{AllByRecursion}
use Rattle.std.proofs.lemmas.List.Elements.{All-from_recursion}
use Rattle.std.proofs.lemmas.List.{append_assoc, length-take-le, replicate-append-replicate, set_at, take_all, take_more}
use Rattle.gb_base.specs.RightNo.{RightNo, same_right}
use Rattle.gb_base.proofs.SameRights.{right_self}
use Rattle.rank_slots.specs.CentLine.{one_more_cent, pieces_of}
use Rattle.rank_slots.specs.declared.places.Piece.{Piece}
use Rattle.rank_slots.specs.inner.Pieces.{AreJoined, BeginsElsewhere, line_of}
use Rattle.rank_slots.proofs.Lines.{line_push}

-- ---- the last piece

-- a list that has a last piece ends in it
ends_in : (ps : List Piece) (n : ℕ) (p : Piece) → n + 1 ≡ length ps → p ≡ get_or ps n p → ps ≡ take n ps ++ p ∷ []
ends_in ps n p long last =
    sym (take_all (n + 1) ps (omega arith)) ∙ take_more ps n p (omega arith) ∙ ap (λ q. take n ps ++ q ∷ []) (sym last)

set_last : (ps : List Piece) (n : ℕ) (p q : Piece) → n + 1 ≡ length ps → p ≡ get_or ps n p → set ps n q ≡ take n ps ++ q ∷ []
set_last ps n p q long last =
    ap (λ xs. set xs n q) (ends_in ps n p long last) ∙ set_at (take n ps) p [] q n (length-take-le n ps (omega arith))

-- the last piece with more cents stands for that many more
pub line_grown : (ps : List Piece) (n more : ℕ) (p : Piece) → n + 1 ≡ length ps → p ≡ get_or ps n p
    → line_of (set ps n (record { right = p.right; cents = p.cents + more })) ≡ line_of ps ++ replicate more p.right
line_grown ps n more p long last =
    let q : Piece = record { right = p.right; cents = p.cents + more } in
    ap line_of (set_last ps n p q long last)
    ∙ line_push (take n ps) q
    ∙ ap (λ t. line_of (take n ps) ++ t) (sym (replicate-append-replicate p.cents more p.right))
    ∙ sym (append_assoc (line_of (take n ps)) (replicate p.cents p.right) (replicate more p.right))
    ∙ ap (λ t. t ++ replicate more p.right) (sym (line_push (take n ps) p) ∙ ap line_of (sym (ends_in ps n p long last)))

-- ---- what stays joined

begins : (right : RightNo) (ps : List Piece) (p q : Piece) → p.right ≡ q.right → BeginsElsewhere right (ps ++ p ∷ []) → BeginsElsewhere right (ps ++ q ∷ [])
begins right [] p q same other = subst (λ r. same_right right r ≡ false) same other
begins right (x ∷ xs) p q same other = other

ends_joined : (ps : List Piece) (p q : Piece) → p.right ≡ q.right → 1 ≤ q.cents → AreJoined (ps ++ p ∷ []) → AreJoined (ps ++ q ∷ [])
ends_joined [] p q same some joined = (some, (tt, tt))
ends_joined (x ∷ xs) p q same some joined = (joined.0, (begins x.right xs p q same joined.1.0, ends_joined xs p q same some joined.1.1))

-- the last piece with more cents
pub joined_grown : (ps : List Piece) (n more : ℕ) (p : Piece) → n + 1 ≡ length ps → p ≡ get_or ps n p → 1 ≤ more → AreJoined ps
    → AreJoined (set ps n (record { right = p.right; cents = p.cents + more }))
joined_grown ps n more p long last some joined =
    let q : Piece = record { right = p.right; cents = p.cents + more } in
    subst AreJoined (sym (set_last ps n p q long last))
    (ends_joined (take n ps) p q refl (omega arith) (subst AreJoined (ends_in ps n p long last) joined))

-- the last of these pieces is not this right's
abbrev pub EndsElsewhere : RightNo → List Piece → Type 0
EndsElsewhere right [] = Unit {0}
EndsElsewhere right (p ∷ []) = same_right p.right right ≡ false
EndsElsewhere right (p ∷ q ∷ qs) = EndsElsewhere right (q ∷ qs)

ends_elsewhere : (right : RightNo) (ps : List Piece) (p : Piece) → same_right p.right right ≡ false → EndsElsewhere right (ps ++ p ∷ [])
ends_elsewhere right [] p other = other
ends_elsewhere right (x ∷ []) p other = other
ends_elsewhere right (x ∷ y ∷ ys) p other = ends_elsewhere right (y ∷ ys) p other

-- one more piece behind one of another right, or behind none
joined_push : (ps : List Piece) (p : Piece) → 1 ≤ p.cents → EndsElsewhere p.right ps → AreJoined ps → AreJoined (ps ++ p ∷ [])
joined_push [] p some other joined = (some, (tt, tt))
joined_push (x ∷ []) p some other joined = (joined.0, (other, (some, (tt, tt))))
joined_push (x ∷ y ∷ ys) p some other joined = (joined.0, (joined.1.0, joined_push (y ∷ ys) p some other joined.1.1))

pub joined_first : (p : Piece) (ps qs : List Piece) → 1 ≤ p.cents → ps ≡ [] → qs ≡ ps ++ p ∷ [] → AreJoined qs
joined_first p ps qs some none now = subst AreJoined (sym (now ∙ ap (λ xs. xs ++ p ∷ []) none)) (some, (tt, tt))

pub joined_behind : (ps qs : List Piece) (n : ℕ) (last p : Piece) → n + 1 ≡ length ps → last ≡ get_or ps n last → same_right last.right p.right ≡ false → 1 ≤ p.cents → AreJoined ps → qs ≡ ps ++ p ∷ [] → AreJoined qs
joined_behind ps qs n last p long at other some joined now =
    subst AreJoined (sym now)
    (joined_push ps p some (subst (EndsElsewhere p.right) (sym (ends_in ps n last long at)) (ends_elsewhere p.right (take n ps) last other)) joined)

-- ---- the pieces of their line

one_alone : (right : RightNo) (ps : List Piece) → BeginsElsewhere right ps → one_more_cent right ps ≡ record { right = right; cents = 1 } ∷ ps
one_alone right [] other = refl
one_alone right (p ∷ ps) other = λ i. cond (other i) (record { right = right; cents = p.cents + 1 } ∷ ps) (record { right = right; cents = 1 } ∷ p ∷ ps)

one_joined : (right : RightNo) (n : ℕ) (ps : List Piece) → one_more_cent right (record { right = right; cents = n } ∷ ps) ≡ record { right = right; cents = n + 1 } ∷ ps
one_joined right n ps = λ i. cond (right_self right i) (record { right = right; cents = n + 1 } ∷ ps) (record { right = right; cents = 1 } ∷ record { right = right; cents = n } ∷ ps)

piece_of : (right : RightNo) (n : ℕ) (cs : List RightNo) → BeginsElsewhere right (pieces_of cs) → pieces_of (replicate (suc n) right ++ cs) ≡ record { right = right; cents = suc n } ∷ pieces_of cs
piece_of right zero cs other = one_alone right (pieces_of cs) other
piece_of right (suc n) cs other =
    let counted : suc n + 1 ≡ suc (suc n) = omega arith in
    ap (one_more_cent right) (piece_of right n cs other) ∙ one_joined right (suc n) (pieces_of cs) ∙ ap (λ k. record { right = right; cents = k } ∷ pieces_of cs) counted

piece_first : (right : RightNo) (n : ℕ) (cs : List RightNo) → 1 ≤ n → BeginsElsewhere right (pieces_of cs) → pieces_of (replicate n right ++ cs) ≡ record { right = right; cents = n } ∷ pieces_of cs
piece_first right zero cs some other = absurd (omega arith)
piece_first right (suc n) cs some other = piece_of right n cs other

-- joined pieces are those of their line
pub pieces_of_line : (ps : List Piece) → AreJoined ps → pieces_of (line_of ps) ≡ ps
pieces_of_line [] joined = refl
pieces_of_line (p ∷ ps) joined =
    let rest = pieces_of_line ps joined.1.1 in
    piece_first p.right p.cents (line_of ps) joined.0 (subst (BeginsElsewhere p.right) (sym rest) joined.1.0) ∙ ap (λ qs. p ∷ qs) rest

-- each piece has cents
each_has_cents : (ps : List Piece) → AreJoined ps → AllByRecursion (λ p. 1 ≤ p.cents) ps
each_has_cents [] joined = tt
each_has_cents (p ∷ ps) joined = (joined.0, each_has_cents ps joined.1.1)

pub pieces_have_cents : (ps : List Piece) → AreJoined ps → All (λ p. 1 ≤ p.cents) ps
pieces_have_cents ps joined = All-from_recursion (λ p. 1 ≤ p.cents) ps (each_has_cents ps joined)
