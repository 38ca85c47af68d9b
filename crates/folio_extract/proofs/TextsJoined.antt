-- The texts of folios that are shared out, joined in turn.
use Rattle.std.proofs.Common.{◌≡◌, ◌∙◌, ◌+◌, ◌*◌, ℕ, List, ◌++◌, ap, sym, take, drop, flat_map, append_assoc, arith}
use Rattle.std.proofs.lemmas.List.{drop-drop, take-append-drop}
use Rattle.std.proofs.lemmas.Grind.{flat_map-append}

-- With one text more, what is left comes after the next so many folios.
pub joined : (f : ℕ → List ℕ) (folios : List ℕ) (each i : ℕ) (text piece after whole : List ℕ)
    → piece ≡ flat_map f (take each (drop (i * each) folios)) → after ≡ text ++ piece
    → text ++ flat_map f (drop (i * each) folios) ≡ whole
    → after ++ flat_map f (drop ((i + 1) * each) folios) ≡ whole
joined f folios each i text piece after whole is-piece is-after so-far =
    let rest = drop (i * each) folios in
    let next : drop ((i + 1) * each) folios ≡ drop each rest = ap (λ n. drop n folios) (omega arith) ∙ sym (drop-drop each (i * each) folios) in
    (λ k. is-after k ++ flat_map f (next k))
    ∙ append_assoc text piece (flat_map f (drop each rest))
    ∙ ap (λ p. text ++ (p ++ flat_map f (drop each rest))) is-piece
    ∙ ap (λ t. text ++ t) (sym (flat_map-append f (take each rest) (drop each rest)) ∙ ap (flat_map f) (take-append-drop each rest))
    ∙ so-far
