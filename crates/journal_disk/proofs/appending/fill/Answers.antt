use Rattle.std.proofs.Common.{◌≡◌, ℕ, suc, ◌+◌, ◌-◌, List, [], ◌∷◌, ◌++◌, length, take, drop, set, ◌∙◌, ap, ap₂, arith, length-append, length-drop}
use Rattle.std.proofs.lemmas.List.{set_split, take_at, drop_all}
use Rattle.std.proofs.lemmas.Slice.{take-put_mid}
use borrow.Rule.Slice.PartMut.{put_mid, post_of}
use Rattle.journal_disk.proofs.appending.fill.Goals as goal

-- a list whose head, middle and last element were written is these, in this order
filled : (old head middle : List ℕ) (k size : ℕ) → length head ≡ 4 → length middle ≡ size → length old ≡ 5 + size → k ≡ size
    → set (put_mid 4 k (head ++ drop 4 old) middle) (4 + size) 0 ≡ head ++ middle ++ 0 ∷ []
filled old head middle k size four sized room is =
    let xs = head ++ drop 4 old in
    let long : length xs ≡ 5 + size = omega (arith, four, room, length-append head (drop 4 old), length-drop 4 old) in
    let all = put_mid 4 k xs middle in
    let front : take 4 xs ≡ head = take_at head (drop 4 old) 4 four in
    let last : length (post_of 4 k xs) ≡ 1 = omega (arith, length-drop k (drop 4 xs), length-drop 4 xs, long, is) in
    let whole : length all ≡ 5 + size =
    omega (arith, length-append (take 4 xs) (middle ++ post_of 4 k xs), length-append middle (post_of 4 k xs), ap length front, four, sized, last) in
    set_split all (4 + size) 0 (omega (arith, whole))
    ∙ ap (λ (l : List ℕ). take (4 + size) all ++ 0 ∷ l) (drop_all (suc (4 + size)) all (omega (arith, whole)))
    ∙ ap (λ (l : List ℕ). l ++ 0 ∷ []) (take-put_mid 4 k xs middle (4 + size) (omega (arith, sized)) (omega (arith, long)) ∙ ap (λ (l : List ℕ). l ++ middle) front)

pub returns : goal.returns
returns c =
    let four : length c.copy_from_slice.new.self ≡ 4 = ap length (c.copy_from_slice.ensures.after ∙ c.to_be_bytes.ensures) in
    filled c.args.behind.now c.copy_from_slice.new.self c.copy_from_slice-2.new.self (4 + length c.args.body.now - 4) (length c.args.body.now)
    four (ap length c.copy_from_slice-2.ensures.after) c.requires.room (omega arith)
    ∙ ap₂ (λ (a b : List ℕ). a ++ b ++ 0 ∷ []) (c.copy_from_slice.ensures.after ∙ c.to_be_bytes.ensures) c.copy_from_slice-2.ensures.after
