-- A file has one standing.
use Rattle.std.proofs.Common.{◌≡◌, ◌≢◌, ◌⊎◌, inl, inr, ⊎_elim, ℕ, ◌≤◌, List, [], ◌∷◌, ◌++◌, length, take, drop, All, refl, sym, ◌∙◌, ap, ap₂, subst, arith, append_assoc, length-append}
use Rattle.std.proofs.lemmas.List.{take_at, drop_at}
use Rattle.std.proofs.lemmas.List.Elements.{All-head, All-tail}
use Rattle.std.proofs.lemmas.Nat.{from_be_bytes-to_be_bytes_4}
use Rattle.std.specs.Int.{w32, to_be_bytes, from_be_bytes}
use Rattle.journal_disk.specs.Standing.{Standing}
use Rattle.journal_disk.specs.Standing as standing
use Rattle.journal_disk.specs.Layout.{the_heading, IsBody, measured, frames, end_of, IsUnmade, IsMade, IsForeign, IsJournal, IsNoFrame, IsBad, HasStanding, StandsFor}
use Rattle.journal_disk.proofs.Keeping.{journal_not_unmade}

split_once : (x y s t : List ℕ) → length x ≡ length y → x ++ s ≡ y ++ t → (x ≡ y) × (s ≡ t)
split_once x y s t long same = (
  sym (take_at x s (length x) refl) ∙ ap (λ (l : List ℕ). take (length x) l) same ∙ take_at y t (length x) (sym long),
  sym (drop_at x s (length x) refl) ∙ ap (λ (l : List ℕ). drop (length x) l) same ∙ drop_at y t (length x) (sym long),
)

-- a length and a body can be read in one way only
measured_once : (x y s t : List ℕ) → IsBody x → IsBody y → measured x ++ s ≡ measured y ++ t → (x ≡ y) × (s ≡ t)
measured_once x y s t is_x is_y same =
    let heads : to_be_bytes w32 (length x) ≡ to_be_bytes w32 (length y) = ap (λ (l : List ℕ). take 4 l) same in
    let long : length x ≡ length y =
    sym (from_be_bytes-to_be_bytes_4 (length x) (omega (arith, is_x.not_long))) ∙ ap (from_be_bytes w32) heads ∙ from_be_bytes-to_be_bytes_4 (length y) (omega (arith, is_y.not_long)) in
    split_once x y s t long (ap (λ (l : List ℕ). drop 4 l) same)

-- what ends the frames: a gate that is not open, or an open one that no whole frame follows
unfoldable pub IsEnd : List ℕ → Type 0
IsEnd tail = (gate : ℕ) × (rest : List ℕ) × (tail ≡ gate ∷ rest) × ((gate ≢ 1) ⊎ ((gate ≡ 1) × IsNoFrame rest))

end_some : (tail : List ℕ) → IsEnd tail → 1 ≤ length tail
unfolding IsEnd
end_some tail ends = omega (arith, ap length ends.2)

-- a whole frame does not end the frames
frame_no_end : (body rest tail : List ℕ) → IsBody body → 1 ≤ length rest → tail ≡ 1 ∷ (measured body ++ rest) → IsEnd tail → ⊥
unfolding IsEnd
frame_no_end body rest tail is_body some whole ends =
    let same : ends.0 ∷ ends.1 ≡ 1 ∷ (measured body ++ rest) = sym ends.2 ∙ whole in
    let size : from_be_bytes w32 (to_be_bytes w32 (length body)) ≡ length body = from_be_bytes-to_be_bytes_4 (length body) (omega (arith, is_body.not_long)) in
    let gate : ends.0 ≡ 1 = cc in
    let behind : ends.1 ≡ measured body ++ rest = ap (λ (l : List ℕ). drop 1 l) same in
    ⊎_elim (λ closed. closed gate) (λ open_gate. none size (subst IsNoFrame behind open_gate.1)) ends.3
  where
    none : from_be_bytes w32 (to_be_bytes w32 (length body)) ≡ length body → IsNoFrame (measured body ++ rest) → ⊥
    none size (inl zero) = omega (arith, size, zero, is_body.not_empty)
    none size (inr (inl long)) = omega (arith, size, long, is_body.not_long)
    none size (inr (inr short)) = omega (arith, size, short, length-append body rest, some)

-- frames and what ends them can be read in one way only
frames_once : (a b : List (List ℕ)) (s t : List ℕ) → All IsBody a → All IsBody b → IsEnd s → IsEnd t → frames a ++ s ≡ frames b ++ t → (a ≡ b) × (s ≡ t)
frames_once [] [] s t all_a all_b end_s end_t same = (refl, same)
frames_once [] (y ∷ b) s t all_a all_b end_s end_t same =
    let whole : s ≡ 1 ∷ (measured y ++ (frames b ++ t)) = same ∙ ap (λ (l : List ℕ). 1 ∷ l) (append_assoc (measured y) (frames b) t) in
    absurd (frame_no_end y (frames b ++ t) s (All-head IsBody y b all_b) (omega (arith, length-append (frames b) t, end_some t end_t)) whole end_s)
frames_once (x ∷ a) [] s t all_a all_b end_s end_t same =
    let whole : t ≡ 1 ∷ (measured x ++ (frames a ++ s)) = sym same ∙ ap (λ (l : List ℕ). 1 ∷ l) (append_assoc (measured x) (frames a) s) in
    absurd (frame_no_end x (frames a ++ s) t (All-head IsBody x a all_a) (omega (arith, length-append (frames a) s, end_some s end_s)) whole end_t)
frames_once (x ∷ a) (y ∷ b) s t all_a all_b end_s end_t same =
    let cut : measured x ++ (frames a ++ s) ≡ measured y ++ (frames b ++ t) =
    sym (append_assoc (measured x) (frames a) s) ∙ ap (λ (l : List ℕ). drop 1 l) same ∙ append_assoc (measured y) (frames b) t in
    let here = measured_once x y (frames a ++ s) (frames b ++ t) (All-head IsBody x a all_a) (All-head IsBody y b all_b) cut in
    let rest = frames_once a b s t (All-tail IsBody x a all_a) (All-tail IsBody y b all_b) end_s end_t here.1 in
    (ap₂ (λ (z : List ℕ) (c : List (List ℕ)). z ∷ c) here.0 rest.0, rest.1)

-- the bytes of a file after its mark and heading are its frames and what follows them
behind_name : (file : List ℕ) (mark : ℕ) (bodies : List (List ℕ)) (tail : List ℕ) → file ≡ mark ∷ (the_heading ++ frames bodies ++ tail) → drop 9 file ≡ frames bodies ++ tail
behind_name file mark bodies tail whole = ap (λ (l : List ℕ). drop 9 l) whole

closed_end : (file : List ℕ) (bodies : List (List ℕ)) (is : IsJournal the_heading file bodies) → IsEnd (is.gate ∷ is.rest)
unfolding IsEnd
closed_end file bodies is = (is.gate, is.rest, refl, inl is.closed)

bad_end : (file : List ℕ) (bodies : List (List ℕ)) (is : IsBad the_heading file bodies) → IsEnd (1 ∷ is.rest)
unfolding IsEnd
bad_end file bodies is = (1, is.rest, refl, inr (refl, is.none))

pub journal_once : (file : List ℕ) (a b : List (List ℕ)) → IsJournal the_heading file a → IsJournal the_heading file b → a ≡ b
journal_once file a b is_a is_b =
    (frames_once a b _ _ is_a.sizes is_b.sizes (closed_end file a is_a) (closed_end file b is_b) (sym (behind_name file is_a.mark a _ is_a.whole) ∙ behind_name file is_b.mark b _ is_b.whole)).0

pub bad_once : (file : List ℕ) (a b : List (List ℕ)) → IsBad the_heading file a → IsBad the_heading file b → a ≡ b
bad_once file a b is_a is_b =
    (frames_once a b _ _ is_a.sizes is_b.sizes (bad_end file a is_a) (bad_end file b is_b) (sym (behind_name file is_a.mark a _ is_a.whole) ∙ behind_name file is_b.mark b _ is_b.whole)).0

pub journal_not_bad : (file : List ℕ) (a b : List (List ℕ)) → IsJournal the_heading file a → IsBad the_heading file b → ⊥
journal_not_bad file a b is_a is_b =
    let both = frames_once a b _ _ is_a.sizes is_b.sizes (closed_end file a is_a) (bad_end file b is_b) (sym (behind_name file is_a.mark a _ is_a.whole) ∙ behind_name file is_b.mark b _ is_b.whole) in
    let gates : is_a.gate ∷ is_a.rest ≡ 1 ∷ is_b.rest = both.1 in
    let gate : is_a.gate ≡ 1 = cc in
    is_a.closed gate

pub bad_not_unmade : (file : List ℕ) (ahead : List (List ℕ)) → IsBad the_heading file ahead → IsUnmade file → ⊥
bad_not_unmade [] ahead is unmade = let whole = is.whole in absurd cc
bad_not_unmade (mark ∷ []) ahead is unmade = let whole = is.whole in absurd cc
bad_not_unmade (mark ∷ next ∷ rest) ahead is unmade = let whole = is.whole in let same : mark ≡ is.mark = cc in is.made (sym same ∙ unmade)

pub stands_once : (file : List ℕ) (a b : List (List ℕ)) → StandsFor the_heading file a → StandsFor the_heading file b → a ≡ b
stands_once file a b (inl none_a) (inl none_b) = none_a.1 ∙ sym none_b.1
stands_once file a b (inl none_a) (inr is_b) = absurd (journal_not_unmade file b is_b none_a.0)
stands_once file a b (inr is_a) (inl none_b) = absurd (journal_not_unmade file a is_a none_b.0)
stands_once file a b (inr is_a) (inr is_b) = journal_once file a b is_a is_b

pub stands_not_bad : (file : List ℕ) (a b : List (List ℕ)) → StandsFor the_heading file a → IsBad the_heading file b → ⊥
stands_not_bad file a b (inl none_a) is_b = bad_not_unmade file b is_b none_a.0
stands_not_bad file a b (inr is_a) is_b = journal_not_bad file a b is_a is_b

pub journal_made : (file : List ℕ) (bodies : List (List ℕ)) → IsJournal the_heading file bodies → IsMade the_heading file
journal_made file bodies is = made bodies is.whole
  where
    made : (bodies : List (List ℕ)) → file ≡ is.mark ∷ (the_heading ++ frames bodies ++ is.gate ∷ is.rest) → IsMade the_heading file
    made [] whole = record { mark = is.mark; gate = is.gate; rest = is.rest; made = is.made; whole = whole }
    made (body ∷ more) whole = record { mark = is.mark; gate = 1; rest = measured body ++ frames more ++ is.gate ∷ is.rest; made = is.made; whole = whole }

pub bad_made : (file : List ℕ) (ahead : List (List ℕ)) → IsBad the_heading file ahead → IsMade the_heading file
bad_made file ahead is = made ahead is.whole
  where
    made : (bodies : List (List ℕ)) → file ≡ is.mark ∷ (the_heading ++ frames bodies ++ 1 ∷ is.rest) → IsMade the_heading file
    made [] whole = record { mark = is.mark; gate = 1; rest = is.rest; made = is.made; whole = whole }
    made (body ∷ more) whole = record { mark = is.mark; gate = 1; rest = measured body ++ frames more ++ 1 ∷ is.rest; made = is.made; whole = whole }

pub foreign_not_bad : (file : List ℕ) (ahead : List (List ℕ)) → IsForeign the_heading file → IsBad the_heading file ahead → ⊥
foreign_not_bad file ahead foreign is = foreign.not_made (bad_made file ahead is)

pub foreign_stands_not : (file : List ℕ) (bodies : List (List ℕ)) → IsForeign the_heading file → StandsFor the_heading file bodies → ⊥
foreign_stands_not file bodies foreign (inl none) = foreign.not_unmade none.0
foreign_stands_not file bodies foreign (inr is) = foreign.not_made (journal_made file bodies is)

pub standing_once : (file : List ℕ) (a b : Standing (List (List ℕ))) → HasStanding the_heading file a → HasStanding the_heading file b → a ≡ b
standing_once file standing.Unmade standing.Unmade is_a is_b = refl
standing_once file standing.Unmade standing.Foreign is_a is_b = absurd (is_b.not_unmade is_a)
standing_once file standing.Unmade (standing.Bad at) is_a is_b = absurd (bad_not_unmade file is_b.0 is_b.1 is_a)
standing_once file standing.Unmade (standing.Journal bodies) is_a is_b = absurd (journal_not_unmade file bodies is_b is_a)
standing_once file standing.Foreign standing.Unmade is_a is_b = absurd (is_a.not_unmade is_b)
standing_once file standing.Foreign standing.Foreign is_a is_b = refl
standing_once file standing.Foreign (standing.Bad at) is_a is_b = absurd (foreign_not_bad file is_b.0 is_a is_b.1)
standing_once file standing.Foreign (standing.Journal bodies) is_a is_b = absurd (is_a.not_made (journal_made file bodies is_b))
standing_once file (standing.Bad at) standing.Unmade is_a is_b = absurd (bad_not_unmade file is_a.0 is_a.1 is_b)
standing_once file (standing.Bad at) standing.Foreign is_a is_b = absurd (foreign_not_bad file is_a.0 is_b is_a.1)
standing_once file (standing.Bad at) (standing.Bad at') is_a is_b =
    ap (λ n. standing.Bad n) (is_a.2 ∙ ap (end_of the_heading) (bad_once file is_a.0 is_b.0 is_a.1 is_b.1) ∙ sym is_b.2)
standing_once file (standing.Bad at) (standing.Journal bodies) is_a is_b = absurd (journal_not_bad file bodies is_a.0 is_b is_a.1)
standing_once file (standing.Journal bodies) standing.Unmade is_a is_b = absurd (journal_not_unmade file bodies is_a is_b)
standing_once file (standing.Journal bodies) standing.Foreign is_a is_b = absurd (is_b.not_made (journal_made file bodies is_a))
standing_once file (standing.Journal bodies) (standing.Bad at) is_a is_b = absurd (journal_not_bad file bodies is_b.0 is_a is_b.1)
standing_once file (standing.Journal a) (standing.Journal b) is_a is_b = ap (λ (l : List (List ℕ)). standing.Journal l) (journal_once file a b is_a is_b)
