-- The empty line of a head: as the definition says it, and as it is found byte by byte.
use Rattle.std.proofs.Common.{◌≡◌, ℕ, ◌⊎◌, inl, inr, ⊎_elim, Bool, true, false, ◌==◌, ◌||◌, ◌&&◌, if◌then◌else◌, List, [], ◌∷◌, ◌++◌, refl, sym, ap, ◌∙◌, append_assoc}
use Rattle.std.proofs.lemmas.Bool.{eqb-true, false≢true}
use Rattle.httparse.specs.Grammar.{LineEnd, crlf, lf, print_end, print_blank}
use Rattle.registry_http.specs.declared.lines.Lines.{Lines}
use Rattle.registry_http.specs.declared.lines.Lines.TheVariants.{Ahead, AheadCr, Inside, Ended, EndedCr, Over}
use Rattle.registry_http.specs.Lines.{begins_with_end, HasEmptyLine}
use Rattle.registry_http.specs.inner.Lines.{after_byte, after_bytes, are_over, has_empty_line}

-- ---- one list of bytes behind another

pub after-append : (lines : Lines) (a b : List ℕ) → after_bytes lines (a ++ b) ≡ after_bytes (after_bytes lines a) b
after-append lines [] b = refl
after-append lines (x ∷ a) b = after-append (after_byte lines x) a b

pub after_then : (l m : Lines) (a b : List ℕ) → after_bytes l a ≡ m → after_bytes l (a ++ b) ≡ after_bytes m b
after_then l m a b is = after-append l a b ∙ ap (λ x. after_bytes x b) is

pub over_stays : (bytes : List ℕ) → after_bytes Over bytes ≡ Over
over_stays [] = refl
over_stays (b ∷ bytes) = over_stays bytes

pub blank_ahead : (ends : List LineEnd) → after_bytes Ahead (print_blank ends) ≡ Ahead
blank_ahead [] = refl
blank_ahead (crlf ∷ ends) = blank_ahead ends
blank_ahead (lf ∷ ends) = blank_ahead ends

-- ---- an empty line by the definition is found byte by byte

-- there is a line that is not empty
abbrev is_past : Lines → Bool
is_past Ahead = false
is_past AheadCr = false
is_past Inside = true
is_past Ended = true
is_past EndedCr = true
is_past Over = true

past_if : (t : Bool) (l m : Lines) → is_past l ≡ true → is_past m ≡ true → is_past (if t then l else m) ≡ true
past_if true l m p q = p
past_if false l m p q = q

past_byte : (l : Lines) (b : ℕ) → is_past l ≡ true → is_past (after_byte l b) ≡ true
past_byte Ahead b p = absurd (false≢true p)
past_byte AheadCr b p = absurd (false≢true p)
past_byte Inside b p = past_if (b == 10) Ended Inside refl refl
past_byte Ended b p = past_if (b == 10) Over (if b == 13 then EndedCr else Inside) refl (past_if (b == 13) EndedCr Inside refl refl)
past_byte EndedCr b p = past_if (b == 10) Over Inside refl refl
past_byte Over b p = refl

past_stays : (l : Lines) (bytes : List ℕ) → is_past l ≡ true → is_past (after_bytes l bytes) ≡ true
past_stays l [] p = p
past_stays l (b ∷ bytes) p = past_stays (after_byte l b) bytes (past_byte l b p)

past_end : (l : Lines) (e : LineEnd) (rest : List ℕ) → is_past l ≡ true → are_over (after_bytes l (10 ∷ (print_end e ++ rest))) ≡ true
past_end Ahead e rest p = absurd (false≢true p)
past_end AheadCr e rest p = absurd (false≢true p)
past_end Inside crlf rest p = ap are_over (over_stays rest)
past_end Inside lf rest p = ap are_over (over_stays rest)
past_end Ended crlf rest p = ap are_over (over_stays rest)
past_end Ended lf rest p = ap are_over (over_stays rest)
past_end EndedCr crlf rest p = ap are_over (over_stays rest)
past_end EndedCr lf rest p = ap are_over (over_stays rest)
past_end Over e rest p = ap are_over (over_stays (print_end e ++ rest))

past_one : (t u : Bool) → (t || (u && true)) ≡ false → is_past (if t then Ahead else (if u then AheadCr else Inside)) ≡ true
past_one true u not = absurd (false≢true (sym not))
past_one false true not = absurd (false≢true (sym not))
past_one false false not = refl

past_two : (t u v : Bool) (c : ℕ) (rest : List ℕ) → (c == 10) ≡ v → (t || (u && v)) ≡ false
    → is_past (after_bytes (if t then Ahead else (if u then AheadCr else Inside)) (c ∷ rest)) ≡ true
past_two true u v c rest is not = absurd (false≢true (sym not))
past_two false true true c rest is not = absurd (false≢true (sym not))
past_two false true false c rest is not =
    ap (λ w. is_past (after_bytes (if w then Ahead else Inside) rest)) is ∙ past_stays Inside rest refl
past_two false false v c rest is not = past_stays Inside (c ∷ rest) refl

past_lines : (lines : List ℕ) → begins_with_end (lines ++ 10 ∷ []) ≡ false → is_past (after_bytes Ahead lines) ≡ true
past_lines [] not = absurd (false≢true (sym not))
past_lines (b ∷ []) not = past_one (b == 10) (b == 13) not
past_lines (b ∷ c ∷ lines) not = past_two (b == 10) (b == 13) (c == 10) c lines refl not

line_found : (bytes : List ℕ) → HasEmptyLine bytes → has_empty_line bytes ≡ true
line_found bytes x =
    let behind = 10 ∷ (print_end x.end ++ x.rest) in
    ap has_empty_line x.bytes_are
    ∙ ap are_over (after_then Ahead Ahead (print_blank x.blank) (x.lines ++ behind) (blank_ahead x.blank) ∙ after-append Ahead x.lines behind)
    ∙ past_end (after_bytes Ahead x.lines) x.end x.rest (past_lines x.lines x.first_is_some)

pub no_line : (bytes : List ℕ) → has_empty_line bytes ≡ false → ¬ (HasEmptyLine bytes)
no_line bytes not x = false≢true (sym not ∙ line_found bytes x)

-- ---- an empty line that is found byte by byte is one by the definition

-- lines up to an LF, and a line end right behind it
record Ends (bytes : List ℕ) : Type 0 where
  lines : List ℕ
  end : LineEnd
  rest : List ℕ
  bytes_are : bytes ≡ lines ++ 10 ∷ (print_end end ++ rest)

ends_on : (b : ℕ) (bytes : List ℕ) → Ends bytes → Ends (b ∷ bytes)
ends_on b bytes x = record { lines = b ∷ x.lines; end = x.end; rest = x.rest; bytes_are = ap (λ l. b ∷ l) x.bytes_are }

-- the bytes begin with a line end
abbrev AtEnd : List ℕ → Type 0
AtEnd bytes = (end : LineEnd) × (rest : List ℕ) × (bytes ≡ print_end end ++ rest)

-- the bytes begin with an LF
abbrev AtLf : List ℕ → Type 0
AtLf bytes = (rest : List ℕ) × (bytes ≡ 10 ∷ rest)

-- what the bytes are where they bring the lines to their end
record Found (bytes : List ℕ) : Type 0 where
  inside : are_over (after_bytes Inside bytes) ≡ true → Ends bytes
  ended : are_over (after_bytes Ended bytes) ≡ true → AtEnd bytes ⊎ Ends bytes
  ended_cr : are_over (after_bytes EndedCr bytes) ≡ true → AtLf bytes ⊎ Ends bytes

inside_at : (t : Bool) (b : ℕ) (bytes : List ℕ) → Found bytes → (b == 10) ≡ t → are_over (after_bytes (if t then Ended else Inside) bytes) ≡ true → Ends (b ∷ bytes)
inside_at true b bytes f is over =
    ⊎_elim
    (λ (at : AtEnd bytes).
    record { lines = []; end = at.0; rest = at.1; bytes_are = ap (λ x. x ∷ bytes) (eqb-true b 10 is) ∙ ap (λ l. 10 ∷ l) at.2 })
    (λ (ends : Ends bytes). ends_on b bytes ends) (f.ended over)
inside_at false b bytes f is over = ends_on b bytes (f.inside over)

ended_at : (t u : Bool) (b : ℕ) (bytes : List ℕ) → Found bytes → (b == 10) ≡ t → (b == 13) ≡ u
    → are_over (after_bytes (if t then Over else (if u then EndedCr else Inside)) bytes) ≡ true → AtEnd (b ∷ bytes) ⊎ Ends (b ∷ bytes)
ended_at true u b bytes f is_lf is_cr over = inl (lf, bytes, ap (λ x. x ∷ bytes) (eqb-true b 10 is_lf))
ended_at false true b bytes f is_lf is_cr over =
    ⊎_elim
    (λ (at : AtLf bytes). inl (crlf, at.0, ap (λ x. x ∷ bytes) (eqb-true b 13 is_cr) ∙ ap (λ l. 13 ∷ l) at.1))
    (λ (ends : Ends bytes). inr (ends_on b bytes ends)) (f.ended_cr over)
ended_at false false b bytes f is_lf is_cr over = inr (ends_on b bytes (f.inside over))

ended_cr_at : (t : Bool) (b : ℕ) (bytes : List ℕ) → Found bytes → (b == 10) ≡ t → are_over (after_bytes (if t then Over else Inside) bytes) ≡ true
    → AtLf (b ∷ bytes) ⊎ Ends (b ∷ bytes)
ended_cr_at true b bytes f is over = inl (bytes, ap (λ x. x ∷ bytes) (eqb-true b 10 is))
ended_cr_at false b bytes f is over = inr (ends_on b bytes (f.inside over))

found : (bytes : List ℕ) → Found bytes
found [] = record {
  inside = λ over. absurd (false≢true over);
  ended = λ over. absurd (false≢true over);
  ended_cr = λ over. absurd (false≢true over);
}
found (b ∷ bytes) = record {
  inside = λ over. inside_at (b == 10) b bytes (found bytes) refl over;
  ended = λ over. ended_at (b == 10) (b == 13) b bytes (found bytes) refl refl over;
  ended_cr = λ over. ended_cr_at (b == 10) b bytes (found bytes) refl over;
}

-- behind a CR that stands before all lines: an LF, or the second byte of a line
abbrev BehindCr : List ℕ → Type 0
BehindCr bytes =
    ((rest : List ℕ) × (bytes ≡ 10 ∷ rest) × HasEmptyLine rest)
    ⊎ ((c : ℕ) × (rest : List ℕ) × (bytes ≡ c ∷ rest) × ((c == 10) ≡ false) × Ends rest)

record Begun (bytes : List ℕ) : Type 0 where
  ahead : are_over (after_bytes Ahead bytes) ≡ true → HasEmptyLine bytes
  ahead_cr : are_over (after_bytes AheadCr bytes) ≡ true → BehindCr bytes

no_end : (b : ℕ) (lines : List ℕ) → (b == 10) ≡ false → (b == 13) ≡ false → begins_with_end (b ∷ (lines ++ 10 ∷ [])) ≡ false
no_end b [] no_lf no_cr = rw (no_lf, no_cr) refl
no_end b (c ∷ lines) no_lf no_cr = rw (no_lf, no_cr) refl

no_crlf : (b c : ℕ) (lines : List ℕ) → (b == 10) ≡ false → (b == 13) ≡ true → (c == 10) ≡ false → begins_with_end (b ∷ c ∷ (lines ++ 10 ∷ [])) ≡ false
no_crlf b c lines no_lf is_cr not = rw (no_lf, is_cr, not) refl

ahead_at : (t u : Bool) (b : ℕ) (bytes : List ℕ) → Begun bytes → (b == 10) ≡ t → (b == 13) ≡ u
    → are_over (after_bytes (if t then Ahead else (if u then AheadCr else Inside)) bytes) ≡ true → HasEmptyLine (b ∷ bytes)
ahead_at true u b bytes f is_lf is_cr over =
    let x = f.ahead over in
    record {
      blank = lf ∷ x.blank;
      lines = x.lines;
      end = x.end;
      rest = x.rest;
      bytes_are = ap (λ y. y ∷ bytes) (eqb-true b 10 is_lf) ∙ ap (λ l. 10 ∷ l) x.bytes_are;
      first_is_some = x.first_is_some;
    }
ahead_at false true b bytes f is_lf is_cr over =
    ⊎_elim
    (λ (at : (rest : List ℕ) × (bytes ≡ 10 ∷ rest) × HasEmptyLine rest).
    record {
      blank = crlf ∷ at.2.blank;
      lines = at.2.lines;
      end = at.2.end;
      rest = at.2.rest;
      bytes_are = ap (λ y. y ∷ bytes) (eqb-true b 13 is_cr) ∙ ap (λ l. 13 ∷ l) (at.1 ∙ ap (λ l. 10 ∷ l) at.2.bytes_are);
      first_is_some = at.2.first_is_some;
    })
    (λ (on : (c : ℕ) × (rest : List ℕ) × (bytes ≡ c ∷ rest) × ((c == 10) ≡ false) × Ends rest).
    record {
      blank = [];
      lines = b ∷ on.0 ∷ on.4.lines;
      end = on.4.end;
      rest = on.4.rest;
      bytes_are = ap (λ l. b ∷ l) (on.2 ∙ ap (λ l. on.0 ∷ l) on.4.bytes_are);
      first_is_some = no_crlf b on.0 on.4.lines is_lf is_cr on.3;
    }) (f.ahead_cr over)
ahead_at false false b bytes f is_lf is_cr over =
    let ends = (found bytes).inside over in
    record {
      blank = [];
      lines = b ∷ ends.lines;
      end = ends.end;
      rest = ends.rest;
      bytes_are = ap (λ l. b ∷ l) ends.bytes_are;
      first_is_some = no_end b ends.lines is_lf is_cr;
    }

ahead_cr_at : (t : Bool) (b : ℕ) (bytes : List ℕ) → Begun bytes → (b == 10) ≡ t → are_over (after_bytes (if t then Ahead else Inside) bytes) ≡ true → BehindCr (b ∷ bytes)
ahead_cr_at true b bytes f is over = inl (bytes, ap (λ x. x ∷ bytes) (eqb-true b 10 is), f.ahead over)
ahead_cr_at false b bytes f is over = inr (b, bytes, refl, is, (found bytes).inside over)

begun : (bytes : List ℕ) → Begun bytes
begun [] = record { ahead = λ over. absurd (false≢true over); ahead_cr = λ over. absurd (false≢true over) }
begun (b ∷ bytes) = record {
  ahead = λ over. ahead_at (b == 10) (b == 13) b bytes (begun bytes) refl refl over;
  ahead_cr = λ over. ahead_cr_at (b == 10) b bytes (begun bytes) refl over;
}

pub found_line : (bytes : List ℕ) → has_empty_line bytes ≡ true → HasEmptyLine bytes
found_line bytes over = (begun bytes).ahead over

regroup : (a b c d e : List ℕ) → (a ++ (b ++ 10 ∷ (c ++ d))) ++ e ≡ a ++ (b ++ 10 ∷ (c ++ (d ++ e)))
regroup a b c d e = simp append_assoc

-- a front of bytes without an empty line has none
pub no_line_in_front : (bytes more : List ℕ) → ¬ (HasEmptyLine (bytes ++ more)) → ¬ (HasEmptyLine bytes)
no_line_in_front bytes more none x = none (record {
  blank = x.blank;
  lines = x.lines;
  end = x.end;
  rest = x.rest ++ more;
  bytes_are = ap (λ l. l ++ more) x.bytes_are ∙ regroup (print_blank x.blank) x.lines (print_end x.end) x.rest more;
  first_is_some = x.first_is_some;
})
