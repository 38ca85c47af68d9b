-- The lines of a head, byte by byte: its empty line is its end.
use Rattle.std.proofs.Common.{◌≡◌, ℕ, zero, suc, ◌+◌, ◌-◌, ◌<◌, ◌≤◌, inl, ⊎_elim, Bool, true, false, ◌==◌, List, [], ◌∷◌, ◌++◌, length, take, drop, Option, refl, sym, ap, subst, ◌∙◌, arith, append_assoc, append-nil, length-append}
use Rattle.std.specs.Prelude.{All}
use Rattle.std.specs.List.{flat_map}
use Rattle.std.proofs.lemmas.Bool.{cases_Bool, ne_eqb, false≢true}
use Rattle.std.proofs.lemmas.List.Elements.{All-head, All-tail}
use Rattle.httparse.specs.Grammar.{LineEnd, crlf, lf, print_end, print_blank, print_version, Field, print_field, IsField, RequestHead, print_request, IsRequestHead, ReadsRequest, HasNoRequest, EndsInTarget, IsToken, AllPass, is_token_byte, is_uri_byte, is_value_byte}
use Rattle.httparse.proofs.GrammarLemmas.{print_request-append}
use Rattle.httparse.proofs.PieceLemmas.{print_field-append}
use Rattle.registry_http.specs.declared.lines.Lines.{Lines}
use Rattle.registry_http.specs.declared.lines.Lines.TheVariants.{Ahead, AheadCr, Inside, Ended, EndedCr, Over}
use Rattle.registry_http.specs.inner.Lines.{after_byte, after_bytes, are_over, has_empty_line}
use Rattle.registry_http.specs.Requests.{HasNoHeadYet, LacksEnd, WantsMore, ReadsNext}
use Rattle.registry_http.specs.inner.Reading.{ReadsOn}
use Rattle.registry_http.specs.declared.requests.Next.TheVariants as next
use Rattle.std.specs.Io.KnownBytes.{IsAtEnd}
use Rattle.std.proofs.lemmas.List.{take_all}
use Rattle.std.proofs.Math.Seq.{drop-append_seam}
use Rattle.registry_http.proofs.EmptyLines.{after-append, after_then, over_stays, blank_ahead, no_line, found_line}
use Rattle.registry_http.proofs.ReadSoFar.{answer_then}
use Rattle.registry_http.proofs.OneRequest.{shorter_front}
use Rattle.registry_http.proofs.TargetEnds.{token_differs, lf_ends_token, cr_ends_token}

-- ---- where the lines are over

over_is : (l : Lines) → are_over l ≡ true → l ≡ Over
over_is Ahead is = absurd (false≢true is)
over_is AheadCr is = absurd (false≢true is)
over_is Inside is = absurd (false≢true is)
over_is Ended is = absurd (false≢true is)
over_is EndedCr is = absurd (false≢true is)
over_is Over is = refl

-- where an empty line came, more bytes change nothing
pub over_gone : (l : Lines) (bytes : List ℕ) → are_over l ≡ true → l ≡ after_bytes l bytes
over_gone l bytes is = let over = over_is l is in over ∙ sym (over_stays bytes) ∙ ap (λ x. after_bytes x bytes) (sym over)

-- the lines of bytes are over where those of a front of them are
pub over_front : (bytes more : List ℕ) → has_empty_line bytes ≡ true → has_empty_line (bytes ++ more) ≡ true
over_front bytes more is = ap are_over (after_then Ahead Over bytes more (over_is (after_bytes Ahead bytes) is) ∙ over_stays more)

-- where the lines of bytes are not over, those of a front of them are not
pub front_not_over : (bytes more whole : List ℕ) → bytes ++ more ≡ whole → has_empty_line whole ≡ false → has_empty_line bytes ≡ false
front_not_over bytes more whole is none =
    ⊎_elim (λ (over : has_empty_line bytes ≡ true). absurd (false≢true (sym none ∙ sym (ap has_empty_line is) ∙ over_front bytes more over)))
    (λ (not : has_empty_line bytes ≡ false). not)
    (cases_Bool (has_empty_line bytes))

-- ---- the parts of a head

test_differs : (test : ℕ → Bool) (b c : ℕ) → test b ≡ true → test c ≡ false → b ≡ c → ⊥
test_differs test b c pass other same = false≢true (sym other ∙ subst (λ (v : ℕ). test v ≡ true) same pass)

pass_inside : (test : ℕ → Bool) → test 10 ≡ false → (bytes : List ℕ) → AllPass test bytes → after_bytes Inside bytes ≡ Inside
pass_inside test stop [] all = refl
pass_inside test stop (b ∷ bytes) all =
    rw (ne_eqb b 10 (test_differs test b 10 (All-head (λ v. test v ≡ true) b bytes all) stop))
    (pass_inside test stop bytes (All-tail (λ v. test v ≡ true) b bytes all))

ahead_inside : (b : ℕ) → is_token_byte b ≡ true → after_byte Ahead b ≡ Inside
ahead_inside b token = rw (ne_eqb b 10 (token_differs b 10 token lf_ends_token), ne_eqb b 13 (token_differs b 13 token cr_ends_token)) refl

ended_inside : (b : ℕ) → is_token_byte b ≡ true → after_byte Ended b ≡ Inside
ended_inside b token = rw (ne_eqb b 10 (token_differs b 10 token lf_ends_token), ne_eqb b 13 (token_differs b 13 token cr_ends_token)) refl

token_inside : (l : Lines) → ((b : ℕ) → is_token_byte b ≡ true → after_byte l b ≡ Inside) → (token : List ℕ) → IsToken token → after_bytes l token ≡ Inside
token_inside l first [] token = absurd (omega (arith, token.0))
token_inside l first (b ∷ bytes) token =
    ap (λ x. after_bytes x bytes) (first b (All-head (λ v. is_token_byte v ≡ true) b bytes token.1))
    ∙ pass_inside is_token_byte lf_ends_token bytes (All-tail (λ v. is_token_byte v ≡ true) b bytes token.1)

version_inside : (minor : ℕ) → after_bytes Inside (print_version minor) ≡ Inside
version_inside minor = rw (ne_eqb (48 + minor) 10 (λ e. absurd (omega (arith, e)))) refl

end_ended : (e : LineEnd) → after_bytes Inside (print_end e) ≡ Ended
end_ended crlf = refl
end_ended lf = refl

end_over : (e : LineEnd) → after_bytes Ended (print_end e) ≡ Over
end_over crlf = refl
end_over lf = refl

field_ended : (f : Field) (rest : List ℕ) → IsField f → after_bytes Ended (print_field f ++ rest) ≡ after_bytes Ended rest
field_ended f rest is =
    ap (after_bytes Ended) (print_field-append f rest)
    ∙ after_then Ended Inside f.name (58 ∷ (f.raw ++ (print_end f.end ++ rest))) (token_inside Ended ended_inside f.name is.name)
    ∙ after_then Inside Inside f.raw (print_end f.end ++ rest) (pass_inside is_value_byte refl f.raw is.raw)
    ∙ after_then Inside Ended (print_end f.end) rest (end_ended f.end)

fields_ended : (fs : List Field) → All IsField fs → after_bytes Ended (flat_map print_field fs) ≡ Ended
fields_ended [] all = refl
fields_ended (f ∷ fs) all =
    field_ended f (flat_map print_field fs) (All-head IsField f fs all) ∙ fields_ended fs (All-tail IsField f fs all)

-- a head without its empty line
abbrev lines_of : RequestHead → List ℕ
lines_of h =
    print_blank h.blank ++ (h.method ++ 32 ∷ (h.target ++ 32 ∷ (print_version h.minor ++ (print_end h.line_end ++ flat_map print_field h.fields))))

lines_ended : (h : RequestHead) → IsRequestHead h → after_bytes Ahead (lines_of h) ≡ Ended
lines_ended h is =
    let fields = flat_map print_field h.fields in
    let version = print_version h.minor ++ (print_end h.line_end ++ fields) in
    after_then Ahead Ahead (print_blank h.blank) (h.method ++ 32 ∷ (h.target ++ 32 ∷ version)) (blank_ahead h.blank)
    ∙ after_then Ahead Inside h.method (32 ∷ (h.target ++ 32 ∷ version)) (token_inside Ahead ahead_inside h.method is.method)
    ∙ after_then Inside Inside h.target (32 ∷ version) (pass_inside is_uri_byte refl h.target is.target.1)
    ∙ after_then Inside Inside (print_version h.minor) (print_end h.line_end ++ fields) (version_inside h.minor)
    ∙ after_then Inside Ended (print_end h.line_end) fields (end_ended h.line_end)
    ∙ fields_ended h.fields is.fields

regroup : (a b c d e f g r : List ℕ)
    → a ++ (b ++ 32 ∷ (c ++ 32 ∷ (d ++ (e ++ ((f ++ g) ++ r))))) ≡ (a ++ (b ++ 32 ∷ (c ++ 32 ∷ (d ++ (e ++ f))))) ++ (g ++ r)
regroup a b c d e f g r = simp append_assoc

lines_and_end : (h : RequestHead) (rest : List ℕ) → print_request h ++ rest ≡ lines_of h ++ (print_end h.last ++ rest)
lines_and_end h rest =
    print_request-append h rest
    ∙ regroup (print_blank h.blank) h.method h.target (print_version h.minor) (print_end h.line_end) (flat_map print_field h.fields) (print_end h.last) rest

-- ---- heads

-- a whole head has an empty line
pub whole_over : (bytes : List ℕ) (h : RequestHead) (behind : List ℕ) → ReadsRequest bytes h behind → has_empty_line bytes ≡ true
whole_over bytes h behind reads =
    ap has_empty_line (reads.1 ∙ lines_and_end h behind)
    ∙ ap are_over
    (after_then Ahead Ended (lines_of h) (print_end h.last ++ behind) (lines_ended h reads.0)
    ∙ after_then Ended Over (print_end h.last) behind (end_over h.last)
    ∙ over_stays behind)

-- a line end without its LF
abbrev end_front : LineEnd → List ℕ
end_front crlf = 13 ∷ []
end_front lf = []

end_parts : (e : LineEnd) → print_end e ≡ end_front e ++ 10 ∷ []
end_parts crlf = refl
end_parts lf = refl

front_open : (e : LineEnd) → are_over (after_bytes Ended (end_front e)) ≡ false
front_open crlf = refl
front_open lf = refl

-- a head without its last byte
abbrev all_but_one : RequestHead → List ℕ
all_but_one h = lines_of h ++ end_front h.last

one_more : (h : RequestHead) → print_request h ≡ all_but_one h ++ 10 ∷ []
one_more h =
    sym (append-nil (print_request h)) ∙ lines_and_end h [] ∙ ap (λ l. lines_of h ++ l) (append-nil (print_end h.last) ∙ end_parts h.last)
    ∙ sym (append_assoc (lines_of h) (end_front h.last) (10 ∷ []))

all_but_one_open : (h : RequestHead) → IsRequestHead h → has_empty_line (all_but_one h) ≡ false
all_but_one_open h is =
    ap are_over (after_then Ahead Ended (lines_of h) (end_front h.last) (lines_ended h is)) ∙ front_open h.last

-- a part of a head has no empty line
pub part_not_over : (bytes more : List ℕ) (h : RequestHead) → IsRequestHead h → bytes ++ more ≡ print_request h → 0 < length more → has_empty_line bytes ≡ false
part_not_over bytes more h is whole some =
    let parts : bytes ++ more ≡ all_but_one h ++ 10 ∷ [] = whole ∙ one_more h in
    let within : length bytes ≤ length (all_but_one h) =
    omega (arith, some, ap length parts, length-append bytes more, length-append (all_but_one h) (10 ∷ [])) in
    front_not_over bytes (drop (length bytes) (all_but_one h)) (all_but_one h)
    (shorter_front bytes more (all_but_one h) (10 ∷ []) parts within) (all_but_one_open h is)

target_not_over : (bytes : List ℕ) → EndsInTarget bytes → has_empty_line bytes ≡ false
target_not_over bytes ends =
    ap has_empty_line (ends.5 ∙ append_assoc (print_blank ends.0) ends.1 (32 ∷ ends.2))
    ∙ ap are_over
    (after_then Ahead Ahead (print_blank ends.0) (ends.1 ++ 32 ∷ ends.2) (blank_ahead ends.0)
    ∙ after_then Ahead Inside ends.1 (32 ∷ ends.2) (token_inside Ahead ahead_inside ends.1 ends.3)
    ∙ pass_inside is_uri_byte refl ends.2 ends.4)

some_more : (bytes more : List ℕ) (h : RequestHead) → HasNoRequest bytes → ReadsRequest (bytes ++ more) h [] → 0 < length more
some_more bytes [] h none reads = absurd (none h [] (subst (λ l. ReadsRequest l h []) (append-nil bytes) reads))
some_more bytes (b ∷ more) h none reads = omega arith

-- bytes that may become a head lack its end
pub yet_lacks_end : (bytes : List ℕ) → HasNoHeadYet bytes → LacksEnd bytes
yet_lacks_end bytes x = (
  x.room,
  no_line bytes (⊎_elim
      (λ (may : (more : List ℕ) × (h : RequestHead) × ReadsRequest (bytes ++ more) h []).
      part_not_over bytes may.0 may.1 may.2.0 (may.2.1 ∙ append-nil (print_request may.1)) (some_more bytes may.0 may.1 x.none may.2))
      (λ (ends : EndsInTarget bytes). target_not_over bytes ends)
      x.may_come),
)

pub nothing_lacks_end : (bytes : List ℕ) → bytes ≡ [] → LacksEnd bytes
nothing_lacks_end bytes empty = (omega (arith, ap length empty), no_line bytes (ap has_empty_line empty))

-- bytes that lack the end of a head have no head
pub lacks_end_no_head : (bytes : List ℕ) (h : RequestHead) (behind : List ℕ) → LacksEnd bytes → ReadsRequest bytes h behind → ⊥
lacks_end_no_head bytes h behind lacks reads = lacks.1 (found_line bytes (whole_over bytes h behind reads))

-- ---- bytes that are read on

-- fewer bytes than a head may have, and no empty line
pub open_lines : (bytes : List ℕ) (lines : Lines) (over : Bool) → length bytes < 8192 → lines ≡ after_bytes Ahead bytes → over ≡ are_over lines → over ≡ false
    → WantsMore bytes
open_lines bytes lines over room is over_is not = inl (room, no_line bytes (sym (ap are_over is) ∙ sym over_is ∙ not))

-- bytes whose lines are over do not lack their end
pub over_lines : (bytes : List ℕ) (lines : Lines) (over : Bool) → lines ≡ after_bytes Ahead bytes → over ≡ are_over lines → over ≡ true → ¬ (LacksEnd bytes)
over_lines bytes lines over is over_is yes_over lacks = lacks.1 (found_line bytes (ap are_over (sym is) ∙ sym over_is ∙ yes_over))

-- the lines of bytes that grew
pub lines_on : (mid new seen read : List ℕ) (lines now : Lines) (looked : ℕ) → now ≡ after_bytes lines (take (length seen - looked) (drop looked seen)) → seen ≡ new
    → looked ≡ length mid → lines ≡ after_bytes Ahead mid → new ≡ mid ++ read → now ≡ after_bytes Ahead new
lines_on mid new seen read lines now looked now_is seen_is looked_is lines_is grown =
    let same : seen ≡ mid ++ read = seen_is ∙ grown in
    let behind : drop looked seen ≡ read = ap (λ n. drop n seen) looked_is ∙ ap (drop (length mid)) same ∙ drop-append_seam mid read in
    let all : take (length seen - looked) (drop looked seen) ≡ read =
    ap (take (length seen - looked)) behind ∙ take_all (length seen - looked) read (omega (arith, ap length same, length-append mid read, looked_is)) in
    now_is ∙ ap (after_bytes lines) all ∙ ap (λ l. after_bytes l read) lines_is ∙ sym (after-append Ahead mid read) ∙ ap (after_bytes Ahead) (sym grown)

positive : (n : ℕ) → (n == 0) ≡ false → 0 < n
positive zero not = absurd (false≢true (sym not))
positive (suc n) not = omega arith

-- the link ended inside what may become a head
pub cut_head : (a b : Option (List ℕ)) (old bytes seen : List ℕ) (len : ℕ) (empty : Bool) → ReadsOn a b old bytes → HasNoHeadYet seen → seen ≡ bytes
    → len ≡ length bytes → empty ≡ (len == 0) → empty ≡ false → (LacksEnd bytes → IsAtEnd b) → ReadsNext a b old bytes next.Cut
cut_head a b old bytes seen len empty reads yet same len_is empty_is not end =
    let here = subst HasNoHeadYet same yet in
    let some = positive len (sym empty_is ∙ not) in
    answer_then a b old bytes next.Cut reads ((omega (arith, some, len_is), inl here), end (yet_lacks_end bytes here))
