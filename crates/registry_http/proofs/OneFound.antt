-- Only one thing stands at the front of bytes.
use Rattle.std.proofs.Common.{◌≡◌, ℕ, ◌<◌, ◌≤◌, ⊎_elim, true, List, [], ◌∷◌, ◌++◌, length, take, Option, Some, refl, sym, ap, ◌∙◌, arith, length-append}
use Rattle.std.proofs.lemmas.Bool.{false≢true}
use Rattle.std.proofs.lemmas.List.{take_at, append_cancel_left}
use Rattle.std.proofs.lemmas.List.Elements.{All-nil, All-cons}
use Rattle.httparse.specs.Grammar.{print_blank, print_version, print_end, print_section, RequestHead, ReadsRequest, NeverHasRequest, EndsInTarget, is_token_byte}
use Rattle.httparse.proofs.GrammarLemmas.{print_request-append, request_unique}
use Rattle.httparse.proofs.OpenLemmas.{letter_is_token}
use Rattle.registry_http.specs.RequestParts.{RequestParts}
use Rattle.registry_http.specs.Heads.{is_refused, body_length}
use Rattle.registry_http.specs.Requests.{BeginsWith, BeginsRequest, HasNoHead, HasNoHeadYet, LacksBody, AtFront, Whole, Nothing, Cut, HeadFault, BodyTooLong, StandsIn, request_of}
use Rattle.registry_http.proofs.WholeHeads.{head_in_front, head_has_bytes}
use Rattle.registry_http.proofs.OneRequest.{may_come}

-- ---- what cannot stand together

pub head_is_some : (bytes : List ℕ) (h : RequestHead) (behind : List ℕ) → BeginsWith bytes h behind → 0 < length bytes
head_is_some bytes h behind b =
    let lengths = head_has_bytes (print_blank h.blank) h.method h.target (print_version h.minor ++ (print_end h.line_end ++ (print_section h.fields h.last ++ behind))) in
    omega (arith, ap length b.reads.1, ap length (print_request-append h behind), lengths)

head_or_none : (bytes : List ℕ) (h : RequestHead) (behind : List ℕ) → BeginsWith bytes h behind → HasNoHead bytes → ⊥
head_or_none bytes h behind b none = none.none h _ (head_in_front bytes 8192 h behind b.reads b.fits)

pub head_or_not_yet : (bytes : List ℕ) (h : RequestHead) (behind : List ℕ) → BeginsWith bytes h behind → HasNoHeadYet bytes → ⊥
head_or_not_yet bytes h behind b none = none.none h behind b.reads

never_or_yet : (bytes : List ℕ) → HasNoHead bytes → HasNoHeadYet bytes → ⊥
never_or_yet bytes x y =
    ⊎_elim (λ (full : 8192 ≤ length bytes). let room = y.room in absurd (omega (arith, full, room)))
    (λ (never : NeverHasRequest bytes × ¬ (EndsInTarget bytes)).
    ⊎_elim (λ (may : (more : List ℕ) × (h : RequestHead) × ReadsRequest (bytes ++ more) h []). never.0 may.0 may.1 [] may.2)
    (λ (ends : EndsInTarget bytes). never.1 ends) y.may_come)
    x.none_comes

nothing_or_none : (bytes : List ℕ) → bytes ≡ [] → HasNoHead bytes → ⊥
nothing_or_none bytes empty x =
    ⊎_elim (λ (full : 8192 ≤ length bytes). absurd (omega (arith, full, ap length empty)))
    (λ (never : NeverHasRequest bytes × ¬ (EndsInTarget bytes)).
    may_come bytes (65 ∷ []) [] (65 ∷ []) (omega arith, All-cons (λ v. is_token_byte v ≡ true) 65 [] letter_is_token (All-nil (λ v. is_token_byte v ≡ true)))
    (ap (λ l. l ++ 65 ∷ []) empty) never.0)
    x.none_comes

pub taken_or_refused : (bytes : List ℕ) (h k : RequestHead) (behind rest : List ℕ) (size : ℕ) → BeginsRequest bytes h behind size → BeginsWith bytes k rest → is_refused k ≡ true → ⊥
taken_or_refused bytes h k behind rest size x y refused =
    let same = request_unique bytes h k behind rest x.head.reads y.reads in
    false≢true (sym x.taken ∙ ap is_refused same.0 ∙ refused)

same_size : (s t : ℕ) (o : Option ℕ) → o ≡ Some s → o ≡ Some t → s ≡ t
same_size s t o a b = let e : Some s ≡ Some t = sym a ∙ b in cc

-- two requests that begin the bytes are one
pub record Same (h k : RequestHead) (behind rest : List ℕ) (s t : ℕ) : Type 0 where
  pub head : h ≡ k
  pub rest_is : behind ≡ rest
  pub size : s ≡ t

pub one_beginning : (bytes : List ℕ) (h k : RequestHead) (behind rest : List ℕ) (s t : ℕ) → BeginsRequest bytes h behind s → BeginsRequest bytes k rest t
    → Same h k behind rest s t
one_beginning bytes h k behind rest s t x y =
    let same = request_unique bytes h k behind rest x.head.reads y.head.reads in
    record { head = same.0; rest_is = same.1; size = same_size s t (body_length h) x.length_is (ap body_length same.0 ∙ y.length_is) }

-- ---- pairs of what is found

whole_once : (bytes rest rest' : List ℕ) (request request' : RequestParts) → StandsIn bytes (Whole request rest) → StandsIn bytes (Whole request' rest')
    → Whole request rest ≡ Whole request' rest'
whole_once bytes rest rest' request request' x y =
    let same = one_beginning bytes x.0 y.0 (x.1 ++ rest) (y.1 ++ rest') (length x.1) (length y.1) x.2 y.2 in
    let body : x.1 ≡ y.1 =
    sym (take_at x.1 rest (length x.1) refl) ∙ ap (take (length x.1)) same.rest_is ∙ ap (λ n. take n (y.1 ++ rest')) same.size ∙ take_at y.1 rest' (length y.1) refl in
    let behind : rest ≡ rest' = append_cancel_left x.1 rest rest' (same.rest_is ∙ ap (λ l. l ++ rest') (sym body)) in
    let parts : request ≡ request' = x.4 ∙ ap (λ h. request_of h x.1) same.head ∙ ap (request_of y.0) body ∙ sym y.4 in
    λ i. Whole (parts i) (behind i)

whole_nothing : (bytes rest : List ℕ) (request : RequestParts) → StandsIn bytes (Whole request rest) → bytes ≡ [] → ⊥
whole_nothing bytes rest request x empty = let some = head_is_some bytes x.0 _ x.2.head in absurd (omega (arith, some, ap length empty))

pub whole_cut : (bytes rest : List ℕ) (request : RequestParts) → StandsIn bytes (Whole request rest) → StandsIn bytes Cut → ⊥
whole_cut bytes rest request x y =
    ⊎_elim (λ (none : HasNoHeadYet bytes). head_or_not_yet bytes x.0 _ x.2.head none)
    (λ (cut : LacksBody bytes).
    let same = one_beginning bytes x.0 cut.0 (x.1 ++ rest) cut.1 (length x.1) cut.2 x.2 cut.3 in
    absurd (omega (arith, cut.5, same.size, ap length same.rest_is, length-append x.1 rest))) y.1

whole_refused : (bytes rest : List ℕ) (request : RequestParts) → StandsIn bytes (Whole request rest) → StandsIn bytes HeadFault → ⊥
whole_refused bytes rest request x y =
    ⊎_elim (λ (none : HasNoHead bytes). head_or_none bytes x.0 _ x.2.head none)
    (λ (head : (h : RequestHead) × (behind : List ℕ) × BeginsWith bytes h behind × (is_refused h ≡ true)).
    taken_or_refused bytes x.0 head.0 _ head.1 _ x.2 head.2 head.3) y

whole_long : (bytes rest : List ℕ) (request : RequestParts) → StandsIn bytes (Whole request rest) → StandsIn bytes BodyTooLong → ⊥
whole_long bytes rest request x y =
    let same = one_beginning bytes x.0 y.0 (x.1 ++ rest) y.1 (length x.1) y.2 x.2 y.3 in
    absurd (omega (arith, x.3, y.4, same.size))

nothing_cut : (bytes : List ℕ) → bytes ≡ [] → StandsIn bytes Cut → ⊥
nothing_cut bytes empty y = absurd (omega (arith, y.0, ap length empty))

nothing_refused : (bytes : List ℕ) → bytes ≡ [] → StandsIn bytes HeadFault → ⊥
nothing_refused bytes empty y =
    ⊎_elim (λ (none : HasNoHead bytes). nothing_or_none bytes empty none)
    (λ (head : (h : RequestHead) × (behind : List ℕ) × BeginsWith bytes h behind × (is_refused h ≡ true)).
    let some = head_is_some bytes head.0 head.1 head.2 in absurd (omega (arith, some, ap length empty))) y

nothing_long : (bytes : List ℕ) → bytes ≡ [] → StandsIn bytes BodyTooLong → ⊥
nothing_long bytes empty y = let some = head_is_some bytes y.0 y.1 y.3.head in absurd (omega (arith, some, ap length empty))

pub cut_refused : (bytes : List ℕ) → StandsIn bytes Cut → StandsIn bytes HeadFault → ⊥
cut_refused bytes x y =
    ⊎_elim (λ (yet : HasNoHeadYet bytes).
    ⊎_elim (λ (none : HasNoHead bytes). never_or_yet bytes none yet)
    (λ (head : (h : RequestHead) × (behind : List ℕ) × BeginsWith bytes h behind × (is_refused h ≡ true)). head_or_not_yet bytes head.0 head.1 head.2 yet) y)
    (λ (cut : LacksBody bytes).
    ⊎_elim (λ (none : HasNoHead bytes). head_or_none bytes cut.0 cut.1 cut.3.head none)
    (λ (head : (h : RequestHead) × (behind : List ℕ) × BeginsWith bytes h behind × (is_refused h ≡ true)). taken_or_refused bytes cut.0 head.0 cut.1 head.1 cut.2 cut.3 head.2 head.3) y)
    x.1

pub cut_long : (bytes : List ℕ) → StandsIn bytes Cut → StandsIn bytes BodyTooLong → ⊥
cut_long bytes x y =
    ⊎_elim (λ (yet : HasNoHeadYet bytes). head_or_not_yet bytes y.0 y.1 y.3.head yet)
    (λ (cut : LacksBody bytes).
    let same = one_beginning bytes cut.0 y.0 cut.1 y.1 cut.2 y.2 cut.3 y.3 in absurd (omega (arith, cut.4, y.4, same.size)))
    x.1

refused_long : (bytes : List ℕ) → StandsIn bytes HeadFault → StandsIn bytes BodyTooLong → ⊥
refused_long bytes x y =
    ⊎_elim (λ (none : HasNoHead bytes). head_or_none bytes y.0 y.1 y.3.head none)
    (λ (head : (h : RequestHead) × (behind : List ℕ) × BeginsWith bytes h behind × (is_refused h ≡ true)). taken_or_refused bytes y.0 head.0 y.1 head.1 y.2 y.3 head.2 head.3) x

pub one_found : (bytes : List ℕ) (a b : AtFront) → StandsIn bytes a → StandsIn bytes b → a ≡ b
one_found bytes (Whole r s) (Whole q t) x y = whole_once bytes s t r q x y
one_found bytes (Whole r s) Nothing x y = absurd (whole_nothing bytes s r x y)
one_found bytes (Whole r s) Cut x y = absurd (whole_cut bytes s r x y)
one_found bytes (Whole r s) HeadFault x y = absurd (whole_refused bytes s r x y)
one_found bytes (Whole r s) BodyTooLong x y = absurd (whole_long bytes s r x y)
one_found bytes Nothing (Whole q t) x y = absurd (whole_nothing bytes t q y x)
one_found bytes Nothing Nothing x y = refl
one_found bytes Nothing Cut x y = absurd (nothing_cut bytes x y)
one_found bytes Nothing HeadFault x y = absurd (nothing_refused bytes x y)
one_found bytes Nothing BodyTooLong x y = absurd (nothing_long bytes x y)
one_found bytes Cut (Whole q t) x y = absurd (whole_cut bytes t q y x)
one_found bytes Cut Nothing x y = absurd (nothing_cut bytes y x)
one_found bytes Cut Cut x y = refl
one_found bytes Cut HeadFault x y = absurd (cut_refused bytes x y)
one_found bytes Cut BodyTooLong x y = absurd (cut_long bytes x y)
one_found bytes HeadFault (Whole q t) x y = absurd (whole_refused bytes t q y x)
one_found bytes HeadFault Nothing x y = absurd (nothing_refused bytes y x)
one_found bytes HeadFault Cut x y = absurd (cut_refused bytes y x)
one_found bytes HeadFault HeadFault x y = refl
one_found bytes HeadFault BodyTooLong x y = absurd (refused_long bytes x y)
one_found bytes BodyTooLong (Whole q t) x y = absurd (whole_long bytes t q y x)
one_found bytes BodyTooLong Nothing x y = absurd (nothing_long bytes y x)
one_found bytes BodyTooLong Cut x y = absurd (cut_long bytes y x)
one_found bytes BodyTooLong HeadFault x y = absurd (refused_long bytes y x)
one_found bytes BodyTooLong BodyTooLong x y = refl
