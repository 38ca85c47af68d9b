-- At most one thing stands at the front of bytes, and what of it stays when more bytes come.
use Rattle.std.proofs.Common.{◌≡◌, ℕ, ◌+◌, ◌-◌, ◌<◌, ◌≤◌, inl, inr, ⊎_elim, true, List, [], ◌∷◌, ◌++◌, length, take, drop, refl, sym, ap, subst, ◌∙◌, arith, append_assoc, length-append, take-append-drop, zero, suc}
use Rattle.std.proofs.Math.Seq.{take-append-add}
use Rattle.std.proofs.lemmas.Bool.{cases_lt}
use Rattle.std.proofs.lemmas.List.{take_at, take-append-le}
use Rattle.std.proofs.lemmas.List.Elements.{All-nil, All-cons, All-take}
use Rattle.std.proofs.lemmas.Str.{IsUtf8-from_ascii}
use Rattle.std.proofs.lemmas.Str.Ascii.{IsAscii-cons, IsAscii-nil}
use Rattle.httparse.specs.Grammar.{LineEnd, lf, print_blank, RequestHead, IsField, ReadsRequest, HasNoRequest, NeverHasRequest, EndsInTarget, IsToken, is_uri_byte}
use Rattle.httparse.proofs.GrammarLemmas.{print_request-append, ReadsRequest-append}
use Rattle.registry_http.specs.RequestParts.{RequestParts}
use Rattle.registry_http.specs.Heads.{is_refused}
use Rattle.registry_http.specs.Requests.{BeginsWith, BeginsRequest, HasNoHead, Whole, HeadFault, BodyTooLong, StandsIn}
use Rattle.registry_http.proofs.WholeHeads.{BeginsWith-append, BeginsRequest-append, none_now}

-- ---- what more bytes change

pub whole_stays : (bytes more rest : List ℕ) (request : RequestParts) → StandsIn bytes (Whole request rest) → StandsIn (bytes ++ more) (Whole request (rest ++ more))
whole_stays bytes more rest request x = (
  x.0,
  x.1,
  subst (λ l. BeginsRequest (bytes ++ more) x.0 l (length x.1)) (append_assoc x.1 rest more)
      (BeginsRequest-append bytes more x.0 (x.1 ++ rest) (length x.1) x.2),
  x.3,
  x.4,
)

pub too_long_stays : (bytes more : List ℕ) → StandsIn bytes BodyTooLong → StandsIn (bytes ++ more) BodyTooLong
too_long_stays bytes more x = (x.0, x.1 ++ more, x.2, BeginsRequest-append bytes more x.0 x.1 x.2 x.3, x.4)

-- a head with this method behind these line ends
some_head : List LineEnd → List ℕ → RequestHead
some_head blank method = record {
  blank = blank;
  method = method;
  target = 47 ∷ [];
  minor = 1;
  line_end = lf;
  fields = [];
  last = lf;
}

some_tail : List ℕ
some_tail = 32 ∷ 47 ∷ 32 ∷ 72 ∷ 84 ∷ 84 ∷ 80 ∷ 47 ∷ 49 ∷ 46 ∷ 49 ∷ 10 ∷ 10 ∷ []

some_reads : (blank : List LineEnd) (method : List ℕ) → IsToken method
    → ReadsRequest ((print_blank blank ++ method) ++ some_tail) (some_head blank method) []
unfolding some_head some_tail
some_reads blank method token = (
  record {
    method = token;
    target = (omega arith, All-cons (λ v. is_uri_byte v ≡ true) 47 [] refl (All-nil (λ v. is_uri_byte v ≡ true)));
    target_text = IsUtf8-from_ascii _ (IsAscii-cons 47 [] (omega arith) IsAscii-nil);
    minor = omega arith;
    fields = All-nil IsField;
  },
  append_assoc (print_blank blank) method some_tail ∙ sym (print_request-append (some_head blank method) []),
)

-- bytes that stop short of the space behind a method may become a head
pub may_come : (bytes m : List ℕ) (blank : List LineEnd) (method : List ℕ) → IsToken method → bytes ++ m ≡ print_blank blank ++ method
    → NeverHasRequest bytes → ⊥
may_come bytes m blank method token whole never =
    never (m ++ some_tail) (some_head blank method) []
    (subst (λ l. ReadsRequest l (some_head blank method) []) (ap (λ l. l ++ some_tail) (sym whole) ∙ append_assoc bytes m some_tail)
    (some_reads blank method token))

-- the first bytes of two lists joined
pub shorter_front : (bytes more a b : List ℕ) → bytes ++ more ≡ a ++ b → length bytes ≤ length a → bytes ++ drop (length bytes) a ≡ a
shorter_front bytes more a b whole within =
    let front : take (length bytes) a ≡ bytes =
    sym (take-append-le (length bytes) a b within) ∙ sym (ap (take (length bytes)) whole) ∙ take_at bytes more (length bytes) refl in
    ap (λ l. l ++ drop (length bytes) a) (sym front) ∙ take-append-drop (length bytes) a

pub longer_front : (bytes more a b : List ℕ) → bytes ++ more ≡ a ++ b → length a ≤ length bytes → bytes ≡ a ++ take (length bytes - length a) b
longer_front bytes more a b whole within =
    let split : length bytes ≡ length a + (length bytes - length a) = omega arith in
    sym (take_at bytes more (length bytes) refl) ∙ ap (take (length bytes)) whole ∙ ap (λ n. take n (a ++ b)) split ∙ take-append-add a b (length bytes - length a)

take_some : (n x : ℕ) (xs : List ℕ) → 0 < n → take n (x ∷ xs) ≡ x ∷ take (n - 1) xs
take_some zero x xs some = absurd (omega arith)
take_some (suc n) x xs some = let one : suc n - 1 ≡ n = omega arith in rw one refl

-- bytes that never become a head and end inside no target end inside none with more bytes behind them either
outside_stays : (bytes more : List ℕ) → NeverHasRequest bytes → ¬ (EndsInTarget bytes) → ¬ (EndsInTarget (bytes ++ more))
outside_stays bytes more never outside ends =
    let line = print_blank ends.0 ++ ends.1 in
    ⊎_elim
    (λ (inside : length line < length bytes).
    let n = length bytes - length line in
    let target = take (n - 1) ends.2 in
    outside (
      ends.0,
      ends.1,
      target,
      ends.3,
      All-take (λ v. is_uri_byte v ≡ true) (n - 1) ends.2 ends.4,
      longer_front bytes more line (32 ∷ ends.2) ends.5 (omega arith) ∙ ap (λ l. line ++ l) (take_some n 32 ends.2 (omega arith)),
    ))
    (λ (short : length bytes ≤ length line).
    may_come bytes (drop (length bytes) line) ends.0 ends.1 ends.3 (shorter_front bytes more line (32 ∷ ends.2) ends.5 short) never)
    (cases_lt (length line) (length bytes))

never_stays : (bytes more : List ℕ) → NeverHasRequest bytes → NeverHasRequest (bytes ++ more)
never_stays bytes more never = λ further. subst HasNoRequest (sym (append_assoc bytes more further)) (never (more ++ further))

-- where the bytes have no head, no front of them has one
pub none_in_front : (bytes : List ℕ) (n : ℕ) → HasNoRequest bytes → HasNoRequest (take n bytes)
none_in_front bytes n none = λ h rest reads.
    none h (rest ++ drop n bytes)
    (subst (λ l. ReadsRequest l h (rest ++ drop n bytes)) (take-append-drop n bytes) (ReadsRequest-append (take n bytes) h rest (drop n bytes) reads))

no_head_stays : (bytes more : List ℕ) → HasNoHead bytes → HasNoHead (bytes ++ more)
no_head_stays bytes more x =
    ⊎_elim
    (λ (full : 8192 ≤ length bytes). record {
      none = subst HasNoRequest (sym (take-append-le 8192 bytes more full)) x.none;
      none_comes = inl (omega (arith, length-append bytes more));
    })
    (λ (never : NeverHasRequest bytes × ¬ (EndsInTarget bytes)).
    let later = never_stays bytes more never.0 in
    record {
      none = none_in_front (bytes ++ more) 8192 (none_now (bytes ++ more) later);
      none_comes = inr (later, outside_stays bytes more never.0 never.1);
    })
    x.none_comes

pub refused_stays : (bytes more : List ℕ) → StandsIn bytes HeadFault → StandsIn (bytes ++ more) HeadFault
refused_stays bytes more x =
    ⊎_elim (λ (none : HasNoHead bytes). inl (no_head_stays bytes more none))
    (λ (head : (h : RequestHead) × (behind : List ℕ) × BeginsWith bytes h behind × (is_refused h ≡ true)).
    inr (head.0, head.1 ++ more, BeginsWith-append bytes more head.0 head.1 head.2, head.3)) x
