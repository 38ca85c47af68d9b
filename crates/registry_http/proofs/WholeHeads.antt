-- Heads at the front of bytes: what more bytes change, and how long a head is.
use Rattle.std.proofs.Common.{◌≡◌, ◌≢◌, ℕ, ◌+◌, ◌-◌, ◌*◌, min, ◌<◌, ◌≤◌, inl, inr, ⊎_elim, Bool, List, [], ◌∷◌, ◌++◌, length, take, refl, sym, ap, subst, ◌∙◌, arith, append-nil, length-append}
use Rattle.std.specs.Prelude.{All}
use Rattle.std.specs.List.{flat_map}
use Rattle.std.proofs.lemmas.Bool.{cases_lt}
use Rattle.std.proofs.lemmas.List.{take_all, take_min}
use Rattle.std.proofs.lemmas.List.Elements.{All-head, All-tail}
use Rattle.std.proofs.Math.Seq.{take-append-add}
use Rattle.httparse.specs.declared.Error.{Error}
use Rattle.httparse.specs.declared.Error.TheVariants.{HeaderName, HeaderValue, NewLine, Status, Token, TooManyHeaders, Version}
use Rattle.httparse.specs.Grammar.{LineEnd, crlf, lf, print_end, print_blank, print_version, Field, print_field, IsField, RequestHead, print_request, ReadsRequest, HasNoRequest, NeverHasRequest, MayBecomeRequest, EndsInTarget}
use Rattle.httparse.specs.Spans.{RequestExceeds}
use Rattle.httparse.proofs.GrammarLemmas.{print_request-append, ReadsRequest-append}
use Rattle.registry_http.specs.Requests.{BeginsWith, BeginsRequest, HasNoHead, HasNoHeadYet}
use Rattle.registry_http.specs.inner.Reading.{HasHead, IsFront, IsJudged}
use Rattle.registry_http.specs.declared.heads.Front.{Front}
use Rattle.registry_http.specs.declared.heads.Front.TheVariants as front

-- ---- more bytes

pub BeginsWith-append : (bytes more : List ℕ) (h : RequestHead) (behind : List ℕ) → BeginsWith bytes h behind → BeginsWith (bytes ++ more) h (behind ++ more)
BeginsWith-append bytes more h behind b = record { reads = ReadsRequest-append bytes h behind more b.reads; fits = b.fits }

pub BeginsRequest-append : (bytes more : List ℕ) (h : RequestHead) (behind : List ℕ) (size : ℕ) → BeginsRequest bytes h behind size
    → BeginsRequest (bytes ++ more) h (behind ++ more) size
BeginsRequest-append bytes more h behind size b = record {
  head = BeginsWith-append bytes more h behind b.head;
  taken = b.taken;
  length_is = b.length_is;
}

pub HasHead-append : (bytes more method path : List ℕ) (len body : ℕ) (last : Bool) → HasHead bytes method path len body last
    → HasHead (bytes ++ more) method path len body last
HasHead-append bytes more method path len body last x = record {
  h = x.h;
  behind = x.behind ++ more;
  begins = BeginsRequest-append bytes more x.h x.behind body x.begins;
  small = x.small;
  method_is = x.method_is;
  path_is = x.path_is;
  len_is = x.len_is;
  last_is = x.last_is;
  token = x.token;
}

pub judged : (bytes more : List ℕ) (f : Front) → IsJudged bytes f → IsFront (bytes ++ more) f
judged bytes more (front.Head head) x = HasHead-append bytes more _ _ _ _ _ x
judged bytes more front.Cut x = absurd x
judged bytes more front.Refused x = inr (x.0, x.1 ++ more, BeginsWith-append bytes more x.0 x.1 x.2, x.3)
judged bytes more front.TooLong x = (x.0, x.1 ++ more, x.2, BeginsRequest-append bytes more x.0 x.1 x.2 x.3, x.4)

-- ---- the length of a head

end_length : (e : LineEnd) → 1 ≤ length (print_end e)
end_length crlf = omega arith
end_length lf = omega arith

field_length : (f : Field) → IsField f → 3 ≤ length (print_field f)
field_length f is =
    omega (arith, length-append (f.name ++ 58 ∷ f.raw) (print_end f.end), length-append f.name (58 ∷ f.raw), is.name.0, end_length f.end)

fields_length : (fs : List Field) → All IsField fs → 3 * length fs ≤ length (flat_map print_field fs)
fields_length [] all = omega arith
fields_length (f ∷ fs) all =
    let first = field_length f (All-head IsField f fs all) in
    let others = fields_length fs (All-tail IsField f fs all) in
    omega (arith, length-append (print_field f) (flat_map print_field fs), first, others)

inner_length : (a b c d e f g : List ℕ) → length f ≤ length (a ++ (b ++ 32 ∷ (c ++ 32 ∷ (d ++ (e ++ ((f ++ g) ++ []))))))
inner_length a b c d e f g = simp (length-append {A = ℕ}, append-nil {A = ℕ}) (omega arith)

pub head_length : (h : RequestHead) → All IsField h.fields → 3 * length h.fields ≤ length (print_request h)
head_length h all =
    let printed = sym (append-nil (print_request h)) ∙ print_request-append h [] in
    let inner = inner_length (print_blank h.blank) h.method h.target (print_version h.minor) (print_end h.line_end) (flat_map print_field h.fields) (print_end h.last) in
    omega (arith, fields_length h.fields all, inner, ap length printed)

-- no head that may be taken has so many fields
pub few_fields : (bytes : List ℕ) (room : ℕ) → room ≡ 2731 → length bytes ≤ 8192 → RequestExceeds room bytes → ⊥
few_fields bytes room enough fits x =
    let lengths : length x.0 + 1 ≡ length (print_request x.3) =
    sym (length-append x.0 (10 ∷ [])) ∙ ap length (x.4.1 ∙ append-nil (print_request x.3)) in
    absurd (omega (arith, lengths, head_length x.3 x.4.0.fields, x.5, ap length x.2, length-append x.0 x.1))

-- a head has bytes
pub head_has_bytes : (blank method target rest : List ℕ) → 0 < length (blank ++ (method ++ 32 ∷ (target ++ 32 ∷ rest)))
head_has_bytes blank method target rest = simp (length-append {A = ℕ}) (omega arith)

-- ---- where the parser finds no head

pub never : (e : Error) (bytes : List ℕ) (room : ℕ) → room ≡ 2731 → length bytes ≤ 8192 → (e ≢ TooManyHeaders → NeverHasRequest bytes)
    → (e ≡ TooManyHeaders → RequestExceeds room bytes) → NeverHasRequest bytes
never TooManyHeaders bytes room enough fits bad many = absurd (few_fields bytes room enough fits (many refl))
never HeaderName bytes room enough fits bad many = bad (λ e. cc)
never HeaderValue bytes room enough fits bad many = bad (λ e. cc)
never NewLine bytes room enough fits bad many = bad (λ e. cc)
never Status bytes room enough fits bad many = bad (λ e. cc)
never Token bytes room enough fits bad many = bad (λ e. cc)
never Version bytes room enough fits bad many = bad (λ e. cc)

pub none_now : (bytes : List ℕ) → NeverHasRequest bytes → HasNoRequest bytes
none_now bytes never = subst HasNoRequest (append-nil bytes) (never [])

-- ---- fronts of the bytes

pub head_in_front : (bytes : List ℕ) (before : ℕ) (h : RequestHead) (behind : List ℕ) → ReadsRequest bytes h behind → length (print_request h) ≤ before
    → ReadsRequest (take before bytes) h (take (before - length (print_request h)) behind)
head_in_front bytes before h behind reads within =
    let head = print_request h in
    let split : before ≡ length head + (before - length head) = omega arith in
    (reads.0, ap (take before) reads.1 ∙ ap (λ n. take n (head ++ behind)) split ∙ take-append-add head behind (before - length head))

-- the front of the bytes in which a head is looked for
front_whole : (bytes : List ℕ) (m : ℕ) → m ≡ min 8192 (length bytes) → take m bytes ≡ take 8192 bytes
front_whole bytes m is = ap (λ n. take n bytes) is ∙ take_min 8192 bytes

front_all : (bytes : List ℕ) (m : ℕ) → m ≡ min 8192 (length bytes) → length bytes < 8192 → take m bytes ≡ bytes
front_all bytes m is short = take_all m bytes (omega (arith, is))

-- as many bytes came as a head may have
pub full_front : (bytes : List ℕ) (m : ℕ) → m ≡ min 8192 (length bytes) → HasNoRequest (take m bytes) → 8192 ≤ length bytes → HasNoHead bytes
full_front bytes m is none full = record { none = subst HasNoRequest (front_whole bytes m is) none; none_comes = inl full }

-- no head will come
pub bad_front : (bytes : List ℕ) (m : ℕ) → m ≡ min 8192 (length bytes) → NeverHasRequest (take m bytes) → ¬ (EndsInTarget bytes) → HasNoHead bytes
bad_front bytes m is never outside =
    ⊎_elim (λ (short : length bytes < 8192). record {
      none = subst HasNoRequest (front_whole bytes m is) (none_now (take m bytes) never);
      none_comes = inr (subst NeverHasRequest (front_all bytes m is short) never, outside);
    })
    (λ (full : 8192 ≤ length bytes). full_front bytes m is (none_now (take m bytes) never) full)
    (cases_lt (length bytes) 8192)

-- bytes that end inside a target are cut, whatever they are
pub cut_target : (bytes : List ℕ) (m : ℕ) → m ≡ min 8192 (length bytes) → NeverHasRequest (take m bytes) → length bytes < 8192
    → EndsInTarget bytes → HasNoHeadYet bytes
cut_target bytes m is never short ends = record {
  none = none_now bytes (subst NeverHasRequest (front_all bytes m is short) never);
  room = short;
  may_come = inr ends;
}

-- bytes that may become a head are cut
pub cut_head : (bytes : List ℕ) (m : ℕ) → m ≡ min 8192 (length bytes) → HasNoRequest (take m bytes) → MayBecomeRequest (take m bytes) → length bytes < 8192
    → HasNoHeadYet bytes
cut_head bytes m is none may short = record {
  none = subst HasNoRequest (front_all bytes m is short) none;
  room = short;
  may_come = subst MayBecomeRequest (front_all bytes m is short) may;
}
