-- Some thing always stands at the front of bytes.
use Rattle.std.proofs.Common.{zero, suc, ◌≡◌, ℕ, ◌-◌, ◌<◌, ◌≤◌, inl, inr, ⊎_elim, true, false, List, [], ◌∷◌, ◌++◌, length, take, drop, Option, Some, None, is_none, refl, sym, ap, subst, ◌∙◌, arith, append-nil, length-append, length-take, take-append-drop}
use Rattle.std.proofs.lemmas.Bool.{cases_Bool, cases_lt, or_parts, false≢true}
use Rattle.httparse.specs.Grammar.{RequestHead, print_request, ReadsRequest, HasNoRequest, MayBecomeRequest}
use Rattle.httparse.proofs.GrammarLemmas.{request_unique, ReadsRequest-append}
use Rattle.registry_http.specs.RequestParts.{RequestParts}
use Rattle.registry_http.specs.RequestLists.{AreRequests}
use Rattle.registry_http.specs.Heads.{body_length, is_refused}
use Rattle.registry_http.specs.Requests.{AtFront, Whole, Nothing, Cut, HeadFault, BodyTooLong, StandsIn, BeginsWith, BeginsRequest, request_of}
use Rattle.registry_http.proofs.OneFound.{head_is_some}
use Rattle.registry_http.proofs.OneRequest.{none_in_front, shorter_front, longer_front}

-- nothing stands at the front of the bytes
abbrev NothingStands : List ℕ → Type 0
NothingStands bytes = (a : AtFront) → ¬ (StandsIn bytes a)

sized : (bytes : List ℕ) (h : RequestHead) (behind : List ℕ) (size : Option ℕ) → NothingStands bytes → BeginsWith bytes h behind → is_refused h ≡ false
    → body_length h ≡ size → ⊥
sized bytes h behind None none begins good is = let parts = or_parts _ _ good in false≢true (sym parts.1 ∙ ap is_none is)
sized bytes h behind (Some size) none begins good is =
    let request : BeginsRequest bytes h behind size = record { head = begins; taken = good; length_is = is } in
    ⊎_elim (λ (long : 65536 < size). none BodyTooLong (h, behind, size, request, long))
    (λ (small : size ≤ 65536).
    ⊎_elim (λ (short : length behind < size). none Cut (head_is_some bytes h behind begins, inr (h, behind, size, request, small, short)))
    (λ (whole : size ≤ length behind).
    let body = take size behind in
    let rest = drop size behind in
    let size_is : size ≡ length body = omega (arith, length-take size behind, whole) in
    none (Whole (request_of h body) rest) (
      h,
      body,
      subst (λ n. BeginsRequest bytes h (body ++ rest) n) size_is
          (subst (λ l. BeginsRequest bytes h l size) (sym (take-append-drop size behind)) request),
      omega (arith, small, size_is),
      refl,
    ))
    (cases_lt (length behind) size))
    (cases_lt 65536 size)

judged_head : (bytes : List ℕ) (h : RequestHead) (behind : List ℕ) → NothingStands bytes → BeginsWith bytes h behind → ⊥
judged_head bytes h behind none begins =
    ⊎_elim (λ (bad : is_refused h ≡ true). none HeadFault (inr (h, behind, begins, bad)))
    (λ (good : is_refused h ≡ false). sized bytes h behind (body_length h) none begins good refl)
    (cases_Bool (is_refused h))

no_head : (bytes : List ℕ) (h : RequestHead) (behind : List ℕ) → NothingStands bytes → ReadsRequest bytes h behind → ⊥
no_head bytes h behind none reads =
    ⊎_elim
    (λ (long : 8192 < length (print_request h)).
    none HeadFault (inl (record {
      none = λ k rest front.
          let whole = subst (λ l. ReadsRequest l k (rest ++ drop 8192 bytes)) (take-append-drop 8192 bytes)
          (ReadsRequest-append (take 8192 bytes) k rest (drop 8192 bytes) front) in
          let same = request_unique bytes h k behind (rest ++ drop 8192 bytes) reads whole in
          absurd (omega (arith, long, ap (λ x. length (print_request x)) same.0, ap length front.1, length-append (print_request k) rest, length-take 8192 bytes));
      none_comes = inl (omega (arith, long, ap length reads.1, length-append (print_request h) behind));
    })))
    (λ (fits : length (print_request h) ≤ 8192). judged_head bytes h behind none (record { reads = reads; fits = fits }))
    (cases_lt 8192 (length (print_request h)))

none_later : (bytes more : List ℕ) (h : RequestHead) (rest : List ℕ) → HasNoRequest bytes → ¬ (MayBecomeRequest bytes) → ReadsRequest (bytes ++ more) h rest → ⊥
none_later bytes more h rest none yet reads =
    let head = print_request h in
    ⊎_elim
    (λ (past : length head < length bytes).
    none h (take (length bytes - length head) rest) (reads.0, longer_front bytes more head rest reads.1 (omega (arith, past))))
    (λ (within : length bytes ≤ length head).
    yet (inl (drop (length bytes) head, h, (reads.0, shorter_front bytes more head rest reads.1 within ∙ sym (append-nil head)))))
    (cases_lt (length head) (length bytes))

pub never_nothing : (bytes : List ℕ) → ¬ (NothingStands bytes)
never_nothing [] none = none Nothing refl
never_nothing (b ∷ bytes) none =
    let all = b ∷ bytes in
    let no : HasNoRequest all = λ h rest reads. no_head all h rest none reads in
    ⊎_elim
    (λ (room : length all < 8192).
    let yet : ¬ (MayBecomeRequest all) = λ may. none Cut (omega arith, inl (record { none = no; room = room; may_come = may })) in
    none HeadFault (inl (record {
      none = none_in_front all 8192 no;
      none_comes = inr (λ more h rest reads. none_later all more h rest no yet reads, λ ends. yet (inr ends));
    })))
    (λ (full : 8192 ≤ length all). none HeadFault (inl (record { none = none_in_front all 8192 no; none_comes = inl full })))
    (cases_lt (length all) 8192)

shorter : (bytes : List ℕ) (h : RequestHead) (body rest : List ℕ) → BeginsWith bytes h (body ++ rest) → length rest < length bytes
shorter bytes h body rest x =
    let some = head_is_some (print_request h) h [] (record { reads = (x.reads.0, sym (append-nil (print_request h))); fits = x.fits }) in
    omega (arith, some, ap length x.reads.1, length-append (print_request h) (body ++ rest), length-append body rest)

-- there is no list of requests, with what stands behind them, that these bytes are
abbrev NoList : List ℕ → Type 0
NoList bytes = (requests : List RequestParts) (last : AtFront) → ¬ (AreRequests bytes requests last)

-- where shorter bytes are some list of requests and these are none, nothing stands at their front
first_of_list : (bytes : List ℕ) → NoList bytes → ((rest : List ℕ) → length rest < length bytes → ¬ (NoList rest)) → (a : AtFront) → ¬ (StandsIn bytes a)
first_of_list bytes none again (Whole request rest) x =
    again rest (shorter bytes x.0 x.1 rest x.2.head) (λ requests last are. none (request ∷ requests) last (rest, x, are))
first_of_list bytes none again Nothing x = none [] Nothing (x, tt)
first_of_list bytes none again Cut x = none [] Cut (x, tt)
first_of_list bytes none again HeadFault x = none [] HeadFault (x, tt)
first_of_list bytes none again BodyTooLong x = none [] BodyTooLong (x, tt)

-- all bytes are some list of requests
some_list : (n : ℕ) (bytes : List ℕ) → length bytes < n → ¬ (NoList bytes)
some_list zero bytes few none = absurd (omega (arith, few))
some_list (suc n) bytes few none =
    never_nothing bytes (first_of_list bytes none (λ rest less. some_list n rest (omega (arith, few, less))))

pub never_no_list : (bytes : List ℕ) → ¬ (NoList bytes)
never_no_list bytes = some_list (suc (length bytes)) bytes (omega arith)
