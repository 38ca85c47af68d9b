-- How many bytes are kept where only wanted bytes are read.
use Rattle.std.proofs.Common.{◌≡◌, ℕ, ◌+◌, ◌-◌, ◌<◌, ◌≤◌, ◌⊎◌, inl, inr, ⊎_elim, List, [], ◌++◌, length, take, Option, refl, sym, ap, subst, ◌∙◌, arith, append_assoc, length-append}
use Rattle.std.proofs.lemmas.Bool.{cases_lt}
use Rattle.std.proofs.lemmas.List.{take_at}
use Rattle.httparse.specs.Grammar.{RequestHead, print_request, ReadsRequest}
use Rattle.registry_http.specs.RequestParts.{RequestParts}
use Rattle.registry_http.specs.Requests.{LacksEnd, LacksBody, WantsMore, IsWanted, StandsIn, Whole, ReadsNext, KeepsFew}
use Rattle.registry_http.specs.declared.requests.Next.{Next}
use Rattle.registry_http.specs.declared.requests.Next.TheVariants as next
use Rattle.registry_http.proofs.HeadLines.{lacks_end_no_head}
use Rattle.registry_http.proofs.OneFound.{one_beginning}
use Rattle.registry_http.proofs.WholeHeads.{head_in_front, BeginsRequest-append}

-- bytes after which more are wanted are few
wants_few : (bytes : List ℕ) → WantsMore bytes → length bytes < 73728
wants_few bytes wants =
    ⊎_elim (λ (lacks : LacksEnd bytes). let few = lacks.0 in omega (arith, few))
    (λ (lacks : LacksBody bytes).
    let begins = lacks.3.head in
    omega (arith, lacks.4, lacks.5, begins.fits, ap length begins.reads.1, length-append (print_request lacks.0) lacks.1))
    wants

request_length : (bytes : List ℕ) (h : RequestHead) (body kept : List ℕ) → ReadsRequest bytes h (body ++ kept)
    → length bytes ≡ length (print_request h) + (length body + length kept)
request_length bytes h body kept reads =
    omega (arith, ap length reads.1, length-append (print_request h) (body ++ kept), length-append body kept)

-- where more bytes were wanted and the last ones make a request whole, no more bytes than these are kept behind it
ends_in_last : (bytes last kept : List ℕ) (request : RequestParts) → WantsMore bytes → StandsIn (bytes ++ last) (Whole request kept) → length kept ≤ length last
ends_in_last bytes last kept request wants x =
    let h = x.0 in
    let body = x.1 in
    let sizes = request_length (bytes ++ last) h body kept x.2.head.reads in
    ⊎_elim
    (λ (lacks : LacksEnd bytes).
    ⊎_elim
    (λ (long : length last < length kept).
    let front = head_in_front (bytes ++ last) (length bytes) h (body ++ kept) x.2.head.reads (omega (arith, long, sizes, length-append bytes last)) in
    let behind = take (length bytes - length (print_request h)) (body ++ kept) in
    absurd (lacks_end_no_head bytes h behind lacks (subst (λ l. ReadsRequest l h behind) (take_at bytes last (length bytes) refl) front)))
    (λ (few : length kept ≤ length last). few)
    (cases_lt (length last) (length kept)))
    (λ (lacks : LacksBody bytes).
    let same = one_beginning (bytes ++ last) h lacks.0 (body ++ kept) (lacks.1 ++ last) (length body) lacks.2 x.2 (BeginsRequest-append bytes last lacks.0 lacks.1 lacks.2 lacks.3) in
    omega (arith, lacks.5, same.size, ap length same.rest_is, length-append body kept, length-append lacks.1 last))
    wants

few_behind : (old new read : List ℕ) (request : RequestParts) → IsWanted old read → StandsIn (old ++ read) (Whole request new)
    → (length new ≤ length old) ⊎ (length new ≤ 4096)
few_behind old new read request wanted x =
    ⊎_elim
    (λ (none : read ≡ []).
    let sizes = request_length (old ++ read) x.0 x.1 new x.2.head.reads in
    inl (omega (arith, sizes, length-append old read, ap length none)))
    (λ (some : (front : List ℕ) × (last : List ℕ) × (read ≡ front ++ last) × (length last ≤ 4096) × WantsMore (old ++ front)).
    let whole : old ++ read ≡ (old ++ some.0) ++ some.1 = ap (λ l. old ++ l) some.2 ∙ sym (append_assoc old some.0 some.1) in
    let few = ends_in_last (old ++ some.0) some.1 new request some.4 (subst (λ l. StandsIn l (Whole request new)) whole x) in
    inr (omega (arith, few, some.3)))
    wanted

few_left : (old new read : List ℕ) → IsWanted old read → length new ≤ length old + length read → (length new ≤ length old) ⊎ (length new ≤ 77824)
few_left old new read wanted kept =
    ⊎_elim
    (λ (none : read ≡ []). inl (omega (arith, kept, ap length none)))
    (λ (some : (front : List ℕ) × (last : List ℕ) × (read ≡ front ++ last) × (length last ≤ 4096) × WantsMore (old ++ front)).
    let few = wants_few (old ++ some.0) some.4 in
    inr (omega (arith, kept, few, some.3, ap length some.2, length-append some.0 some.1, length-append old some.0)))
    wanted

pub few_kept : (a b : Option (List ℕ)) (old new : List ℕ) (answer : Next) → ReadsNext a b old new answer → KeepsFew old new answer
few_kept a b old new (next.Request request) x = few_behind old new x.read request x.wanted x.answered
few_kept a b old new next.End x = few_left old new x.read x.wanted x.kept
few_kept a b old new next.Cut x = few_left old new x.read x.wanted x.kept
few_kept a b old new next.HeadFault x = few_left old new x.read x.wanted x.kept
few_kept a b old new next.BodyTooLong x = few_left old new x.read x.wanted x.kept
few_kept a b old new next.LinkFault x = few_left old new x.read x.wanted x.kept
few_kept a b old new next.Memory x = few_left old new x.read x.wanted x.kept
