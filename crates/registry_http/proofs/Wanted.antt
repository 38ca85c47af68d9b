-- Where more bytes are wanted.
use Rattle.std.proofs.Common.{ℕ, ◌-◌, ◌<◌, ◌≤◌, ◌≡◌, ◌⊎◌, inl, inr, ⊎_elim, true, List, ◌++◌, length, take, drop, arith, length-append, length-take, length-drop}
use Rattle.std.proofs.lemmas.Bool.{cases_lt}
use Rattle.httparse.specs.Grammar.{RequestHead, print_request}
use Rattle.registry_http.specs.Heads.{is_refused}
use Rattle.registry_http.specs.RequestParts.{RequestParts}
use Rattle.registry_http.specs.Requests.{BeginsWith, HasNoHeadYet, LacksEnd, LacksBody, WantsMore, StandsIn, Whole, Nothing, Cut, HeadFault, BodyTooLong}
use Rattle.registry_http.proofs.EmptyLines.{no_line, no_line_in_front}
use Rattle.registry_http.proofs.HeadLines.{yet_lacks_end, nothing_lacks_end, lacks_end_no_head, part_not_over}
use Rattle.registry_http.proofs.OneFound.{head_is_some, taken_or_refused, whole_cut, cut_refused, cut_long}
use Rattle.registry_http.proofs.OneRequest.{shorter_front, longer_front}

pub lacking_wants : (bytes : List ℕ) → StandsIn bytes Nothing ⊎ StandsIn bytes Cut → WantsMore bytes
lacking_wants bytes x =
    ⊎_elim (λ (none : StandsIn bytes Nothing). inl (nothing_lacks_end bytes none))
    (λ (cut : StandsIn bytes Cut).
    ⊎_elim (λ (yet : HasNoHeadYet bytes). inl (yet_lacks_end bytes yet)) (λ (lacks : LacksBody bytes). inr lacks) cut.1) x

pub whole_wants_none : (bytes rest : List ℕ) (request : RequestParts) → StandsIn bytes (Whole request rest) → ¬ (WantsMore bytes)
whole_wants_none bytes rest request x wants =
    ⊎_elim (λ (lacks : LacksEnd bytes). lacks_end_no_head bytes x.0 _ lacks x.2.head.reads)
    (λ (lacks : LacksBody bytes). whole_cut bytes rest request x (head_is_some bytes x.0 _ x.2.head, inr lacks)) wants

pub refused_wants_none : (bytes behind : List ℕ) (h : RequestHead) → BeginsWith bytes h behind → is_refused h ≡ true → ¬ (WantsMore bytes)
refused_wants_none bytes behind h begins refused wants =
    ⊎_elim (λ (lacks : LacksEnd bytes). lacks_end_no_head bytes h behind lacks begins.reads)
    (λ (lacks : LacksBody bytes). taken_or_refused bytes lacks.0 h lacks.1 behind lacks.2 lacks.3 begins refused) wants

pub none_wants_none : (bytes : List ℕ) → StandsIn bytes HeadFault → ¬ (LacksEnd bytes) → ¬ (WantsMore bytes)
none_wants_none bytes x ended wants =
    ⊎_elim (λ (lacks : LacksEnd bytes). ended lacks)
    (λ (lacks : LacksBody bytes). cut_refused bytes (head_is_some bytes lacks.0 lacks.1 lacks.3.head, inr lacks) x) wants

pub long_wants_none : (bytes : List ℕ) → StandsIn bytes BodyTooLong → ¬ (WantsMore bytes)
long_wants_none bytes x wants =
    ⊎_elim (λ (lacks : LacksEnd bytes). lacks_end_no_head bytes x.0 _ lacks x.3.head.reads)
    (λ (lacks : LacksBody bytes). cut_long bytes (head_is_some bytes x.0 _ x.3.head, inr lacks) x) wants

-- where more bytes are wanted, they were wanted at each front of the bytes too
pub front_wants : (bytes more : List ℕ) → WantsMore (bytes ++ more) → WantsMore bytes
front_wants bytes more wants =
    ⊎_elim
    (λ (lacks : LacksEnd (bytes ++ more)).
    let room = lacks.0 in
    inl (omega (arith, room, length-append bytes more), no_line_in_front bytes more lacks.1))
    (λ (lacks : LacksBody (bytes ++ more)).
    let head = print_request lacks.0 in
    let begins = lacks.3 in
    let reads = begins.head.reads in
    ⊎_elim
    (λ (short : length bytes < length head).
    inl (
      omega (arith, short, begins.head.fits),
      no_line bytes (part_not_over bytes (drop (length bytes) head) lacks.0 reads.0
          (shorter_front bytes more head lacks.1 reads.1 (omega (arith, short)))
          (omega (arith, short, length-drop (length bytes) head))),
    ))
    (λ (long : length head ≤ length bytes).
    let behind = take (length bytes - length head) lacks.1 in
    inr (
      lacks.0,
      behind,
      lacks.2,
      record {
        head = record { reads = (reads.0, longer_front bytes more head lacks.1 reads.1 long); fits = begins.head.fits };
        taken = begins.taken;
        length_is = begins.length_is;
      },
      lacks.4,
      omega (arith, lacks.5, length-take (length bytes - length head) lacks.1),
    ))
    (cases_lt (length bytes) (length head)))
    wants
