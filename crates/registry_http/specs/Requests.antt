-- What stands at the front of the bytes of a link: a request, or why there is none.
-- Why so: docs/DECISIONS.md, "A head is judged once its empty line came".
use Rattle.std.specs.Prelude.{◌≡◌, ℕ, ◌+◌, ◌<◌, ◌≤◌, ◌⊎◌, Bool, true, false, List, [], ◌++◌, length, take, Option, Some}
use Rattle.std.specs.Io.KnownBytes.{Consumes, IsAtEnd}
use Rattle.httparse.specs.Grammar.{RequestHead, print_request, ReadsRequest, HasNoRequest, NeverHasRequest, MayBecomeRequest, EndsInTarget}
use Rattle.registry_http.specs.Heads.{longest_head, longest_request_body, body_length, is_refused, is_last}
use Rattle.registry_http.specs.Lines.{HasEmptyLine}
use Rattle.registry_http.specs.RequestParts.{RequestParts}
use Rattle.registry_http.specs.declared.requests.Next.{Next}
use Rattle.registry_http.specs.declared.requests.Next.TheVariants as next

-- the bytes begin with this head, which is not too long, and then `behind`
pub record BeginsWith (bytes : List ℕ) (h : RequestHead) (behind : List ℕ) : Type 0 where
  pub reads : ReadsRequest bytes h behind
  pub fits : length (print_request h) ≤ longest_head

-- the bytes begin with no head, and never will: they are as many as a head may have, or no head begins as they do
pub record HasNoHead (bytes : List ℕ) : Type 0 where
  pub none : HasNoRequest (take longest_head bytes)
  pub none_comes : (longest_head ≤ length bytes) ⊎ (NeverHasRequest bytes × ¬ (EndsInTarget bytes))

-- the bytes begin with no head yet, and one may still come; where they end inside the target it may, whatever they are
pub record HasNoHeadYet (bytes : List ℕ) : Type 0 where
  pub none : HasNoRequest bytes
  pub room : length bytes < longest_head
  pub may_come : MayBecomeRequest bytes

-- the bytes begin with a head that is not refused, and whose body has this length
pub record BeginsRequest (bytes : List ℕ) (h : RequestHead) (behind : List ℕ) (size : ℕ) : Type 0 where
  pub head : BeginsWith bytes h behind
  pub taken : is_refused h ≡ false
  pub length_is : body_length h ≡ Some size

-- the bytes begin with a head that is taken, and lack some of its body
abbrev pub LacksBody : List ℕ → Type 0
LacksBody bytes =
    (h : RequestHead) × (behind : List ℕ) × (size : ℕ)
    × BeginsRequest bytes h behind size × (size ≤ longest_request_body) × (length behind < size)

-- the request of a head and its body
abbrev pub request_of : RequestHead → List ℕ → RequestParts
request_of h body = record { method = h.method; path = h.target; body = body; last = is_last h }

-- what stands at the front of bytes: a whole request and the bytes behind it, nothing, a part of a request,
-- a head that is refused or none at all, or a head that announces too long a body
pub data AtFront : Type 0 where
  Whole : RequestParts → List ℕ → AtFront
  Nothing Cut HeadFault BodyTooLong : AtFront

-- this stands at the front of the bytes
abbrev pub StandsIn : List ℕ → AtFront → Type 0
StandsIn bytes (Whole request rest) =
    (h : RequestHead) × (body : List ℕ) × BeginsRequest bytes h (body ++ rest) (length body)
    × (length body ≤ longest_request_body) × (request ≡ request_of h body)
StandsIn bytes Nothing = bytes ≡ []
StandsIn bytes Cut =
    (0 < length bytes) × (HasNoHeadYet bytes ⊎ LacksBody bytes)
StandsIn bytes HeadFault =
    HasNoHead bytes ⊎ ((h : RequestHead) × (behind : List ℕ) × BeginsWith bytes h behind × (is_refused h ≡ true))
StandsIn bytes BodyTooLong =
    (h : RequestHead) × (behind : List ℕ) × (size : ℕ) × BeginsRequest bytes h behind size × (longest_request_body < size)

-- fewer bytes came than a head may have, and no empty line
abbrev pub LacksEnd : List ℕ → Type 0
LacksEnd bytes = (length bytes < longest_head) × ¬ (HasEmptyLine bytes)

-- more bytes are wanted: they may be a head that lacks its end, or are one that lacks some of its body
abbrev pub WantsMore : List ℕ → Type 0
WantsMore bytes = LacksEnd bytes ⊎ LacksBody bytes

-- the most bytes that one read brings
abbrev pub longest_read : ℕ
longest_read = 4096

-- these bytes were read beyond those that were kept, and only because they were wanted: there are none, or more were wanted before the last of them, which one read brought
abbrev pub IsWanted : List ℕ → List ℕ → Type 0
IsWanted kept read =
    (read ≡ []) ⊎ ((front : List ℕ) × (last : List ℕ)
    × (read ≡ front ++ last) × (length last ≤ longest_read) × WantsMore (kept ++ front))

-- the answer says what stands at the front of the bytes that came; where it is the end of a link no more come, and where it is a failed link more were wanted
abbrev pub Tells : List ℕ → List ℕ → Option (List ℕ) → Next → Type 0
Tells bytes kept left (next.Request request) = StandsIn bytes (Whole request kept)
Tells bytes kept left next.End = StandsIn bytes Nothing × IsAtEnd left
Tells bytes kept left next.Cut = StandsIn bytes Cut × IsAtEnd left
Tells bytes kept left next.HeadFault = StandsIn bytes HeadFault
Tells bytes kept left next.BodyTooLong = StandsIn bytes BodyTooLong
Tells bytes kept left next.LinkFault = WantsMore bytes
Tells bytes kept left next.Memory = Unit {0}

-- some bytes were read from the link, because they were wanted; no more are kept than were kept before and came; and the answer is about those that were kept before and these
pub record ReadsNext (left_old left_new : Option (List ℕ)) (kept_old kept_new : List ℕ) (answer : Next) : Type 0 where
  pub read : List ℕ
  pub consumed : Consumes left_old left_new read
  pub wanted : IsWanted kept_old read
  pub kept : length kept_new ≤ length kept_old + length read
  pub answered : Tells (kept_old ++ read) kept_new left_new answer

-- the link failed
abbrev pub link_failed : Next → Bool
link_failed (next.Request request) = false
link_failed next.End = false
link_failed next.Cut = false
link_failed next.HeadFault = false
link_failed next.BodyTooLong = false
link_failed next.LinkFault = true
link_failed next.Memory = false

-- the most bytes that are kept where some were read: after a request those of one read, and else those of a head, a body and one read
abbrev pub most_kept : Next → ℕ
most_kept (next.Request request) = longest_read
most_kept _ = longest_head + longest_request_body + longest_read

-- no more bytes are kept than were kept before, or few
abbrev pub KeepsFew : List ℕ → List ℕ → Next → Type 0
KeepsFew kept_old kept_new answer = (length kept_new ≤ length kept_old) ⊎ (length kept_new ≤ most_kept answer)
