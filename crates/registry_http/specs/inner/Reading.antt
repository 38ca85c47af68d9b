-- How a request is read from a link: its head first, and then its body.
use Rattle.std.specs.Prelude.{◌≡◌, ℕ, ◌==◌, ◌≤◌, Bool, true, false, ◌&&◌, if◌then◌else◌, List, [], ◌∷◌, ◌++◌, length, Option, Result, Ok, Err}
use Rattle.std.specs.List.{list_all}
use Rattle.std.specs.Io.KnownBytes.{Consumes}
use Rattle.httparse.specs.Grammar.{RequestHead, print_request, IsToken, is_token_byte, is_uri_byte}
use Rattle.registry_http.specs.Heads.{longest_request_body, is_last, is_refused}
use Rattle.registry_http.specs.Requests.{BeginsWith, BeginsRequest, HasNoHeadYet, StandsIn, HeadFault, BodyTooLong, IsWanted, longest_read, link_failed}
use Rattle.registry_http.specs.declared.heads.Front.{Front}
use Rattle.registry_http.specs.declared.heads.Front.TheVariants as front
use Rattle.registry_http.specs.declared.requests.Next.{Next}
use Rattle.registry_http.specs.declared.requests.Next.TheVariants as next

-- the bytes begin with a head that is not refused, of these parts and so many bytes
pub record HasHead (bytes method path : List ℕ) (len body : ℕ) (last : Bool) : Type 0 where
  pub h : RequestHead
  pub behind : List ℕ
  pub begins : BeginsRequest bytes h behind body
  pub small : body ≤ longest_request_body
  pub method_is : h.method ≡ method
  pub path_is : h.target ≡ path
  pub len_is : length (print_request h) ≡ len
  pub last_is : is_last h ≡ last
  pub token : IsToken method

-- what is told of the front of the bytes
abbrev pub IsFront : List ℕ → Front → Type 0
IsFront bytes (front.Head head) = HasHead bytes head.method.now head.path.now head.len head.body_len head.last
IsFront bytes front.Cut = HasNoHeadYet bytes
IsFront bytes front.Refused = StandsIn bytes HeadFault
IsFront bytes front.TooLong = StandsIn bytes BodyTooLong

-- what is told of bytes that begin with a head
abbrev pub IsJudged : List ℕ → Front → Type 0
IsJudged bytes (front.Head head) = HasHead bytes head.method.now head.path.now head.len head.body_len head.last
IsJudged bytes front.Cut = ⊥
IsJudged bytes front.Refused =
    (h : RequestHead) × (behind : List ℕ) × BeginsWith bytes h behind × (is_refused h ≡ true)
IsJudged bytes front.TooLong = StandsIn bytes BodyTooLong

-- one read brought these bytes behind those that were there
pub record Brings (left_old left_new : Option (List ℕ)) (old new : List ℕ) : Type 0 where
  pub read : List ℕ
  pub consumed : Consumes left_old left_new read
  pub grown : new ≡ old ++ read
  pub few : length read ≤ longest_read

-- why one read brought nothing that is kept
abbrev pub IsBreak : List ℕ → Next → Type 0
IsBreak read (next.Request request) = ⊥
IsBreak read next.End = ⊥
IsBreak read next.Cut = ⊥
IsBreak read next.HeadFault = ⊥
IsBreak read next.BodyTooLong = ⊥
IsBreak read next.LinkFault = read ≡ []
IsBreak read next.Memory = Unit {0}

-- one read failed, or found no memory for what it brought
pub record Breaks (left_old left_new : Option (List ℕ)) (old new : List ℕ) (answer : Next) : Type 0 where
  pub read : List ℕ
  pub consumed : Consumes left_old left_new read
  pub few : length read ≤ longest_read
  pub kept : new ≡ old
  pub broken : IsBreak read answer

-- the bytes that were read from the link, because they were wanted, stand behind those that were there
pub record ReadsOn (left_old left_new : Option (List ℕ)) (old new : List ℕ) : Type 0 where
  pub read : List ℕ
  pub consumed : Consumes left_old left_new read
  pub wanted : IsWanted old read
  pub grown : new ≡ old ++ read

-- the link failed
abbrev pub work_failed : {A : Type 0} → Result A Next → Bool
work_failed (Ok a) = false
work_failed (Err answer) = link_failed answer

-- the most header lines that a head of at most 8,192 bytes can have
abbrev pub most_fields : ℕ
most_fields = 2731

-- the bytes without the line ends at their front
abbrev pub without_blank : List ℕ → List ℕ
without_blank [] = []
without_blank (a ∷ []) = if a == 10 then [] else a ∷ []
without_blank (a ∷ b ∷ bytes) =
    if a == 10 then without_blank (b ∷ bytes) else (if a == 13 && b == 10 then without_blank bytes else a ∷ b ∷ bytes)

-- the bytes without those of a token at their front
abbrev pub without_token : List ℕ → List ℕ
without_token [] = []
without_token (b ∷ bytes) = if is_token_byte b then without_token bytes else b ∷ bytes

-- a space and some bytes of a target
abbrev pub is_space_and_target : List ℕ → Bool
is_space_and_target [] = false
is_space_and_target (b ∷ target) = b == 32 && list_all is_uri_byte target
