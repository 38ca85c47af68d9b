-- The bytes of a reply.
-- Why so: docs/DECISIONS.md, "A reply takes a status of `http` and its phrase".
use Rattle.std.specs.Prelude.{◌≡◌, ◌<◌, ℕ, Bool, true, false, List, [], ◌++◌, length, codes, unwrap_or, Option, Result, Ok, Err}
use Rattle.std.specs.Fmt.{decimal}
use Rattle.std.specs.Io.KnownBytes.{Appends}
use Rattle.http.specs.StatusCode.{reason_phrase}
use Rattle.registry_http.specs.declared.replies.ReplyFault.{ReplyFault}
use Rattle.registry_http.specs.declared.replies.ReplyFault.TheVariants as fault

-- the phrase of a status, as the crate `http` gives it; an empty one where it gives none
unfoldable pub phrase_of : ℕ → List ℕ
phrase_of status = unwrap_or (reason_phrase status) []

-- the status line, the two headers and the empty line of a reply whose body has this length
abbrev pub reply_head : ℕ → ℕ → List ℕ
reply_head status body_length =
    codes "HTTP/1.1 " ++ (decimal status ++ (codes " " ++ (phrase_of status
    ++ (codes "\r\nContent-Type: text/plain\r\nContent-Length: " ++ (decimal body_length ++ codes "\r\n\r\n")))))

-- a reply, byte for byte
abbrev pub reply_bytes : ℕ → List ℕ → List ℕ
reply_bytes status body = reply_head status (length body) ++ body

-- told bytes grow by a front of these that is not the whole
pub record AppendsPart (old new : Option (List ℕ)) (bytes : List ℕ) : Type 0 where
  pub front : List ℕ
  pub rest : List ℕ
  pub whole : bytes ≡ front ++ rest
  pub short : 0 < length rest
  pub added : Appends old new front

-- the link failed
abbrev pub reply_failed : Result (Unit {0}) ReplyFault → Bool
reply_failed (Ok u) = false
reply_failed (Err fault.LinkFault) = true
reply_failed (Err fault.Memory) = false
