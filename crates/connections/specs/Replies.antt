-- Replies: a status, and a body.
use Rattle.std.specs.Prelude.{ℕ, ◌==◌, Bool, ◌||◌, List, ◌++◌, codes, flat_map}
use Rattle.registry_http.specs.Replies.{reply_bytes}

-- a reply
pub record ReplyParts : Type 0 where
  pub status : ℕ
  pub body : List ℕ

-- a line, with its LF
abbrev pub line_reply : ℕ → List ℕ → ReplyParts
line_reply status words = record { status = status; body = words ++ codes "\n" }

-- to bytes that are no request; no further one is read after it
abbrev pub bad_request : ReplyParts
bad_request = line_reply 400 (codes "bad request")

-- to a path that is no route, and where what is read is not there
abbrev pub not_found : ReplyParts
not_found = line_reply 404 (codes "not found")

-- to a route that is asked for by another method
abbrev pub wrong_method : ReplyParts
wrong_method = line_reply 405 (codes "method not allowed")

-- to a body of more than 65,536 bytes; no further request is read after it
abbrev pub body_too_long : ReplyParts
body_too_long = line_reply 413 (codes "payload too large")

-- to a request that found a file that is no journal
abbrev pub not_a_journal : ReplyParts
not_a_journal = line_reply 500 (codes "not a journal")

-- to a request in which a call of the disk failed
abbrev pub disk_failed : ReplyParts
disk_failed = line_reply 503 (codes "service unavailable")

-- to a request for which no memory was found
abbrev pub out_of_memory : ReplyParts
out_of_memory = line_reply 507 (codes "insufficient storage")

-- the statuses that replies have
abbrev pub is_reply_status : ℕ → Bool
is_reply_status n =
    n == 200 || n == 201 || n == 400 || n == 403 || n == 404 || n == 405 || n == 409 || n == 413 || n == 422 || n == 500 || n == 503 || n == 507

-- the bytes of replies, one after another
abbrev pub bytes_of : List ReplyParts → List ℕ
bytes_of replies = flat_map (λ reply. reply_bytes reply.status reply.body) replies
