-- What the head of a request says: its limits, the length of its body, and whether it is the last.
use Rattle.std.specs.Prelude.{ℕ, ◌==◌, Bool, ◌||◌, ◌&&◌, if◌then◌else◌, nat_lt, List, [], ◌∷◌, length, map, codes, Option, Some, None, is_none}
use Rattle.std.specs.List.{list_any}
use Rattle.std.specs.Str.{all_ascii_digits, str_eq_ignore_ascii_case}
use Rattle.std.specs.Str.Parse.{digits_value}
use Rattle.gb_base.specs.Limits.{is_between}
use Rattle.httparse.specs.Grammar.{RequestHead}
use Rattle.httparse.specs.Spans.{name_and_value}

-- the longest head, in bytes
abbrev pub longest_head : ℕ
longest_head = 8192

-- the most header lines of a head
abbrev pub most_header_lines : ℕ
most_header_lines = 64

-- the longest body, in bytes
abbrev pub longest_request_body : ℕ
longest_request_body = 65536

-- headers: the name of each, and its value without the white space around it
abbrev pub Headers : Type 0
Headers = List (List ℕ × List ℕ)

-- the headers of a head, in order
abbrev pub headers_of : RequestHead → Headers
headers_of h = map name_and_value h.fields

-- the values of the headers of this name, in order; case does not matter
abbrev pub values_of : List ℕ → Headers → List (List ℕ)
values_of name [] = []
values_of name (header ∷ headers) =
    if str_eq_ignore_ascii_case header.0 name
    then header.1 ∷ values_of name headers
    else values_of name headers

-- one to eight digits
abbrev pub is_length : List ℕ → Bool
is_length text = is_between 1 8 (length text) && all_ascii_digits text

-- the number that one to eight digits write
abbrev pub length_of : List ℕ → Option ℕ
length_of text = if is_length text then Some (digits_value 10 text) else None

-- the length that these values of Content-Length give: 0 where there is none, and none where there are two
abbrev pub length_in : List (List ℕ) → Option ℕ
length_in [] = Some 0
length_in (value ∷ []) = length_of value
length_in (value ∷ other ∷ values) = None

-- the length of the body behind a head
abbrev pub body_length : RequestHead → Option ℕ
body_length h = length_in (values_of (codes "content-length") (headers_of h))

-- the head has a Transfer-Encoding
abbrev pub is_encoded : RequestHead → Bool
is_encoded h = nat_lt 0 (length (values_of (codes "transfer-encoding") (headers_of h)))

-- a head is refused: it has too many lines or a Transfer-Encoding, or gives no length of the body
abbrev pub is_refused : RequestHead → Bool
is_refused h = nat_lt most_header_lines (length (headers_of h)) || is_encoded h || is_none (body_length h)

-- the connection ends after this request: its version is 1.0, or the value of some Connection header is `close`
abbrev pub is_last : RequestHead → Bool
is_last h =
    h.minor == 0 || list_any (λ value. str_eq_ignore_ascii_case value (codes "close")) (values_of (codes "connection") (headers_of h))
