-- The number that a parameter took of a path.
use Rattle.std.proofs.Common.{◌≡◌, ℕ, ◌^◌, ◌<◌, List, [], ◌∷◌, codes, Some, None, refl, sym, ap, subst, ◌∙◌, arith, true, ltb}
use Rattle.std.specs.Fmt.{decimal}
use Rattle.std.specs.List.{list_all}
use Rattle.std.specs.Str.{IsAscii}
use Rattle.std.proofs.lemmas.Bool.{and_parts, ltb-true}
use Rattle.std.proofs.lemmas.Fmt.{IsAscii-decimal}
use Rattle.std.proofs.lemmas.Str.{IsUtf8-from_ascii}
use Rattle.std.proofs.lemmas.Str.Ascii.{IsAscii-cons, IsAscii-nil}
use Rattle.matchit.specs.Params.{AllText, named}
use Rattle.registry_http.specs.inner.Finding.{IsNumberPart}

-- a text whose bytes are ASCII by a test
pub ascii_text : (bytes : List ℕ) → list_all (λ b. ltb b 128) bytes ≡ true → IsAscii bytes
ascii_text [] all = IsAscii-nil
ascii_text (b ∷ bytes) all =
    let parts = and_parts (ltb b 128) (list_all (λ b. ltb b 128) bytes) all in
    IsAscii-cons b bytes (ltb-true b 128 parts.0) (ascii_text bytes parts.1)

pub number_text : (n : ℕ) (parts : List (List ℕ × List ℕ)) → n < 2 ^ 32 → IsNumberPart n parts → AllText parts
number_text n parts small is =
    subst AllText (sym is)
    (IsUtf8-from_ascii (codes "number") (ascii_text (codes "number") refl), IsUtf8-from_ascii (decimal n) (IsAscii-decimal n (omega arith)), tt)

pub number_named : (n : ℕ) (parts : List (List ℕ × List ℕ)) → IsNumberPart n parts → named (codes "number") parts ≡ Some (decimal n)
number_named n parts is = ap (named (codes "number")) is

pub number_missing : (n : ℕ) (parts : List (List ℕ × List ℕ)) (A : Type 0) → IsNumberPart n parts → named (codes "number") parts ≡ None → A
number_missing n parts A is none = let e : Some (decimal n) ≡ None = sym (number_named n parts is) ∙ none in absurd (cc)

pub number_value : (n : ℕ) (parts : List (List ℕ × List ℕ)) (value : List ℕ) → IsNumberPart n parts → named (codes "number") parts ≡ Some value → value ≡ decimal n
number_value n parts value is found = let e : Some (decimal n) ≡ Some value = sym (number_named n parts is) ∙ found in cc
