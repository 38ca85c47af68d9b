-- What the bytes of a link that came so far are.
use Rattle.std.proofs.Common.{◌≡◌, ℕ, ◌+◌, ◌-◌, ◌<◌, ◌≤◌, inl, inr, Bool, true, false, List, [], length, take, drop, refl, sym, arith, length-take}
use Rattle.std.specs.Prelude.{not, ◌&&◌, nat_lt}
use Rattle.std.proofs.lemmas.Bool.{false≢true, ltb-true, lt-ltb}
use Rattle.std.proofs.lemmas.List.{drop_all}
use Rattle.httparse.specs.Grammar.{print_request}
use Rattle.registry_http.specs.Framing.{IsWhole, IsRefusal}
use Rattle.registry_http.specs.Requests.{HasNoHeadYet, HeadFault, BodyTooLong, StandsIn, LacksEnd, WantsMore}
use Rattle.registry_http.specs.inner.Framing.{lacks_end}
use Rattle.registry_http.specs.inner.Lines.{has_empty_line}
use Rattle.registry_http.specs.inner.Reading.{HasHead}
use Rattle.registry_http.proofs.EmptyLines.{no_line, found_line}
use Rattle.registry_http.proofs.HeadLines.{yet_lacks_end}
use Rattle.registry_http.proofs.ReadSoFar.{lacks_body, some_bytes, taken}
use Rattle.registry_http.proofs.WholeHeads.{head_in_front}
use Rattle.registry_http.proofs.Wanted.{none_wants_none, long_wants_none}

-- a head and its body are one whole request
pub whole_now : (bytes method path : List ℕ) (len body : ℕ) (last : Bool) → HasHead bytes method path len body last → len + body ≤ length bytes
    → IsWhole bytes (len + body)
whole_now bytes method path len body last x long =
    let n = len + body in
    let front : HasHead (take n bytes) method path len body last = record {
      h = x.h;
      behind = take (n - length (print_request x.h)) x.behind;
      begins = record {
        head = record {
          reads = head_in_front bytes n x.h x.behind x.begins.head.reads (omega (arith, x.len_is));
          fits = x.begins.head.fits;
        };
        taken = x.begins.taken;
        length_is = x.begins.length_is;
      };
      small = x.small;
      method_is = x.method_is;
      path_is = x.path_is;
      len_is = x.len_is;
      last_is = x.last_is;
      token = x.token;
    } in
    let size = length-take n bytes in
    record {
      some = omega (arith, size, long, some_bytes (take n bytes) method path len body last front);
      within = long;
      request = record { method = method; path = path; body = take body (drop len (take n bytes)); last = last };
      stands =
          taken (take n bytes) method path len body last _ [] front (omega (arith, size, long)) refl
          (sym (drop_all n (take n bytes) (omega (arith, size, long))));
    }

-- where a body lacks bytes more are wanted
pub wants_body : (bytes method path : List ℕ) (len body : ℕ) (last : Bool) → HasHead bytes method path len body last → length bytes < len + body
    → WantsMore bytes
wants_body bytes method path len body last x short = inr (lacks_body bytes method path len body last x short)

lacks_at : (t u : Bool) → (t && not u) ≡ true → (t ≡ true) × (u ≡ false)
lacks_at true false is = (refl, refl)
lacks_at true true is = absurd (false≢true is)
lacks_at false u is = absurd (false≢true is)

-- a head that lacks its end wants more
pub wants_end : (bytes : List ℕ) → lacks_end bytes ≡ true → WantsMore bytes
wants_end bytes is =
    let both = lacks_at (nat_lt (length bytes) 8192) (has_empty_line bytes) is in
    inl (ltb-true (length bytes) 8192 both.0, no_line bytes both.1)

ended_at : (t u : Bool) → (t && not u) ≡ false → t ≡ true → u ≡ true
ended_at true true is short = refl
ended_at true false is short = absurd (false≢true (sym is))
ended_at false u is short = absurd (false≢true short)

-- one that has its end lacks none
pub has_end : (bytes : List ℕ) → lacks_end bytes ≡ false → ¬ (LacksEnd bytes)
has_end bytes is lacks =
    lacks.1
    (found_line bytes (ended_at (nat_lt (length bytes) 8192) (has_empty_line bytes) is (lt-ltb (length bytes) 8192 lacks.0)))

-- where no head came yet more is wanted
pub wants_head : (bytes : List ℕ) → HasNoHeadYet bytes → WantsMore bytes
wants_head bytes yet = inl (yet_lacks_end bytes yet)

-- a refused head
pub refused_now : (bytes : List ℕ) → lacks_end bytes ≡ false → StandsIn bytes HeadFault → IsRefusal bytes
refused_now bytes is x = record { stands = inl x; settled = none_wants_none bytes x (has_end bytes is) }

-- too long a body
pub long_now : (bytes : List ℕ) → StandsIn bytes BodyTooLong → IsRefusal bytes
long_now bytes x = record { stands = inr x; settled = long_wants_none bytes x }
