-- A request that is read piece by piece: what is known after each piece.
use Rattle.std.proofs.Common.{◌≡◌, ℕ, ◌+◌, ◌<◌, ◌≤◌, inl, inr, ⊎_elim, Bool, List, [], ◌++◌, length, take, drop, Option, Result, Ok, Err, IfErr, refl, sym, ap, subst, ◌∙◌, arith, append_assoc, append-nil, length-append, length-take, length-drop, take-append-drop, drop-drop}
use Rattle.std.specs.Io.KnownBytes.{IsAtEnd}
use Rattle.std.proofs.KnownBytes.{Consumes-nil, Consumes-trans}
use Rattle.std.specs.Result.{IsErrAnd}
use Rattle.std.proofs.lemmas.List.Prefix.{front_rest}
use Rattle.httparse.specs.Grammar.{RequestHead, print_request, print_blank, print_version, print_end, print_section}
use Rattle.httparse.proofs.GrammarLemmas.{print_request-append}
use Rattle.registry_http.specs.RequestParts.{RequestParts}
use Rattle.registry_http.specs.Heads.{is_last}
use Rattle.registry_http.specs.Requests.{BeginsRequest, LacksBody, WantsMore, IsWanted, StandsIn, Whole, Cut, Tells, ReadsNext, request_of}
use Rattle.registry_http.specs.inner.Reading.{HasHead, Brings, IsBreak, Breaks, ReadsOn}
use Rattle.registry_http.proofs.WholeHeads.{HasHead-append, head_has_bytes}
use Rattle.registry_http.specs.declared.requests.Next.{Next}
use Rattle.registry_http.specs.declared.requests.Next.TheVariants as next

-- ---- reads, one after another

pub reads_none : (left : Option (List ℕ)) (had : List ℕ) → ReadsOn left left had had
reads_none left had = record { read = []; consumed = Consumes-nil left; wanted = inl refl; grown = sym (append-nil had) }

-- what was read first and what was read then were wanted
wanted_then : (old mid first second : List ℕ) → mid ≡ old ++ first → IsWanted old first → IsWanted mid second → IsWanted old (first ++ second)
wanted_then old mid first second grown before now =
    ⊎_elim (λ (none : second ≡ []). subst (IsWanted old) (sym (ap (λ l. first ++ l) none ∙ append-nil first)) before)
    (λ (some : (front : List ℕ) × (last : List ℕ) × (second ≡ front ++ last) × (length last ≤ 4096) × WantsMore (mid ++ front)).
    inr (
      first ++ some.0,
      some.1,
      ap (λ l. first ++ l) some.2 ∙ sym (append_assoc first some.0 some.1),
      some.3,
      subst WantsMore (ap (λ l. l ++ some.0) grown ∙ append_assoc old first some.0) some.4,
    )) now

pub reads_then : (a b c : Option (List ℕ)) (old mid new : List ℕ) → ReadsOn a b old mid → ReadsOn b c mid new → ReadsOn a c old new
reads_then a b c old mid new first second = record {
  read = first.read ++ second.read;
  consumed = Consumes-trans a b c first.read second.read first.consumed second.consumed;
  wanted = wanted_then old mid first.read second.read first.grown first.wanted second.wanted;
  grown = second.grown ∙ ap (λ l. l ++ second.read) first.grown ∙ append_assoc old first.read second.read;
}

-- an answer about the bytes that are there is one about those before and what was read since
pub answer_since : (a b c : Option (List ℕ)) (old mid kept : List ℕ) (answer : Next) → ReadsOn a b old mid → ReadsNext b c mid kept answer
    → ReadsNext a c old kept answer
answer_since a b c old mid kept answer before now = record {
  read = before.read ++ now.read;
  consumed = Consumes-trans a b c before.read now.read before.consumed now.consumed;
  wanted = wanted_then old mid before.read now.read before.grown before.wanted now.wanted;
  kept = omega (arith, now.kept, ap length before.grown, length-append old before.read, length-append before.read now.read);
  answered =
      subst (λ bytes. Tells bytes kept c answer)
      (ap (λ l. l ++ now.read) before.grown ∙ append_assoc old before.read now.read) now.answered;
}

-- an answer that needs no more bytes
pub answer_now : (left : Option (List ℕ)) (bytes : List ℕ) (answer : Next) → Tells bytes bytes left answer → ReadsNext left left bytes bytes answer
answer_now left bytes answer is = record {
  read = [];
  consumed = Consumes-nil left;
  wanted = inl refl;
  kept = omega arith;
  answered = subst (λ b. Tells b bytes left answer) (sym (append-nil bytes)) is;
}

-- an answer that needs no more bytes than were read before it
pub answer_then : (a b : Option (List ℕ)) (old bytes : List ℕ) (answer : Next) → ReadsOn a b old bytes → Tells bytes bytes b answer → ReadsNext a b old bytes answer
answer_then a b old bytes answer before is = answer_since a b b old bytes bytes answer before (answer_now b bytes answer is)

-- ---- one read

wanted_now : (bytes read : List ℕ) → WantsMore bytes → length read ≤ 4096 → IsWanted bytes read
wanted_now bytes read wants few = inr ([], read, refl, few, subst WantsMore (sym (append-nil bytes)) wants)

-- a read that was wanted
pub brought : (a b c : Option (List ℕ)) (old mid new : List ℕ) → ReadsOn a b old mid → WantsMore mid → Brings b c mid new → ReadsOn a c old new
brought a b c old mid new before wants more =
    reads_then a b c old mid new before (record {
      read = more.read;
      consumed = more.consumed;
      wanted = wanted_now mid more.read wants more.few;
      grown = more.grown;
    })

break_tells : (bytes read : List ℕ) (left : Option (List ℕ)) (answer : Next) → WantsMore bytes → IsBreak read answer → Tells (bytes ++ read) bytes left answer
break_tells bytes read left (next.Request request) wants broken = absurd broken
break_tells bytes read left next.End wants broken = absurd broken
break_tells bytes read left next.Cut wants broken = absurd broken
break_tells bytes read left next.HeadFault wants broken = absurd broken
break_tells bytes read left next.BodyTooLong wants broken = absurd broken
break_tells bytes read left next.LinkFault wants broken =
    subst WantsMore (sym (append-nil bytes) ∙ sym (ap (λ l. bytes ++ l) broken)) wants
break_tells bytes read left next.Memory wants broken = tt

-- a read that was wanted and broke off
pub broke_off : (a b c : Option (List ℕ)) (old mid kept : List ℕ) (answer : Next) → ReadsOn a b old mid → WantsMore mid → Breaks b c mid kept answer
    → ReadsNext a c old kept answer
broke_off a b c old mid kept answer before wants breaks =
    subst (λ k. ReadsNext a c old k answer) (sym breaks.kept)
    (answer_since a b c old mid mid answer before (record {
      read = breaks.read;
      consumed = breaks.consumed;
      wanted = wanted_now mid breaks.read wants breaks.few;
      kept = omega arith;
      answered = break_tells mid breaks.read c answer wants breaks.broken;
    }))

-- ---- a head and its body

pub behind_length : (bytes method path : List ℕ) (len body : ℕ) (last : Bool) (x : HasHead bytes method path len body last)
    → length bytes ≡ len + length x.behind
behind_length bytes method path len body last x =
    omega (arith, ap length x.begins.head.reads.1, length-append (print_request x.h) x.behind, x.len_is)

-- a head has bytes
pub some_bytes : (bytes method path : List ℕ) (len body : ℕ) (last : Bool) → HasHead bytes method path len body last → 0 < length bytes
some_bytes bytes method path len body last x =
    let h = x.h in
    let printed = print_request-append h x.behind in
    let lengths = head_has_bytes (print_blank h.blank) h.method h.target (print_version h.minor ++ (print_end h.line_end ++ (print_section h.fields h.last ++ x.behind))) in
    omega (arith, ap length x.begins.head.reads.1, ap length printed, lengths)

-- bytes with a head that lack some of its body
pub lacks_body : (bytes method path : List ℕ) (len body : ℕ) (last : Bool) → HasHead bytes method path len body last → length bytes < len + body → LacksBody bytes
lacks_body bytes method path len body last x short =
    (x.h, x.behind, body, x.begins, x.small, omega (arith, short, behind_length bytes method path len body last x))

-- the bytes that were read behind a head leave it there
pub head_stays : (a b : Option (List ℕ)) (old new method path : List ℕ) (len body : ℕ) (last : Bool) → HasHead old method path len body last → ReadsOn a b old new
    → HasHead new method path len body last
head_stays a b old new method path len body last x reads =
    subst (λ l. HasHead l method path len body last) (sym reads.grown) (HasHead-append old reads.read method path len body last x)

-- a head whose body lacks bytes is a request cut short
pub body_cut : (bytes method path : List ℕ) (len body : ℕ) (last : Bool) → HasHead bytes method path len body last → length bytes < len + body
    → StandsIn bytes Cut
body_cut bytes method path len body last x short =
    (some_bytes bytes method path len body last x, inr (lacks_body bytes method path len body last x short))

-- the link ended before the end of a body
pub ended_in_body : (a b c : Option (List ℕ)) (old mid new method path : List ℕ) (len body : ℕ) (last : Bool)
    → ReadsOn a b old mid → HasHead mid method path len body last → length mid < len + body → Brings b c mid new → new ≡ mid → IsAtEnd c
    → ReadsNext a c old new next.Cut
ended_in_body a b c old mid new method path len body last before x short more same end =
    let wants : WantsMore mid = inr (lacks_body mid method path len body last x short) in
    answer_then a c old new next.Cut (brought a b c old mid new before wants more)
    (subst (λ l. StandsIn l Cut) (sym same) (body_cut mid method path len body last x short), end)

-- the link broke off before the end of a body
pub broken_in_body : (a b c : Option (List ℕ)) (old mid new method path : List ℕ) (len body : ℕ) (last : Bool) (answer : Next)
    → ReadsOn a b old mid → HasHead mid method path len body last → length mid < len + body → Breaks b c mid new answer → ReadsNext a c old new answer
broken_in_body a b c old mid new method path len body last answer before x short breaks =
    broke_off a b c old mid new answer before (inr (lacks_body mid method path len body last x short)) breaks

-- more of a body came
pub more_of_body : (a b c : Option (List ℕ)) (old mid new method path : List ℕ) (len body : ℕ) (last : Bool)
    → ReadsOn a b old mid → HasHead mid method path len body last → length mid < len + body → Brings b c mid new → ReadsOn a c old new
more_of_body a b c old mid new method path len body last before x short more =
    brought a b c old mid new before (inr (lacks_body mid method path len body last x short)) more

pub head_kept : (b c : Option (List ℕ)) (old new method path : List ℕ) (len body : ℕ) (last : Bool) → HasHead old method path len body last → Brings b c old new
    → HasHead new method path len body last
head_kept b c old new method path len body last x more =
    subst (λ l. HasHead l method path len body last) (sym more.grown) (HasHead-append old more.read method path len body last x)

parts_same : (h : RequestHead) (method path body rest : List ℕ) (last : Bool) → h.method ≡ method → h.target ≡ path → body ≡ rest → is_last h ≡ last
    → ◌≡◌ {A = RequestParts} (record { method = method; path = path; body = body; last = last }) (request_of h rest)
parts_same h method path body rest last m p b l = λ i. record { method = sym m i; path = sym p i; body = b i; last = sym l i }

-- the parts that are taken off the bytes are the request that stands there
pub taken : (bytes method path : List ℕ) (len body : ℕ) (last : Bool) (request : RequestParts) (kept : List ℕ)
    → HasHead bytes method path len body last → len + body ≤ length bytes
    → request ≡ record { method = method; path = path; body = take body (drop len bytes); last = last }
    → kept ≡ drop (len + body) bytes → StandsIn bytes (Whole request kept)
taken bytes method path len body last request kept x long is kept_is =
    let behind : drop len bytes ≡ x.behind =
    ap (λ n. drop n bytes) (sym x.len_is) ∙ front_rest bytes (print_request x.h) x.behind x.begins.head.reads.1 in
    let rest : drop (len + body) bytes ≡ drop body x.behind = sym (drop-drop body len bytes) ∙ ap (drop body) behind in
    let lengths = behind_length bytes method path len body last x in
    let size : body ≡ length (take body x.behind) = omega (arith, length-take body x.behind, lengths) in
    let split : x.behind ≡ take body x.behind ++ kept = sym (take-append-drop body x.behind) ∙ ap (λ l. take body x.behind ++ l) (sym rest ∙ sym kept_is) in (
      x.h,
      take body x.behind,
      subst (λ n. BeginsRequest bytes x.h (take body x.behind ++ kept) n) size
          (subst (λ l. BeginsRequest bytes x.h l body) split x.begins),
      omega (arith, x.small, size),
      is ∙ parts_same x.h method path (take body (drop len bytes)) (take body x.behind) last x.method_is x.path_is (ap (take body) behind) x.last_is,
    )

-- all bytes of a request came
pub whole_request : (a b c : Option (List ℕ)) (old bytes1 bytes2 kept method path : List ℕ) (len body : ℕ) (last : Bool) (request : RequestParts)
    → ReadsOn a b old bytes1 → HasHead bytes1 method path len body last → ReadsOn b c bytes1 bytes2 → len + body ≤ length bytes2
    → request ≡ record { method = method; path = path; body = take body (drop len bytes2); last = last }
    → kept ≡ drop (len + body) bytes2 → ReadsNext a c old kept (next.Request request)
whole_request a b c old bytes1 bytes2 kept method path len body last request before x more long is kept_is =
    let y = head_stays b c bytes1 bytes2 method path len body last x more in
    let both = reads_then a b c old bytes1 bytes2 before more in
    record {
      read = both.read;
      consumed = both.consumed;
      wanted = both.wanted;
      kept = omega (arith, ap length kept_is, length-drop (len + body) bytes2, ap length both.grown, length-append old both.read);
      answered = subst (λ l. StandsIn l (Whole request kept)) both.grown (taken bytes2 method path len body last request kept y long is kept_is);
    }

-- at the exit of a `?` what holds of the answer holds of the result
pub at_exit : {T : Type 0} (r : Result T Next) (P : Next → Type 0) (answer : Next) → IsErrAnd r (λ e. e ≡ answer) → P answer → IfErr r P
at_exit (Ok x) P answer is holds = absurd is
at_exit (Err e) P answer is holds = subst P (sym is) holds

-- when memory runs out, nothing is said of the bytes
pub memory_after : (a b : Option (List ℕ)) (old bytes kept : List ℕ) → ReadsOn a b old bytes → length kept ≤ length bytes → ReadsNext a b old kept next.Memory
memory_after a b old bytes kept reads few = record {
  read = reads.read;
  consumed = reads.consumed;
  wanted = reads.wanted;
  kept = omega (arith, few, ap length reads.grown, length-append old reads.read);
  answered = tt;
}
