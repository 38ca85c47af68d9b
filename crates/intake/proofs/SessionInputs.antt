-- An input that is read in blocks, and the requests of what was read.
use Rattle.std.proofs.Common.{◌≡◌, inl, ⊎_elim, ℕ, ◌≤◌, List, [], ◌∷◌, ◌++◌, length, take, drop, take-append-drop, sym, ap, ◌∙◌, subst, append_assoc, append-nil, Option, Some, None, IfSome}
use Rattle.std.specs.Io.KnownBytes.{Consumes, IsAtEnd}
use Rattle.std.proofs.KnownBytes.{Consumes-nil, Consumes-trans}
use Rattle.std.proofs.lemmas.List.{map-append, take_all, take_at}
use Rattle.intake.specs.Lines.{request_of_line}
use Rattle.intake.specs.Sessions.{ended, behind, ended_requests, line_requests, Took}
use Rattle.intake.specs.declared.lines.LineKind.{LineKind}
use Rattle.intake_requests.specs.declared.requests.Request.{Request}
use Rattle.intake.specs.EarlyEnds.{AreOf}
use Rattle.intake.specs.Grown.{IsFront}
use Rattle.intake.proofs.LineRequests.{requests_of_two}

pub took_none : (left : Option (List ℕ)) (Did : List ℕ → Type 0) → Did [] → Took left left Did
took_none left Did did = record { read = []; consumed = Consumes-nil left; did = did }

pub took_more : (left0 left1 left2 : Option (List ℕ)) (piece : List ℕ) (Before Did : List ℕ → Type 0) → Took left0 left1 Before → Consumes left1 left2 piece
    → ((read : List ℕ) → Before read → Did (read ++ piece)) → Took left0 left2 Did
took_more left0 left1 left2 piece Before Did before taken then =
    record { read = before.read ++ piece; consumed = Consumes-trans left0 left1 left2 before.read piece before.consumed taken; did = then before.read before.did }

pub took_same : (left0 left1 left2 : Option (List ℕ)) (Before Did : List ℕ → Type 0) → Took left0 left1 Before → left2 ≡ left1
    → ((read : List ℕ) → Before read → Did read) → Took left0 left2 Did
took_same left0 left1 left2 Before Did before stays then =
    record { read = before.read; consumed = rw stays before.consumed; did = then before.read before.did }

-- where no more was read than an input may have, the requests are those of the lines that were ended
pub are_ended : (kind : LineKind) (left1 : Option (List ℕ)) (read : List ℕ) → length read ≤ 67108864 → AreOf (line_requests kind) (ended_requests kind []) left1 read (ended_requests kind [] read)
are_ended kind left1 read short = inl (ap (ended_requests kind []) (sym (take_all 67108864 read short)))

-- with one piece more, the requests are those of all that was read
pub requests_of_more : (kind : LineKind) (line read piece : List ℕ) → line ≡ behind [] read → ended_requests kind [] read ++ ended_requests kind line piece ≡ ended_requests kind [] (read ++ piece)
requests_of_more kind line read piece is = ap (λ l. ended_requests kind [] read ++ ended_requests kind l piece) is ∙ sym (requests_of_two kind [] read piece)

-- with the last line, the requests are those of all lines
pub requests_of_last : (kind : LineKind) (line read : List ℕ) → line ≡ behind [] read → ended_requests kind [] read ++ request_of_line kind line ∷ [] ≡ line_requests kind read
requests_of_last kind line read is =
    ap (λ l. ended_requests kind [] read ++ request_of_line kind l ∷ []) is ∙ sym (map-append (request_of_line kind) (ended [] read) (behind [] read ∷ []))

-- what is read up to the most that is taken has the same requests as its front of that length
pub requests_of_short : (kind : LineKind) (read : List ℕ) → length read ≤ 67108864 → ended_requests kind [] read ≡ ended_requests kind [] (take 67108864 read)
requests_of_short kind read short = ap (ended_requests kind []) (sym (take_all 67108864 read short))

pub requests_of_most : (kind : LineKind) (read more : List ℕ) → length read ≡ 67108864 → ended_requests kind [] read ≡ ended_requests kind [] (take 67108864 (read ++ more))
requests_of_most kind read more is = ap (ended_requests kind []) (sym (take_at read more 67108864 is))

pub took_as : (left0 left1 : Option (List ℕ)) (Before Did : List ℕ → Type 0) → Took left0 left1 Before → ((read : List ℕ) → Before read → Did read) → Took left0 left1 Did
took_as left0 left1 Before Did before then = record { read = before.read; consumed = before.consumed; did = then before.read before.did }

whole_input : (x y read : List ℕ) → x ≡ read ++ y → y ≡ [] → x ≡ read
whole_input x y read e n = e ∙ ap (λ r. read ++ r) n ∙ append-nil read

-- ---- what was read as the front of an input, whatever its bytes ask

-- the requests of an input that is cut are the first of those of the whole input
abbrev pub BeginsWith : (List ℕ → List Request) → (List ℕ → List Request) → Type 0
BeginsWith whole cut = (front behind : List ℕ) → IsFront (cut (take 67108864 front)) (whole (front ++ behind))

pub lines_begin : (kind : LineKind) → BeginsWith (line_requests kind) (ended_requests kind [])
lines_begin kind front behind_it =
    let a = take 67108864 front in
    let b = drop 67108864 front ++ behind_it in
    let split : front ++ behind_it ≡ a ++ b = ap (λ r. r ++ behind_it) (sym (take-append-drop 67108864 front)) ∙ append_assoc a (drop 67108864 front) behind_it in (
      ended_requests kind (behind [] a) b ++ request_of_line kind (behind [] (front ++ behind_it)) ∷ [],
      map-append (request_of_line kind) (ended [] (front ++ behind_it)) (behind [] (front ++ behind_it) ∷ [])
          ∙ ap (λ rs. rs ++ request_of_line kind (behind [] (front ++ behind_it)) ∷ []) (ap (ended_requests kind []) split ∙ requests_of_two kind [] a b)
          ∙ append_assoc (ended_requests kind [] a) (ended_requests kind (behind [] a) b) (request_of_line kind (behind [] (front ++ behind_it)) ∷ []),
    )

-- where the source told its bytes and came to its end, all of them were read
pub of_whole : (whole : List ℕ → List Request) (left0 left1 : Option (List ℕ)) (All : List Request → Type 0)
    → Took left0 left1 (λ read. IsAtEnd left1 × (length read ≤ 67108864) × All (whole read)) → IfSome left0 (λ input. All (whole input))
of_whole whole None left1 All took = tt
of_whole whole (Some x) None All took = absurd took.consumed
of_whole whole (Some x) (Some y) All took = subst (λ (input : List ℕ). All (whole input)) (sym (whole_input x y took.read took.consumed took.did.0)) took.did.2

-- the requests of what was read are the first of those of the input
pub record FirstOf (whole : List ℕ → List Request) (input : List ℕ) (Did : List Request → Type 0) : Type 0 where
  pub requests : List Request
  pub others : List Request
  pub all : whole input ≡ requests ++ others
  pub did : Did requests

pub of_part : (whole cut : List ℕ → List Request) (left0 left1 : Option (List ℕ)) (Did : List Request → Type 0) → BeginsWith whole cut
    → Took left0 left1 (λ read. (requests : List Request) × AreOf whole cut left1 read requests × Did requests) → IfSome left0 (λ input. FirstOf whole input Did)
of_part whole cut None left1 Did begins took = tt
of_part whole cut (Some x) None Did begins took = absurd took.consumed
of_part whole cut (Some x) (Some y) Did begins took = ⊎_elim
    (λ of_cut. let first = begins took.read y in
    record { requests = took.did.0; others = first.0; all = ap whole took.consumed ∙ first.1 ∙ ap (λ rs. rs ++ first.0) (sym of_cut); did = took.did.2 })
    (λ at_end. record {
      requests = took.did.0;
      others = [];
      all = ap whole (whole_input x y took.read took.consumed at_end.0) ∙ sym at_end.2 ∙ sym (append-nil took.did.0);
      did = took.did.2;
    }) took.did.1

pub if_some_at : {A : Type 0} (left : Option A) (x : A) (P : A → Type 0) → left ≡ Some x → IfSome left P → P x
if_some_at left x P is holds = subst (λ l. IfSome l P) is holds
