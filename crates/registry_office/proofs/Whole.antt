-- The session in memory and the report, one after the other.
use Rattle.std.proofs.Common.{◌≡◌, ℕ, ◌≤◌, true, false, refl, length, take, List, [], ◌++◌, sym, ap, ◌∙◌, subst, Option, Some, None, IfSome, Result, Ok, Err, IsErrAnd}
use Rattle.std.specs.Io.KnownBytes.{Appends, Consumes, IsAtEnd}
use Rattle.std.proofs.KnownBytes.{Appends-trans}
use Rattle.gb_base.specs.DayMinute.{DayMinute}
use Rattle.gb_outside.specs.Bytes.{AppendsFront}
use Rattle.act_model.specs.declared.receipts.Receipt.{Receipt}
use Rattle.intake_requests.specs.declared.requests.Request.{Request}
use Rattle.intake.specs.Answered.{Answered}
use Rattle.intake.specs.EarlyEnds.{AreOf, EndsEarly}
use Rattle.intake.specs.Faults.{answer_fault_of, session_fault_of, session_output_failed}
use Rattle.intake.specs.Requests.{InMemory, Held, holding, replies, held_after}
use Rattle.intake.specs.Sessions.{line_requests, ended_requests, Took}
use Rattle.intake.specs.declared.faults.OutputFault.{OutputFault}
use Rattle.intake.specs.declared.faults.OutputFault.TheVariants as output
use Rattle.intake.specs.declared.faults.SessionFault.{SessionFault}
use Rattle.intake.specs.declared.lines.LineKind.TheVariants.{Stamped}
use Rattle.intake.proofs.EarlyEnds.{part_of_early}
use Rattle.intake.proofs.Replies.{replies-append, front_of_more, front_of_longer, whole_front}
use Rattle.intake.proofs.SessionInputs.{FirstOf, lines_begin, of_whole, of_part}
use Rattle.registry_office.specs.Outcomes.{report_of, settle_lines_output}
use Rattle.registry_office.proofs.Takings.{read_part_of_early}

-- the empty journal, which holds nothing
pub nothing_held : (journal : List Receipt) → journal ≡ [] → Some (holding journal []) ≡ Some (holding [] [])
nothing_held journal empty = ap (λ (j : List Receipt). Some (holding j [])) empty

abbrev held_or : Held → Option Held → Held
held_or held None = held
held_or held (Some other) = other

-- the journal of what is held
journal_of : (journal : List Receipt) (held : Held) → Some (holding journal []) ≡ Some held → journal ≡ held.journal
journal_of journal held is = ap (λ (h : Held). h.journal) (ap (held_or held) is)

pub if_some : {A : Type 0} (left : Option A) (P Q : A → Type 0) → ((x : A) → P x → Q x) → IfSome left P → IfSome left Q
if_some None P Q then has = tt
if_some (Some x) P Q then has = then x has

-- an error that was handed on is the error that came
pub handed_on : {A E : Type 0} (result : Result A E) (came : Result A E) (fault : E) → IsErrAnd result (λ e. e ≡ fault) → came ≡ Err fault → result ≡ came
handed_on (Ok value) came fault is from = absurd is
handed_on (Err e) came fault is from = ap Err is ∙ sym from

-- the sink did not fail, so no memory was found for the text that came last
pub lacked_by : (result : Result (Unit {0}) SessionFault) (fault : OutputFault) (P : Type 0) → IsErrAnd result (λ e. e ≡ session_fault_of (answer_fault_of fault)) → (fault ≡ output.Memory → P) → session_output_failed result ≡ false → P
lacked_by (Ok done) fault P is nothing sound = absurd is
lacked_by (Err e) output.Write P is nothing sound =
    let never : true ≡ false = sym (ap (λ (f : SessionFault). session_output_failed {A = Unit {0}} (Err f)) is) ∙ sound in absurd cc
lacked_by (Err e) output.Memory P is nothing sound = nothing refl

-- a source that was read to its end
ends_some : (left0 left1 : Option (List ℕ)) (read : List ℕ) → Consumes left0 left1 read → IsAtEnd left1 → IfSome left0 (λ input. left1 ≡ Some [])
ends_some None left1 read consumed end = tt
ends_some (Some x) None read consumed end = absurd consumed
ends_some (Some x) (Some y) read consumed end = ap (λ (l : List ℕ). Some l) end

pub end_of_input : (left0 left1 : Option (List ℕ)) → Took left0 left1 (λ read. IsAtEnd left1) → IfSome left0 (λ input. left1 ≡ Some [])
end_of_input left0 left1 took = ends_some left0 left1 took.read took.consumed took.did

-- ---- a session in memory over an input, which begins with the empty journal

module _ (journal : List Receipt) (left0 left1 w0 w1 : Option (List ℕ)) where
  abbrev Did : List Request → Type 0
  Did requests = Answered InMemory (holding [] []) (Some (holding journal [])) w0 w1 requests

  abbrev AllTaken : (List ℕ → Type 0) → Type 0
  AllTaken Grew = Took left0 left1 (λ read. IsAtEnd left1 × (length read ≤ 67108864) × Did (line_requests Stamped read) × Grew read)

  all_of_input : (Grew : List ℕ → Type 0) → AllTaken Grew → IfSome left0 (λ input. Did (line_requests Stamped input))
  all_of_input Grew took = of_whole (line_requests Stamped) left0 left1 Did (record { read = took.read; consumed = took.consumed; did = (took.did.0, took.did.1, took.did.2) })

  -- the replies and the report
  pub whole_output : (w2 : Option (List ℕ)) (Grew : List ℕ → Type 0) → AllTaken Grew → Appends w1 w2 (report_of journal) → IfSome left0 (λ input. Appends w0 w2 (settle_lines_output input))
  whole_output w2 Grew took report =
      if_some left0 (λ input. Did (line_requests Stamped input)) (λ input. Appends w0 w2 (settle_lines_output input))
      (λ input did. let requests = line_requests Stamped input in
      Appends-trans w0 w1 w2 (replies InMemory (holding [] []) requests) (report_of (held_after InMemory (holding [] []) requests).journal)
      did.wrote (subst (λ (k : List Receipt). Appends w1 w2 (report_of k)) (journal_of journal (held_after InMemory (holding [] []) requests) did.holds) report)) (all_of_input Grew took)

  -- the replies and a front of the report
  pub front_of_report : (w2 : Option (List ℕ)) (Grew : List ℕ → Type 0) → AllTaken Grew → AppendsFront w1 w2 (report_of journal) → IfSome left0 (λ input. AppendsFront w0 w2 (settle_lines_output input))
  front_of_report w2 Grew took part =
      if_some left0 (λ input. Did (line_requests Stamped input)) (λ input. AppendsFront w0 w2 (settle_lines_output input))
      (λ input did. let requests = line_requests Stamped input in
      front_of_more w0 w1 w2 (replies InMemory (holding [] []) requests) (report_of (held_after InMemory (holding [] []) requests).journal)
      did.wrote (subst (λ (k : List Receipt). AppendsFront w1 w2 (report_of k)) (journal_of journal (held_after InMemory (holding [] []) requests) did.holds) part)) (all_of_input Grew took)

  -- where nothing of the report was written, the replies alone
  pub replies_without_report : (w2 : Option (List ℕ)) (Grew : List ℕ → Type 0) → AllTaken Grew → w2 ≡ w1 → IfSome left0 (λ input. AppendsFront w0 w2 (replies InMemory (holding [] []) (line_requests Stamped input)))
  replies_without_report w2 Grew took same =
      if_some left0 (λ input. Did (line_requests Stamped input)) (λ input. AppendsFront w0 w2 (replies InMemory (holding [] []) (line_requests Stamped input)))
      (λ input did. let text = replies InMemory (holding [] []) (line_requests Stamped input) in
      subst (λ (w : Option (List ℕ)). AppendsFront w0 w text) (sym same) (whole_front w0 w1 text did.wrote)) (all_of_input Grew took)

  pub cut_of_input : Took left0 left1 (λ read. Did (ended_requests Stamped [] (take 67108864 read)))
      → Took left0 left1 (λ read. Appends w0 w1 (replies InMemory (holding [] []) (ended_requests Stamped [] (take 67108864 read))))
  cut_of_input took = record { read = took.read; consumed = took.consumed; did = took.did.wrote }

-- ---- a session in memory that ended early

module _ (known : Option (List DayMinute)) (left0 left1 w0 w1 : Option (List ℕ)) (images : List ℕ → Type 0) (Grew : List Request → Type 0) where
  abbrev Early : List Request → Type 0
  Early requests = EndsEarly InMemory (holding [] []) known w0 w1 images requests

  abbrev PartTaken : Type 0
  PartTaken = Took left0 left1 (λ read. (requests : List Request) × AreOf (line_requests Stamped) (ended_requests Stamped []) left1 read requests × Early requests × Grew requests)

  -- what was written is a front of the replies to all lines
  first_replies : (input : List ℕ) (requests others : List Request) → line_requests Stamped input ≡ requests ++ others → Early requests → AppendsFront w0 w1 (replies InMemory (holding [] []) (line_requests Stamped input))
  first_replies input requests others all early =
      let text : replies InMemory (holding [] []) (line_requests Stamped input) ≡ replies InMemory (holding [] []) requests ++ replies InMemory (held_after InMemory (holding [] []) requests) others =
      ap (replies InMemory (holding [] [])) all ∙ replies-append InMemory (holding [] []) requests others in
      subst (AppendsFront w0 w1) (sym text) (front_of_longer w0 w1 (replies InMemory (holding [] []) requests) _ (part_of_early InMemory (holding [] []) known w0 w1 images requests early))

  pub replies_of_input : PartTaken → IfSome left0 (λ input. AppendsFront w0 w1 (replies InMemory (holding [] []) (line_requests Stamped input)))
  replies_of_input took =
      if_some left0 (λ input. FirstOf (line_requests Stamped) input Early) (λ input. AppendsFront w0 w1 (replies InMemory (holding [] []) (line_requests Stamped input)))
      (λ input first. first_replies input first.requests first.others first.all first.did)
      (of_part (line_requests Stamped) (ended_requests Stamped []) left0 left1 Early (lines_begin Stamped)
      (record { read = took.read; consumed = took.consumed; did = (took.did.0, took.did.1, took.did.2) }))

  -- a front of the replies is a front of the whole output
  pub part_of_input : PartTaken → IfSome left0 (λ input. AppendsFront w0 w1 (settle_lines_output input))
  part_of_input took =
      if_some left0 (λ input. AppendsFront w0 w1 (replies InMemory (holding [] []) (line_requests Stamped input))) (λ input. AppendsFront w0 w1 (settle_lines_output input))
      (λ input part. front_of_longer w0 w1 (replies InMemory (holding [] []) (line_requests Stamped input)) (report_of (held_after InMemory (holding [] []) (line_requests Stamped input)).journal) part)
      (replies_of_input took)

  -- while the source was not at its end, a front of the replies to the lines of the bytes read
  pub read_part_of_input : PartTaken → (IsAtEnd left1 → ⊥) → Took left0 left1 (λ read. AppendsFront w0 w1 (replies InMemory (holding [] []) (ended_requests Stamped [] (take 67108864 read))))
  read_part_of_input took unended =
      read_part_of_early InMemory (line_requests Stamped) (ended_requests Stamped []) (holding [] []) left0 left1 known w0 w1 images
      (record { read = took.read; consumed = took.consumed; did = (took.did.0, took.did.1, took.did.2) }) unended
