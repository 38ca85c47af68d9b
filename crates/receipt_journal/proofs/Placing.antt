-- Frames with the offsets of their gates, taken one after another.
use Rattle.std.proofs.Common.{◌≡◌, ℕ, suc, ◌+◌, ◌<◌, List, [], ◌∷◌, ◌++◌, length, get_or, take, drop, map, Result, Ok, Err, IfErr, refl, sym, ◌∙◌, ap, subst, arith, length-append}
use Rattle.std.proofs.lemmas.List.{map-append, take_all, take-append-drop, length-map, length-take-le}
use Rattle.std.proofs.Math.Seq.{drop-cons}
use Rattle.std.specs.Result.{IsErrAnd}
use Rattle.act_model.specs.declared.receipts.Receipt.{Receipt}
use Rattle.journal_disk.specs.FrameAt.{FrameAt}
use Rattle.journal_disk.specs.Layout.{the_heading, measured, frames, first_gate, frames_from}
use Rattle.journal_disk.proofs.FrameBytes.{length-measured}
use Rattle.receipt_journal.specs.Standing.{records, IsKeepable}
use Rattle.receipt_journal.specs.inner.Taking.{RefusesFrame, RefusesFrames}
use Rattle.receipt_journal.specs.declared.faults.BookFault.{BookFault}
use Rattle.receipt_journal.specs.declared.faults.BookFault.TheVariants.{Disk, NotJournal, BadRecord, Memory}

abbrev pub bodies_of : List FrameAt → List (List ℕ)
bodies_of fs = map (λ (f : FrameAt). f.body) fs

bodies_back : (at : ℕ) (bodies : List (List ℕ)) → bodies_of (frames_from at bodies) ≡ bodies
bodies_back at [] = refl
bodies_back at (body ∷ bodies) = ap (λ (l : List (List ℕ)). body ∷ l) (bodies_back (at + 5 + length body) bodies)

-- the gate of a frame stands after the frames before it
offset_of : (at : ℕ) (ahead : List (List ℕ)) (body : List ℕ) (rest : List (List ℕ)) (d : FrameAt) → (get_or (frames_from at (ahead ++ body ∷ rest)) (length ahead) d).at ≡ at + length (frames ahead)
offset_of at [] body rest d = omega arith
offset_of at (first ∷ ahead) body rest d =
    offset_of (at + 5 + length first) ahead body rest d
    ∙ omega (arith, length-append (1 ∷ measured first) (frames ahead), length-measured first)

-- the records of a journal are the bodies of the first frames
pub record SoFar (journal : List Receipt) (fs : List FrameAt) (i : ℕ) : Type 0 where
  pub keepable : IsKeepable journal
  pub taken : records journal ≡ bodies_of (take i fs)

pub all_taken : (fs : List FrameAt) (journal : List Receipt) (bodies : List (List ℕ)) (i : ℕ) → SoFar journal fs i → length fs ≡ i → fs ≡ frames_from (first_gate the_heading) bodies → bodies ≡ records journal
all_taken fs journal bodies i so_far end frames_are =
    sym (bodies_back (first_gate the_heading) bodies) ∙ ap bodies_of (sym frames_are) ∙ ap bodies_of (sym (take_all i fs (omega arith))) ∙ sym so_far.taken

-- the bodies of all frames are those of the frames before one, its own, and those of the frames after it
cut : (fs : List FrameAt) (i : ℕ) (f : FrameAt) → i < length fs → f ≡ get_or fs i f → bodies_of fs ≡ bodies_of (take i fs) ++ f.body ∷ bodies_of (drop (suc i) fs)
cut fs i f in' is =
    ap bodies_of (sym (take-append-drop i fs)) ∙ map-append (λ (g : FrameAt). g.body) (take i fs) (drop i fs)
    ∙ ap (λ (l : List FrameAt). bodies_of (take i fs) ++ bodies_of l) (drop-cons fs i f in' ∙ ap (λ (g : FrameAt). g ∷ drop (suc i) fs) (sym is))

pub refused_at : (fs : List FrameAt) (i : ℕ) (journal : List Receipt) (f : FrameAt) (fault : BookFault) → SoFar journal fs i → i < length fs → f ≡ get_or fs i f → RefusesFrame journal f fault
    → (bodies : List (List ℕ)) → fs ≡ frames_from (first_gate the_heading) bodies → RefusesFrames bodies fault
refused_at fs i journal f Disk so_far in' is refused bodies frames_are = refused
refused_at fs i journal f NotJournal so_far in' is refused bodies frames_are = refused
refused_at fs i journal f Memory so_far in' is refused bodies frames_are = tt
refused_at fs i journal f (BadRecord at) so_far in' is refused bodies frames_are =
    let rest = bodies_of (drop (suc i) fs) in
    let whole : bodies ≡ records journal ++ f.body ∷ rest =
    sym (bodies_back (first_gate the_heading) bodies) ∙ ap bodies_of (sym frames_are) ∙ cut fs i f in' is ∙ ap (λ (l : List (List ℕ)). l ++ f.body ∷ rest) (sym so_far.taken) in
    let count : length (records journal) ≡ i = ap length so_far.taken ∙ length-map (take i fs) (λ (g : FrameAt). g.body) ∙ length-take-le i fs (omega arith) in
    let here : f ≡ get_or (frames_from (first_gate the_heading) (records journal ++ f.body ∷ rest)) (length (records journal)) f =
    is ∙ ap (λ (l : List FrameAt). get_or l i f) (frames_are ∙ ap (frames_from (first_gate the_heading)) whole) ∙ ap (λ k. get_or (frames_from (first_gate the_heading) (records journal ++ f.body ∷ rest)) k f) (sym count) in
    record {
      ahead = journal;
      body = f.body;
      rest = rest;
      keepable = so_far.keepable;
      none = refused.0;
      whole = whole;
      offset = refused.1 ∙ ap (λ (g : FrameAt). g.at) here ∙ offset_of (first_gate the_heading) (records journal) f.body rest f;
    }

-- at the exit of a `?`, what holds of the fault holds of the answer
pub at_exit : {T E : Type 0} (r : Result T E) (P : E → Type 0) (fault : E) → IsErrAnd r (λ e. e ≡ fault) → P fault → IfErr r P
at_exit (Ok x) P fault is holds = absurd is
at_exit (Err e) P fault is holds = subst P (sym is) holds
