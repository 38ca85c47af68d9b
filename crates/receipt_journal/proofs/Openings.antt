-- What an opening finds in a file.
use Rattle.std.proofs.Common.{◌⊎◌, inl, ℕ, List, subst}
use Rattle.journal_disk.specs.Layout.{the_heading, StandsFor, IsBad}
use Rattle.receipt_journal.specs.Opening.{BookRefuses}
use Rattle.receipt_journal.specs.inner.Taking.{RefusesFrames}
use Rattle.receipt_journal.specs.declared.faults.BookFault.{BookFault}
use Rattle.receipt_journal.specs.declared.faults.BookFault.TheVariants.{Disk, NotJournal, BadRecord, Memory}

-- a frame that is refused makes the file bad
pub frames_refused : (file : List ℕ) (bodies : List (List ℕ)) (fault : BookFault) → StandsFor the_heading file bodies ⊎ IsBad the_heading file bodies → RefusesFrames bodies fault → BookRefuses file fault
frames_refused file bodies Disk read refused = tt
frames_refused file bodies Memory read refused = tt
frames_refused file bodies NotJournal read refused = absurd refused
frames_refused file bodies (BadRecord at) read refused = (
  refused.ahead,
  record {
    keepable = refused.keepable;
    bad = inl (
      refused.body,
      record { rest = refused.rest; frames = subst (λ (l : List (List ℕ)). StandsFor the_heading file l ⊎ IsBad the_heading file l) refused.whole read },
      refused.none,
    );
  },
  refused.offset,
)
