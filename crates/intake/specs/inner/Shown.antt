-- The law `shows` of what receives, for a book and for a journal in memory.
use Rattle.std.specs.Prelude.{◌≡◌, ℕ, true, false, List, [], Bool, Option, Some, None, IsTrue}
use Rattle.std.proofs.Common.{refl, ap, subst}
use Rattle.gb_base.specs.DayMinute.{DayMinute}
use Rattle.act_model.specs.declared.receipts.Receipt.{Receipt}
use Rattle.receipt_journal.specs.BookState.{BookState}
use Rattle.receipt_journal.specs.Standing.{StandsForJournal}
use Rattle.intake.specs.Receivers.{held_by, IsReady, Shows}
use Rattle.intake.specs.Requests.{Held, holding}

-- what is held where it is told, else this
abbrev pub held_or : Held → Option Held → Held
held_or held None = held
held_or held (Some other) = other

pub memory_shows : (journal : List Receipt) (held : Held) → Some (holding journal []) ≡ Some held → Shows (Some []) (λ file. ⊥) (λ file. ⊥) held
memory_shows journal held is = record {
  ticks = ap (λ (h : Held). Some h.ticks) (ap (held_or held) is);
  stands = λ file image. absurd image;
  stands_now = λ file image. absurd image;
}

pub book_shows : (tells : Bool) (known : Option (List DayMinute)) (book : BookState) (reads : List ℕ) (images since_now : List ℕ → Type 0) (held : Held)
    → ((file : List ℕ) → IsTrue tells → since_now file → images file) → IsReady tells book reads images → held_by tells known book.journal ≡ Some held → Shows known images since_now held
book_shows true (Some ticks) book reads images since_now held only_now ready is =
    let same : holding book.journal ticks ≡ held = ap (held_or held) is in record {
      ticks = ap (λ (h : Held). Some h.ticks) same;
      stands = λ file image. subst (λ (h : Held). StandsForJournal file h.journal) same (ready.stands refl file image);
      stands_now = λ file left. subst (λ (h : Held). StandsForJournal file h.journal) same (ready.stands refl file (only_now file refl left));
    }
book_shows true None book reads images since_now held only_now ready is = absurd cc
book_shows false known book reads images since_now held only_now ready is = absurd cc
