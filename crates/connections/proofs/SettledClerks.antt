-- A clerk whose journal is settled holds what it held: only the register of its book is another.
use Rattle.std.proofs.Common.{◌≡◌, ℕ, Bool, true, false, List, Option, Some, None, IfSome, if◌then◌else◌, option_map, ap, subst, sym}
use Rattle.gb_base.specs.DayMinute.{DayMinute}
use Rattle.connections.specs.Holding.{Holds, IsOpenOn, StandsOpen, working}
use Rattle.intake.specs.Grown.{IsDurable}
use Rattle.intake.specs.Requests.{Held}
use Rattle.receipt_journal.specs.BookState.{BookState}
use Rattle.receipt_journal.specs.Standing.{Stands}
use Rattle.settled_book.specs.SettledBookState.{SettledBookState}

by_failed : (s t : SettledBookState) (P : SettledBookState → Type 0) (f g : Bool) → g ≡ f → (P s → P t) → IfSome (if f then None else Some s) P → IfSome (if g then None else Some t) P
by_failed s t P true true same on held = held
by_failed s t P false false same on held = on held
by_failed s t P true false same on held = absurd cc
by_failed s t P false true same on held = absurd cc

abbrev or_same : Option BookState → BookState → BookState
or_same None b = b
or_same (Some a) b = a

working_still : (P : SettledBookState → Type 0) (old new : Option SettledBookState) → option_map (λ s. s.book) new ≡ option_map (λ s. s.book) old
    → ((s t : SettledBookState) → t.book ≡ s.book → P s → P t) → IfSome (working old) P → IfSome (working new) P
working_still P None None same on held = held
working_still P (Some s) (Some t) same on held =
    let books : t.book ≡ s.book = ap (λ (o : Option BookState). or_same o t.book) same in
    by_failed s t P s.book.log.failed t.book.log.failed (ap (λ (b : BookState). b.log.failed) books) (on s t books) held
working_still P (Some s) None same on held = absurd cc
working_still P None (Some t) same on held = absurd cc

-- it stands open as before
pub stands_still : (old new : Option SettledBookState) (reads : List ℕ) (images : List ℕ → Type 0) → option_map (λ s. s.book) new ≡ option_map (λ s. s.book) old → StandsOpen old reads images → StandsOpen new reads images
stands_still old new reads images same = working_still (λ s. Stands s.book reads images) old new same (λ s t books. subst (λ (b : BookState). Stands b reads images) (sym books))

-- it holds the same
pub holds_still : (old new : Option SettledBookState) (reads : List ℕ) (images : List ℕ → Type 0) (known : Option (List DayMinute)) (held : Held) → option_map (λ s. s.book) new ≡ option_map (λ s. s.book) old
    → Holds old reads images known held → Holds new reads images known held
holds_still old new reads images known held same holds = record {
  file = holds.file;
  clock = holds.clock;
  book = working_still (λ s. IsOpenOn s reads images held.journal) old new same (λ s t books on. record {
    journal_is = subst (λ (b : BookState). b.journal ≡ held.journal) (sym books) on.journal_is;
    durable = subst (λ (b : BookState). IsDurable b reads images) (sym books) on.durable;
    stands = on.stands;
  }) holds.book;
}
