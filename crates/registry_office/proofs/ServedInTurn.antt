-- A door was served in order, from a book that was opened and settled.
use Rattle.std.proofs.Common.{◌≡◌, ℕ, Bool, true, false, List, Option, Some, None, IfSome, IsSome, IsTrue, if◌then◌else◌, option_map, refl, sym, ap, subst}
use Rattle.gb_base.specs.DayMinute.{DayMinute}
use Rattle.gb_outside.specs.Faults.{Counts}
use Rattle.receipt_journal.specs.BookState.{BookState}
use Rattle.journal_disk.specs.Opening.{IsKept, MakesUnmade}
use Rattle.receipt_journal.specs.Opening.{BookOpens}
use Rattle.registrar.specs.HasSettled.{IsRegisterOf}
use Rattle.settled_book.specs.SettledBookState.{SettledBookState}
use Rattle.connections.specs.Answering.{AnswersTurn}
use Rattle.connections.specs.DoorOrder.{ServesDoorInOrder}
use Rattle.connections.specs.Holding.{working}
use Rattle.connections.specs.LinkOrder.{stage}
use Rattle.connections.specs.Tools.{tools}
use Rattle.connections.specs.declared.doors.DoorEnd.{DoorEnd}
use Rattle.registry_office.specs.Servings.{OpensThenServes}
use Rattle.registry_office.specs.Statuses.{status_of_door}
use Rattle.registry_office.specs.declared.statuses.Status.{Status}

abbrev or_same : Option BookState → BookState → BookState
or_same None b = b
or_same (Some a) b = a

-- a book that is open and works has not failed
never_failed : (settled : SettledBookState) → IsSome (working (Some settled)) → settled.book.log.failed ≡ false
never_failed settled some = by settled.book.log.failed some
  where
    by : (failed : Bool) → IsSome (if failed then None else Some settled) → failed ≡ false
    by false some = refl
    by true some = absurd cc

module _ {P L D C : Type 0} (waiting : P → Option (List (List ℕ))) (served : P → Option (List (List ℕ × ℕ))) (door_faults : P → ℕ) (left written : L → Option (List ℕ)) (link_faults : L → ℕ)
    (tells : Bool) (reads : D → List ℕ) (images : D → List ℕ → Type 0) (faults : D → ℕ) (ticks : C → Option (List DayMinute)) where
  abbrev InOrder : ℕ → P → D → Option SettledBookState → C → P → D → Option SettledBookState → C → DoorEnd → Type 0
  InOrder most door_old disk_old book_old clock_old door_new disk_new book_new clock_new end =
      ServesDoorInOrder waiting served door_faults left written link_faults (AnswersTurn tells reads images faults ticks) most (stage door_old (tools disk_old book_old clock_old)) (stage door_new (tools disk_new book_new clock_new)) end

  -- the clerk as it was opened, and as it was once its journal was settled
  pub opens_then_serves : (most : ℕ) (door_old door_new : P) (disk_old opened disk_new : D) (clock_old clock_new : C) (clerk at_hand last : Option SettledBookState) (end : DoorEnd) (result : Status) → IsSome (working clerk)
      → (IsTrue tells → IfSome clerk (λ s. BookOpens (reads disk_old) s.book (reads opened) (images opened))) → IfSome clerk (λ s. s.register ≡ None) → Counts (faults disk_old) (faults opened) false
      → (IsTrue tells → MakesUnmade false (reads disk_old) (reads opened)) → (IsTrue tells → IsKept (reads disk_old) (reads opened))
      → option_map (λ s. s.book) at_hand ≡ option_map (λ s. s.book) clerk → IfSome clerk (λ was. was.register ≡ None → IfSome at_hand (λ s. IfSome s.register (IsRegisterOf was.book.journal)))
      → InOrder most door_old opened at_hand clock_old door_new disk_new last clock_new end → result ≡ status_of_door end
      → OpensThenServes waiting served door_faults left written link_faults tells reads images faults ticks most door_old door_new disk_old disk_new clock_old clock_new result
  opens_then_serves most door_old door_new disk_old opened disk_new clock_old clock_new (Some was) (Some now) last end result works opens unsettled quiet makes keeps same settled order is =
      let books : now.book ≡ was.book = ap (λ (o : Option BookState). or_same o now.book) same in record {
        opening = record { opened = opened; book = was.book; works = never_failed was works; quiet = quiet.else_same refl; opens = opens };
        made = makes;
        kept = keeps;
        settled = now;
        book = books;
        register = subst (λ (b : BookState). IfSome now.register (IsRegisterOf b.journal)) (sym books) (settled unsettled);
        at_hand = last;
        end = end;
        in_order = order;
        is = is;
      }
  opens_then_serves most door_old door_new disk_old opened disk_new clock_old clock_new (Some was) None last end result works opens unsettled quiet makes keeps same settled order is = absurd cc
  opens_then_serves most door_old door_new disk_old opened disk_new clock_old clock_new None at_hand last end result works opens unsettled quiet makes keeps same settled order is = absurd cc
