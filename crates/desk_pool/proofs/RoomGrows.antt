-- How much room the entries at a key and the notices still to come there take together, as entries are added.
use Rattle.std.proofs.Common.{◌≡◌, ℕ, ◌+◌, ◌-◌, ◌≤◌, true, eqb, List, ◌++◌, length, length-append, arith}
use Rattle.std.specs.List.{AllByRecursion}
use Rattle.gb_base.proofs.Members.{In}
use Rattle.folio_sections.specs.Waiting.{is_pending, receipts_before, waiting_unnoticed}
use Rattle.folio_sections.specs.declared.entries.Entry.{Entry}
use Rattle.registrar.proofs.PlaceReads.{is_noticed}
use Rattle.registrar.specs.Rooms.{most_brought}
use Rattle.desk_pool.proofs.CountedNumbers.{none_pass, one_alone}
use Rattle.desk_pool.proofs.WaitingBehind.{Starts, less_by, more_by, nobody, none_more}

-- the entries, and a notice for each filing before receipt m that waits without one, fit into the room, for any m
abbrev pub FitWithNotices : List Entry → ℕ → Type 0
FitWithNotices es room = (m : ℕ) → length es + length (waiting_unnoticed m es) ≤ room

-- The new entries take at most so much room: for any receipt m there is a receipt n so that the entries and the notices to come before m are at most those that were there before n, and so much more.
abbrev pub TakesAtMost : List Entry → List Entry → ℕ → Type 0
TakesAtMost before es most = (m : ℕ) → (n : ℕ) × (length (before ++ es) + length (waiting_unnoticed m (before ++ es)) ≤ (length before + length (waiting_unnoticed n before)) + most)

pub fit_behind : (before es : List Entry) (room most : ℕ) → FitWithNotices before room → TakesAtMost before es most → FitWithNotices (before ++ es) (room + most)
fit_behind before es room most fit takes m =
    let so = takes m in
    let fits = fit so.0 in
    omega (arith, so.1, fits)

pub takes_less : (before es : List Entry) (few most : ℕ) → few ≤ most → TakesAtMost before es few → TakesAtMost before es most
takes_less before es few most less takes m = let so = takes m in (so.0, omega (arith, so.1, less))

-- ---- entries by what they set to wait

-- the new entries set no filing to wait
pub takes_its_entries : (before es : List Entry) (most : ℕ) → length es ≤ most → AllByRecursion (λ e. Starts nobody e.what) es → TakesAtMost before es most
takes_its_entries before es most few all m =
    let both = length-append before es in
    let waiting = more_by nobody m before es all in
    let none = none_pass (receipts_before m) in
    (m, omega arith)

-- the new entry sets one filing to wait, whose notice is still to come
pub takes_a_notice : (f : ℕ) (before es : List Entry) → length es ≤ 1 → AllByRecursion (λ e. Starts (eqb f) e.what) es → TakesAtMost before es 2
takes_a_notice f before es few all m =
    let both = length-append before es in
    let waiting = more_by (eqb f) m before es all in
    let one = one_alone f 1 (m - 1) in
    (m, omega arith)

-- the new entry sets one filing to wait that waited there before
pub takes_as_it_waits : (f : ℕ) (before es : List Entry) → length es ≤ 1 → AllByRecursion (λ e. Starts (eqb f) e.what) es → is_pending f before ≡ true → TakesAtMost before es 1
takes_as_it_waits f before es few all waits m =
    let both = length-append before es in
    let waiting = none_more f m before es all waits in
    (m, omega arith)

-- the new entries set no filing to wait, and have the notice of each filing that waited without one
pub notices_have_room : (f : ℕ) (before es : List Entry) → length es ≤ most_brought + length (waiting_unnoticed f before) → AllByRecursion (λ e. Starts nobody e.what) es
    → ((n : ℕ) → In n (waiting_unnoticed f before) → is_noticed n es ≡ true) → TakesAtMost before es most_brought
notices_have_room f before es few all noticed m =
    let both = length-append before es in
    let less = less_by f m before es all noticed in
    (m + f + 1, omega arith)
