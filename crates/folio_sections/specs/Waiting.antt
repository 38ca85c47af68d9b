-- Filings that wait at a key for cures, and the official notices that keep their places (GBO § 18). All is read from the entries at the key.
use Rattle.std.specs.Prelude.{ℕ, ◌-◌, Bool, true, false, ◌==◌, nat_lt, if◌then◌else◌, List, filter, find, fold, Option, Some, None, option_map, is_some, is_none}
use Rattle.std.specs.List.{before_first, after_first, range_with_len}
use Rattle.folio_sections.specs.declared.entries.Entry.{Entry}
use Rattle.folio_sections.specs.declared.entries.What.{What}
use Rattle.folio_sections.specs.declared.entries.What.TheVariants as what

-- the day until which filing m waits, after a content
abbrev pub until_by : ℕ → Option ℕ → What → Option ℕ
until_by m before (what.Pending filing until) = if filing == m then Some until else before
until_by m before (what.Settled filing) = if filing == m then None else before
until_by m before other = before

-- the day until which filing m waits: that of its last Pending, where one stands that no Settled of it follows
abbrev pub pending : ℕ → List Entry → Option ℕ
pending m entries = fold (λ before e. until_by m before e.what) None entries

-- filing m waits
abbrev pub is_pending : ℕ → List Entry → Bool
is_pending m entries = is_some (pending m entries)

-- the numbers of the receipts before receipt n, ascending
abbrev pub receipts_before : ℕ → List ℕ
receipts_before n = range_with_len 1 (n - 1)

-- the filings before m that wait, ascending
abbrev pub waiting_before : ℕ → List Entry → List ℕ
waiting_before m entries = filter (λ n. is_pending n entries) (receipts_before m)

-- the content is the official notice of filing m
abbrev pub is_notice_of : ℕ → What → Bool
is_notice_of m (what.Notice filing) = filing == m
is_notice_of m other = false

-- the day of the official notice of filing m, which stands while the filing waits
abbrev pub notice : ℕ → List Entry → Option ℕ
notice m entries =
    if is_pending m entries then option_map (λ e. e.day) (find (λ e. is_notice_of m e.what) entries) else None

-- the entries before the official notice of filing m
abbrev pub before_notice : ℕ → List Entry → List Entry
before_notice m entries = before_first (λ e. is_notice_of m e.what) entries

-- the entries after the official notice of filing m
abbrev pub after_notice : ℕ → List Entry → List Entry
after_notice m entries = after_first (λ e. is_notice_of m e.what) entries

-- the number is greater than this one; any is where there is none
abbrev pub is_above : Option ℕ → ℕ → Bool
is_above None n = true
is_above (Some m) n = nat_lt m n

-- the filings before m that wait at a key without a notice, ascending
abbrev pub waiting_unnoticed : ℕ → List Entry → List ℕ
waiting_unnoticed m entries = filter (λ n. is_none (notice n entries)) (waiting_before m entries)
