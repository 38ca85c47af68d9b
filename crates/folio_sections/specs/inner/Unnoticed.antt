-- The first and the last filing that pass a test among those that wait at a key. A test is, for one, that a filing lacks an official notice.
use Rattle.std.specs.Prelude.{ℕ, Bool, ◌&&◌, nat_lt, List, Option, Some, None, filter, find, is_none, option_map}
use Rattle.std.specs.List.{last_or}
use Rattle.folio_sections.specs.Waiting.{is_pending, notice}
use Rattle.folio_sections.specs.declared.entries.Entry.{Entry}
use Rattle.folio_sections.specs.inner.Waiters.{Until}

-- filing n waits without a notice
abbrev pub is_unnoticed : ℕ → List Entry → Bool
is_unnoticed n entries = is_pending n entries && is_none (notice n entries)

-- the number above which filings are looked for
abbrev pub floor : Option ℕ → ℕ
floor None = 0
floor (Some n) = n

-- the waiter is of a filing above this number and below filing m, and passes
abbrev pub is_wanted : (Until → Bool) → ℕ → ℕ → Until → Bool
is_wanted t low m x = nat_lt x.filing m && (nat_lt low x.filing && t x)

-- the first filing that has such a waiter
abbrev pub first_that : (Until → Bool) → ℕ → ℕ → List Until → Option ℕ
first_that t low m xs = option_map (λ x. x.filing) (find (is_wanted t low m) xs)

-- the waiter is of a filing below filing m, and passes
abbrev pub is_before : (Until → Bool) → ℕ → Until → Bool
is_before t m x = nat_lt x.filing m && t x

-- the last filing that has such a waiter
abbrev pub last_that : (Until → Bool) → ℕ → List Until → Option ℕ
last_that t m xs = option_map (λ x. x.filing) (last_or None (filter (is_before t m) xs))
