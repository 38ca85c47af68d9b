-- The filings that wait at a key, as a part keeps them beside its entries.
use Rattle.std.specs.Prelude.{◌≡◌, ◌+◌, ◌≤◌, ℕ, Bool, false, ◌&&◌, List, count_by, length, Option, position, take, option_and_then, is_some, is_none}
use Rattle.std.specs.List.{AllByRecursion}
use Rattle.folio_sections.specs.Waiting.{is_notice_of, pending}
use Rattle.folio_sections.specs.declared.entries.Entry.{Entry}
use Rattle.folio_sections.specs.declared.filing_list.OfFiling.{OfFiling}
use Rattle.folio_sections.specs.declared.waiters.Waiters.{Waiters}
use Rattle.folio_sections.specs.inner.FilingLists.{Ascends, value_in}

-- the day until which a filing waits, None once its waiting has ended
abbrev pub Until : Type 0
Until = OfFiling (Option ℕ)

-- the day until which filing m waits
abbrev pub until_in : ℕ → List Until → Option ℕ
until_in m xs = option_and_then (λ day. day) (value_in m xs)

-- it waits
abbrev pub waits : Until → Bool
waits x = is_some x.value

-- its waiting has ended
abbrev pub has_ended : Until → Bool
has_ended x = is_none x.value

-- it waits, and there is no notice of it among these
abbrev pub lacks_notice : List (OfFiling ℕ) → Until → Bool
lacks_notice notices x = waits x && is_none (value_in x.filing notices)

-- none of the first n passes the test
pub record IsMark (t : Until → Bool) (n : ℕ) (until : List Until) : Type 0 where
  pub within : n ≤ length until
  pub first : AllByRecursion (λ x. t x ≡ false) (take n until)

-- Each filing stands once in each list, in ascending order. None before one mark waits, and none before the other waits without a notice.
pub record AreInOrder (ws : Waiters) : Type 0 where
  pub until : Ascends 1 ws.until.items
  pub notices : Ascends 1 ws.notices.items
  pub passed : IsMark waits ws.passed ws.until.items
  pub noticed : IsMark (lacks_notice ws.notices.items) ws.noticed ws.until.items

-- no more have ended than are counted, and these are at most half of all
pub record FewEnded (until : List Until) (ended : ℕ) : Type 0 where
  pub counted : count_by has_ended until ≤ ended
  pub half : ended + ended ≤ length until

-- of each filing they say what the entries say
pub record SayAs (until : List Until) (notices : List (OfFiling ℕ)) (entries : List Entry) : Type 0 where
  pub waits : (m : ℕ) → until_in m until ≡ pending m entries
  pub noticed : (m : ℕ) → value_in m notices ≡ position (λ e. is_notice_of m e.what) entries
