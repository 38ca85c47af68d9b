-- The entries that name who is concerned at a key: owners or a holder.
use Rattle.std.specs.Prelude.{◌≡◌, ℕ, ◌<◌, ◌≤◌, nat_lt, List, filter, length, slice_get, take, Option, None, option_and_then}
use Rattle.std.specs.List.{AllByRecursion, last_or}
use Rattle.gb_base.specs.Ascending.{AscendsBy}
use Rattle.folio_sections.specs.declared.entries.Entry.{Entry}
use Rattle.folio_sections.specs.declared.entries.What.{What}

-- the numbers ascend, and none is below a
abbrev pub Rises : ℕ → List ℕ → Type 0
Rises a ns = AscendsBy (λ n. n) a ns

-- the last of these numbers that is below k
abbrev pub last_below : ℕ → List ℕ → Option ℕ
last_below k ns = last_or None (filter (λ n. nat_lt n k) ns)

-- the last of the first k entries that stands at one of these places
abbrev pub last_at : ℕ → List ℕ → List Entry → Option Entry
last_at k places entries = option_and_then (slice_get entries) (last_below k places)

-- After any number of entries, what the reader gives is named by the last of them that stands at one of these places.
pub record AreNamedAt {X : Type 0} (read : List Entry → Option X) (named : What → Option X) (places : List ℕ) (entries : List Entry) : Type 0 where
  pub among : AllByRecursion (λ n. n < length entries) places
  pub reads : (k : ℕ) → k ≤ length entries → read (take k entries) ≡ option_and_then (λ e. named e.what) (last_at k places entries)
