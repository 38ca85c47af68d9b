-- How long the journal's file may be that a run has left.
use Rattle.std.specs.Prelude.{ℕ, ◌+◌, ◌-◌, ◌^◌, max, min, Bool, ◌&&◌, if◌then◌else◌, nat_le}
use Rattle.grundbuch.specs.declared.extents.Extent.{Extent}

-- the run has not looked at it yet
abbrev pub any_length : Extent
any_length = record { least = 0; most = 2 ^ 64 - 1 }

-- it has so many bytes
abbrev pub just : ℕ → Extent
just len = record { least = len; most = len }

-- it may have so many
abbrev pub may_be : Extent → ℕ → Bool
may_be extent len = nat_le extent.least len && nat_le len extent.most

-- the end of a write of so many bytes at an offset, up to the type's end
abbrev pub end_of : ℕ → ℕ → ℕ
end_of at count = min (at + count) (2 ^ 64 - 1)

-- how long it may be once so many bytes were written at an offset: no shorter than before, and where all were written it reaches to their end; no longer than before, or than to their end
abbrev pub after_write : Extent → ℕ → ℕ → Bool → Extent
after_write extent at count whole = record {
  least = if whole then max extent.least (end_of at count) else extent.least;
  most = max extent.most (end_of at count);
}
