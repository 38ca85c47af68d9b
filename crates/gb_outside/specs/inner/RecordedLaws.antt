-- Proofs of the laws of a disk, for a file with a record of the calls on it.
use Rattle.std.specs.Prelude.{ℕ, ◌≤◌, List, [], ◌∷◌, length}
use Rattle.std.proofs.Common.{inl, inr, ap, arith}
use Rattle.gb_outside.specs.Recorded.{Event, idle, wrote, synced, file_after, IsTornAfter, IsImageAfter, IsImageSince}

torn_no_longer : (first : List ℕ) (done : List Event) (c : List ℕ) → IsTornAfter first done c → length c ≤ length (file_after first done)
torn_no_longer first [] c torn = absurd torn
torn_no_longer first (idle ∷ before) c torn = torn_no_longer first before c torn
torn_no_longer first (wrote at size kept ∷ before) c torn = torn.0
torn_no_longer first (synced ∷ before) c torn = absurd torn

-- no image is longer than what a read gives
pub image_no_longer : (first : List ℕ) (done : List Event) (c : List ℕ) → IsImageAfter first done c → length c ≤ length (file_after first done)
image_no_longer first done c (inl reads) = omega (arith, ap length reads)
image_no_longer first done c (inr torn) = torn_no_longer first done c torn

-- the images of now are among those since an earlier moment
pub since_counts_now : (first : List ℕ) (done : List Event) (t : ℕ) (c : List ℕ) → IsImageAfter first done c → IsImageSince first done t c
since_counts_now first [] t c image = image
since_counts_now first (event ∷ before) t c image = inl image

-- since this moment there is no image but those of now
pub since_only_now : (first : List ℕ) (done : List Event) (c : List ℕ) → IsImageSince first done (length done) c → IsImageAfter first done c
since_only_now first [] c image = image
since_only_now first (event ∷ before) c (inl image) = image
since_only_now first (event ∷ before) c (inr earlier) = absurd (omega (arith, earlier.0))
