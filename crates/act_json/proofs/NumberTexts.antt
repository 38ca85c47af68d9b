-- The number of a text with a minus, and of one without.
use Rattle.std.proofs.Common.{◌≡◌, ℤ, negsuc, List, ℕ, drop, Bool, true, false, Float, Some, None, ◌==◌, refl}
use Rattle.std.specs.Prelude.{if◌then◌else◌, slice_index, unwrap_or}
use Rattle.fast_float.specs.Text.{Parts, scan}
use Rattle.serde_json.specs.Data.{negative, float}
use Rattle.serde_json.specs.Find.{as_u64}
use Rattle.serde_json.specs.Read.{number_of, number_from}

pub with_minus : (s : List ℕ) → (slice_index s 0 == 45) ≡ true → number_of s ≡ number_from true (scan (drop 1 s))
unfolding number_of
with_minus s is = rw is refl

pub without_minus : (s : List ℕ) → (slice_index s 0 == 45) ≡ false → number_of s ≡ number_from false (scan s)
unfolding number_of
without_minus s is = rw is refl

not_whole : (b c : Bool) (y z : ℤ) (x : Float) → None ≡ as_u64 (unwrap_or (if b then Some (negative y) else (if c then Some (float x) else None)) (negative z))
not_whole true c y z x = refl
not_whole false true y z x = refl
not_whole false false y z x = refl

-- a number below zero is not whole
pub none_with_minus : (p : Parts) → None ≡ as_u64 (unwrap_or (number_from true p) (negative (negsuc 0)))
none_with_minus p = not_whole _ _ _ _ _
