-- How the writing of a text ends where the sink fails.
use Rattle.std.specs.Prelude.{◌≡◌, ℕ, List, Option}
use Rattle.gb_outside.specs.Bytes.{AppendsFront}
use Rattle.gb_outside.specs.Faults.{Rose}

-- A front of the text was written without a fault. Then the sink failed, and nothing more was written.
pub record StopsAtFault {K : Type 0} (written : K → Option (List ℕ)) (faults : K → ℕ) (old new : K) (text : List ℕ) : Type 0 where
  pub mid : K
  pub front : AppendsFront (written old) (written mid) text
  pub unfailed : faults mid ≡ faults old
  pub failed : Rose (faults mid) (faults new)
  pub none_taken : written new ≡ written mid
