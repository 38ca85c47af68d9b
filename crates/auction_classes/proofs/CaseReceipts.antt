-- The receipts of a case.
use Rattle.std.proofs.Common.{◌≡◌, ℕ, Option, Some, None, IsSomeAnd, sym, subst}
use Rattle.std.specs.Option.{option_map_or}

-- what holds of a number that is there holds of the number that is read, with 0 where there is none
pub of_number : (P : ℕ → Type 0) (o : Option ℕ) (n : ℕ) → IsSomeAnd o P → n ≡ option_map_or (λ m. m) o 0 → P n
of_number P None n holds is = elim holds [ ]
of_number P (Some m) n holds is = subst P (sym is) holds
