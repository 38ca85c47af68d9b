-- The keys of a forced sale: the case of the folio, its title and its rights (ZVG §§ 20, 90, 91).
use Rattle.std.specs.Prelude.{ℕ, nat_lt, List, ◌∷◌, filter, map, take}
use Rattle.gb_base.specs.RightNo.{RightNo}
use Rattle.gb_base.specs.declared.keys.Key.{Key}
use Rattle.gb_base.specs.declared.keys.Key.TheVariants.{Title, Right, Case}
use Rattle.act_model.specs.Creations.{creations_in}
use Rattle.act_model.specs.Limits.{most_creations}
use Rattle.act_model.specs.declared.receipts.Receipt.{Receipt}

-- the rights of the first creating acts of the folio, as many as it has at most, whatever became of them
abbrev pub first_rights : List Receipt → ℕ → List RightNo
first_rights journal folio = take most_creations (creations_in journal folio)

-- those of them that receipts before i create
abbrev pub earlier_rights : List Receipt → ℕ → ℕ → List RightNo
earlier_rights journal i folio = filter (λ right. nat_lt right.receipt i) (first_rights journal folio)

-- the keys of a forced sale of the folio, its title and its rights, as item i finds them
abbrev pub keys_of_sale : List Receipt → ℕ → ℕ → List Key
keys_of_sale journal i folio = Case folio ∷ Title folio ∷ map (Right folio) (earlier_rights journal i folio)
