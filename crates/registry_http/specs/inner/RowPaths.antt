-- What stands in the path of a row in the place of its number.
use Rattle.std.specs.Prelude.{ℕ, List, codes}
use Rattle.std.specs.Fmt.{decimal}
use Rattle.registry_http.specs.declared.rows.PathNumber.{PathNumber}
use Rattle.registry_http.specs.declared.rows.PathNumber.TheVariants.{Is, Named}

-- the name by which the search knows the number, or the number as it is printed
abbrev pub number_text : PathNumber → List ℕ
number_text Named = codes "{number}"
number_text (Is n) = decimal n
