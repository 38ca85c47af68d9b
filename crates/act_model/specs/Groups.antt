-- Rights of equal rank: creating acts of one filing, folio and group (GBO § 45(1), (3)), as they were filed.
use Rattle.std.specs.Prelude.{ℕ, Bool, false, not, ◌&&◌, ◌==◌, List}
use Rattle.std.specs.Option.{option_map_or}
use Rattle.std.specs.List.{list_any, enumerate_from}
use Rattle.gb_base.specs.RightNo.{RightNo}
use Rattle.act_model.specs.declared.filing_acts.Act.{Act}
use Rattle.act_model.specs.declared.receipts.Receipt.{Receipt}
use Rattle.act_model.specs.Touches.{act_at, filing_at}
use Rattle.act_model.specs.WellFormed.{share_group}

-- another act of the filing than act a creates a right of the same group in the folio
abbrev pub has_equal : List Act → ℕ → Act → Bool
has_equal acts a act = list_any (λ numbered. not (numbered.0 == a) && share_group act numbered.1) (enumerate_from 1 acts)

-- another act of the right's filing creates a right of the same group in the folio
abbrev pub shares_its_group : List Receipt → RightNo → Bool
shares_its_group journal right =
    option_map_or (λ f. option_map_or (has_equal f.acts right.act) (act_at f right.act) false) (filing_at journal right.receipt) false
