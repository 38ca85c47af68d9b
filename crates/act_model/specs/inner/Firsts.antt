-- The first cures that bring what is looked for, by filing and by what is looked for.
use Rattle.std.specs.Prelude.{ℕ, Bool, List, find, Option, is_some}
use Rattle.std.specs.declared.cmp.Ordering.{Ordering}
use Rattle.std.specs.BTreeMap.{BTreeMap, get}
use Rattle.std.specs.List.{list_any}
use Rattle.std.specs.Option.{option_flatten}
use Rattle.act_model.specs.contracts.firsts.DocumentOfOrd.TheImpl as order
use Rattle.act_model.specs.declared.firsts.DocumentOf.{DocumentOf}
use Rattle.act_model.specs.declared.receipts.Receipt.{Receipt}
use Rattle.act_model.specs.declared.sought.Sought.{Sought}
use Rattle.act_model.specs.Cures.{cures_of}
use Rattle.act_model.specs.DocumentTests.{docs_by_cure}
use Rattle.act_model.specs.Sought.{is_sought}

-- the order of keys
unfoldable pub document_cmp : DocumentOf → DocumentOf → Ordering
document_cmp = order.ghosts.cmp

-- whether the key has a place
abbrev pub is_held : BTreeMap DocumentOf (Option ℕ) → DocumentOf → Bool
is_held firsts k = is_some (get document_cmp firsts k)

-- the receipt that stands at the key
abbrev pub first : BTreeMap DocumentOf (Option ℕ) → DocumentOf → Option ℕ
first firsts k = option_flatten (get document_cmp firsts k)

-- the first cure of filing m that brings what is looked for
abbrev pub first_cure : List Receipt → ℕ → Sought → Option ℕ
first_cure journal m s = find (λ n. list_any (is_sought s) (docs_by_cure journal n)) (cures_of journal m)
