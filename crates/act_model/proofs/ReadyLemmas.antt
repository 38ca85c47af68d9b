-- The item for which a journal is ready.
use Rattle.std.proofs.Common.{◌≡◌, Bool, true, false, Option, Some, None, Result, Ok, Err, IsTrue, sym, ap, ◌∙◌}
use Rattle.std.specs.Option.{option_map_or}
use Rattle.std.specs.Result.{is_err, OnOk}
use Rattle.std.proofs.lemmas.Bool.{false≢true}
use Rattle.act_model.specs.declared.items.Item.{Item}
use Rattle.act_model.specs.Same.{same_item}
use Rattle.act_model.proofs.ItemEquality.{items_exact}

-- a journal that has room for an item is ready for just this one
pub ready_for_it : (ready : Option Item) (item : Item) → IsTrue (option_map_or (λ r. same_item r item) ready false) → ready ≡ Some item
ready_for_it None item h = absurd (false≢true h)
ready_for_it (Some r) item h = ap (λ i. Some i) (items_exact.same r item h)

-- what a result ensures where it is no error
pub no_error : {T E : Type 0} (r : Result T E) (P : Type 0) (failed : Bool) → failed ≡ is_err r → failed ≡ false → OnOk r P → P
no_error (Ok x) P failed test no_failure holds = holds
no_error (Err e) P failed test no_failure holds = let error : true ≡ false = sym test ∙ no_failure in absurd cc
