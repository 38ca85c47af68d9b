-- The order of keys: by folio, then the title, the rights by number, the sale.
use Rattle.std.specs.Prelude.{ℕ, Bool, ◌==◌}
use Rattle.std.specs.declared.cmp.Ordering.{Ordering}
use Rattle.std.specs.Ordering.{nat_cmp, on, then_cmp, eq_of_both}
use Rattle.gb_base.specs.RightNo.{RightNo}
use Rattle.gb_base.specs.declared.keys.Key.{Key}
use Rattle.gb_base.specs.declared.keys.Key.TheVariants.{Title, Right, Case}

-- the folio of a key
abbrev pub folio_of_key : Key → ℕ
folio_of_key (Title folio) = folio
folio_of_key (Right folio right) = folio
folio_of_key (Case folio) = folio

-- where a key stands among the parts of its folio: title, rights, sale
abbrev pub part_of_key : Key → ℕ
part_of_key (Title folio) = 0
part_of_key (Right folio right) = 1
part_of_key (Case folio) = 2

-- the right of a key, and zeros where the key is of none
abbrev pub right_of_key : Key → RightNo
right_of_key (Title folio) = record { receipt = 0; act = 0 }
right_of_key (Right folio right) = right
right_of_key (Case folio) = record { receipt = 0; act = 0 }

-- the order of two keys: of their folios, then parts, then rights
abbrev pub key_cmp : Key → Key → Ordering
key_cmp = then_cmp (on folio_of_key nat_cmp) (then_cmp (on part_of_key nat_cmp)
    (then_cmp (on (λ k. (right_of_key k).receipt) nat_cmp) (on (λ k. (right_of_key k).act) nat_cmp)))

-- two keys are of the same folio, part and right
abbrev pub same_key : Key → Key → Bool
same_key = eq_of_both (on folio_of_key ◌==◌) (eq_of_both (on part_of_key ◌==◌)
    (eq_of_both (on (λ k. (right_of_key k).receipt) ◌==◌) (on (λ k. (right_of_key k).act) ◌==◌)))
