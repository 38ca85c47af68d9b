-- The rights of a folio stand by receipt, so those of receipts before one are the first of them.
use Rattle.std.proofs.Common.{◌≡◌, ℕ, zero, suc, ◌+◌, ◌<◌, ◌≤◌, true, false, cond, nat_lt, List, [], ◌∷◌, filter, length, take, get_or, refl, sym, ap, subst, ◌∙◌, arith}
use Rattle.std.specs.List.Sorted.{IsPartitionedBy}
use Rattle.std.proofs.lemmas.Bool.Decides.{nat_tests}
use Rattle.gb_base.specs.RightNo.{RightNo}
use Rattle.act_model.specs.Creations.{creations_in}
use Rattle.act_model.specs.Limits.{most_creations}
use Rattle.act_model.specs.SaleKeys.{earlier_rights, first_rights}
use Rattle.act_model.specs.declared.receipts.Receipt.{Receipt}
use Rattle.act_model.specs.inner.CreationOrder.{is_from, Rises}
use Rattle.act_model.proofs.CreationOrder.{creations_rise}

-- ---- rights that rise

-- a right from an act of receipt m on is of no earlier receipt
from_receipt : (m a : ℕ) (r : RightNo) → is_from m a r ≡ true → m ≤ r.receipt
from_receipt m a r h = grind (arith, nat_tests, h)

rises_at : (m a : ℕ) (rs : List RightNo) (i : ℕ) (d : RightNo) → Rises m a rs → i < length rs → m ≤ (get_or rs i d).receipt
rises_at m a [] i d up within = absurd (omega arith)
rises_at m a (r ∷ rs) zero d up within = from_receipt m a r up.0
rises_at m a (r ∷ rs) (suc i) d up within =
    let first = from_receipt m a r up.0 in
    let later = rises_at r.receipt (r.act + 1) rs i d up.1 (omega arith) in
    omega arith

rises_between : (m a : ℕ) (rs : List RightNo) (i j : ℕ) (d : RightNo) → Rises m a rs → i ≤ j → j < length rs → (get_or rs i d).receipt ≤ (get_or rs j d).receipt
rises_between m a [] i j d up order within = absurd (omega arith)
rises_between m a (r ∷ rs) zero zero d up order within = omega arith
rises_between m a (r ∷ rs) zero (suc j) d up order within = rises_at r.receipt (r.act + 1) rs j d up.1 (omega arith)
rises_between m a (r ∷ rs) (suc i) zero d up order within = absurd (omega arith)
rises_between m a (r ∷ rs) (suc i) (suc j) d up order within = rises_between r.receipt (r.act + 1) rs i j d up.1 (omega arith) (omega arith)

-- the rights of receipts before n stand before the others
parted_earlier : (n m a : ℕ) (rs : List RightNo) → Rises m a rs → IsPartitionedBy (λ r. nat_lt r.receipt n) rs
parted_earlier n m a rs up = λ i j d order within passes.
    let less = rises_between m a rs i j d up order within in
    grind (arith, nat_tests, passes, less)

rises_take : (m a n : ℕ) (rs : List RightNo) → Rises m a rs → Rises m a (take n rs)
rises_take m a zero rs up = tt
rises_take m a (suc n) [] up = tt
rises_take m a (suc n) (r ∷ rs) up = (up.0, rises_take r.receipt (r.act + 1) n rs up.1)

none_earlier : (n m a : ℕ) (rs : List RightNo) → n ≤ m → Rises m a rs → filter (λ r. nat_lt r.receipt n) rs ≡ []
none_earlier n m a [] later up = refl
none_earlier n m a (r ∷ rs) later up =
    let first = from_receipt m a r up.0 in
    let not : nat_lt r.receipt n ≡ false = grind (arith, nat_tests, first, later) in
    rw not (none_earlier n r.receipt (r.act + 1) rs (omega arith) up.1)

-- so the rights of receipts before n are the first ones
front_earlier : (n m a : ℕ) (rs : List RightNo) → Rises m a rs → filter (λ r. nat_lt r.receipt n) rs ≡ take (length (filter (λ r. nat_lt r.receipt n) rs)) rs
front_earlier n m a [] up = refl
front_earlier n m a (r ∷ rs) up =
    elim (nat_lt r.receipt n) as (λ b. nat_lt r.receipt n ≡ b → cond b (r ∷ filter (λ q. nat_lt q.receipt n) rs) (filter (λ q. nat_lt q.receipt n) rs) ≡ take (length (cond b (r ∷ filter (λ q. nat_lt q.receipt n) rs) (filter (λ q. nat_lt q.receipt n) rs))) (r ∷ rs)) [
      | true ↦ λ e. ap (λ rest. r ∷ rest) (front_earlier n r.receipt (r.act + 1) rs up.1)
      | false ↦ λ e.
          let none = none_earlier n r.receipt (r.act + 1) rs (grind (arith, nat_tests, e)) up.1 in
          none ∙ sym (ap (λ qs. take (length qs) (r ∷ rs)) none)
    ] refl

-- ---- the rights that an item of a sale finds

first_rise : (journal : List Receipt) (folio : ℕ) → Rises 0 0 (first_rights journal folio)
first_rise journal folio = rises_take 0 0 most_creations (creations_in journal folio) (creations_rise journal folio)

pub parted_first : (journal : List Receipt) (n folio : ℕ) → IsPartitionedBy (λ r. nat_lt r.receipt n) (first_rights journal folio)
parted_first journal n folio = parted_earlier n 0 0 (first_rights journal folio) (first_rise journal folio)

pub earlier_rise : (journal : List Receipt) (n folio : ℕ) → Rises 0 0 (earlier_rights journal n folio)
earlier_rise journal n folio =
    let first = first_rights journal folio in
    subst (Rises 0 0) (sym (front_earlier n 0 0 first (first_rise journal folio)))
    (rises_take 0 0 (length (filter (λ r. nat_lt r.receipt n) first)) first (first_rise journal folio))

-- two items that find equally many rights find the same rights
pub as_many : (journal : List Receipt) (n m folio : ℕ) → length (earlier_rights journal n folio) ≡ length (earlier_rights journal m folio) → earlier_rights journal n folio ≡ earlier_rights journal m folio
as_many journal n m folio same =
    let first = first_rights journal folio in
    front_earlier n 0 0 first (first_rise journal folio) ∙ ap (λ k. take k first) same ∙ sym (front_earlier m 0 0 first (first_rise journal folio))
