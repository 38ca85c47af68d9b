-- The item that is noted is one of those whose keys are listed.
use Rattle.std.proofs.Common.{◌≡◌, ◌∙◌, ◌-◌, length, slice_get, Some, sym, ap, arith}
use Rattle.std.specs.BTreeMap.{get}
use Rattle.std.specs.Ordering.{nat_cmp}
use Rattle.std.proofs.lemmas.Bool.Decides.{nat_tests}
use Rattle.std.proofs.lemmas.List.FromFn.{length-map-range_with_len}
use Rattle.conflict_queue.specs.Dockets.{keys_touched}
use Rattle.conflict_queue.specs.inner.Sales.{IsOfSale}
use Rattle.conflict_queue.proofs.Alike.{sale_ahead}
use Rattle.conflict_queue.proofs.Numbered.{numbered_at, some_is}
use Rattle.conflict_queue.proofs.dockets.last_of_sale.Goals as goal

pub get-touched-requires : goal.get-touched-requires
get-touched-requires c =
    let last = c.in_ok-last.field-0.now in
    let found : get nat_cmp c.args.sales.now c.args.folio ≡ Some last = ap (get nat_cmp c.args.sales.now) (sym c.get.ensures.value) ∙ sym c.in_ok-last.ensures.value in
    let within = (c.requires.sales c.args.folio last found).within in
    let count = ap length c.requires.so_far ∙ length-map-range_with_len (keys_touched c.args.journal.now.receipts) 1 (c.args.n - 1) in
    let value = c.get-3.ensures.value in
    let positive = c.get-3.ensures.positive in
    omega arith

pub returns : goal.returns
returns c =
    let journal = c.args.journal.now.receipts in
    let last = c.in_ok-last.field-0.now in
    let touched = c.get-touched.result.now in
    let found : get nat_cmp c.args.sales.now c.args.folio ≡ Some last = ap (get nat_cmp c.args.sales.now) (sym c.get.ensures.value) ∙ sym c.in_ok-last.ensures.value in
    let noted : IsOfSale journal (c.args.n - 1) c.args.folio last = c.requires.sales c.args.folio last found in
    let within = noted.within in
    let positive = c.get-3.ensures.positive in
    let is : touched ≡ keys_touched journal last = some_is touched (keys_touched journal last)
    (sym c.get-touched.ensures ∙ ap (λ k. slice_get c.args.keys.now (k - 1)) c.get-3.ensures.value ∙ ap (λ d. slice_get d (last - 1)) c.requires.so_far
    ∙ numbered_at (keys_touched journal) (c.args.n - 1) last (omega arith) within) in
    sale_ahead journal c.args.n last c.args.folio touched (omega arith) noted.keys is (grind (arith, nat_tests, c.if-touched-earlier_rights.false, c.earlier_rights.ensures))
