use Rattle.std.proofs.Common.{◌++◌, ◌∙◌, ap, arith, drop, flat_map, length, subst, sym, take}
use Rattle.std.specs.List.{prefix_len}
use Rattle.std.specs.Option.{option_copied}
use Rattle.folio_sections.specs.HeldRights.{receipt_numbers}
use Rattle.folio_line.specs.FolioRights.{by_group}
use Rattle.folio_line.specs.inner.FilingRuns.{is_of_filing}
use Rattle.folio_line.proofs.FilingRuns.{Left, begins, ends, goes_on, run_of}
use Rattle.folio_line.proofs.GroupWrites.{still_few}
use Rattle.folio_line.proofs.folio_rights.write_by_group.Goals as goal

pub add_by_group-requires : goal.add_by_group-requires
add_by_group-requires c =
    let front = c.split_at.ensures.front_len in
    let within = c.count_of_filing.ensures.within in
    let few = c.loop-first.invariant.few in
    let room = c.requires.room in
    let same = c.loop-first.invariant.capacity in
    omega (arith, front, within, few, room, same)

pub loop-first-init : goal.loop-first-init
loop-first-init c = record {
  left = λ rights own is. subst (λ done. Left rights done c.args.by_act.now (flat_map (λ m. by_group (rights m)) receipt_numbers)) (sym c.clear.ensures.items) (begins rights c.args.by_act.now is);
  few = (let none = ap length c.clear.ensures.items in omega (arith, none));
  capacity = c.clear.ensures.capacity;
}

pub loop-first-preserved : goal.loop-first-preserved
loop-first-preserved c =
    let done = c.loop-first.list.items in
    let rest = c.loop-first.rest.now in
    let first = c.in-Some.first.now in
    let count = c.count_of_filing.ensures.value ∙ ap (λ n. prefix_len (is_of_filing n) rest) c.receipt.ensures in
    let front_len = c.split_at.ensures.front_len in
    let back_len = c.split_at.ensures.back_len in
    let within = c.count_of_filing.ensures.within in
    record {
      left = λ rights own is.
          let all = flat_map (λ m. by_group (rights m)) receipt_numbers in
          let next = goes_on rights done rest all first own (sym c.first.ensures.value ∙ ap option_copied c.in-Some.is) (c.loop-first.invariant.left rights own is) in
          subst (λ xs. Left rights xs c.split_at.result.1.now all)
          (sym (c.add_by_group.ensures.items ∙ ap (λ xs. done ++ by_group xs) (c.split_at.ensures.front ∙ ap (λ k. take k rest) count)))
          (subst (λ xs. Left rights (done ++ by_group (take (run_of first rest) rest)) xs all) (sym (c.split_at.ensures.back ∙ ap (λ k. drop k rest) count)) next);
      few = still_few done c.add_by_group.new.list.items rest c.split_at.result.0.now c.split_at.result.1.now (length c.args.by_act.now) c.add_by_group.ensures.items (omega (arith, front_len, back_len, within)) c.loop-first.invariant.few;
      capacity = c.add_by_group.ensures.capacity ∙ c.loop-first.invariant.capacity;
    }

pub returns-clause-items : goal.returns-clause-items
returns-clause-items c = λ rights own is.
    ends rights c.loop-first.list.items c.loop-first.rest.now (flat_map (λ m. by_group (rights m)) receipt_numbers) (sym c.first.ensures.value ∙ ap option_copied c.in_default.is) (c.loop-first.invariant.left rights own is)
