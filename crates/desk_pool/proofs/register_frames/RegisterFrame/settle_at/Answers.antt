-- The item's turn has come, and after the step it is one of those that are done.
use Rattle.std.proofs.Common.{◌+◌, ◌-◌, drop, refl, sym, ap, set, subst, take, arith}
use Rattle.folio_sections.specs.Entries.{at}
use Rattle.registrar.specs.Settling.{settled_in_order}
use Rattle.std.specs.Vec.{with_item}
use Rattle.desk_pool.specs.declared.register_frames.RegisterFrame.{RegisterFrame}
use Rattle.desk_pool.specs.inner.PreparedRuns.{HasTaken}
use Rattle.desk_pool.proofs.PreparedRuns.{can_take, cut_at_place, kept_ahead, one_more, taken_next}
use Rattle.desk_pool.proofs.register_frames.RegisterFrame.settle_at.Goals as goal

pub step-verdict-requires-clause-received : goal.step-verdict-requires-clause-received
step-verdict-requires-clause-received c =
    (can_take c.args.journal.now.receipts (take c.args.place c.args.order.now) (drop (c.args.place + 1) c.args.order.now) c.index-order-place.result c.requires.numbered (c.empty_register_is_kept.ensures.kept c.args.journal.now.receipts)
    (cut_at_place c.args.journal.now.receipts c.args.order.now c.args.place c.index-order-place.result c.requires.place c.index-order-place.is c.requires.permitted) c.args.self.now c.requires.ahead).high

pub step-verdict-requires-clause-held : goal.step-verdict-requires-clause-held
step-verdict-requires-clause-held c =
    (can_take c.args.journal.now.receipts (take c.args.place c.args.order.now) (drop (c.args.place + 1) c.args.order.now) c.index-order-place.result c.requires.numbered (c.empty_register_is_kept.ensures.kept c.args.journal.now.receipts)
    (cut_at_place c.args.journal.now.receipts c.args.order.now c.args.place c.index-order-place.result c.requires.place c.index-order-place.is c.requires.permitted) c.args.self.now c.requires.ahead).held

pub step-verdict-requires-clause-room : goal.step-verdict-requires-clause-room
step-verdict-requires-clause-room c =
    (can_take c.args.journal.now.receipts (take c.args.place c.args.order.now) (drop (c.args.place + 1) c.args.order.now) c.index-order-place.result c.requires.numbered (c.empty_register_is_kept.ensures.kept c.args.journal.now.receipts)
    (cut_at_place c.args.journal.now.receipts c.args.order.now c.args.place c.index-order-place.result c.requires.place c.index-order-place.is c.requires.permitted) c.args.self.now c.requires.ahead).wide

pub step-verdict-requires-clause-scratch : goal.step-verdict-requires-clause-scratch
step-verdict-requires-clause-scratch c =
    (can_take c.args.journal.now.receipts (take c.args.place c.args.order.now) (drop (c.args.place + 1) c.args.order.now) c.index-order-place.result c.requires.numbered (c.empty_register_is_kept.ensures.kept c.args.journal.now.receipts)
    (cut_at_place c.args.journal.now.receipts c.args.order.now c.args.place c.index-order-place.result c.requires.place c.index-order-place.is c.requires.permitted) c.args.self.now c.requires.ahead).scratch

pub step-verdict-requires-clause-kept : goal.step-verdict-requires-clause-kept
step-verdict-requires-clause-kept c =
    (can_take c.args.journal.now.receipts (take c.args.place c.args.order.now) (drop (c.args.place + 1) c.args.order.now) c.index-order-place.result c.requires.numbered (c.empty_register_is_kept.ensures.kept c.args.journal.now.receipts)
    (cut_at_place c.args.journal.now.receipts c.args.order.now c.args.place c.index-order-place.result c.requires.place c.index-order-place.is c.requires.permitted) c.args.self.now c.requires.ahead).kept

pub step-verdict-requires-clause-earlier : goal.step-verdict-requires-clause-earlier
step-verdict-requires-clause-earlier c =
    (can_take c.args.journal.now.receipts (take c.args.place c.args.order.now) (drop (c.args.place + 1) c.args.order.now) c.index-order-place.result c.requires.numbered (c.empty_register_is_kept.ensures.kept c.args.journal.now.receipts)
    (cut_at_place c.args.journal.now.receipts c.args.order.now c.args.place c.index-order-place.result c.requires.place c.index-order-place.is c.requires.permitted) c.args.self.now c.requires.ahead).earlier

pub index_mut-requires : goal.index_mut-requires
index_mut-requires c =
    let can =
    can_take c.args.journal.now.receipts (take c.args.place c.args.order.now) (drop (c.args.place + 1) c.args.order.now) c.index-order-place.result c.requires.numbered (c.empty_register_is_kept.ensures.kept c.args.journal.now.receipts)
    (cut_at_place c.args.journal.now.receipts c.args.order.now c.args.place c.index-order-place.result c.requires.place c.index-order-place.is c.requires.permitted) c.args.self.now c.requires.ahead in
    let count = c.requires.ahead.places.frame.verdicts in
    let number = c.get.ensures.value in
    let len = c.args.self.now.verdicts.ok.0 in
    omega (arith, can.low, can.high, count, number, len)

pub returns : goal.returns
returns c =
    let journal = c.args.journal.now.receipts in
    let done = take c.args.place c.args.order.now in
    let i = c.index-order-place.result in
    let empty = c.empty_register_is_kept.ensures.kept journal in
    let permitted = cut_at_place journal c.args.order.now c.args.place i c.requires.place c.index-order-place.is c.requires.permitted in
    let stands = c.requires.ahead.entries in
    let kept = kept_ahead journal done (drop (c.args.place + 1) c.args.order.now) i c.requires.numbered empty permitted in
    let s = c.args.self.now in
    let after : RegisterFrame = record { alloc = s.alloc; parts = c.step-verdict.new.parts; scratch = c.step-verdict.new.scratch; verdicts = with_item s.verdicts (c.get.result - 1) c.step-verdict.result; folios = s.folios } in
    record {
      taken = subst (λ ns. HasTaken journal ns after) (sym (one_more c.args.order.now c.args.place i c.requires.place c.index-order-place.is))
          (taken_next journal done (drop (c.args.place + 1) c.args.order.now) i c.requires.numbered empty permitted s after c.step-verdict.result c.requires.ahead
          (record {
            held = c.step-verdict.ensures.held;
            added = c.step-verdict.ensures.added (at (settled_in_order journal done).entries) (λ k held. stands k) kept;
            verdict = c.step-verdict.ensures.verdict (at (settled_in_order journal done).entries) (λ k held. stands k) kept;
            scratch = c.step-verdict.ensures.scratch;
            verdicts = ap (λ n. set s.verdicts.items (n - 1) c.step-verdict.result) c.get.ensures.value;
            folios = refl;
          }));
    }
