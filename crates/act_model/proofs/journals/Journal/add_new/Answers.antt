-- The journal takes one receipt more, which waits for the index by sender and reference.
use Rattle.std.proofs.Common.{◌≡◌, ℕ, ◌+◌, ◌<◌, length, get_or, false, None, IsTrue, subst, sym, ap, ◌∙◌, arith}
use Rattle.std.specs.Ordering.{nat_cmp}
use Rattle.std.specs.Vec.{vec_len}
use Rattle.std.proofs.lemmas.Grind.{common_steps}
use Rattle.act_model.specs.declared.receipts.Receipt.{Receipt}
use Rattle.act_model.specs.Receiving.{number_of, is_before, stamp_after}
use Rattle.act_model.specs.WellFormed.{well_formed}
use Rattle.act_model.specs.JournalState.{has_room}
use Rattle.act_model.specs.inner.CureDocuments.{firsts_with, found_by, ArePlain, Finds}
use Rattle.act_model.specs.inner.ItemIndexes.{cures_by, creations_by, filings_by, HaveRoomFor}
use Rattle.act_model.specs.inner.Lists.{Adds}
use Rattle.act_model.proofs.IndexLemmas.{agree_later, length_behind, AreIndexesOf-push}
use Rattle.act_model.proofs.JournalLemmas.{Journal-push, stamp_after-last}
use Rattle.act_model.proofs.PlainConsenters.{plain_later}
use Rattle.act_model.proofs.ReadyLemmas.{no_error, ready_for_it}
use Rattle.act_model.proofs.journals.Journal.add_new.Goals as goal

pub add-requires-clause-room : goal.add-requires-clause-room
add-requires-clause-room c =
    let room : IsTrue (has_room c.reserve_one.new.self c.args.item.now) =
    no_error c.reserve_one.result (IsTrue (has_room c.reserve_one.new.self c.args.item.now)) c.is_err.result c.is_err.ensures.value c.if-is_err.false c.reserve_one.ensures.room in
    let ready = c.self-2.invariant.3 c.args.item.now (ap (λ j. j.ready_for) c.self-2.view_is ∙ ready_for_it c.reserve_one.new.self.ready_for c.args.item.now room) in
    let as_before : c.self-2.inside.receipts.items ≡ c.self.inside.receipts.items =
    ap (λ j. j.receipts) c.self-2.view_is ∙ c.reserve_one.ensures.receipts ∙ sym (ap (λ j. j.receipts) c.self.view_is) in
    let as_many = ap length as_before in
    let number : c.unwrap-n.result ≡ vec_len c.self-2.inside.receipts + 1 = grind (arith, common_steps, as_many) in
    subst (λ n. HaveRoomFor c.self-2.inside.indexes n c.args.item.now) (sym number) ready.room

pub add-requires-clause-agree : goal.add-requires-clause-agree
add-requires-clause-agree c =
    let as_before : c.self-2.inside.receipts.items ≡ c.self.inside.receipts.items =
    ap (λ j. j.receipts) c.self-2.view_is ∙ c.reserve_one.ensures.receipts ∙ sym (ap (λ j. j.receipts) c.self.view_is) in
    let as_many = ap length as_before in
    let number : c.unwrap-n.result ≡ length c.self-2.inside.receipts.items + 1 = grind (arith, common_steps, as_many) in
    agree_later c.self-2.inside.indexes.documents (length c.self-2.inside.receipts.items) c.unwrap-n.result (omega arith) c.self-2.invariant.2.documents.agree

pub add-requires-clause-plain : goal.add-requires-clause-plain
add-requires-clause-plain c =
    let as_before : c.self-2.inside.receipts.items ≡ c.self.inside.receipts.items =
    ap (λ j. j.receipts) c.self-2.view_is ∙ c.reserve_one.ensures.receipts ∙ sym (ap (λ j. j.receipts) c.self.view_is) in
    let as_many = ap length as_before in
    let number : c.unwrap-n.result ≡ length c.self-2.inside.receipts.items + 1 = grind (arith, common_steps, as_many) in
    plain_later c.self-2.inside.indexes.documents c.self-2.inside.receipts.items c.unwrap-n.result c.args.item.now (omega arith) c.self-2.invariant.2.documents

pub push_reserved-requires : goal.push_reserved-requires
push_reserved-requires c =
    let room : IsTrue (has_room c.reserve_one.new.self c.args.item.now) =
    no_error c.reserve_one.result (IsTrue (has_room c.reserve_one.new.self c.args.item.now)) c.is_err.result c.is_err.ensures.value c.if-is_err.false c.reserve_one.ensures.room in
    let ready = c.self-2.invariant.3 c.args.item.now (ap (λ j. j.ready_for) c.self-2.view_is ∙ ready_for_it c.reserve_one.new.self.ready_for c.args.item.now room) in
    ready.room_for_one

pub invariant_of-self : goal.invariant_of-self
invariant_of-self c =
    let journal = c.self-2.inside.receipts.items in
    let r : Receipt = record { stamp = c.next_stamp-stamp.result; sender = c.args.sender; reference = c.args.reference; item = c.take_kept-item.result } in
    let as_before : journal ≡ c.args.self.now.receipts = ap (λ j. j.receipts) c.self-2.view_is ∙ c.reserve_one.ensures.receipts in
    let room : IsTrue (has_room c.reserve_one.new.self c.args.item.now) =
    no_error c.reserve_one.result (IsTrue (has_room c.reserve_one.new.self c.args.item.now)) c.is_err.result c.is_err.ensures.value c.if-is_err.false c.reserve_one.ensures.room in
    let ready = c.self-2.invariant.3 c.args.item.now (ap (λ j. j.ready_for) c.self-2.view_is ∙ ready_for_it c.reserve_one.new.self.ready_for c.args.item.now room) in
    let all : c.self-2.inside.indexed ≡ length journal = omega (arith, ready.none_waits) in
    let as_seen : c.self.inside.receipts.items ≡ journal = ap (λ j. j.receipts) c.self.view_is ∙ sym as_before in
    let few : length journal < 200000 = subst (λ rs. length rs < 200000) as_seen (omega arith) in
    let as_many = ap length as_seen in
    let number : c.unwrap-n.result ≡ length journal + 1 = grind (arith, common_steps, as_many) in
    let well : IsTrue (well_formed c.take_kept-item.result) = subst (λ i. IsTrue (well_formed i)) (sym c.take_kept-item.ensures.item) c.requires.well in
    let none : number_of c.args.sender c.args.reference journal ≡ None = rw as_before c.requires.unknown in
    let stamped : c.next_stamp-stamp.result ≡ stamp_after journal c.args.stamp = cc in
    let later : (k : ℕ) (d : Receipt) → k < length journal → is_before c.next_stamp-stamp.result (get_or journal k d).stamp ≡ false =
    λ k d h. subst (λ t. is_before t (get_or journal k d).stamp ≡ false) (sym stamped) (stamp_after-last journal c.args.stamp c.self-2.invariant.0.stamps k d h) in
    let pushed = Journal-push journal c.push_reserved.new.self.items r c.self-2.inside.numbers c.self-2.inside.indexed c.push_reserved.ensures.items c.self-2.invariant.0 c.self-2.invariant.1 all few well none later in
    let indexes = AreIndexesOf-push c.self-2.inside.indexes c.add.new.self journal c.push_reserved.new.self.items r c.unwrap-n.result c.push_reserved.ensures.items number
    (number ∙ length_behind journal r c.push_reserved.new.self.items c.push_reserved.ensures.items) c.self-2.invariant.2
    (subst (λ i. Adds nat_cmp c.self-2.inside.indexes.cures c.add.new.self.cures (cures_by c.unwrap-n.result i)) (sym c.take_kept-item.ensures.item) c.add.ensures.cures)
    (subst (λ i. Adds nat_cmp c.self-2.inside.indexes.creations c.add.new.self.creations (creations_by c.unwrap-n.result i)) (sym c.take_kept-item.ensures.item) c.add.ensures.creations)
    (subst (λ i. Adds nat_cmp c.self-2.inside.indexes.filings c.add.new.self.filings (filings_by c.unwrap-n.result i)) (sym c.take_kept-item.ensures.item) c.add.ensures.filings)
    (subst (λ i. Finds c.self-2.inside.indexes.documents c.add.new.self.documents (found_by c.unwrap-n.result i)) (sym c.take_kept-item.ensures.item) c.add.ensures.finds)
    c.add.ensures.agree
    (subst (λ i. ArePlain c.add.new.self.documents (firsts_with c.self-2.inside.indexes.documents (found_by c.unwrap-n.result i))) (sym c.take_kept-item.ensures.item) c.add.ensures.plain) in
    (pushed.0, pushed.1, indexes, λ i h. absurd (cc h))

pub take_kept-item-requires : goal.take_kept-item-requires
take_kept-item-requires c =
    let room : IsTrue (has_room c.reserve_one.new.self c.args.item.now) =
    no_error c.reserve_one.result (IsTrue (has_room c.reserve_one.new.self c.args.item.now)) c.is_err.result c.is_err.ensures.value c.if-is_err.false c.reserve_one.ensures.room in
    ap (λ j. j.ready_for) c.self-2.view_is ∙ ready_for_it c.reserve_one.new.self.ready_for c.args.item.now room
