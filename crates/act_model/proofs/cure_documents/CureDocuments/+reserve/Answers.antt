-- Room for a document stands beside room for those after it.
use Rattle.std.proofs.Common.{ℕ, ◌-◌, ◌≤◌, drop, length, take, IsTrue}
use Rattle.act_model.specs.inner.CureDocuments.{is_consent_to, HasRoomForDocs}
use Rattle.act_model.specs.inner.Index.{pair_cmp}
use Rattle.act_model.specs.inner.Lists.{room}
use Rattle.act_model.proofs.DocumentRoom.{both_ok, keeps_then, room_for_all, whole}
use Rattle.act_model.proofs.cure_documents.CureDocuments.+reserve.Goals as goal

pub returns-in_ok-reserve_places-in-len1-up-clause-room : goal.returns-in_ok-reserve_places-in-len1-up-clause-room
returns-in_ok-reserve_places-in-len1-up-clause-room t c =
    let docs = c.args.docs.now in
    let doc = c.doc-item.result in
    let after = c.reserve_consenters.new.self in
    both_ok c.reserve_consenters.result
    ((a : ℕ) → IsTrue (is_consent_to a doc) → length docs ≤ room pair_cmp after.consenters (c.args.filing, a))
    ((a : ℕ) → IsTrue (is_consent_to a doc) → length docs ≤ room pair_cmp after.plain_consenters (c.args.filing, a))
    (HasRoomForDocs after c.args.filing docs)
    (room_for_all c.reserve.new.self after c.args.filing doc docs (take (length docs - 1) (drop 1 docs)) (whole docs doc c.in-len1-up.len_at_least c.doc-item.is)
    c.in_ok-reserve-in-len1-up.ensures.room
    (keeps_then c.reserve.new.self c.reserve_places.new.self after c.reserve_places.ensures.keeps c.reserve_consenters.ensures.keeps)
    (λ s met. c.reserve_consenters.ensures.keeps.held _ (c.in_ok-reserve_places-in-len1-up.ensures.held s met)))
    c.reserve_consenters.ensures.room c.reserve_consenters.ensures.plain_room
