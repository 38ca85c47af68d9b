-- What is found with a document and then with the others is found with all.
use Rattle.std.proofs.Common.{◌-◌, drop, length, rules, subst, sym, take, ◌∙◌}
use Rattle.act_model.specs.inner.CureDocuments.{ArePlain, HasRoomForDocs}
use Rattle.act_model.proofs.DocumentRoom.{whole}
use Rattle.act_model.proofs.PlainConsenters.{firsts_go_on}
use Rattle.act_model.proofs.cure_documents.CureDocuments.+add.Goals as goal

pub add-requires : goal.add-requires
add-requires t c =
    let docs = c.args.docs.now in
    let is = whole docs c.doc-item.result c.in-len1-up.len_at_least c.doc-item.is in (
      search rules,
      (
        c.add_doc.ensures.room (take (length docs - 1) (drop 1 docs)) (subst (HasRoomForDocs c.args.self.now c.args.filing) is c.requires.room),
        (c.add_doc.ensures.agree, subst (ArePlain c.add_doc.new.self) (sym (firsts_go_on c.args.self.now c.add_doc.new.self c.args.n c.args.filing docs c.doc-item.result (take (length docs - 1) (drop 1 docs)) is c.add_doc.ensures.finds)) c.add_doc.ensures.plain),
      ),
    )

pub returns-in-len1-up-clause-finds : goal.returns-in-len1-up-clause-finds
returns-in-len1-up-clause-finds t c =
    let docs = c.args.docs.now in
    let is = whole docs c.doc-item.result c.in-len1-up.len_at_least c.doc-item.is in
    λ k. c.add.ensures.finds k ∙ (λ i. firsts_go_on c.args.self.now c.add_doc.new.self c.args.n c.args.filing docs c.doc-item.result (take (length docs - 1) (drop 1 docs)) is c.add_doc.ensures.finds i k.filing k.sought)

pub returns-in-len1-up-clause-plain : goal.returns-in-len1-up-clause-plain
returns-in-len1-up-clause-plain t c =
    let docs = c.args.docs.now in
    let is = whole docs c.doc-item.result c.in-len1-up.len_at_least c.doc-item.is in
    subst (ArePlain c.add.new.self) (firsts_go_on c.args.self.now c.add_doc.new.self c.args.n c.args.filing docs c.doc-item.result (take (length docs - 1) (drop 1 docs)) is c.add_doc.ensures.finds) c.add.ensures.plain
