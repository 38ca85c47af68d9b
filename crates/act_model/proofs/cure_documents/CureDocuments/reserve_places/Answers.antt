-- A certified consent has two places.
use Rattle.std.proofs.Common.{IsTrue, sym, ◌∙◌, subst}
use Rattle.std.specs.Ordering.{is_eq}
use Rattle.act_model.specs.declared.firsts.DocumentOf.{DocumentOf}
use Rattle.act_model.specs.declared.sought.Sought.{Sought}
use Rattle.act_model.specs.Sought.{is_sought}
use Rattle.act_model.specs.inner.CureDocuments.{key_of}
use Rattle.act_model.specs.inner.Firsts.{document_cmp, is_held}
use Rattle.act_model.proofs.DocumentRoom.{on_ok, places_certified, places_plain}
use Rattle.act_model.proofs.cure_documents.CureDocuments.reserve_places.Goals as goal

pub returns-in-Some-clause-held : goal.returns-in-Some-clause-held
returns-in-Some-clause-held c =
    let doc = c.args.doc.now in
    let held = is_held c.make_room-in-Some.new.firsts in
    on_ok c.make_room-in-Some.result
    ((q : DocumentOf) → IsTrue (is_eq (document_cmp (key_of c.args.filing c.in-Some.sought) q)) → IsTrue (held q))
    ((s : Sought) → IsTrue (is_sought s doc) → IsTrue (held (key_of c.args.filing s)))
    (λ made. places_certified held c.args.filing doc c.in-Some.sought (sym c.certified_as.ensures ∙ c.in-Some.is)
    (λ q same. c.make_room-in-Some.ensures.held q
    (subst (λ s. (k : DocumentOf) → IsTrue (is_eq (document_cmp (key_of c.args.filing s) k)) → IsTrue (is_held c.make_room.new.firsts k)) c.sought_as-sought.ensures c.in_ok-make_room.ensures.made q same))
    made)
    c.make_room-in-Some.ensures.made

pub returns-in-None-clause-held : goal.returns-in-None-clause-held
returns-in-None-clause-held c =
    places_plain (is_held c.make_room.new.firsts) c.args.filing c.args.doc.now (sym c.certified_as.ensures ∙ c.in-None.is)
    (subst (λ s. (k : DocumentOf) → IsTrue (is_eq (document_cmp (key_of c.args.filing s) k)) → IsTrue (is_held c.make_room.new.firsts k)) c.sought_as-sought.ensures c.in_ok-make_room.ensures.made)
