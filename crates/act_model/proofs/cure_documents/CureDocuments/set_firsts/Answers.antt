-- A certified consent is found as a consent, and as a certified one.
use Rattle.std.proofs.Common.{◌≡◌, cond, Some, sym, ◌∙◌, subst}
use Rattle.std.specs.Option.{option_or}
use Rattle.std.specs.Ordering.{is_eq}
use Rattle.act_model.specs.declared.firsts.DocumentOf.{DocumentOf}
use Rattle.act_model.specs.inner.CureDocuments.{key_of}
use Rattle.act_model.specs.inner.Firsts.{document_cmp, first}
use Rattle.act_model.proofs.DocumentKeys.{finds_certified, finds_plain}
use Rattle.act_model.proofs.cure_documents.CureDocuments.set_firsts.Goals as goal

pub returns-in-Some-clause-finds : goal.returns-in-Some-clause-finds
returns-in-Some-clause-finds c =
    finds_certified c.args.self.now.firsts c.set_first.new.firsts c.set_first-in-Some.new.firsts c.args.n c.args.filing c.args.doc.now c.in-Some.sought
    (sym c.certified_as.ensures ∙ c.in-Some.is)
    (subst (λ s. (q : DocumentOf) → first c.set_first.new.firsts q ≡ cond (is_eq (document_cmp (key_of c.args.filing s) q)) (option_or (first c.args.self.now.firsts (key_of c.args.filing s)) (Some c.args.n)) (first c.args.self.now.firsts q)) c.sought_as-sought.ensures c.set_first.ensures.firsts)
    c.set_first-in-Some.ensures.firsts

pub returns-in_default-clause-finds : goal.returns-in_default-clause-finds
returns-in_default-clause-finds c =
    finds_plain c.args.self.now.firsts c.set_first.new.firsts c.args.n c.args.filing c.args.doc.now
    (sym c.certified_as.ensures ∙ c.in_default.is)
    (subst (λ s. (q : DocumentOf) → first c.set_first.new.firsts q ≡ cond (is_eq (document_cmp (key_of c.args.filing s) q)) (option_or (first c.args.self.now.firsts (key_of c.args.filing s)) (Some c.args.n)) (first c.args.self.now.firsts q)) c.sought_as-sought.ensures c.set_first.ensures.firsts)
