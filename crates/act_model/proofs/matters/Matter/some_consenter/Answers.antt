-- Who consents in the filing's own documents is asked first, then who consents in cures.
use Rattle.std.proofs.Common.{ap, sym, ◌∙◌}
use Rattle.act_model.specs.inner.FiledConsents.{consents_with}
use Rattle.act_model.proofs.FiledDocuments.{has_consenter}
use Rattle.act_model.proofs.matters.Matter.some_consenter.Goals as goal

pub returns : goal.returns
returns g c =
    c.some_consents.ensures
    ∙ ap (consents_with c.args.self.now c.args.act (g.T.PersonTest.test c.args.test.now)) c.consenters-in_cures.ensures
    ∙ sym (has_consenter c.args.self.now c.cure_documents.result.now c.args.act (g.T.PersonTest.test c.args.test.now) c.cure_documents.ensures)
