-- Who consents in plain form alone has no certified consent at first.
use Rattle.std.proofs.Common.{ap, length, subst, sym, ◌∙◌}
use Rattle.act_model.specs.inner.CureDocuments.{Rises}
use Rattle.act_model.specs.inner.FiledConsents.{consents_with}
use Rattle.act_model.proofs.PlainConsenters.{plain_rise}
use Rattle.act_model.proofs.PlainForms.{has_plain_consenter, passes_plain}
use Rattle.act_model.proofs.matters.Matter.some_plain_consenter.Goals as goal

pub some_consents-requires : goal.some_consents-requires
some_consents-requires g c =
    let journal = c.args.self.now.journal.now.receipts in (
      length journal,
      subst (Rises 0 (length journal)) (sym c.plain_consenters-in_cures.ensures) (plain_rise c.cure_documents.result.now journal c.args.self.now.number c.args.act c.cure_documents.ensures),
    )

pub returns : goal.returns
returns g c =
    c.some_consents.ensures
    ∙ ap (consents_with c.args.self.now c.args.act (passes_plain c.args.self.now c.args.act (g.T.PersonTest.test c.args.test.now))) c.plain_consenters-in_cures.ensures
    ∙ sym (has_plain_consenter c.args.self.now c.cure_documents.result.now c.args.act (g.T.PersonTest.test c.args.test.now) c.cure_documents.ensures)
