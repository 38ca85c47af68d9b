-- Who is listed agrees with what is found.
use Rattle.std.proofs.Common.{[], ◌∷◌, ap, ◌∙◌}
use Rattle.std.specs.Option.{option_or}
use Rattle.act_model.specs.inner.CureDocuments.{found_in}
use Rattle.act_model.specs.inner.Firsts.{first}
use Rattle.act_model.specs.inner.Index.{pair_cmp}
use Rattle.act_model.specs.inner.Lists.{listed}
use Rattle.act_model.proofs.ConsenterLemmas.{agree_then}
use Rattle.act_model.proofs.PlainConsenters.{plain_then}
use Rattle.act_model.proofs.cure_documents.CureDocuments.add_doc.Goals as goal

pub returns-clause-agree : goal.returns-clause-agree
returns-clause-agree c =
    agree_then c.args.self.now c.set_firsts.new.self c.args.n c.args.filing c.args.doc.now c.requires.agree
    (λ m a. ap (λ lists. listed pair_cmp lists (m, a)) c.set_firsts.ensures.consenters ∙ c.add_consenter.ensures.listed m a)
    (λ k. c.set_firsts.ensures.finds k ∙ ap (λ firsts. option_or (first firsts k) (found_in c.args.n c.args.filing (c.args.doc.now ∷ []) k)) c.add_consenter.ensures.firsts)

pub returns-clause-plain : goal.returns-clause-plain
returns-clause-plain c =
    plain_then c.args.self.now c.set_firsts.new.self c.args.n c.args.filing c.args.docs.now c.args.doc.now c.requires.agree c.requires.plain
    (λ m a. ap (λ lists. listed pair_cmp lists (m, a)) c.set_firsts.ensures.consenters ∙ c.add_consenter.ensures.listed m a)
    (λ m a. ap (λ lists. listed pair_cmp lists (m, a)) c.set_firsts.ensures.plain_consenters ∙ c.add_consenter.ensures.plain m a)
