use Rattle.std.proofs.Common.{refl}
use Rattle.gb_base.specs.declared.keys.Key.TheVariants.{Case}
use Rattle.act_model.specs.declared.items.Item.TheVariants as item
use Rattle.folio_sections.specs.Held.{entries_at}
use Rattle.folio_extract.proofs.PlansTold.{case_is_touched, received}
use Rattle.folio_extract.proofs.plans.money_of.Goals as goal

pub money_distributed-requires-clause-received : goal.money_distributed-requires-clause-received
money_distributed-requires-clause-received c = received c.args.journal.now.receipts c.args.n (item.Distribute c.args.folio) c.requires.kept.item

pub money_distributed-requires-clause-held : goal.money_distributed-requires-clause-held
money_distributed-requires-clause-held c = c.requires.told.held c.args.n (Case c.args.folio) (case_is_touched c.args.journal.now.receipts c.args.n c.args.folio c.requires.kept.item)

pub money_distributed-requires-clause-kept : goal.money_distributed-requires-clause-kept
money_distributed-requires-clause-kept c = record { register = entries_at c.args.register.now.parts; stands = λ k held. refl; kept = c.requires.told.kept }

pub returns : goal.returns
returns c = c.money_distributed.ensures (entries_at c.args.register.now.parts) (λ k held. refl) c.requires.told.kept
