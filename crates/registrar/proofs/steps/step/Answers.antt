use Rattle.std.proofs.Common.{sym, ap, subst, ◌∙◌}
use Rattle.folio_sections.specs.Adding.{AddsList}
use Rattle.registrar.proofs.Elsewhere.{stays_elsewhere}
use Rattle.registrar.proofs.StandingParts.{for_kept, stand_behind, still_stand}
use Rattle.registrar.proofs.StepLemmas.{brings_is, can_settle, has_room, is_roomy, item_is}
use Rattle.registrar.specs.Brings.{Brought, brings}
use Rattle.registrar.proofs.steps.step.Goals as goal

pub settle-requires-clause-step : goal.settle-requires-clause-step
settle-requires-clause-step g c = record {
  receives = c.receipt_of-receipt.ensures.journal;
  within = c.requires.received;
  item = item_is c.args.journal.now.receipts c.args.item c.receipt_of-receipt.result.now c.receipt_of-receipt.ensures.value;
  parts =
      can_settle c.args.journal.now.receipts c.args.item (g.P.Parts.holds c.args.parts.now) (g.P.Parts.at c.args.parts.now) (g.P.Parts.room c.args.parts.now) c.receipt_of-receipt.result.now
      c.receipt_of-receipt.ensures.value c.requires.held c.requires.room c.requires.earlier (for_kept c.args.journal.now.receipts (g.P.Parts.holds c.args.parts.now) (g.P.Parts.at c.args.parts.now) c.requires.kept);
  wanted =
      has_room c.args.journal.now.receipts c.args.item (g.P.Parts.at c.args.parts.now) (g.P.Parts.room c.args.parts.now) c.receipt_of-receipt.result.now c.receipt_of-receipt.ensures.value c.requires.room;
}

pub settle-requires-clause-scratch : goal.settle-requires-clause-scratch
settle-requires-clause-scratch g c =
    is_roomy c.args.journal.now.receipts c.args.item (g.P.Parts.at c.args.parts.now) c.args.scratch.now c.receipt_of-receipt.result.now c.receipt_of-receipt.ensures.value c.requires.scratch

pub returns-clause-verdict : goal.returns-clause-verdict
returns-clause-verdict g c = λ register stands kept.
    c.settle.ensures.settles.verdict register stands kept
    ∙ ap (λ (b : Brought). b.verdict) (sym (brings_is c.args.journal.now.receipts c.args.item register c.receipt_of-receipt.result.now c.receipt_of-receipt.ensures.value))

pub returns-clause-added : goal.returns-clause-added
returns-clause-added g c = λ register stands kept.
    subst (λ (b : Brought). AddsList (g.P.Parts.at c.args.parts.now) (g.P.Parts.at c.settle.new.parts) (g.P.Parts.room c.args.parts.now) (g.P.Parts.room c.settle.new.parts) b.entries)
    (sym (brings_is c.args.journal.now.receipts c.args.item register c.receipt_of-receipt.result.now c.receipt_of-receipt.ensures.value))
    (c.settle.ensures.settles.added register stands kept)

pub returns-clause-others : goal.returns-clause-others
returns-clause-others g c = λ k off.
    let before = c.requires.kept in
    stays_elsewhere c.args.journal.now.receipts c.args.item before.register (g.P.Parts.at c.args.parts.now) (g.P.Parts.at c.settle.new.parts) c.receipt_of-receipt.result.now k
    c.receipt_of-receipt.ensures.journal before.kept c.receipt_of-receipt.ensures.value off (c.settle.ensures.settles.added before.register before.stands before.kept).there

pub returns-clause-stands : goal.returns-clause-stands
returns-clause-stands g c = λ register stands kept.
    stand_behind (g.P.Parts.holds c.args.parts.now) (g.P.Parts.holds c.settle.new.parts) (g.P.Parts.at c.args.parts.now) (g.P.Parts.at c.settle.new.parts) register
    (brings c.args.journal.now.receipts c.args.item register).entries stands c.settle.ensures.held
    (subst (λ (b : Brought). AddsList (g.P.Parts.at c.args.parts.now) (g.P.Parts.at c.settle.new.parts) (g.P.Parts.room c.args.parts.now) (g.P.Parts.room c.settle.new.parts) b.entries)
    (sym (brings_is c.args.journal.now.receipts c.args.item register c.receipt_of-receipt.result.now c.receipt_of-receipt.ensures.value))
    (c.settle.ensures.settles.added register stands kept)).there

pub returns-clause-kept : goal.returns-clause-kept
returns-clause-kept g c =
    let before = c.requires.kept in
    still_stand c.args.journal.now.receipts c.args.item (g.P.Parts.holds c.args.parts.now) (g.P.Parts.holds c.settle.new.parts) (g.P.Parts.at c.args.parts.now) (g.P.Parts.at c.settle.new.parts) before
    c.receipt_of-receipt.ensures.journal c.requires.held c.requires.earlier c.settle.ensures.held
    (subst (λ (b : Brought). AddsList (g.P.Parts.at c.args.parts.now) (g.P.Parts.at c.settle.new.parts) (g.P.Parts.room c.args.parts.now) (g.P.Parts.room c.settle.new.parts) b.entries)
    (sym (brings_is c.args.journal.now.receipts c.args.item before.register c.receipt_of-receipt.result.now c.receipt_of-receipt.ensures.value))
    (c.settle.ensures.settles.added before.register before.stands before.kept)).there
