use Rattle.std.proofs.Common.{◌∷◌, [], length, ap, sym, subst, ◌∙◌, arith}
use Rattle.folio_sections.specs.Adding.{AddsList, HasRoom}
use Rattle.folio_sections.specs.declared.entries.Entry.{Entry}
use Rattle.interim_orders.proofs.Noticing.{all_noticed, next_noticed, none_noticed, notice_fits, noticed_next}
use Rattle.interim_orders.proofs.notices.enter_notices_at.Goals as goal

pub loop-waiting-init : goal.loop-waiting-init
loop-waiting-init g c =
    none_noticed c.args.journal.now.receipts c.args.filing c.args.item c.args.key
    (g.P.Parts.at c.args.parts.now) (g.P.Parts.room c.args.parts.now) (g.P.Parts.holds c.args.parts.now)

pub add-requires-clause-room : goal.add-requires-clause-room
add-requires-clause-room g c =
    subst (λ (e : Entry). HasRoom (g.P.Parts.room c.loop-waiting.parts) (e ∷ [])) (sym c.entry_by.ensures)
    (notice_fits c.args.journal.now.receipts c.args.filing c.args.item c.args.key c.loop-waiting.after c.in-Some.waiting (g.P.Parts.at c.args.parts.now) (g.P.Parts.at c.loop-waiting.parts)
    (g.P.Parts.room c.args.parts.now) (g.P.Parts.room c.loop-waiting.parts) (g.P.Parts.holds c.args.parts.now) (g.P.Parts.holds c.loop-waiting.parts)
    c.loop-waiting.invariant (sym c.in-Some.is ∙ c.next_unnoticed_at.ensures) c.requires.room)

pub loop-waiting-smaller : goal.loop-waiting-smaller
loop-waiting-smaller g c =
    let rest =
    next_noticed c.args.journal.now.receipts c.args.filing c.args.item c.args.key c.loop-waiting.after c.in-Some.waiting (g.P.Parts.at c.args.parts.now) (g.P.Parts.at c.loop-waiting.parts)
    (g.P.Parts.room c.args.parts.now) (g.P.Parts.room c.loop-waiting.parts) (g.P.Parts.holds c.args.parts.now) (g.P.Parts.holds c.loop-waiting.parts)
    c.loop-waiting.invariant (sym c.in-Some.is ∙ c.next_unnoticed_at.ensures) in
    let count = ap length rest in
    omega arith

pub loop-waiting-preserved : goal.loop-waiting-preserved
loop-waiting-preserved g c =
    noticed_next c.args.journal.now.receipts c.args.filing c.args.item c.args.key c.loop-waiting.after c.in-Some.waiting
    (g.P.Parts.at c.args.parts.now) (g.P.Parts.at c.loop-waiting.parts) (g.P.Parts.at c.add.new.parts)
    (g.P.Parts.room c.args.parts.now) (g.P.Parts.room c.loop-waiting.parts) (g.P.Parts.room c.add.new.parts)
    (g.P.Parts.holds c.args.parts.now) (g.P.Parts.holds c.loop-waiting.parts) (g.P.Parts.holds c.add.new.parts)
    c.loop-waiting.invariant (sym c.in-Some.is ∙ c.next_unnoticed_at.ensures)
    (subst (λ (e : Entry). AddsList (g.P.Parts.at c.loop-waiting.parts) (g.P.Parts.at c.add.new.parts) (g.P.Parts.room c.loop-waiting.parts) (g.P.Parts.room c.add.new.parts) (e ∷ [])) c.entry_by.ensures c.add.ensures.added)
    c.add.ensures.held

pub returns-clause-added : goal.returns-clause-added
returns-clause-added g c =
    all_noticed c.args.journal.now.receipts c.args.filing c.args.item c.args.key c.loop-waiting.after (g.P.Parts.at c.args.parts.now) (g.P.Parts.at c.loop-waiting.parts)
    (g.P.Parts.room c.args.parts.now) (g.P.Parts.room c.loop-waiting.parts) (g.P.Parts.holds c.args.parts.now) (g.P.Parts.holds c.loop-waiting.parts)
    c.loop-waiting.invariant (sym c.in_default.is ∙ c.next_unnoticed_at.ensures)
