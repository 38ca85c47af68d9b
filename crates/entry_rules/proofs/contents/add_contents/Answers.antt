-- A content is no place, so what each act brings is read from the places as they stood.
use Rattle.std.proofs.Common.{◌≡◌, ◌+◌, ℕ, ◌∷◌, drop, sym, subst}
use Rattle.std.specs.List.{enumerate_from}
use Rattle.act_model.specs.Touches.{keys_of_act, keys_of_acts}
use Rattle.act_model.specs.declared.filing_acts.Act.{Act}
use Rattle.folio_sections.proofs.Unchanged.{SetsNoPlace}
use Rattle.entry_rules.specs.inner.Acting.{Held}
use Rattle.folio_sections.proofs.ListLemmas.{drop_next}
use Rattle.entry_rules.proofs.Entered.{held_both}
use Rattle.folio_sections.proofs.Progress.{Progress, goes_on}
use Rattle.entry_rules.proofs.Steady.{brings, contents_apart}
use Rattle.entry_rules.proofs.contents.add_contents.Goals as goal

pub loop-index-preserved : goal.loop-index-preserved
loop-index-preserved g c =
    let journal = c.args.matter.now.journal.now.receipts in
    let m = c.args.matter.now.number in
    let i = c.args.matter.now.item in
    let f = c.args.matter.now.filing.now in
    let n = c.loop-index.index in
    let act = c.act-item.result in
    let rest = drop (n + 1) f.acts in
    let at0 = g.P.Parts.at c.args.parts.now in
    let room0 = g.P.Parts.room c.args.parts.now in
    let holds0 = g.P.Parts.holds c.args.parts.now in
    let at1 = g.P.Parts.at c.loop-index.parts in
    let room1 = g.P.Parts.room c.loop-index.parts in
    let holds1 = g.P.Parts.holds c.loop-index.parts in
    let after = c.add_content.new.parts in
    let next : drop n f.acts ≡ act ∷ rest =
    subst (λ acts. drop n acts ≡ act ∷ drop (n + 1) acts) c.list-act-items.ensures.value
    (drop_next Act c.list-act-items.result.now n act c.loop-index-test.true c.act-item.is) in (
      goes_on (ℕ × Act) (brings journal m i f) SetsNoPlace (enumerate_from 1 f.acts) (n + 1, act) (enumerate_from (n + 1 + 1) rest) at0 at1 (g.P.Parts.at after) room0 room1 (g.P.Parts.room after) holds0 holds1 (g.P.Parts.holds after) (contents_apart journal m i f)
          (subst (λ acts. Progress (ℕ × Act) (brings journal m i f) SetsNoPlace (enumerate_from 1 f.acts) (enumerate_from (n + 1) acts) at0 at1 room0 room1 holds0 holds1) next c.loop-index.invariant.0)
          c.add_content.ensures.added c.add_content.ensures.held,
      subst (λ h. Held h (keys_of_acts journal m (n + 1 + 1) rest)) (sym c.add_content.ensures.held)
          (held_both holds1 (keys_of_act journal m (n + 1) act) (keys_of_acts journal m (n + 1 + 1) rest)
          (subst (λ acts. Held holds1 (keys_of_acts journal m (n + 1) acts)) next c.loop-index.invariant.1)).1,
    )
