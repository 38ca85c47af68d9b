-- The first act counts where no later one names its folio.
use Rattle.std.proofs.Common.{◌≡◌, ◌+◌, ◌-◌, true, false, eqb, map, length, take, drop, sym, ap, subst, ◌∙◌, arith}
use Rattle.std.specs.List.{list_any}
use Rattle.std.proofs.lemmas.Bool.{cond-false, cond-true}
use Rattle.act_model.specs.Acts.{folio_of}
use Rattle.act_model.proofs.FolioLemmas.{different_first}
use Rattle.act_model.proofs.filing_rules.+different_folios.Goals as goal

pub returns-then-names_folio-clause-value : goal.returns-then-names_folio-clause-value
returns-then-names_folio-clause-value t c =
    let acts = c.args.acts.now in
    let step = different_first acts c.act-item.result (omega arith) c.act-item.is in
    let named = subst (λ n. list_any (λ f. eqb f n) (map folio_of (take (length acts - 1) (drop 1 acts))) ≡ true) c.folio.ensures (sym c.names_folio.ensures ∙ c.if-names_folio.true) in
    c.different_folios-others.ensures.value ∙ sym (step ∙ cond-true _ _ _ named)

pub returns-else-names_folio-clause-value : goal.returns-else-names_folio-clause-value
returns-else-names_folio-clause-value t c =
    let acts = c.args.acts.now in
    let step = different_first acts c.act-item.result (omega arith) c.act-item.is in
    let unnamed = subst (λ n. list_any (λ f. eqb f n) (map folio_of (take (length acts - 1) (drop 1 acts))) ≡ false) c.folio.ensures (sym c.names_folio.ensures ∙ c.if-names_folio.false) in
    ap (λ n. n + 1) c.different_folios-others.ensures.value ∙ sym (step ∙ cond-false _ _ _ unnamed)
