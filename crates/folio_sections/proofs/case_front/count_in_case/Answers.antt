-- A chain from the end back: as many as fail the test.
use Rattle.std.proofs.Common.{rules, ◌∙◌, ◌≡◌, ◌≤◌, length, not, reverse, subst, sym}
use Rattle.std.specs.List.{suffix_len}
use Rattle.std.proofs.lemmas.Iterator.Adapters.{YieldsList-from_rev_slice}
use Rattle.std.proofs.lemmas.Iterator.Consumers.{count_from_yields_List}
use Rattle.std.proofs.lemmas.Iterator.Search.{YieldsList-from_take_while}
use Rattle.std.proofs.lemmas.List.Folds.{length-prefix_len}
use Rattle.std.proofs.lemmas.List.Sums.{suffix_len-le-length}
use Rattle.folio_sections.specs.Cases.{is_distribution}
use Rattle.folio_sections.proofs.case_front.count_in_case.Goals as goal

counted : (c : goal.After-count) → c.count.result ≡ suffix_len (λ e. not (is_distribution e.what)) c.args.entries.now
counted c =
    let xs = c.args.entries.now in
    count_from_yields_List c.take_while.result _ c.count.ensures.ran
    (YieldsList-from_take_while _ (λ e. not (is_distribution e.what)) (YieldsList-from_rev_slice xs (search rules)) c.take_while.ensures.closure c.take_while.ensures.done (λ x b q called. search rules))
    ∙ length-prefix_len (λ e. not (is_distribution e.what)) (reverse xs)

pub returns-clause-within : goal.returns-clause-within
returns-clause-within c = subst (λ n. n ≤ length c.args.entries.now) (sym (counted c)) (suffix_len-le-length (λ e. not (is_distribution e.what)) c.args.entries.now)

pub returns-clause-value : goal.returns-clause-value
returns-clause-value c = counted c
