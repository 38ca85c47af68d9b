-- Those are left that wait, so each filing waits as before.
use Rattle.std.proofs.Common.{rules, ◌∙◌, ap, count_by, subst, sym, arith}
use Rattle.std.proofs.lemmas.Fn.{filter_same}
use Rattle.folio_sections.specs.inner.FilingLists.{Ascends}
use Rattle.folio_sections.specs.inner.Waiters.{has_ended, until_in, waits}
use Rattle.folio_sections.proofs.FilteredLists.{filter_ascends}
use Rattle.folio_sections.proofs.SweptFilings.{none_ended, until_swept}
use Rattle.folio_sections.proofs.waiters.Waiters.sweep.Goals as goal

pub returns-clause-order : goal.returns-clause-order
returns-clause-order c =
    let xs = c.args.self.now.until.items in
    let left = filter_same _ waits _ (λ x b f' k. search rules) _ _ c.retain.ensures.filtered in
    record {
      until = subst (Ascends 1) (sym left) (filter_ascends (λ x. x.filing) waits 1 xs c.requires.order.until);
      notices = c.requires.order.notices;
      passed = record { within = omega arith; first = tt };
      noticed = record { within = omega arith; first = tt };
    }

pub returns-clause-few : goal.returns-clause-few
returns-clause-few c =
    let xs = c.args.self.now.until.items in
    let left = filter_same _ waits _ (λ x b f' k. search rules) _ _ c.retain.ensures.filtered in
    let none = ap (count_by has_ended) left ∙ none_ended xs in
    record {
      counted = omega (arith, none);
      half = omega arith;
    }

pub returns-clause-until : goal.returns-clause-until
returns-clause-until c = λ m.
    let xs = c.args.self.now.until.items in
    let left = filter_same _ waits _ (λ x b f' k. search rules) _ _ c.retain.ensures.filtered in
    ap (until_in m) left ∙ until_swept m 1 xs c.requires.order.until
