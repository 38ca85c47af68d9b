-- A number that the index has, and one that it has not.
use Rattle.std.proofs.Common.{◌≡◌, ◌+◌, ◌≤◌, length, take, ap, subst, sym, ◌∙◌, Some, None}
use Rattle.act_model.specs.Receiving.{number_of}
use Rattle.act_model.proofs.JournalLemmas.{found_among_first, found_waiting}
use Rattle.act_model.proofs.journals.Journal.find.Goals as goal

pub returns-in-Some : goal.returns-in-Some
returns-in-Some c =
    let journal = c.self.inside.receipts.items in
    let index = c.self.invariant.1 in
    subst (λ rs. Some c.in-Some.n.now ≡ number_of c.args.sender c.args.reference rs) (ap (λ j. j.receipts) c.self.view_is)
    (sym (found_among_first c.args.sender c.args.reference journal c.self.inside.indexed c.in-Some.n.now
    (sym (index.index c.args.sender c.args.reference) ∙ sym c.in-Some.ensures.value)))

pub returns-in-None : goal.returns-in-None
returns-in-None c =
    let index = c.self.invariant.1 in
    let view = ap (λ j. j.receipts) c.self.view_is in
    c.find_waiting.ensures
    ∙ found_waiting c.args.sender c.args.reference c.args.self.now.receipts c.self.inside.indexed
    (subst (λ rs. length rs ≤ c.self.inside.indexed + 1) view index.nearly_all)
    (subst (λ rs. number_of c.args.sender c.args.reference (take c.self.inside.indexed rs) ≡ None) view
    (sym (index.index c.args.sender c.args.reference) ∙ sym c.in-None.ensures.value))
