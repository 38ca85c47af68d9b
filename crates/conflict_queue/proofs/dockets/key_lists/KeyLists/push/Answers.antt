use Rattle.std.proofs.Common.{rules, ◌≡◌, ◌∙◌, ◌++◌, ◌∷◌, [], length, ap}
use Rattle.conflict_queue.specs.inner.Lists.{lists_at}
use Rattle.conflict_queue.proofs.Lists.{own_list}
use Rattle.conflict_queue.proofs.dockets.key_lists.KeyLists.push.Goals as goal

pub returns : goal.returns
returns c =
    let lists = c.self.inside.lists.items in
    let numbers = c.self.inside.numbers.items in
    let count : c.len.result ≡ length lists = search rules in
    ap (λ l. lists_at l c.push.new.self.items) (c.push_reserved.ensures.items ∙ ap (λ l. l ++ c.args.keys ∷ []) c.reserve.ensures.items)
    ∙ ap (λ n. lists_at (lists ++ c.args.keys ∷ []) n) (c.in_ok-push.ensures.items ∙ ap (λ n. numbers ++ n ∷ []) count)
    ∙ own_list lists numbers c.args.keys c.self.invariant
    ∙ ap (λ s. s ++ c.args.keys.items ∷ []) c.self.view_is
