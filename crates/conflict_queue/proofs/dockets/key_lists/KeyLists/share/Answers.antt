use Rattle.std.proofs.Common.{◌∙◌, ◌++◌, ◌∷◌, [], slice_get, ap}
use Rattle.conflict_queue.specs.inner.Lists.{lists_at}
use Rattle.conflict_queue.proofs.Lists.{listed_at, shared_list}
use Rattle.conflict_queue.proofs.dockets.key_lists.KeyLists.share.Goals as goal

pub returns : goal.returns
returns c = λ keys there.
    let lists = c.self.inside.lists.items in
    let numbers = c.self.inside.numbers.items in
    let same = listed_at lists numbers c.args.index c.index.result.now keys c.index.ensures (ap (λ d. slice_get d c.args.index) c.self.view_is ∙ there) in
    ap (λ n. lists_at lists n) c.in_ok-push.ensures.items ∙ shared_list lists numbers c.index.result.now
    ∙ (λ i. c.self.view_is i ++ same i ∷ [])
