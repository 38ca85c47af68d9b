use Rattle.std.proofs.Common.{rules, ap, ◌∙◌}
use Rattle.std.specs.Prelude.{not}
use Rattle.std.proofs.lemmas.Fn.{filter_same}
use Rattle.peer_queues.specs.Queues.{is_at, without}
use Rattle.peer_queues.proofs.peers.Peers.forget.Goals as goal

pub returns : goal.returns
returns c =
    filter_same _ (λ peer. not (is_at c.args.place peer)) _ (λ x b f' k. search rules) _ _ c.retain.ensures.filtered
    ∙ ap (without c.args.place) c.self.view_is
