use Rattle.std.proofs.Common.{◌≡◌, ◌==◌, true, is_some, length, nat_lt, sym, ap, ◌∙◌, rules}
use Rattle.std.proofs.lemmas.Bool.{true≢false}
use Rattle.std.proofs.lemmas.List.Sorted.{IsPartitionPoint-from_clause}
use Rattle.desk_pool.proofs.BuiltQueues.{same_number}
use Rattle.desk_pool.proofs.FolioPlaces.{found_at, lower_ahead, stands_behind, within_behind}
use Rattle.desk_pool.proofs.folio_queues.place_of.Goals as goal

pub returns-in_default-clause-found : goal.returns-in_default-clause-found
returns-in_default-clause-found c = λ rise queued.
    let queues = c.args.queues.now in
    let point = IsPartitionPoint-from_clause (λ q. nat_lt q.folio c.args.folio) _ _ c.partition_point-place.ensures.partitioned (lower_ahead queues c.args.folio rise) (λ a r f k. search rules) in
    let behind = stands_behind queues c.args.folio rise c.partition_point-place.result c.in-Some.queue.now queued point in
    let is = ap (λ q. q.folio) c.in-Some.ensures.lookup.1 ∙ behind.1 in
    absurd (true≢false (sym (c.eq.ensures ∙ ap (λ n. n == c.args.folio) is ∙ same_number c.args.folio) ∙ c.if-eq.false))

pub returns-in_default-2-clause-found : goal.returns-in_default-2-clause-found
returns-in_default-2-clause-found c = λ rise queued.
    let queues = c.args.queues.now in
    let place = c.partition_point-place.result in
    let point = IsPartitionPoint-from_clause (λ q. nat_lt q.folio c.args.folio) _ _ c.partition_point-place.ensures.partitioned (lower_ahead queues c.args.folio rise) (λ a r f k. search rules) in
    let found : is_some c.get.result ≡ true = found_at place (length queues) (is_some c.get.result) c.get.ensures.lookup.0 (within_behind queues c.args.folio place rise queued point) in
    ap is_some (sym c.in_default.is) ∙ found
