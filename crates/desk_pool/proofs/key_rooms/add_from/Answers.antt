-- The next key begins a run of its own, or goes on with the run in hand.
use Rattle.std.proofs.Common.{◌≡◌, ◌+◌, ◌||◌, ◌∙◌, arith, ap, drop, sym}
use Rattle.std.specs.Prelude.{is_some}
use Rattle.std.specs.BTreeMap.{get}
use Rattle.std.proofs.lemmas.Bool.{not-false}
use Rattle.std.proofs.lemmas.List.{drop_all}
use Rattle.std.proofs.lemmas.Result.{on_ok_weaker}
use Rattle.gb_base.specs.Keys.{key_cmp, same_key}
use Rattle.act_model.proofs.KeyOrder.{same_is}
use Rattle.desk_pool.proofs.AddedRooms.{in_turn, listed_next, more_room, next_run, once_only, same_run, sum_next}
use Rattle.desk_pool.proofs.BuiltQueues.{or_none}
use Rattle.desk_pool.specs.inner.KeyRooms.{room_in}
use Rattle.desk_pool.specs.inner.RoomsCounted.{is_listed, sum_at}
use Rattle.desk_pool.proofs.key_rooms.add_from.Goals as goal
use Rattle.desk_pool.proofs.key_rooms.add_from.Goals.{then-ne+in_ok-add, else-ne}

pub loop-next-preserved : goal.loop-next-preserved
loop-next-preserved c =
    let list = c.args.rest.now in
    let next = c.next-item.result in
    let key = c.loop-next.key in
    let sum = c.loop-next.sum in
    let before = c.loop-next.rooms in
    let i = c.loop-next.next-index in
    let behind = drop (i + 1) list in
    elim c.if-ne.branch [
      | then-ne+in_ok-add w ↦ record {
        room = λ k.
            let left = sum_next list i next k c.loop-next-test.true c.next-item.is in
            let turned = next_run before c.if-ne.rooms key c.if-ne.key sum c.if-ne.sum next k (ap (λ rooms. room_in rooms k) w.rooms-is ∙ w.in_ok-add.ensures.room k) w.key-is w.sum-is in
            let so_far = c.loop-next.invariant.room k in
            omega (arith, left, turned, so_far);
        keys = λ k.
            let left = listed_next list i next k c.loop-next-test.true c.next-item.is in
            let held = is_some (get key_cmp before k) in
            (λ j. (ap (λ rooms. is_some (get key_cmp rooms k)) w.rooms-is ∙ w.in_ok-add.ensures.keys k) j || (same_key (w.key-is j) k || is_listed behind k))
            ∙ in_turn held (same_key key k) (same_key next.key k) (is_listed behind k)
            ∙ ap (λ b. held || (same_key key k || b)) (sym left) ∙ c.loop-next.invariant.keys k;
      }
      | else-ne w ↦
          let same : next.key ≡ key = same_is next.key key (not-false (same_key next.key key) (sym w.if-ne.ensures)) in
          record {
            room = λ k.
                let left = sum_next list i next k c.loop-next-test.true c.next-item.is in
                let stayed = same_run key c.if-ne.key sum c.if-ne.sum next k w.key-is w.sum-is same in
                let kept = ap (λ rooms. room_in rooms k) w.rooms-is in
                let so_far = c.loop-next.invariant.room k in
                omega (arith, left, stayed, kept, so_far);
            keys = λ k.
                let left = listed_next list i next k c.loop-next-test.true c.next-item.is in
                let held = is_some (get key_cmp before k) in
                (λ j. is_some (get key_cmp (w.rooms-is j) k) || (same_key (w.key-is j) k || is_listed behind k))
                ∙ once_only held (same_key key k) (is_listed behind k)
                ∙ ap (λ x. held || (same_key key k || (same_key x k || is_listed behind k))) (sym same)
                ∙ ap (λ b. held || (same_key key k || b)) (sym left) ∙ c.loop-next.invariant.keys k;
          }
    ]

pub returns-clause-room : goal.returns-clause-room
returns-clause-room c =
    on_ok_weaker c.add-2.result
    (λ added k.
    let none = ap (λ rs. sum_at rs k) (drop_all c.loop-next.next-index c.args.rest.now c.loop-next-test.false) in
    let more = added k ∙ more_room (same_key c.loop-next.key k) (room_in c.loop-next.rooms k) c.loop-next.sum in
    let so_far = c.loop-next.invariant.room k in
    omega (arith, none, more, so_far))
    c.add-2.ensures.room

pub returns-clause-keys : goal.returns-clause-keys
returns-clause-keys c =
    on_ok_weaker c.add-2.result
    (λ added k.
    let held = is_some (get key_cmp c.loop-next.rooms k) in
    let none = ap (λ rs. is_listed rs k) (drop_all c.loop-next.next-index c.args.rest.now c.loop-next-test.false) in
    added k ∙ ap (λ b. held || b) (sym (or_none (same_key c.loop-next.key k)))
    ∙ ap (λ b. held || (same_key c.loop-next.key k || b)) (sym none) ∙ c.loop-next.invariant.keys k)
    c.add-2.ensures.keys
