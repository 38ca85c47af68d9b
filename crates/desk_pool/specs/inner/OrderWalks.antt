-- A docket's items taken one after the other, each where it has its turn.
use Rattle.std.specs.Prelude.{ℕ, ◌-◌, ◌&&◌, Bool, true, false, nat_le, not, List, [], ◌∷◌, length, Option, slice_get, slice_set}
use Rattle.std.specs.List.{list_all}
use Rattle.std.specs.Option.{option_map_or}
use Rattle.gb_base.specs.declared.keys.Key.{Key}
use Rattle.conflict_queue.specs.Dockets.{previous_in}

-- item n, from 1 on, is noted as settled
abbrev pub is_settled : List Bool → ℕ → Bool
is_settled settled n = option_map_or (λ one. one) (slice_get settled (n - 1)) false

-- the item for which another waits is settled, where there is one
abbrev pub is_free : List Bool → Option ℕ → Bool
is_free settled before = option_map_or (is_settled settled) before true

-- the keys of item i of a docket; none where there is no such item
abbrev pub keys_in : List (List Key) → ℕ → List Key
keys_in docket i = option_map_or (λ keys. keys) (slice_get docket (i - 1)) []

-- the docket has an item of this number
abbrev pub is_item : List (List Key) → ℕ → Bool
is_item docket i = nat_le 1 i && nat_le i (length docket)

-- item i has its turn: it is one of the docket's, is not settled, and at each of its keys the item before it is settled
abbrev pub has_turn : List (List Key) → List Bool → ℕ → Bool
has_turn docket settled i =
    is_item docket i && (not (is_settled settled i) && list_all (λ k. is_free settled (previous_in docket i k)) (keys_in docket i))

-- each item of the order has its turn, and in the end all are settled
abbrev pub walks : List (List Key) → List Bool → List ℕ → Bool
walks docket settled [] = list_all (λ one. one) settled
walks docket settled (i ∷ order) = has_turn docket settled i && walks docket (slice_set settled (i - 1) true) order
