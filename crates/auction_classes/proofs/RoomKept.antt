-- Lists that have as much room as before have room for as much as before, and for less.
use Rattle.std.proofs.Common.{◌≡◌, ℕ, ◌+◌, ◌≤◌, arith}
use Rattle.auction_classes.specs.inner.ClaimLists.{HaveRoomFor, KeepRoom, lists_capacity}
use Rattle.auction_classes.specs.inner.LinesRead.{HasLineRoom, KeepsLineRoom, line_capacity}
use Rattle.auction_classes.specs.declared.claim_lists.ClaimLists.{ClaimLists}
use Rattle.auction_classes.specs.declared.class_lines.ClassLine.{ClassLine}

pub room_for_fewer : (many few : ℕ) (lists : ClaimLists) → HaveRoomFor many lists → few ≤ many → HaveRoomFor few lists
room_for_fewer many few lists room less = record {
  items = omega (arith, room.items, less);
  owners = room.owners;
  seizures = room.seizures;
  rights = omega (arith, room.rights, less);
  found = omega (arith, room.found, less);
  claims = omega (arith, room.claims, less);
  ordered = omega (arith, room.ordered, less);
}

pub room_kept : (many : ℕ) (before now : ClaimLists) → HaveRoomFor many before → KeepRoom before now → HaveRoomFor many now
room_kept many before now room same = record {
  items = omega (arith, room.items, same.items);
  owners = omega (arith, room.owners, same.owners);
  seizures = omega (arith, room.seizures, same.seizures);
  rights = omega (arith, room.rights, same.rights);
  found = omega (arith, room.found, same.found);
  claims = omega (arith, room.claims, same.claims);
  ordered = omega (arith, room.ordered, same.ordered);
}

pub line_room_kept : (rights exchanges : ℕ) (before now : ClassLine) → HasLineRoom rights exchanges before → KeepsLineRoom before now → HasLineRoom rights exchanges now
line_room_kept rights exchanges before now room same = record {
  places = omega (arith, room.places, same.places);
  swaps = omega (arith, room.swaps, same.swaps);
  knots = omega (arith, room.knots, same.knots);
}

-- lists that have as much room as before have as much memory
pub lists_capacity_kept : (before now : ClaimLists) → KeepRoom before now → lists_capacity now ≡ lists_capacity before
lists_capacity_kept before now same = λ i. same.items i + same.owners i + same.seizures i + same.rights i + same.found i + same.claims i + same.ordered i

pub line_capacity_kept : (before now : ClassLine) → KeepsLineRoom before now → line_capacity now ≡ line_capacity before
line_capacity_kept before now same = λ i. same.places i + same.swaps i + same.knots i
