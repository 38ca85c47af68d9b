-- The room of the lists of what is claimed.
use Rattle.std.specs.Prelude.{◌≡◌, ℕ, ◌≤◌, []}
use Rattle.folio_line.specs.FolioLine.{LineState}
use Rattle.auction_classes.specs.inner.ClaimLists.{HaveRoomFor}
use Rattle.auction_classes.specs.inner.LinesRead.{HasLineRoom}
use Rattle.auction_classes.specs.declared.claim_lists.ClaimLists.{ClaimLists}
use Rattle.auction_classes.specs.declared.class_lines.ClassLine.{ClassLine}

-- all lists have room for so many rights of a folio and so many exchanges among them
pub record HaveRoom (rights exchanges : ℕ) (lists : ClaimLists) (line : LineState) (four six : ClassLine) : Type 0 where
  pub for_claims : HaveRoomFor rights lists
  pub for_rights : rights ≤ line.right_room
  pub for_exchanges : exchanges ≤ line.exchange_room
  pub in_four : HasLineRoom rights exchanges four
  pub in_six : HasLineRoom rights exchanges six

-- nothing is claimed in these lists
pub record AreEmpty (lists : ClaimLists) : Type 0 where
  pub items : lists.items.items ≡ []
  pub owners : lists.owners.items ≡ []
  pub seizures : lists.seizures.items ≡ []
  pub rights : lists.rights.items ≡ []
