-- Rights in order of filing and group: which stand before which, and which have one place.
use Rattle.std.proofs.Common.{◌≡◌, true, false, arith}
use Rattle.std.proofs.lemmas.Bool.Decides.{nat_tests}
use Rattle.folio_line.specs.FolioRights.{has_same_place}
use Rattle.folio_line.specs.inner.RightOrder.{is_filed_before}
use Rattle.folio_line.specs.declared.folio_rights.CreatedRight.{CreatedRight}

pub before_like : (x y z : CreatedRight) → has_same_place x y ≡ true → is_filed_before x z ≡ is_filed_before y z
before_like x y z same = grind (arith, nat_tests)

-- a right does not stand before one of its own place
pub before_self : (x : CreatedRight) → is_filed_before x x ≡ false
before_self x = grind (arith, nat_tests)

pub before_not_same : (x y : CreatedRight) → is_filed_before x y ≡ true → has_same_place x y ≡ false
before_not_same x y before = grind (arith, nat_tests)

-- a right stands before a later one of another place
pub before_later : (x y : CreatedRight) → is_filed_before y x ≡ false → has_same_place x y ≡ false → is_filed_before x y ≡ true
before_later x y up other = grind (arith, nat_tests)

-- one that stands before a right stands before all that do not stand before that right
pub before_on : (x y z : CreatedRight) → is_filed_before x y ≡ true → is_filed_before z y ≡ false → is_filed_before x z ≡ true
before_on x y z before up = grind (arith, nat_tests)
