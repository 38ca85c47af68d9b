-- What holds where nothing is claimed.
use Rattle.std.proofs.Common.{◌≡◌, ℕ, ◌<◌, true, [], refl, sym, subst, arith}
use Rattle.std.specs.List.{IsDistinct}
use Rattle.std.proofs.lemmas.List.Elements.{All-nil}
use Rattle.gb_base.specs.Limits.{most_sum}
use Rattle.rank_slots.specs.CanFill.{CanFill}
use Rattle.rank_slots.specs.Filled.{Filled, empty}
use Rattle.rank_slots.specs.Groups.{keeps_place}
use Rattle.rank_slots.proofs.Filling.{nothing_fits}
use Rattle.auction_classes.specs.PayableClaims.{HasNoInterest, IsAmountClaimed, IsPayable}
use Rattle.auction_classes.specs.SaleClaims.{no_claims}
use Rattle.auction_classes.specs.Computable.{CanCover, IsComputable}
use Rattle.auction_classes.specs.inner.ClaimsRoom.{AreEmpty}
use Rattle.auction_classes.specs.declared.claim_lists.ClaimLists.{ClaimLists}

pub nothing_computable : IsComputable no_claims
nothing_computable = record {
  four = nothing_fits;
  six = nothing_fits;
  costs = omega arith;
  ahead = omega arith;
  personal = omega arith;
  seized = All-nil (λ z. z.served ≡ true → CanCover empty z.basis);
  rights = All-nil (λ x. keeps_place empty.places x.right ≡ true);
}

pub nothing_payable : IsPayable no_claims
unfolding IsDistinct
nothing_payable = record {
  each = All-nil IsAmountClaimed;
  whole = All-nil HasNoInterest;
  few = λ late class. omega arith;
  sum = omega arith;
  four = record { are = refl; differ = tt; kept = All-nil (λ id. keeps_place empty.places id ≡ true) };
  six = ([], record { are = refl; differ = tt; kept = All-nil (λ id. keeps_place empty.places id ≡ true) });
  owned = λ some. absurd (omega (arith, some));
}

-- ---- where the lists are emptied, and the lines are left as they are

pub emptied_computable : (lists : ClaimLists) (costs : ℕ) (four six : Filled) → AreEmpty lists → costs < most_sum → CanFill four → CanFill six
    → IsComputable (record { items = lists.items.items; costs = costs; owners = lists.owners.items; seizures = lists.seizures.items; rights = lists.rights.items; line_four = four; line_six = six })
emptied_computable lists costs four six empties few first second =
    let items = sym empties.items in
    let owners = sym empties.owners in
    let seizures = sym empties.seizures in
    let rights = sym empties.rights in
    subst IsComputable (λ i. record { items = items i; costs = costs; owners = owners i; seizures = seizures i; rights = rights i; line_four = four; line_six = six })
    (record {
      four = first;
      six = second;
      costs = few;
      ahead = omega arith;
      personal = omega arith;
      seized = All-nil (λ z. z.served ≡ true → CanCover four z.basis);
      rights = All-nil (λ x. keeps_place four.places x.right ≡ true);
    })

pub emptied_payable : (lists : ClaimLists) (costs : ℕ) (four six : Filled) → AreEmpty lists
    → IsPayable (record { items = lists.items.items; costs = costs; owners = lists.owners.items; seizures = lists.seizures.items; rights = lists.rights.items; line_four = four; line_six = six })
unfolding IsDistinct
emptied_payable lists costs four six empties =
    let items = sym empties.items in
    let owners = sym empties.owners in
    let seizures = sym empties.seizures in
    let rights = sym empties.rights in
    subst IsPayable (λ i. record { items = items i; costs = costs; owners = owners i; seizures = seizures i; rights = rights i; line_four = four; line_six = six })
    (record {
      each = All-nil IsAmountClaimed;
      whole = All-nil HasNoInterest;
      few = λ late class. omega arith;
      sum = omega arith;
      four = record { are = refl; differ = tt; kept = All-nil (λ id. keeps_place four.places id ≡ true) };
      six = ([], record { are = refl; differ = tt; kept = All-nil (λ id. keeps_place six.places id ≡ true) });
      owned = λ some. absurd (omega (arith, some));
    })
