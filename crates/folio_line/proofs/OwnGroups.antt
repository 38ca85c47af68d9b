-- A right that is filed with a reservation, or in the rank of one, shares its group with no other act of its filing.
use Rattle.std.proofs.Common.{◌≡◌, ℕ, zero, suc, ◌+◌, ◌-◌, Bool, true, false, eqb, not, ◌&&◌, ◌||◌, List, [], ◌∷◌, IfSome, IsSomeAnd, Option, Some, None, is_some, length, option_and_then, slice_get, refl, sym, ap, subst, ◌∙◌, arith}
use Rattle.std.specs.List.{enumerate_from, list_all, list_any}
use Rattle.std.specs.Option.{option_map_or}
use Rattle.std.proofs.lemmas.Bool.{and_from, and_parts, both_ways, eq-eqb, eqb-true, false_from_ne_true, false≢true, or_from, or_left, or_right}
use Rattle.std.proofs.lemmas.Option.{same_Some}
use Rattle.gb_base.specs.Limits.{is_between, most_acts}
use Rattle.gb_base.specs.RightNo.{RightNo}
use Rattle.act_model.specs.Acts.{folio_of, reserve_of, right_behind, right_created}
use Rattle.act_model.specs.Groups.{has_equal, shares_its_group}
use Rattle.act_model.specs.Receiving.{IsJournal}
use Rattle.act_model.specs.Touches.{act_at, act_of_right, filing_at}
use Rattle.act_model.specs.WellFormed.{gives_owners_once, is_act, is_doc, is_filing, keep_groups_apart, keeps_rules, names_few_folios, names_rights_once, same_group, share_group, wants_own_group}
use Rattle.act_model.specs.declared.filing_acts.Act.{Act}
use Rattle.act_model.specs.declared.filing_acts.Act.TheVariants.{Create, Exercise}
use Rattle.act_model.specs.declared.items.Filing.{Filing}
use Rattle.act_model.specs.declared.receipts.Receipt.{Receipt}
use Rattle.act_model.specs.declared.rights.RightSpec.{RightSpec}
use Rattle.kept_registers.specs.KeptRights.{IsAsFiled}
use Rattle.kept_registers.proofs.WellFiled.{well_filed}
use Rattle.folio_sections.specs.declared.entries.Created.{Created}
use Rattle.folio_line.proofs.CreatedRights.{IsCreatedHere, all_at_number, numbered}

-- ---- acts of one group

same_turned : (s t : Option RightSpec) → same_group s t ≡ true → same_group t s ≡ true
same_turned None t same = absurd (false≢true same)
same_turned (Some s) None same = absurd (false≢true same)
same_turned (Some s) (Some t) same = eq-eqb t.group s.group (sym (eqb-true s.group t.group same))

share_turned : (a b : Act) → share_group a b ≡ true → share_group b a ≡ true
share_turned a b same =
    let parts = and_parts (eqb (folio_of a) (folio_of b)) (same_group (right_created a) (right_created b)) same in
    and_from (eqb (folio_of b) (folio_of a)) (same_group (right_created b) (right_created a)) (eq-eqb (folio_of b) (folio_of a) (sym (eqb-true (folio_of a) (folio_of b) parts.0))) (same_turned (right_created a) (right_created b) parts.1)

apart_turned : (a b : Act) → share_group a b ≡ false → share_group b a ≡ false
apart_turned a b apart = false_from_ne_true (share_group b a) (λ same. both_ways (share_group a b) apart (share_turned b a same))

-- what the rule says where one of the two wants a group of its own
apart_by : (wants same : Bool) → not (wants && same) ≡ true → wants ≡ true → same ≡ false
apart_by true true rule is = absurd (false≢true rule)
apart_by true false rule is = refl
apart_by false same rule is = absurd (false≢true is)

and_false : (a b : Bool) → b ≡ false → (a && b) ≡ false
and_false true b is = is
and_false false b is = refl

-- the two acts keep their groups apart
abbrev keep_apart : Act → Act → Bool
keep_apart a b = not ((wants_own_group a || wants_own_group b) && share_group a b)

-- another act than that of number k has the group of act a
abbrev is_beside : ℕ → Act → ℕ × Act → Bool
is_beside k a numbered = not (eqb numbered.0 k) && share_group a numbered.1

-- no act behind it has its group
none_behind : (a : Act) (n k : ℕ) (acts : List Act) → wants_own_group a ≡ true → list_all (keep_apart a) acts ≡ true → list_any (is_beside k a) (enumerate_from n acts) ≡ false
none_behind a n k [] wants all = refl
none_behind a n k (b ∷ acts) wants all =
    let parts = and_parts (keep_apart a b) (list_all (keep_apart a) acts) all in
    let apart = apart_by (wants_own_group a || wants_own_group b) (share_group a b) parts.0 (or_left (wants_own_group a) (wants_own_group b) wants) in
    or_from (is_beside k a (n, b)) (list_any (is_beside k a) (enumerate_from (n + 1) acts)) (and_false (not (eqb n k)) (share_group a b) apart) (none_behind a (n + 1) k acts wants parts.1)

-- no other act of the filing has its group
none_beside : (n i : ℕ) (acts : List Act) (a : Act) → keep_groups_apart acts ≡ true → slice_get acts i ≡ Some a → wants_own_group a ≡ true → list_any (is_beside (n + i) a) (enumerate_from n acts) ≡ false
none_beside n i [] a rule there wants = absurd (false≢true (ap is_some there))
none_beside n zero (b ∷ acts) a rule there wants =
    let parts = and_parts (list_all (keep_apart b) acts) (keep_groups_apart acts) rule in
    let all : list_all (keep_apart a) acts ≡ true = subst (λ x. list_all (keep_apart x) acts ≡ true) (same_Some b a there) parts.0 in
    let own : eqb n (n + 0) ≡ true = eq-eqb n (n + 0) (omega arith) in
    or_from (is_beside (n + 0) a (n, b)) (list_any (is_beside (n + 0) a) (enumerate_from (n + 1) acts)) (ap (λ t. not t && share_group a b) own) (none_behind a (n + 1) (n + 0) acts wants all)
none_beside n (suc i) (b ∷ acts) a rule there wants =
    let parts = and_parts (list_all (keep_apart b) acts) (keep_groups_apart acts) rule in
    let one = all_at_number (keep_apart b) acts i a parts.0 there in
    let apart = apart_turned b a (apart_by (wants_own_group b || wants_own_group a) (share_group b a) one (or_right (wants_own_group b) (wants_own_group a) wants)) in
    let rest : list_any (is_beside (n + suc i) a) (enumerate_from (n + 1) acts) ≡ false =
    subst (λ k. list_any (is_beside k a) (enumerate_from (n + 1) acts) ≡ false) (omega arith) (none_beside (n + 1) i acts a parts.1 there wants) in
    or_from (is_beside (n + suc i) a (n, b)) (list_any (is_beside (n + suc i) a) (enumerate_from (n + 1) acts)) (and_false (not (eqb n (n + suc i))) (share_group a b) apart) rest

-- ---- a right with a reservation, or in the rank of one

-- the right has a reservation, or is in the rank of one
abbrev pub is_ranked_apart : Created → Bool
is_ranked_apart made = is_some made.reserve || is_some made.ahead_of

wants_group : (act : Act) → (is_some (reserve_of act) || is_some (right_behind act)) ≡ true → wants_own_group act ≡ true
wants_group (Create folio spec None) is = absurd (false≢true is)
wants_group (Create folio spec (Some cents)) is = refl
wants_group (Exercise folio behind spec) is = refl
wants_group other is = absurd (false≢true is)

wants_filed : (folio : ℕ) (made : Created) (act : Act) → IsAsFiled folio made act → is_ranked_apart made ≡ true → wants_own_group act ≡ true
wants_filed folio made act filed is = wants_group act ((λ i. is_some (sym filed.reserve i) || is_some (sym filed.ahead_of i)) ∙ is)

keeps_groups : (f : Filing) → is_filing f ≡ true → keep_groups_apart f.acts ≡ true
keeps_groups f well =
    let keeps = (and_parts (is_between 1 most_acts (length f.acts) && list_all is_act f.acts && list_all is_doc f.docs) (keeps_rules f.acts) well).1 in
    (and_parts (names_few_folios f.acts && gives_owners_once f.acts && names_rights_once f.acts) (keep_groups_apart f.acts) keeps).1

own_at : (f : Filing) (k folio : ℕ) (made : Created) (act : Act) → is_filing f ≡ true → act_at f k ≡ Some act → IsAsFiled folio made act → is_ranked_apart made ≡ true → has_equal f.acts k act ≡ false
own_at f k folio made act well there filed is =
    let number = numbered f.acts k act there in
    let from = number.from in
    subst (λ n. list_any (is_beside n act) (enumerate_from 1 f.acts) ≡ false) (omega (arith, from)) (none_beside 1 (k - 1) f.acts act (keeps_groups f well) number.there (wants_filed folio made act filed is))

own_in : (o : Option Filing) (k folio : ℕ) (made : Created) → IfSome o (λ f. is_filing f ≡ true) → IsSomeAnd (option_and_then (λ f. act_at f k) o) (IsAsFiled folio made) → is_ranked_apart made ≡ true
    → option_map_or (λ f. option_map_or (has_equal f.acts k) (act_at f k) false) o false ≡ false
own_in None k folio made well filed is = refl
own_in (Some f) k folio made well filed is =
    elim (act_at f k) as (λ o. act_at f k ≡ o → IsSomeAnd o (IsAsFiled folio made) → option_map_or (has_equal f.acts k) o false ≡ false) [
      | None ↦ λ _ none. absurd none
      | Some act ↦ λ there its. own_at f k folio made act well there its is
    ] refl filed

pub own_group : (journal : List Receipt) (folio : ℕ) (id : RightNo) (made : Created) → IsJournal journal → IsCreatedHere journal folio id made → is_ranked_apart made ≡ true → shares_its_group journal id ≡ false
own_group journal folio id made stands here is =
    own_in (filing_at journal id.receipt) id.act folio made
    (elim (filing_at journal id.receipt) as (λ o. filing_at journal id.receipt ≡ o → IfSome o (λ f. is_filing f ≡ true)) [
      | None ↦ λ _. tt
      | Some f ↦ λ there. well_filed journal id.receipt f stands there
    ] refl)
    here.filed is

-- ---- not both

never_of_act : (act : Act) → is_some (reserve_of act) ≡ true → is_some (right_behind act) ≡ true → ⊥
never_of_act (Exercise folio behind spec) reserve ahead = false≢true reserve
never_of_act (Create folio spec reserved) reserve ahead = false≢true ahead
never_of_act other reserve ahead = false≢true reserve

never_filed : (folio : ℕ) (a b : Created) (o : Option Act) → IsSomeAnd o (IsAsFiled folio a) → IsSomeAnd o (IsAsFiled folio b) → is_some a.reserve ≡ true → is_some b.ahead_of ≡ true → ⊥
never_filed folio a b None first second reserve ahead = first
never_filed folio a b (Some act) first second reserve ahead =
    never_of_act act (sym (ap is_some first.reserve) ∙ reserve) (sym (ap is_some second.ahead_of) ∙ ahead)

-- a right is not filed with a reservation and in the rank of one
pub never_both : (journal : List Receipt) (folio : ℕ) (id : RightNo) (a b : Created) → IsCreatedHere journal folio id a → IsCreatedHere journal folio id b → is_some a.reserve ≡ true → is_some b.ahead_of ≡ true → ⊥
never_both journal folio id a b first second reserve ahead = never_filed folio a b (act_of_right journal id) first.filed second.filed reserve ahead
