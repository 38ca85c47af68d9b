-- Two registers that agree at some keys, and what is read of both along a list.
use Rattle.std.proofs.Common.{◌≡◌, Bool, true, false, ◌||◌, cond, List, [], ◌∷◌, ◌++◌, Contains, refl, ap, ◌∙◌}
use Rattle.std.specs.List.{AllByRecursion, list_any}
use Rattle.std.proofs.lemmas.List.Elements.{Contains-append_left, Contains-append_right}
use Rattle.gb_base.specs.declared.keys.Key.{Key}
use Rattle.folio_sections.specs.Entries.{at, with_entries}
use Rattle.folio_sections.specs.declared.entries.Entry.{Entry}

-- what stands at these keys is the same in both
abbrev pub AgreesAt : List Key → (Key → List Entry) → (Key → List Entry) → Type 0
AgreesAt keys at0 at1 = (k : Key) → Contains keys k → at1 k ≡ at0 k

pub agrees_before : (keys more : List Key) (at0 at1 : Key → List Entry) → AgreesAt (keys ++ more) at0 at1 → AgreesAt keys at0 at1
agrees_before keys more at0 at1 agrees k there = agrees k (Contains-append_left keys more k there)

pub agrees_behind : (keys more : List Key) (at0 at1 : Key → List Entry) → AgreesAt (keys ++ more) at0 at1 → AgreesAt more at0 at1
agrees_behind keys more at0 at1 agrees k there = agrees k (Contains-append_right keys more k there)

-- with the same entries added they still agree
pub added_agree : (keys : List Key) (at0 at1 : Key → List Entry) (es0 es1 : List Entry) → es1 ≡ es0 → AgreesAt keys at0 at1 → AgreesAt keys (with_entries at0 es0) (with_entries at1 es1)
added_agree keys at0 at1 es0 es1 same agrees k there = λ j. agrees k there j ++ at (same j) k

-- ---- two functions that are equal on the members of a list

pub any_same : {X : Type 0} (p q : X → Bool) (xs : List X) → AllByRecursion (λ x. p x ≡ q x) xs → list_any p xs ≡ list_any q xs
any_same p q [] all = refl
any_same p q (x ∷ xs) all = λ j. all.0 j || any_same p q xs all.1 j

-- a choice between one value and `none` is the same where the tests are equal, and the values are equal whenever one is chosen
pub chosen_same : {X : Type 0} (b c : Bool) (x y none : X) → b ≡ c → (c ≡ true → x ≡ y) → cond b x none ≡ cond c y none
chosen_same b true x y none same wanted = ap (λ t. cond t x none) same ∙ wanted refl
chosen_same b false x y none same wanted = ap (λ t. cond t x none) same
