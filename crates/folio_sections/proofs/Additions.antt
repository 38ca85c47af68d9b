-- What lists of entries add to the parts, one after the other.
use Rattle.std.proofs.Common.{◌≡◌, ℕ, ◌+◌, ◌≤◌, false, List, [], ◌∷◌, ◌++◌, length, refl, sym, ap, subst, ◌∙◌, append_assoc, length-append, arith}
use Rattle.std.proofs.lemmas.List.{append-nil}
use Rattle.std.specs.List.{AllByRecursion}
use Rattle.std.proofs.lemmas.List.Elements.{filter-append}
use Rattle.std.proofs.lemmas.List.Sums.{count_by-le-length, length-filter}
use Rattle.gb_base.specs.Keys.{same_key}
use Rattle.gb_base.specs.declared.keys.Key.{Key}
use Rattle.folio_sections.specs.Adding.{AddsList, HasRoom}
use Rattle.folio_sections.specs.Entries.{at}
use Rattle.folio_sections.specs.declared.entries.Entry.{Entry}

pub at-append : (xs ys : List Entry) (k : Key) → at (xs ++ ys) k ≡ at xs k ++ at ys k
at-append xs ys k = filter-append (λ e. same_key e.key k) xs ys

pub length-at : (xs ys : List Entry) (k : Key) → length (at (xs ++ ys) k) ≡ length (at xs k) + length (at ys k)
length-at xs ys k = ap length (at-append xs ys k) ∙ length-append (at xs k) (at ys k)

-- no entry stands at a key where none has it
pub none_at : (es : List Entry) (k : Key) → AllByRecursion (λ e. same_key e.key k ≡ false) es → at es k ≡ []
none_at [] k all = refl
none_at (e ∷ es) k all = rw all.0 (none_at es k all.1)

-- no more stand at a key than there are
pub at_few : (es : List Entry) (k : Key) → length (at es k) ≤ length es
at_few es k = omega (arith, length-filter (λ e. same_key e.key k) es, count_by-le-length (λ e. same_key e.key k) es)

-- no entry
pub adds_none : (at0 : Key → List Entry) (room0 : Key → ℕ) → AddsList at0 at0 room0 room0 []
adds_none at0 room0 = record { there = λ k. sym (append-nil (at0 k)); room = λ k. omega arith }

-- a list, and then another
pub adds_then : (at0 at1 at2 : Key → List Entry) (room0 room1 room2 : Key → ℕ) (xs ys : List Entry) → AddsList at0 at1 room0 room1 xs → AddsList at1 at2 room1 room2 ys → AddsList at0 at2 room0 room2 (xs ++ ys)
adds_then at0 at1 at2 room0 room1 room2 xs ys first second = record {
  there = λ k.
      second.there k ∙ ap (λ zs. zs ++ at ys k) (first.there k) ∙ append_assoc (at0 k) (at xs k) (at ys k)
      ∙ ap (λ zs. at0 k ++ zs) (sym (at-append xs ys k));
  room = λ k.
      let one = first.room k in
      let two = second.room k in
      let both = length-at xs ys k in
      omega arith;
}

-- where there is room for all, there is room for the next once the first are added
pub room_left : (at0 at1 : Key → List Entry) (room0 room1 : Key → ℕ) (xs ys zs whole : List Entry) → xs ++ (ys ++ zs) ≡ whole → HasRoom room0 whole → AddsList at0 at1 room0 room1 xs → HasRoom room1 ys
room_left at0 at1 room0 room1 xs ys zs whole is room adds k =
    let all : length (at (xs ++ (ys ++ zs)) k) ≤ room0 k = subst (λ ws. length (at ws k) ≤ room0 k) (sym is) (room k) in
    let outer = length-at xs (ys ++ zs) k in
    let inner = length-at ys zs k in
    let used = adds.room k in
    omega arith
