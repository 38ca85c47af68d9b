-- An entry that is added to one of two folios is added to both together.
use Rattle.std.proofs.Common.{◌≡◌, ◌+◌, Bool, true, false, cond, ◌||◌, List, [], ◌∷◌, ◌++◌, sym, ap, ◌∙◌}
use Rattle.std.proofs.lemmas.Bool.{false≢true}
use Rattle.gb_base.specs.declared.keys.Key.{Key}
use Rattle.folio_sections.specs.Adding.{Adds}
use Rattle.folio_sections.specs.Held.{entries_at, is_held, room_at}
use Rattle.folio_sections.specs.PartState.{PartState}
use Rattle.folio_sections.specs.declared.entries.Entry.{Entry}
use Rattle.desk_pool.specs.inner.FolioPairs.{AreApart, either_at, either_holds, either_room, of_either}

-- what is read where the first holds the key, and where it does not
pub of_first : {X : Type 0} (held : Key → Bool) (x y : Key → X) (k : Key) → held k ≡ true → of_either held x y k ≡ x k
of_first held x y k is = ap (λ b. cond b (x k) (y k)) is

pub of_second : {X : Type 0} (held : Key → Bool) (x y : Key → X) (k : Key) → held k ≡ false → of_either held x y k ≡ y k
of_second held x y k is = ap (λ b. cond b (x k) (y k)) is

pub adds_to_first : (first first1 second : List PartState) (e : Entry) → Adds (entries_at first) (entries_at first1) (room_at first) (room_at first1) e → is_held first1 ≡ is_held first → is_held first e.key ≡ true
    → Adds (either_at (record { first = first; second = second })) (either_at (record { first = first1; second = second })) (either_room (record { first = first; second = second })) (either_room (record { first = first1; second = second })) e
adds_to_first first first1 second e adds same here =
    let here1 : is_held first1 e.key ≡ true = ap (λ holds. holds e.key) same ∙ here in
    record {
      there = of_first (is_held first1) (entries_at first1) (entries_at second) e.key here1 ∙ adds.there
          ∙ ap (λ es. es ++ e ∷ []) (sym (of_first (is_held first) (entries_at first) (entries_at second) e.key here));
      room = ap (λ n. n + 1) (of_first (is_held first1) (room_at first1) (room_at second) e.key here1) ∙ adds.room ∙ sym (of_first (is_held first) (room_at first) (room_at second) e.key here);
      others = λ k other. λ i. cond (same i k) (adds.others k other i) (entries_at second k);
      others_room = λ k other. λ i. cond (same i k) (adds.others_room k other i) (room_at second k);
    }

pub adds_to_second : (first second second1 : List PartState) (e : Entry) → Adds (entries_at second) (entries_at second1) (room_at second) (room_at second1) e → is_held first e.key ≡ false
    → Adds (either_at (record { first = first; second = second })) (either_at (record { first = first; second = second1 })) (either_room (record { first = first; second = second })) (either_room (record { first = first; second = second1 })) e
adds_to_second first second second1 e adds there = record {
  there = of_second (is_held first) (entries_at first) (entries_at second1) e.key there ∙ adds.there
      ∙ ap (λ es. es ++ e ∷ []) (sym (of_second (is_held first) (entries_at first) (entries_at second) e.key there));
  room = ap (λ n. n + 1) (of_second (is_held first) (room_at first) (room_at second1) e.key there) ∙ adds.room ∙ sym (of_second (is_held first) (room_at first) (room_at second) e.key there);
  others = λ k other. λ i. cond (is_held first k) (entries_at first k) (adds.others k other i);
  others_room = λ k other. λ i. cond (is_held first k) (room_at first k) (adds.others_room k other i);
}

-- where the first still holds what it held, so do both together
pub holds_with_first : (first first1 second : List PartState) → is_held first1 ≡ is_held first → either_holds (record { first = first1; second = second }) ≡ either_holds (record { first = first; second = second })
holds_with_first first first1 second same = λ i k. same i k || is_held second k

pub holds_with_second : (first second second1 : List PartState) → is_held second1 ≡ is_held second → either_holds (record { first = first; second = second1 }) ≡ either_holds (record { first = first; second = second })
holds_with_second first second second1 same = λ i k. is_held first k || same i k

-- ---- no folio at all

pub none_apart : (first second : Key → Bool) → ((k : Key) → first k ≡ false) → ((k : Key) → second k ≡ false) → AreApart first second
none_apart first second none_first none_second = record {
  one_first = λ k j here there. absurd (false≢true (sym (none_first k) ∙ here));
  one_second = λ k j here there. absurd (false≢true (sym (none_second k) ∙ here));
  rise = λ k j here there. absurd (false≢true (sym (none_first k) ∙ here));
}
