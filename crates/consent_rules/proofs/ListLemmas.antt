-- Lemmas on tests over lists, and on loops that go along them.
use Rattle.std.proofs.Common.{◌≡◌, ℕ, ◌+◌, ◌<◌, Bool, false, ◌||◌, List, ◌++◌, length, get_or, drop, flat_map, find, Option, Some, None, refl, add-one, drop-cons, append_assoc, suc}
use Rattle.std.specs.List.{list_any, cons_option}
use Rattle.std.specs.Option.{option_map_or}

-- an element that does not pass is passed over by a search for the first that does
pub find_past : {X : Type 0} (p : X → Bool) (xs : List X) (i : ℕ) (x : X) → i < length xs → p (get_or xs i x) ≡ false
    → find p (drop (i + 1) xs) ≡ find p (drop i xs)
find_past p xs i x lt fails = rw (add-one, drop-cons xs i x) (rw fails refl)

-- what one brings goes over from what is still to come to what is done
pub brought_step : {X Y : Type 0} (f : X → List Y) (xs : List X) (i : ℕ) (x : X) (done : List Y) → i < length xs
    → (done ++ f (get_or xs i x)) ++ flat_map f (drop (i + 1) xs) ≡ done ++ flat_map f (drop i xs)
brought_step f xs i x done lt = rw (add-one, drop-cons xs i x) (append_assoc done (f (get_or xs i x)) (flat_map f (drop (suc i) xs)))

-- a test of what a map gives, with one more element
pub any_given : {Y : Type 0} (p : Y → Bool) (y : Option Y) (ys : List Y) → list_any p (cons_option y ys) ≡ (option_map_or p y false || list_any p ys)
any_given p (Some y) ys = refl
any_given p None ys = refl
