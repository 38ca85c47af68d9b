-- Lists that items share.
use Rattle.std.proofs.Common.{◌≡◌, ℕ, zero, suc, ◌<◌, List, [], ◌∷◌, ◌++◌, length, map, slice_get, get_or, Some, Vec, refl, ap, ◌∙◌, arith}
use Rattle.std.specs.Option.{option_map_or}
use Rattle.std.specs.declared.alloc.Global.{Global}
use Rattle.std.proofs.lemmas.List.Elements.{All-head, All-tail}
use Rattle.gb_base.specs.declared.keys.Key.{Key}
use Rattle.conflict_queue.specs.inner.Lists.{list_at, lists_at, AreListed}
use Rattle.conflict_queue.proofs.Numbered.{some_is}

pub get_front : {X : Type 0} (xs ys : List X) (i : ℕ) → i < length xs → slice_get (xs ++ ys) i ≡ slice_get xs i
get_front [] ys i within = absurd (omega arith)
get_front (x ∷ xs) ys zero within = refl
get_front (x ∷ xs) ys (suc i) within = get_front xs ys i (omega arith)

pub get_behind : {X : Type 0} (xs : List X) (y : X) → slice_get (xs ++ y ∷ []) (length xs) ≡ Some y
get_behind [] y = refl
get_behind (x ∷ xs) y = get_behind xs y

map_both : {X Y : Type 0} (f : X → Y) (xs ys : List X) → map f (xs ++ ys) ≡ map f xs ++ map f ys
map_both f [] ys = refl
map_both f (x ∷ xs) ys = ap (λ rest. f x ∷ rest) (map_both f xs ys)

-- further lists change nothing of the lists before them
same_lists : (lists more : List (Vec Key Global)) (numbers : List ℕ) → AreListed lists numbers → lists_at (lists ++ more) numbers ≡ lists_at lists numbers
same_lists lists more [] listed = refl
same_lists lists more (n ∷ ns) listed = λ i.
    option_map_or (λ list. list.items) (get_front lists more n (All-head (λ l. l < length lists) n ns listed) i) []
    ∷ same_lists lists more ns (All-tail (λ l. l < length lists) n ns listed) i

-- the lists of all items with one item more, which has a list of its own
pub own_list : (lists : List (Vec Key Global)) (numbers : List ℕ) (keys : Vec Key Global) → AreListed lists numbers
    → lists_at (lists ++ keys ∷ []) (numbers ++ length lists ∷ []) ≡ lists_at lists numbers ++ keys.items ∷ []
own_list lists numbers keys listed =
    map_both (list_at (lists ++ keys ∷ [])) numbers (length lists ∷ [])
    ∙ (λ i. same_lists lists (keys ∷ []) numbers listed i ++ option_map_or (λ list. list.items) (get_behind lists keys i) [] ∷ [])

-- the lists of all items with one item more, which shares the list of another
pub shared_list : (lists : List (Vec Key Global)) (numbers : List ℕ) (n : ℕ) → lists_at lists (numbers ++ n ∷ []) ≡ lists_at lists numbers ++ list_at lists n ∷ []
shared_list lists numbers n = map_both (list_at lists) numbers (n ∷ [])

-- the list of the number that stands at an index
pub listed_at : (lists : List (Vec Key Global)) (numbers : List ℕ) (index n : ℕ) (keys : List Key) → n ≡ get_or numbers index n → slice_get (lists_at lists numbers) index ≡ Some keys → list_at lists n ≡ keys
listed_at lists [] index n keys is there = absurd (cc there)
listed_at lists (m ∷ ms) zero n keys is there = ap (list_at lists) is ∙ some_is (list_at lists m) keys there
listed_at lists (m ∷ ms) (suc index) n keys is there = listed_at lists ms index n keys is there
