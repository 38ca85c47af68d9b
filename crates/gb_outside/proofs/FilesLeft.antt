-- What a stop leaves is one of the files that it may leave, and what making the calls once more finds.
use Rattle.std.proofs.Common.{◌≡◌, inl, inr, ℕ, zero, suc, ◌+◌, ◌-◌, ◌<◌, ◌≤◌, min, List, [], ◌∷◌, ◌++◌, length, get_or, take, drop, replicate, refl, sym, ◌∙◌, ap, subst, arith, length-append, length-drop, length-take-le}
use Rattle.std.proofs.lemmas.List.{append-nil, take-append-le, drop_all, drop_more, length-replicate}
use Rattle.gb_outside.specs.Images.{Torn}
use Rattle.gb_outside.specs.Recorded.{Event, idle, wrote, synced, overwritten, file_after, IsImageAfter}
use Rattle.gb_outside.specs.Stops.{first_calls, blanked, left_by_write, left_after}
use Rattle.gb_outside.specs.inner.Calls.{events_from, events, kept_by, ArePlaced}
use Rattle.gb_outside.specs.inner.Remaking.{Remade, begun, made_again, remade, CanMake, CanRemake}
use Rattle.gb_outside.specs.declared.mem_disk.Call.{Call}
use Rattle.gb_outside.specs.declared.mem_disk.Call.TheVariants.{Idle, Write, Sync}
use Rattle.gb_outside.specs.declared.stops.Fill.{Fill}
use Rattle.gb_outside.specs.declared.stops.Fill.TheVariants.{Old, New, Zeros, Ones}
use Rattle.gb_outside.proofs.Record.{length_events, overwritten_torn}

-- a file after bytes were put into it ends where they do, or where it did
pub overwritten_length : (at : ℕ) (bytes file : List ℕ) → at ≤ length file → length (overwritten at bytes file) ≡ at + length bytes + (length file - (at + length bytes))
overwritten_length at bytes file place =
    let back = drop (at + length bytes) file in
    omega (arith, length-take-le at file place, length-append (take at file) bytes, length-append (take at file ++ bytes) back, length-drop (at + length bytes) file)

module _ (byte at size : ℕ) (file : List ℕ) (place : at ≤ length file) where
  blanked_length : length (blanked byte at size file) ≡ length file
  blanked_length =
      let count = min size (length file - at) in
      omega (arith, overwritten_length at (replicate count byte) file place, length-replicate count byte)

  blanked_torn : Torn at size file (blanked byte at size file)
  blanked_torn =
      let count = min size (length file - at) in
      overwritten_torn file (replicate count byte) at size place (omega (arith, length-replicate count byte))

-- a file is as long whether a stop comes after a write or not
left_length_by : (fill : Fill) (at size : ℕ) (kept left file : List ℕ) → at ≤ length file → length left ≡ length file → length (left_by_write fill at size kept left) ≡ length (overwritten at kept file)
left_length_by Old at size kept left file place same =
    let past = at + length kept - length left in
    omega (arith, overwritten_length at kept file place, length-append left (replicate past 0), length-replicate {A = ℕ} past 0, same)
left_length_by New at size kept left file place same =
    omega (arith, overwritten_length at kept file place, overwritten_length at kept left (omega (arith, place, same)), same)
left_length_by Zeros at size kept left file place same =
    let here = overwritten_length at kept left (omega (arith, place, same)) in
    omega (arith, overwritten_length at kept file place, here, blanked_length 0 at size (overwritten at kept left) (omega (arith, here)), same)
left_length_by Ones at size kept left file place same =
    let here = overwritten_length at kept left (omega (arith, place, same)) in
    omega (arith, overwritten_length at kept file place, here, blanked_length 255 at size (overwritten at kept left) (omega (arith, here)), same)

-- what a stop leaves is as long as the file was then
pub left_length : (fill : Fill) (first : List ℕ) (done : List Event) → ArePlaced first done → length (left_after fill first done) ≡ length (file_after first done)
left_length fill first [] placed = refl
left_length fill first (idle ∷ before) placed = left_length fill first before placed
left_length fill first (wrote at size kept ∷ before) placed =
    left_length_by fill at size kept (left_after fill first before) (file_after first before) placed.0 (left_length fill first before placed.2)
left_length fill first (synced ∷ before) placed = refl

-- two writes in one range tear it alone
torn_twice : (at n : ℕ) (old mid new : List ℕ) → Torn at n old mid → Torn at n mid new → Torn at n old new
torn_twice at n old mid new one two = record {
  before = two.before ∙ one.before;
  after = two.after ∙ one.after;
  no_shorter = omega (arith, one.no_shorter, two.no_shorter);
  no_longer = omega (arith, one.no_longer, two.no_longer);
}

-- zeros that end within a range change nothing after it
zeros_behind : (m n : ℕ) (file : List ℕ) → (0 < n → length file + n ≤ m) → drop m (file ++ replicate n 0) ≡ drop m file
zeros_behind m zero file within = ap (λ (l : List ℕ). drop m l) (append-nil file)
zeros_behind m (suc n) file within =
    let end = within (omega arith) in
    drop_all m (file ++ replicate (suc n) 0) (omega (arith, end, length-append file (replicate (suc n) 0), length-replicate {A = ℕ} (suc n) 0))
    ∙ sym (drop_all m file (omega (arith, end)))

-- a write that a stop cuts off tears its range
left_torn : (fill : Fill) (at size : ℕ) (kept file : List ℕ) → at ≤ length file → length kept ≤ size → Torn at size file (left_by_write fill at size kept file)
left_torn Old at size kept file place whole =
    let past = at + length kept - length file in
    let long : length (file ++ replicate past 0) ≡ length file + past = omega (arith, length-append file (replicate past 0), length-replicate {A = ℕ} past 0) in
    record {
      before = take-append-le at file (replicate past 0) place;
      after = zeros_behind (at + size) past file (λ some. omega (arith, some, whole));
      no_shorter = omega (arith, long);
      no_longer = omega (arith, long, whole);
    }
left_torn New at size kept file place whole = overwritten_torn file kept at size place whole
left_torn Zeros at size kept file place whole =
    let mid = overwritten at kept file in
    torn_twice at size file mid (blanked 0 at size mid) (overwritten_torn file kept at size place whole) (blanked_torn 0 at size mid (omega (arith, overwritten_length at kept file place)))
left_torn Ones at size kept file place whole =
    let mid = overwritten at kept file in
    torn_twice at size file mid (blanked 255 at size mid) (overwritten_torn file kept at size place whole) (blanked_torn 255 at size mid (omega (arith, overwritten_length at kept file place)))

-- what a stop leaves is one of the files that it may leave
pub left_is_image : (fill : Fill) (first : List ℕ) (done : List Event) → ArePlaced first done → IsImageAfter first done (left_after fill first done)
left_is_image fill first [] placed = inl refl
left_is_image fill first (idle ∷ before) placed = left_is_image fill first before placed
left_is_image fill first (wrote at size kept ∷ before) placed =
    let same = left_length fill first before placed.2 in
    inr (
      omega (arith, left_length fill first (wrote at size kept ∷ before) placed),
      (
        left_after fill first before,
        left_is_image fill first before placed.2,
        left_torn fill at size kept (left_after fill first before) (omega (arith, placed.0, same)) placed.1,
      ),
    )
left_is_image fill first (synced ∷ before) placed = inl refl

-- the first of the calls are placed as all are
pub placed_first : (count : ℕ) (first : List ℕ) (done : List Event) → ArePlaced first done → ArePlaced first (drop count done)
placed_first zero first done placed = placed
placed_first (suc n) first [] placed = tt
placed_first (suc n) first (idle ∷ before) placed = placed_first n first before placed
placed_first (suc n) first (wrote at size kept ∷ before) placed = placed_first n first before placed.2
placed_first (suc n) first (synced ∷ before) placed = placed_first n first before placed

drop_next : (n : ℕ) (xs ys : List Event) (e : Event) → drop n xs ≡ e ∷ ys → drop (suc n) xs ≡ ys
drop_next zero xs ys e is = ap (λ (l : List Event). drop 1 l) is
drop_next (suc n) [] ys e is = absurd (cc is)
drop_next (suc n) (x ∷ xs) ys e is = drop_next n xs ys e is

all_dropped : (calls : List Call) (written : List ℕ) (before : List Event) → drop (length calls) (events_from calls written before) ≡ before
all_dropped [] written before = refl
all_dropped (Idle ∷ calls) written before = drop_next (length calls) _ before idle (all_dropped calls written (idle ∷ before))
all_dropped (Write at size kept ∷ calls) written before =
    drop_next (length calls) _ before (wrote at size (take kept written)) (all_dropped calls (drop kept written) (wrote at size (take kept written) ∷ before))
all_dropped (Sync ∷ calls) written before = drop_next (length calls) _ before synced (all_dropped calls written (synced ∷ before))

first_from : (others n : ℕ) (calls : List Call) (written : List ℕ) (before : List Event) → others + n ≡ length calls → drop others (events_from calls written before) ≡ events_from (take n calls) written before
first_from others zero calls written before split =
    let all : others ≡ length calls = omega (arith, split) in
    ap (λ m. drop m (events_from calls written before)) all ∙ all_dropped calls written before
first_from others (suc n) [] written before split = absurd (omega (arith, split))
first_from others (suc n) (Idle ∷ calls) written before split = first_from others n calls written (idle ∷ before) (omega (arith, split))
first_from others (suc n) (Write at size kept ∷ calls) written before split =
    first_from others n calls (drop kept written) (wrote at size (take kept written) ∷ before) (omega (arith, split))
first_from others (suc n) (Sync ∷ calls) written before split = first_from others n calls written (synced ∷ before) (omega (arith, split))

-- the events of the first calls are the first events
pub first_events : (asked n : ℕ) (calls : List Call) (written : List ℕ) → n ≡ min (length calls) asked → first_calls asked (events calls written) ≡ events (take n calls) written
first_events asked n calls written is =
    first_from (length (events calls written) - asked) n calls written [] (omega (arith, length_events calls written, is))

remade_from : (fill : Fill) (first : List ℕ) (before : List Event) (calls : List Call) (written : List ℕ)
    → (remade fill (record { file = file_after first before; left = left_after fill first before; rest = written }) calls).left ≡ left_after fill first (events_from calls written before)
remade_from fill first before [] written = refl
remade_from fill first before (Idle ∷ calls) written = remade_from fill first (idle ∷ before) calls written
remade_from fill first before (Write at size kept ∷ calls) written = remade_from fill first (wrote at size (take kept written) ∷ before) calls (drop kept written)
remade_from fill first before (Sync ∷ calls) written = remade_from fill first (synced ∷ before) calls written

-- making the first calls once more finds what a stop after them leaves
pub remade_left : (fill : Fill) (first written : List ℕ) (calls : List Call) (asked n : ℕ) → n ≡ min (length calls) asked
    → (remade fill (begun first written) (take n calls)).left ≡ left_after fill first (first_calls asked (events calls written))
remade_left fill first written calls asked n is =
    remade_from fill first [] (take n calls) written ∙ sym (ap (left_after fill first) (first_events asked n calls written is))

placed_before : (first : List ℕ) (before : List Event) (calls : List Call) (written : List ℕ) → ArePlaced first (events_from calls written before) → ArePlaced first before
placed_before first before [] written placed = placed
placed_before first before (Idle ∷ calls) written placed = placed_before first (idle ∷ before) calls written placed
placed_before first before (Write at size kept ∷ calls) written placed =
    (placed_before first (wrote at size (take kept written) ∷ before) calls (drop kept written) placed).2
placed_before first before (Sync ∷ calls) written placed = placed_before first (synced ∷ before) calls written placed

can_remake_from : (fill : Fill) (first : List ℕ) (before : List Event) (calls : List Call) (written : List ℕ) → ArePlaced first (events_from calls written before) → kept_by calls ≤ length written
    → CanRemake fill (record { file = file_after first before; left = left_after fill first before; rest = written }) calls
can_remake_from fill first before [] written placed enough = tt
can_remake_from fill first before (Idle ∷ calls) written placed enough = (tt, can_remake_from fill first (idle ∷ before) calls written placed enough)
can_remake_from fill first before (Write at size kept ∷ calls) written placed enough =
    let here = placed_before first (wrote at size (take kept written) ∷ before) calls (drop kept written) placed in (
      (here.0, omega (arith, here.0, left_length fill first before here.2), omega (arith, enough)),
      can_remake_from fill first (wrote at size (take kept written) ∷ before) calls (drop kept written) placed (omega (arith, enough, length-drop kept written)),
    )
can_remake_from fill first before (Sync ∷ calls) written placed enough = (tt, can_remake_from fill first (synced ∷ before) calls written placed enough)

can_front : (fill : Fill) (s : Remade) (n : ℕ) (calls : List Call) → CanRemake fill s calls → CanRemake fill s (take n calls)
can_front fill s zero calls can = tt
can_front fill s (suc n) [] can = tt
can_front fill s (suc n) (call ∷ calls) can = (can.0, can_front fill (made_again fill s call) n calls can.1)

-- the first of a record's calls can be made once more
pub can_remake : (fill : Fill) (first written : List ℕ) (calls : List Call) (n : ℕ) → ArePlaced first (events calls written) → kept_by calls ≡ length written → CanRemake fill (begun first written) (take n calls)
can_remake fill first written calls n placed all =
    can_front fill (begun first written) n calls (can_remake_from fill first [] calls written placed (omega (arith, all)))

module _ (fill : Fill) (calls : List Call) (i : ℕ) (call : Call) (old : Remade) (here : i < length calls) (is : call ≡ get_or calls i call) where
  -- the call at this place can be made, and then those after it
  can_here : CanRemake fill old (drop i calls) → CanMake old call × CanRemake fill (made_again fill old call) (drop (i + 1) calls)
  can_here can =
      let split : CanRemake fill old (get_or calls i call ∷ drop (i + 1) calls) = subst (CanRemake fill old) (drop_more calls i call here) can in
      subst (λ c. CanMake old c × CanRemake fill (made_again fill old c) (drop (i + 1) calls)) (sym is) split

  pub can_make : CanRemake fill old (drop i calls) → CanMake old call
  can_make can = (can_here can).0

  pub can_then : (new : Remade) → new ≡ made_again fill old call → CanRemake fill old (drop i calls) → CanRemake fill new (drop (i + 1) calls)
  can_then new made can = subst (λ s. CanRemake fill s (drop (i + 1) calls)) (sym made) (can_here can).1

  -- one more call was made
  pub remade_then : (new whole : Remade) → new ≡ made_again fill old call → remade fill old (drop i calls) ≡ whole → remade fill new (drop (i + 1) calls) ≡ whole
  remade_then new whole made before =
      ap (λ s. remade fill s (drop (i + 1) calls)) made
      ∙ ap (λ c. remade fill (made_again fill old c) (drop (i + 1) calls)) is
      ∙ sym (ap (remade fill old) (drop_more calls i call here))
      ∙ before
