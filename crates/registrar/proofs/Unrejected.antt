-- What holds of the acts of a filing that is not rejected.
use Rattle.std.proofs.Common.{◌≡◌, ℕ, ◌+◌, ◌<◌, ◌≤◌, Bool, true, false, not, cond, nat_lt, List, [], ◌∷◌, find, fold, All, Contains, IsTrue, IfSome, Option, Some, None, refl, sym, ap, subst, arith}
use Rattle.std.specs.List.{AllByRecursion, enumerate_from, list_any}
use Rattle.std.specs.Option.{option_map_or}
use Rattle.std.proofs.lemmas.Bool.{false≢true, or_parts, not-false}
use Rattle.std.proofs.lemmas.Bool.Decides.{nat_tests}
use Rattle.std.proofs.lemmas.List.Elements.{All-cons, All-nil, Contains-append_left, Contains-append_right, recursion_from_All}
use Rattle.gb_base.specs.RightNo.{RightNo}
use Rattle.gb_base.specs.declared.keys.Key.{Key}
use Rattle.gb_base.specs.declared.keys.Key.TheVariants.{Title, Right}
use Rattle.act_model.specs.declared.documents.Doc.{Doc}
use Rattle.act_model.specs.declared.filing_acts.Act.{Act}
use Rattle.act_model.specs.declared.filing_acts.Act.TheVariants.{Open, Transfer, Create, NoticeFor, Convert, Assign, Cancel, Exchange, Exercise}
use Rattle.act_model.specs.declared.items.Filing.{Filing}
use Rattle.act_model.specs.declared.receipts.Receipt.{Receipt}
use Rattle.act_model.specs.Creations.{creating_rank}
use Rattle.act_model.specs.Touches.{acts_of, filing_at, keys_of_act, keys_of_acts, keys_of_filing, new_right}
use Rattle.consent_rules.specs.Judging.{exchanges_unfit_right, grounds, is_beyond_limit, is_rejected_under, lacks_reservation, lacks_right, lives, rejection}
use Rattle.kept_registers.specs.KeptEntries.{IsCreatedInTime}
use Rattle.kept_registers.specs.KeptPlaces.{NamesEarlier}
use Rattle.act_model.specs.Limits.{most_creations}
use Rattle.folio_sections.specs.Rights.{is_live, live_by}
use Rattle.folio_sections.specs.Waiting.{is_pending}
use Rattle.folio_sections.specs.declared.entries.Entry.{Entry}
use Rattle.folio_sections.specs.declared.entries.What.{What}
use Rattle.folio_sections.specs.declared.entries.What.TheVariants as what
use Rattle.entry_rules.proofs.Entered.{keys_are}
use Rattle.registrar.proofs.Dealing.{Deals, IsFit, Turn, is_it, finds}

-- ---- no ground for rejection

nothing_found : {X : Type 0} (x : X) (found : Option X) (passes : Bool) → cond passes (Some x) found ≡ None → (passes ≡ false) × (found ≡ None)
nothing_found x found true is = absurd (grind arith)
nothing_found x found false is = (refl, is)

-- where a search finds nothing, none passes
none_passes : {X : Type 0} (p : X → Bool) (xs : List X) → find p xs ≡ None → AllByRecursion (λ x. p x ≡ false) xs
none_passes p [] is = tt
none_passes p (x ∷ xs) is =
    let parts = nothing_found x (find p xs) (p x) is in
    (parts.0, none_passes p xs parts.1)

not_any : {X : Type 0} (p : X → Bool) (xs : List X) → list_any p xs ≡ false → AllByRecursion (λ x. p x ≡ false) xs
not_any p [] is = tt
not_any p (x ∷ xs) is =
    let parts = or_parts (p x) (list_any p xs) is in
    (parts.0, not_any p xs parts.1)

-- what holds of each numbered act, and asks nothing of its number, holds of each act
of_acts : (p : Act → Bool) (n : ℕ) (acts : List Act) → AllByRecursion (λ (numbered : ℕ × Act). p numbered.1 ≡ false) (enumerate_from n acts)
    → AllByRecursion (λ act. p act ≡ false) acts
of_acts p n [] all = tt
of_acts p n (act ∷ acts) all = (all.0, of_acts p (n + 1) acts all.1)

no_act : (p : Act → Bool) (acts : List Act) → list_any (λ (numbered : ℕ × Act). p numbered.1) (enumerate_from 1 acts) ≡ false → AllByRecursion (λ act. p act ≡ false) acts
no_act p acts is = of_acts p 1 acts (not_any (λ (numbered : ℕ × Act). p numbered.1) (enumerate_from 1 acts) is)

-- ---- the numbers of the rights that are created

in_limit : (rank : Option ℕ) → option_map_or (nat_lt most_creations) rank false ≡ false → IfSome rank (λ n. n ≤ most_creations)
in_limit None is = tt
in_limit (Some n) is = grind (arith, nat_tests, is)

few_from : (journal : List Receipt) (m n : ℕ) (acts : List Act) → AllByRecursion (λ (numbered : ℕ × Act). is_beyond_limit journal m numbered.0 ≡ false) (enumerate_from n acts)
    → AllByRecursion (λ (numbered : ℕ × Act). IfSome (creating_rank journal (new_right m numbered.0)) (λ k. k ≤ most_creations)) (enumerate_from n acts)
few_from journal m n [] all = tt
few_from journal m n (act ∷ acts) all = (in_limit (creating_rank journal (new_right m n)) all.0, few_from journal m (n + 1) acts all.1)

-- ---- rights that acts name are of earlier filings

-- a right that is live after a content is older than the item
older_by : (folio i receipt : ℕ) (right : RightNo) (before : Bool) (w : What) → IsCreatedInTime receipt (Right folio right) w → receipt < i
    → (before ≡ true → right.receipt < i) → live_by before w ≡ true → right.receipt < i
older_by folio i receipt right before (what.Created made) created earlier older is = omega arith
older_by folio i receipt right before (what.Cancelled expired) created earlier older is = absurd (false≢true is)
older_by folio i receipt right before what.Expired created earlier older is = absurd (false≢true is)
older_by folio i receipt right before other created earlier older is = older is

older_from : (folio i : ℕ) (right : RightNo) (before : Bool) (es : List Entry) → AllByRecursion (λ e. IsCreatedInTime e.receipt (Right folio right) e.what) es
    → AllByRecursion (λ e. e.receipt < i) es → (before ≡ true → right.receipt < i) → fold (λ b e. live_by b e.what) before es ≡ true → right.receipt < i
older_from folio i right before [] created earlier older is = older is
older_from folio i right before (e ∷ es) created earlier older is =
    older_from folio i right (live_by before e.what) es created.1 earlier.1
    (older_by folio i e.receipt right before e.what created.0 earlier.0 older) is

-- a right that is live at a key of the filing is older than the item
live_older : (journal : List Receipt) (m : ℕ) (f : Filing) (i : ℕ) (at : Key → List Entry) → Deals journal m f i at → (folio : ℕ) (right : RightNo)
    → Contains (keys_of_filing journal m) (Right folio right) → not (lives at folio right) ≡ false → right.receipt < i
live_older journal m f i at deals folio right there is =
    older_from folio i right false (at (Right folio right))
    (recursion_from_All (λ e. IsCreatedInTime e.receipt (Right folio right) e.what) (at (Right folio right)) (deals.kept.receipts_rise.created (Right folio right)))
    (recursion_from_All (λ e. e.receipt < i) (at (Right folio right)) (deals.earlier (Right folio right) there))
    (λ never. absurd (false≢true never)) (not-false (is_live (at (Right folio right))) is)

one_named : (i : ℕ) (right : RightNo) → right.receipt < i → All (λ r. r.receipt < i) (right ∷ [])
one_named i right older = All-cons (λ r. r.receipt < i) right [] older (All-nil (λ r. r.receipt < i))

act_older : (journal : List Receipt) (m : ℕ) (f : Filing) (i : ℕ) (at : Key → List Entry) (a : ℕ) (act : Act) → Deals journal m f i at
    → ((k : Key) → Contains (keys_of_act journal m a act) k → Contains (keys_of_filing journal m) k) → lacks_right at act ≡ false → NamesEarlier i act
act_older journal m f i at a (Open folio inventory owners) deals own is = All-nil (λ r. r.receipt < i)
act_older journal m f i at a (Transfer folio owners) deals own is = All-nil (λ r. r.receipt < i)
act_older journal m f i at a (Create folio spec reserve) deals own is = All-nil (λ r. r.receipt < i)
act_older journal m f i at a (NoticeFor folio spec) deals own is = All-nil (λ r. r.receipt < i)
act_older journal m f i at a (Convert folio right) deals own is =
    one_named i right (live_older journal m f i at deals folio right (own (Right folio right) (1, omega arith, refl)) is)
act_older journal m f i at a (Assign folio right holder) deals own is =
    one_named i right (live_older journal m f i at deals folio right (own (Right folio right) (0, omega arith, refl)) is)
act_older journal m f i at a (Cancel folio right) deals own is =
    one_named i right (live_older journal m f i at deals folio right (own (Right folio right) (1, omega arith, refl)) is)
act_older journal m f i at a (Exchange folio recede rise) deals own is =
    let both = or_parts (not (lives at folio recede)) (not (lives at folio rise)) is in
    All-cons (λ r. r.receipt < i) recede (rise ∷ [])
    (live_older journal m f i at deals folio recede (own (Right folio recede) (0, omega arith, refl)) both.0)
    (one_named i rise (live_older journal m f i at deals folio rise (own (Right folio rise) (1, omega arith, refl)) both.1))
act_older journal m f i at a (Exercise folio behind spec) deals own is =
    one_named i behind (live_older journal m f i at deals folio behind (own (Right folio behind) (1, omega arith, refl)) is)

acts_older : (journal : List Receipt) (m : ℕ) (f : Filing) (i : ℕ) (at : Key → List Entry) (a : ℕ) (acts : List Act) → Deals journal m f i at
    → ((k : Key) → Contains (keys_of_acts journal m a acts) k → Contains (keys_of_filing journal m) k) → AllByRecursion (λ act. lacks_right at act ≡ false) acts
    → AllByRecursion (NamesEarlier i) acts
acts_older journal m f i at a [] deals own live = tt
acts_older journal m f i at a (act ∷ acts) deals own live = (
  act_older journal m f i at a act deals
      (λ k there. own k (Contains-append_left (keys_of_act journal m a act) (keys_of_acts journal m (a + 1) acts) k there)) live.0,
  acts_older journal m f i at (a + 1) acts deals
      (λ k there. own k (Contains-append_right (keys_of_act journal m a act) (keys_of_acts journal m (a + 1) acts) k there)) live.1,
)

-- an act has a key
first_key : (journal : List Receipt) (m a : ℕ) (act : Act) → (k : Key) × Contains (keys_of_act journal m a act) k
first_key journal m a (Open folio inventory owners) = (Title folio, (0, omega arith, refl))
first_key journal m a (Transfer folio owners) = (Title folio, (0, omega arith, refl))
first_key journal m a (Create folio spec reserve) = (Title folio, (0, omega arith, refl))
first_key journal m a (NoticeFor folio spec) = (Title folio, (0, omega arith, refl))
first_key journal m a (Convert folio right) = (Title folio, (0, omega arith, refl))
first_key journal m a (Assign folio right holder) = (Right folio right, (0, omega arith, refl))
first_key journal m a (Cancel folio right) = (Title folio, (0, omega arith, refl))
first_key journal m a (Exchange folio recede rise) = (Right folio recede, (0, omega arith, refl))
first_key journal m a (Exercise folio behind spec) = (Title folio, (0, omega arith, refl))

-- what follows from any key of some acts holds of all of them, since each act has a key
by_some_key : (P : Act → Type 0) (journal : List Receipt) (m a : ℕ) (acts : List Act)
    → ((k : Key) → Contains (keys_of_acts journal m a acts) k → AllByRecursion P acts) → AllByRecursion P acts
by_some_key P journal m a [] all = tt
by_some_key P journal m a (act ∷ acts) all =
    let first = first_key journal m a act in
    all first.0 (Contains-append_left (keys_of_act journal m a act) (keys_of_acts journal m (a + 1) acts) first.0 first.1)

acts_are : (journal : List Receipt) (m : ℕ) (f : Filing) → filing_at journal m ≡ Some f → acts_of journal m ≡ f.acts
acts_are journal m f is = ap (λ o. option_map_or (λ g. g.acts) o []) is

-- a filing that waits names rights of earlier filings
waiting_earlier : (journal : List Receipt) (m : ℕ) (f : Filing) (i : ℕ) (at : Key → List Entry) → Deals journal m f i at
    → ((k : Key) → Contains (keys_of_filing journal m) k → IsTrue (is_pending m (at k))) → AllByRecursion (NamesEarlier m) f.acts
waiting_earlier journal m f i at deals waits =
    by_some_key (NamesEarlier m) journal m 1 f.acts (λ k in_acts.
    let there : Contains (keys_of_filing journal m) k = subst (λ keys. Contains keys k) (sym (keys_are journal m f deals.filing)) in_acts in
    subst (AllByRecursion (NamesEarlier m)) (acts_are journal m f deals.filing)
    (recursion_from_All (NamesEarlier m) (acts_of journal m) (deals.kept.pending_everywhere.names_earlier m k there (waits k there))))

names_earlier : (journal : List Receipt) (m : ℕ) (f : Filing) (i : ℕ) (at : Key → List Entry) → Deals journal m f i at → AllByRecursion (λ act. lacks_right at act ≡ false) f.acts
    → Turn journal m i at → AllByRecursion (NamesEarlier m) f.acts
names_earlier journal m f i at deals live (is_it same) =
    subst (λ n. AllByRecursion (NamesEarlier n) f.acts) (sym same)
    (acts_older journal m f i at 1 f.acts deals (λ k there. subst (λ keys. Contains keys k) (sym (keys_are journal m f deals.filing)) there) live)
names_earlier journal m f i at deals live (finds less waits) = waiting_earlier journal m f i at deals waits

-- ---- together

pub is_fit : (journal : List Receipt) (m : ℕ) (f : Filing) (i : ℕ) (docs : List Doc) (at : Key → List Entry) → Deals journal m f i at → rejection journal m f docs at ≡ None → IsFit journal m f at
is_fit journal m f i docs at deals none =
    let tested = none_passes (is_rejected_under journal m f docs at) grounds none in
    let live = no_act (lacks_right at) f.acts tested.1.1.1.0 in
    record {
      live = live;
      plain = no_act (exchanges_unfit_right journal at) f.acts tested.1.1.1.1.1.0;
      reserved = no_act (lacks_reservation at) f.acts tested.1.1.1.1.1.1.0;
      few = few_from journal m 1 f.acts (not_any (λ (numbered : ℕ × Act). is_beyond_limit journal m numbered.0) (enumerate_from 1 f.acts) tested.1.0);
      earlier = names_earlier journal m f i at deals live deals.turn;
    }
