-- How far the generated journal has come.
use Rattle.std.proofs.Common.{◌≡◌, ℕ, suc, ◌+◌, ◌-◌, ◌<◌, ◌≤◌, List, [], ◌∷◌, ◌++◌, map, append_assoc, append-nil, sym, subst, ap, ◌∙◌, arith}
use Rattle.std.specs.List.{All, range_with_len}
use Rattle.std.proofs.lemmas.List.FromFn.{map-range_with_len_more}
use Rattle.std.proofs.lemmas.List.Elements.{All-cons, All-nil}
use Rattle.act_model.specs.declared.items.Item.{Item}
use Rattle.act_model.specs.declared.receipts.Receipt.{Receipt}
use Rattle.sample_journals.specs.declared.folio_notes.FolioNotes.{FolioNotes}
use Rattle.sample_journals.specs.Sample.{GeneratorState, drawn_receipts, folios_of_size, generator_after, generator_of, opening_receipt, receipt_of, sample, turn_of}
use Rattle.sample_journals.specs.SampleFilings.{opening}
use Rattle.sample_journals.specs.Turns.{first_notes}
use Rattle.sample_journals.specs.inner.FirstReceipts.{AreFirst}
use Rattle.sample_journals.specs.inner.KnownBefore.{AreBefore}

-- nothing is known of rights before the first receipt that is drawn
pub none_known : (k : ℕ) (fs : List ℕ) → All (AreBefore k) (map first_notes fs)
none_known k [] = All-nil (AreBefore k)
none_known k (f ∷ fs) = All-cons (AreBefore k) (first_notes f) (map first_notes fs) (record { newest = tt; second = tt; in_order = tt }) (none_known k fs)

-- one more folio is opened
pub opens_on :
    (n k folio : ℕ) (before after : List Receipt) (old new : List FolioNotes) (item : Item)
    → before ≡ map opening_receipt (range_with_len 1 n) → old ≡ map first_notes (range_with_len 1 n)
    → k ≡ n + 1 → folio ≡ n + 1 → item ≡ opening folio
    → after ≡ before ++ receipt_of k item ∷ [] → new ≡ old ++ first_notes folio ∷ [] → AreFirst (k + 1) after
    → (after ≡ map opening_receipt (range_with_len 1 (n + 1))) × AreFirst (n + 1 + 1) after × (new ≡ map first_notes (range_with_len 1 (n + 1)))
opens_on n k folio before after old new item so_far kept number named opens received noted first =
    let next : receipt_of k item ≡ opening_receipt (n + 1) = λ i. receipt_of (number i) ((opens ∙ ap opening named) i) in (
      received ∙ (λ i. so_far i ++ next i ∷ []) ∙ sym (map-range_with_len_more opening_receipt 1 n (n + 1) (omega arith)),
      subst (λ m. AreFirst (m + 1) after) number first,
      noted ∙ (λ i. kept i ++ first_notes (named i) ∷ []) ∙ sym (map-range_with_len_more first_notes 1 n (n + 1) (omega arith)),
    )

-- n receipts of the journal stand, and the generator draws those that are left
pub record HasDrawn (seed size n : ℕ) (receipts : List Receipt) (g : GeneratorState) : Type 0 where
  pub whole : receipts ++ drawn_receipts (size - n) (n + 1) g ≡ sample seed size
  pub first : AreFirst (n + 1) receipts
  pub known : All (AreBefore (n + 1)) g.folios

-- all folios are opened
pub opened :
    (seed size folios : ℕ) (receipts : List Receipt) (notes : List FolioNotes) (g : GeneratorState)
    → folios ≡ folios_of_size size → receipts ≡ map opening_receipt (range_with_len 1 folios) → AreFirst (folios + 1) receipts
    → notes ≡ map first_notes (range_with_len 1 folios) → g ≡ record { state = seed; folios = notes }
    → HasDrawn seed size folios receipts g
unfolding sample
opened seed size folios receipts notes g count opens first kept is =
    let begins : g ≡ generator_of seed folios = is ∙ ap (λ (ns : List FolioNotes). record { state = seed; folios = ns }) kept in
    record {
      whole =
          (λ i. opens i ++ drawn_receipts (size - folios) (folios + 1) (begins i))
          ∙ ap (λ f. map opening_receipt (range_with_len 1 f) ++ drawn_receipts (size - f) (f + 1) (generator_of seed f)) count;
      first = first;
      known = subst (λ (h : GeneratorState). All (AreBefore (folios + 1)) h.folios) (sym begins) (none_known (folios + 1) (range_with_len 1 folios));
    }

drawn_first : (size n k : ℕ) (g : GeneratorState) → n < size → drawn_receipts (size - n) k g ≡ receipt_of k (turn_of k g).item ∷ drawn_receipts (size - (n + 1)) (k + 1) (generator_after k g)
drawn_first size n k g h =
    let one_less : size - n ≡ suc (size - (n + 1)) = omega arith in
    ap (λ m. drawn_receipts m k g) one_less

-- one more receipt is drawn
pub draws_on :
    (seed size n k : ℕ) (before after : List Receipt) (g h : GeneratorState) (item : Item)
    → HasDrawn seed size n before g → n < size → k ≡ n + 1 → item ≡ (turn_of k g).item → h ≡ generator_after k g
    → All (AreBefore (k + 1)) h.folios → after ≡ before ++ receipt_of k item ∷ [] → AreFirst (k + 1) after
    → HasDrawn seed size (n + 1) after h
draws_on seed size n k before after g h item so_far more number made next known received first =
    let rest = drawn_receipts (size - (n + 1)) in
    record {
      whole =
          (λ i. received i ++ rest (sym number i + 1) (next i))
          ∙ append_assoc before (receipt_of k item ∷ []) (rest (k + 1) (generator_after k g))
          ∙ ap (λ made. before ++ receipt_of k made ∷ rest (k + 1) (generator_after k g)) made
          ∙ ap (λ rs. before ++ rs) (sym (drawn_first size n k g more))
          ∙ ap (λ m. before ++ drawn_receipts (size - n) m g) number ∙ so_far.whole;
      first = subst (λ m. AreFirst (m + 1) after) number first;
      known = subst (λ m. All (AreBefore (m + 1)) h.folios) number known;
    }

-- nothing is left to draw
pub all_drawn : (seed size n : ℕ) (receipts : List Receipt) (g : GeneratorState) → HasDrawn seed size n receipts g → size ≤ n → receipts ≡ sample seed size
all_drawn seed size n receipts g so_far none =
    let nothing : size - n ≡ 0 = omega arith in
    sym (append-nil receipts) ∙ ap (λ m. receipts ++ drawn_receipts m (n + 1) g) (sym nothing) ∙ so_far.whole
