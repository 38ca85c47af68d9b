-- The indexes of a journal with one receipt more, and with more room.
use Rattle.std.proofs.Common.{◌≡◌, ℕ, ◌+◌, ◌≤◌, Option, List, [], ◌∷◌, ◌++◌, filter, length, refl, sym, subst, ap, ◌∙◌, arith, le_refl, le_trans, Vec}
use Rattle.std.specs.List.{list_any}
use Rattle.std.specs.Option.{option_or}
use Rattle.std.specs.declared.cmp.Ordering.{Ordering}
use Rattle.std.specs.Ordering.{nat_cmp}
use Rattle.std.specs.BTreeMap.{BTreeMap}
use Rattle.std.proofs.lemmas.List.{length-append, take_all}
use Rattle.act_model.specs.declared.cure_documents.CureDocuments.{CureDocuments}
use Rattle.act_model.specs.declared.items.Item.{Item}
use Rattle.act_model.specs.declared.items.Item.TheVariants as item
use Rattle.act_model.specs.declared.item_indexes.ItemIndexes.{ItemIndexes}
use Rattle.act_model.specs.declared.receipts.Receipt.{Receipt}
use Rattle.act_model.specs.declared.sought.Sought.{Sought}
use Rattle.act_model.specs.declared.sought.Sought.TheVariants as sought
use Rattle.act_model.specs.Creations.{creations_of_item}
use Rattle.act_model.specs.inner.CureDocuments.{firsts_with, found_by, is_consenter, is_plain_first, key_of, AgreeTo, AreDocumentsOf, ArePlain, Finds, HasRoomForItem, KeepsDocuments, Rises}
use Rattle.act_model.specs.inner.Firsts.{first_cure}
use Rattle.act_model.specs.inner.ItemIndexes.{creations_by, cures_by, filings_by, AreIndexesOf, HaveRoomFor, IsReady, IsReadyFor, Widen}
use Rattle.act_model.specs.inner.Lists.{Adds, Widens}
use Rattle.act_model.specs.inner.Index.{pair_cmp, IsIndexOf, IsIndexed}
use Rattle.act_model.specs.Receiving.{number_of, IsJournal}
use Rattle.act_model.proofs.ConsenterLemmas.{is_known, rises_later}
use Rattle.act_model.proofs.FirstCures.{first_cure-push}
use Rattle.act_model.proofs.ItemIndexLemmas.{creations_in-push, cures_of-push, filings_of-push}

-- those who are known stay in the order of receipts after one receipt more
pub agree_later : (documents : CureDocuments) (n last : ℕ) → n ≤ last → AgreeTo n documents → AgreeTo last documents
agree_later documents n last le agree = record {
  known = agree.known;
  rise = λ m a. rises_later 0 n last _ le (agree.rise m a);
  certified = agree.certified;
}

-- the indexes after one more receipt
pub AreIndexesOf-push : (old new : ItemIndexes) (journal after : List Receipt) (r : Receipt) (n : ℕ) → after ≡ journal ++ r ∷ [] → n ≡ length journal + 1 → n ≡ length after
    → AreIndexesOf old journal → Adds nat_cmp old.cures new.cures (cures_by n r.item) → Adds nat_cmp old.creations new.creations (creations_by n r.item) → Adds nat_cmp old.filings new.filings (filings_by n r.item)
    → Finds old.documents new.documents (found_by n r.item) → AgreeTo n new.documents → ArePlain new.documents (firsts_with old.documents (found_by n r.item)) → AreIndexesOf new after
AreIndexesOf-push old new journal after r n same at count are more_cures more_creations more_filings finds agree plain =
    let then : (m : ℕ) (s : Sought) → firsts_with old.documents (found_by n r.item) m s ≡ first_cure (journal ++ r ∷ []) m s =
    λ m s. ap (λ o. option_or o (found_by n r.item (key_of m s))) (are.documents.first m s) ∙ sym (first_cure-push journal r n m s at) in
    let documents : AreDocumentsOf new.documents (journal ++ r ∷ []) = record {
      first = λ m s. finds (key_of m s) ∙ then m s;
      agree = subst (λ k. AgreeTo k new.documents) (count ∙ ap length same) agree;
      plain = subst (ArePlain new.documents) (λ i m s. then m s i) plain;
    } in
    subst (AreIndexesOf new) (sym same) (record {
      cures = λ m. more_cures m ∙ ap (λ xs. xs ++ cures_by n r.item m) (are.cures m) ∙ sym (cures_of-push journal r n m at);
      creations = λ folio. more_creations folio ∙ ap (λ xs. xs ++ creations_of_item folio n r.item) (are.creations folio) ∙ sym (creations_in-push journal r n folio at);
      filings = λ person. more_filings person ∙ ap (λ xs. xs ++ filings_by n r.item person) (are.filings person) ∙ sym (filings_of-push journal r n person at);
      documents = documents;
    })

-- wider lists say what the indexes said, and keep the room that there was
agree_kept : (old new : CureDocuments) (n : ℕ) → KeepsDocuments old new → AgreeTo n old → AgreeTo n new
agree_kept old new n keeps agree = record {
  known = λ m a p k. ap (list_any (is_consenter p k)) (keeps.consenters.listed (m, a)) ∙ agree.known m a p k ∙ ap (is_known k) (sym (keeps.first (key_of m (sought.Consent a p))));
  rise = λ m a. subst (Rises 0 n) (sym (keeps.consenters.listed (m, a))) (agree.rise m a);
  certified = λ m a p none. keeps.first _ ∙ agree.certified m a p (sym (keeps.first _) ∙ none);
}

plain_kept : (old new : CureDocuments) (firsts : ℕ → Sought → Option ℕ) → KeepsDocuments old new → ArePlain old firsts → ArePlain new firsts
plain_kept old new firsts keeps plain m a = keeps.plain_consenters.listed (m, a) ∙ plain m a ∙ ap (filter (is_plain_first firsts m a)) (sym (keeps.consenters.listed (m, a)))

AreIndexesOf-widens : (old new : ItemIndexes) (journal : List Receipt) → Widen old new → AreIndexesOf old journal → AreIndexesOf new journal
AreIndexesOf-widens old new journal wider are = record {
  cures = λ m. wider.cures.listed m ∙ are.cures m;
  creations = λ folio. wider.creations.listed folio ∙ are.creations folio;
  filings = λ person. wider.filings.listed person ∙ are.filings person;
  documents = record {
    first = λ m s. wider.documents.first (key_of m s) ∙ are.documents.first m s;
    agree = agree_kept old.documents new.documents (length journal) wider.documents are.documents.agree;
    plain = plain_kept old.documents new.documents (first_cure journal) wider.documents are.documents.plain;
  };
}

room_kept : (old new : CureDocuments) (n : ℕ) (i : Item) → KeepsDocuments old new → HasRoomForItem old n i → HasRoomForItem new n i
room_kept old new n (item.Cure m docs) keeps has = λ behind. record {
  held = λ s h. keeps.held (key_of m s) ((has behind).held s h);
  consenters = λ a. le_trans ((has behind).consenters a) (keeps.consenters.room (m, a));
  plain_consenters = λ a. le_trans ((has behind).plain_consenters a) (keeps.plain_consenters.room (m, a));
}
room_kept old new n other keeps has = tt

HaveRoomFor-widens : (old new : ItemIndexes) (n : ℕ) (i : Item) → Widen old new → HaveRoomFor old n i → HaveRoomFor new n i
HaveRoomFor-widens old new n i wider has = record {
  cures = λ m. le_trans (has.cures m) (wider.cures.room m);
  creations = λ folio. le_trans (has.creations folio) (wider.creations.room folio);
  filings = λ person. le_trans (has.filings person) (wider.filings.room person);
  documents = room_kept old.documents new.documents n i wider.documents has.documents;
}

widens_same : {K X Z : Type 0} (cmp : K → K → Ordering) (lists : BTreeMap K (Vec X Z)) → Widens cmp lists lists
widens_same cmp lists = record { listed = λ k. refl; room = λ k. le_refl _ }

pub widen_same : (indexes : ItemIndexes) → Widen indexes indexes
widen_same indexes = record {
  cures = widens_same nat_cmp indexes.cures;
  creations = widens_same nat_cmp indexes.creations;
  filings = widens_same nat_cmp indexes.filings;
  documents = record {
    first = λ k. refl;
    held = λ k h. h;
    consenters = widens_same pair_cmp indexes.documents.consenters;
    plain_consenters = widens_same pair_cmp indexes.documents.plain_consenters;
  };
}

all_indexed : (numbers : BTreeMap (ℕ × ℕ) ℕ) (n : ℕ) (journal : List Receipt) → n ≡ length journal → IsIndexOf numbers journal → IsIndexed numbers n journal
all_indexed numbers n journal at is = record {
  index = λ sender reference. is sender reference ∙ ap (number_of sender reference) (sym (take_all n journal (omega arith)));
  not_beyond = omega arith;
  nearly_all = omega arith;
}

-- once each receipt is indexed and there is more room, a journal stands as before, and is ready for what it was ready for
pub still_ready : (old new : ItemIndexes) (numbers : BTreeMap (ℕ × ℕ) ℕ) (indexed n : ℕ) (before after : List Receipt) (ready : Option Item) (count capacity same_count wider : ℕ)
    → IsJournal before → AreIndexesOf old before → IsReady ready old indexed count capacity → Widen old new → after ≡ before → IsIndexOf numbers before → n ≡ length before → n ≡ count → same_count ≡ count → capacity ≤ wider
    → IsJournal after × IsIndexed numbers n after × AreIndexesOf new after × IsReady ready new n same_count wider
still_ready old new numbers indexed n before after ready count capacity same_count wider journal are is_ready more same is at counted as_many roomier = (
  subst IsJournal (sym same) journal,
  subst (IsIndexed numbers n) (sym same) (all_indexed numbers n before at is),
  subst (AreIndexesOf new) (sym same) (AreIndexesOf-widens old new before more are),
  λ i for_it.
      let was = is_ready i for_it in
      let less = was.room_for_one in
      subst (λ k. IsReadyFor i new n k wider) (sym as_many) (record { none_waits = counted; room_for_one = omega arith; room = HaveRoomFor-widens old new (count + 1) i more was.room }),
)

pub length_behind : (journal : List Receipt) (r : Receipt) (after : List Receipt) → after ≡ journal ++ r ∷ [] → length journal + 1 ≡ length after
length_behind journal r after is = sym (ap length is ∙ length-append journal (r ∷ []))
