-- A file has one standing as a journal's file.
use Rattle.std.proofs.Common.{◌≡◌, ◌⊎◌, inl, inr, ⊎_elim, ℕ, ◌<◌, List, [], ◌∷◌, ◌++◌, All, refl, sym, ◌∙◌, ap, subst, append-nil, append_assoc}
use Rattle.std.proofs.lemmas.List.{append_cancel_left, map-append}
use Rattle.std.proofs.lemmas.List.Elements.{All-push}
use Rattle.act_model.specs.declared.receipts.Receipt.{Receipt}
use Rattle.act_codec.specs.Spelling.{spelling}
use Rattle.act_codec.specs.Values.{IsReceipt}
use Rattle.journal_disk.specs.Standing.{Standing}
use Rattle.journal_disk.specs.Standing as standing
use Rattle.journal_disk.specs.Layout.{the_heading, StandsFor, IsBad, IsForeign, HasStanding}
use Rattle.journal_disk.proofs.Existence as files
use Rattle.journal_disk.proofs.Keeping.{journal_not_unmade}
use Rattle.journal_disk.proofs.Standings.{stands_once, bad_once, stands_not_bad, foreign_stands_not, foreign_not_bad}
use Rattle.receipt_journal.specs.Standing.{records, gate_after, IsKeepable, HasBookStanding, StandsForJournal, IsNoRecord, HasFrameBehind, IsBadBehind}
use Rattle.receipt_journal.proofs.Fronts.{IsEnd, end_nil, end_none, none_keepable, ended_once}

-- a file stands for the journal that its frames keep, and its frames keep the journal that it stands for
pub stands_by_frames : (file : List ℕ) (journal : List Receipt) → IsKeepable journal → StandsFor the_heading file (records journal) → StandsForJournal file journal
stands_by_frames file [] is (inl none) = inl (none.0, refl)
stands_by_frames file (r ∷ rs) is (inl none) = let nothing = none.1 in absurd cc
stands_by_frames file journal is (inr has) = inr (is, has)

pub kept_frames : (file : List ℕ) (journal : List Receipt) → StandsForJournal file journal → IsKeepable journal × StandsFor the_heading file (records journal)
kept_frames file journal (inl none) = (subst IsKeepable (sym none.1) none_keepable, inl (none.0, ap records none.1))
kept_frames file journal (inr has) = (has.0, inr has.1)

-- the file is read as these frames, and a closed gate or a bad one follows
abbrev IsRead : List ℕ → List (List ℕ) → Type 0
IsRead file bodies = StandsFor the_heading file bodies ⊎ IsBad the_heading file bodies

read_once : (file : List ℕ) (a b : List (List ℕ)) → IsRead file a → IsRead file b → a ≡ b
read_once file a b (inl x) (inl y) = stands_once file a b x y
read_once file a b (inl x) (inr y) = absurd (stands_not_bad file a b x y)
read_once file a b (inr x) (inl y) = absurd (stands_not_bad file b a y x)
read_once file a b (inr x) (inr y) = bad_once file a b x y

-- a journal's frames are read, and what follows them ends it
record EndsIn (file : List ℕ) (journal : List Receipt) : Type 0 where
  pub tail : List (List ℕ)
  pub keepable : IsKeepable journal
  pub read : IsRead file (records journal ++ tail)
  pub ends : IsEnd journal tail
  pub bad : StandsFor the_heading file (records journal) → ⊥

ended : (file : List ℕ) (journal : List Receipt) → IsBadBehind file journal → EndsIn file journal
ended file journal is = ⊎_elim (λ next. behind next.0 next.1 next.2) at_end is.bad
  where
    behind : (body : List ℕ) → HasFrameBehind file (records journal) body → IsNoRecord journal body → EndsIn file journal
    behind body frame none = record {
      tail = body ∷ frame.rest;
      keepable = is.keepable;
      read = frame.frames;
      ends = end_none journal body frame.rest none;
      bad = λ stands.
          let same : records journal ++ [] ≡ records journal ++ body ∷ frame.rest = append-nil (records journal) ∙ read_once file (records journal) (records journal ++ body ∷ frame.rest) (inl stands) frame.frames in
          let nothing : [] ≡ body ∷ frame.rest = append_cancel_left (records journal) [] (body ∷ frame.rest) same in
          cc;
    }

    at_end : IsBad the_heading file (records journal) → EndsIn file journal
    at_end bad = record {
      tail = [];
      keepable = is.keepable;
      read = inr (subst (IsBad the_heading file) (sym (append-nil (records journal))) bad);
      ends = end_nil journal;
      bad = λ stands. stands_not_bad file (records journal) (records journal) stands bad;
    }

pub journal_once : (file : List ℕ) (a b : List Receipt) → StandsForJournal file a → StandsForJournal file b → a ≡ b
journal_once file a b is_a is_b =
    let keeps_a = kept_frames file a is_a in
    let keeps_b = kept_frames file b is_b in
    let same : records a ≡ records b = stands_once file (records a) (records b) keeps_a.1 keeps_b.1 in
    ended_once a b [] [] keeps_a.0 keeps_b.0 (end_nil a) (end_nil b) (ap (λ (l : List (List ℕ)). l ++ []) same)

pub bad_behind_once : (file : List ℕ) (a b : List Receipt) → IsBadBehind file a → IsBadBehind file b → a ≡ b
bad_behind_once file a b is_a is_b =
    let at = ended file a is_a in
    let bt = ended file b is_b in
    ended_once a b at.tail bt.tail at.keepable bt.keepable at.ends bt.ends (read_once file (records a ++ at.tail) (records b ++ bt.tail) at.read bt.read)

pub not_both : (file : List ℕ) (a b : List Receipt) → StandsForJournal file a → IsBadBehind file b → ⊥
not_both file a b is_a is_b =
    let keeps = kept_frames file a is_a in
    let bt = ended file b is_b in
    let same : records a ++ [] ≡ records b ++ bt.tail = append-nil (records a) ∙ read_once file (records a) (records b ++ bt.tail) (inl keeps.1) bt.read in
    let one : a ≡ b = ended_once a b [] bt.tail keeps.0 bt.keepable (end_nil a) bt.ends same in
    bt.bad (subst (λ (l : List Receipt). StandsFor the_heading file (records l)) one keeps.1)

pub foreign_no_journal : (file : List ℕ) (a : List Receipt) → IsForeign the_heading file → StandsForJournal file a → ⊥
foreign_no_journal file a foreign is = foreign_stands_not file (records a) foreign (kept_frames file a is).1

pub foreign_not_behind : (file : List ℕ) (a : List Receipt) → IsForeign the_heading file → IsBadBehind file a → ⊥
foreign_not_behind file a foreign is =
    let at = ended file a is in
    ⊎_elim (λ stands. foreign_stands_not file _ foreign stands) (λ bad. foreign_not_bad file _ foreign bad) at.read

pub standing_once : (file : List ℕ) (a b : Standing (List Receipt)) → HasBookStanding file a → HasBookStanding file b → a ≡ b
standing_once file standing.Unmade standing.Unmade is_a is_b = refl
standing_once file standing.Unmade standing.Foreign is_a is_b = absurd (is_b.not_unmade is_a)
standing_once file standing.Unmade (standing.Bad at) is_a is_b = absurd (not_both file [] is_b.0 (inl (is_a, refl)) is_b.1)
standing_once file standing.Unmade (standing.Journal b) is_a is_b = absurd (journal_not_unmade file (records b) is_b.1 is_a)
standing_once file standing.Foreign standing.Unmade is_a is_b = absurd (is_a.not_unmade is_b)
standing_once file standing.Foreign standing.Foreign is_a is_b = refl
standing_once file standing.Foreign (standing.Bad at) is_a is_b = absurd (foreign_not_behind file is_b.0 is_a is_b.1)
standing_once file standing.Foreign (standing.Journal b) is_a is_b = absurd (foreign_no_journal file b is_a (inr is_b))
standing_once file (standing.Bad at) standing.Unmade is_a is_b = absurd (not_both file [] is_a.0 (inl (is_b, refl)) is_a.1)
standing_once file (standing.Bad at) standing.Foreign is_a is_b = absurd (foreign_not_behind file is_a.0 is_b is_a.1)
standing_once file (standing.Bad at) (standing.Bad at') is_a is_b =
    ap (λ n. standing.Bad n) (is_a.2 ∙ ap gate_after (bad_behind_once file is_a.0 is_b.0 is_a.1 is_b.1) ∙ sym is_b.2)
standing_once file (standing.Bad at) (standing.Journal b) is_a is_b = absurd (not_both file b is_a.0 (inr is_b) is_a.1)
standing_once file (standing.Journal a) standing.Unmade is_a is_b = absurd (journal_not_unmade file (records a) is_a.1 is_b)
standing_once file (standing.Journal a) standing.Foreign is_a is_b = absurd (foreign_no_journal file a is_b (inr is_a))
standing_once file (standing.Journal a) (standing.Bad at) is_a is_b = absurd (not_both file a is_b.0 (inr is_a) is_b.1)
standing_once file (standing.Journal a) (standing.Journal b) is_a is_b = ap (λ (l : List Receipt). standing.Journal l) (journal_once file a b (inr is_a) (inr is_b))

-- No file is without a standing. After a journal that the first frames keep, the next frame is the record of one receipt more, or the file is bad there.
ends_somewhere : (file : List ℕ) (journal : List Receipt) (bodies : List (List ℕ)) → IsKeepable journal → IsRead file (records journal ++ bodies)
    → ((s : Standing (List Receipt)) → HasBookStanding file s → ⊥) → ⊥
ends_somewhere file journal [] is (inl stands) none =
    ⊎_elim (λ unmade. none standing.Unmade unmade.0) (λ has. none (standing.Journal journal) (is, has)) (subst (StandsFor the_heading file) (append-nil (records journal)) stands)
ends_somewhere file journal [] is (inr bad) none =
    none (standing.Bad (gate_after journal)) (journal, record { keepable = is; bad = inr (subst (IsBad the_heading file) (append-nil (records journal)) bad) }, refl)
ends_somewhere file journal (body ∷ rest) is read none =
    none (standing.Bad (gate_after journal)) (
      journal,
      record {
        keepable = is;
        bad = inl (
          body,
          record { rest = rest; frames = read },
          λ r is_r spelled next.
              let one_more : records journal ++ body ∷ rest ≡ records (journal ++ r ∷ []) ++ rest =
              ap (λ (b : List ℕ). records journal ++ b ∷ rest) spelled ∙ sym (append_assoc (records journal) (spelling r ∷ []) rest) ∙ ap (λ (l : List (List ℕ)). l ++ rest) (sym (map-append spelling journal (r ∷ []))) in
              ends_somewhere file (journal ++ r ∷ []) rest (record { journal = next; spelled = All-push IsReceipt journal r is.spelled is_r }) (subst (IsRead file) one_more read) none,
        );
      },
      refl,
    )

pub has_standing : (file : List ℕ) → All (λ byte. byte < 256) file → ((s : Standing (List Receipt)) → HasBookStanding file s → ⊥) → ⊥
has_standing file all none = let found = files.has_standing file all in by found.0 found.1
  where
    by : (s : Standing (List (List ℕ))) → HasStanding the_heading file s → ⊥
    by standing.Unmade has = none standing.Unmade has
    by standing.Foreign has = none standing.Foreign has
    by (standing.Bad at) has = ends_somewhere file [] has.0 none_keepable (inr has.1) none
    by (standing.Journal bodies) has = ends_somewhere file [] bodies none_keepable (inl (inr has)) none
