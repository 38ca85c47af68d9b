-- The lists beside the entries go on with one entry more.
use Rattle.std.proofs.Common.{◌≡◌, ℕ, ◌+◌, ◌<◌, Bool, true, false, if◌then◌else◌, List, [], ◌∷◌, ◌++◌, Some, None, All, length, sym, ap, subst, ◌∙◌, arith}
use Rattle.std.specs.List.{AllByRecursion}
use Rattle.std.specs.Option.{option_or}
use Rattle.std.proofs.lemmas.List.Elements.{All-append, All-cons, All-nil}
use Rattle.std.proofs.lemmas.List.Sums.{fold-append}
use Rattle.gb_base.specs.declared.keys.Key.{Key}
use Rattle.folio_sections.specs.Waiting.{is_notice_of, until_by}
use Rattle.folio_sections.specs.declared.entries.Entry.{Entry}
use Rattle.folio_sections.specs.declared.waiters.Waiters.{Waiters}
use Rattle.folio_sections.specs.inner.FilingLists.{value_in}
use Rattle.folio_sections.specs.inner.Listed.{GoWith}
use Rattle.folio_sections.specs.inner.Naming.{Rises}
use Rattle.folio_sections.specs.inner.Waiters.{AreInOrder, FewEnded, SayAs, until_in}
use Rattle.folio_sections.proofs.Indexes.{position_push}
use Rattle.folio_sections.proofs.Naming.{below_more, below_push, length_push, rises_push}

-- what the waiters say, as the entries say it with one more
say_push : (before after : Waiters) (xs : List Entry) (e : Entry) → SayAs before.until.items before.notices.items xs
    → ((m : ℕ) → until_in m after.until.items ≡ until_by m (until_in m before.until.items) e.what)
    → ((m : ℕ) → value_in m after.notices.items ≡ option_or (value_in m before.notices.items) (if is_notice_of m e.what then Some (length xs) else None))
    → SayAs after.until.items after.notices.items (xs ++ e ∷ [])
say_push before after xs e say until notice = record {
  waits = λ m. until m ∙ ap (λ o. until_by m o e.what) (say.waits m) ∙ sym (fold-append (λ o f. until_by m o f.what) None xs (e ∷ []));
  noticed = λ m. notice m ∙ ap (λ o. option_or o (if is_notice_of m e.what then Some (length xs) else None)) (say.noticed m) ∙ sym (position_push (λ f. is_notice_of m f.what) xs e);
}

own_push : (xs : List Entry) (e : Entry) (key : Key) → All (λ f. f.key ≡ key) xs → e.key ≡ key → All (λ f. f.key ≡ key) (xs ++ e ∷ [])
own_push xs e key own is = All-append (λ f. f.key ≡ key) xs (e ∷ []) own (All-cons (λ f. f.key ≡ key) e [] is (All-nil (λ f. f.key ≡ key)))

rise_push : (b : ℕ) (ns : List ℕ) (names : Bool) → Rises 0 ns → AllByRecursion (λ n. n < b) ns → Rises 0 (if names then ns ++ b ∷ [] else ns)
rise_push b ns true up below = rises_push 0 b ns up below (omega arith)
rise_push b ns false up below = up

among_push : (b : ℕ) (ns : List ℕ) (names : Bool) → AllByRecursion (λ n. n < b) ns → AllByRecursion (λ n. n < b + 1) (if names then ns ++ b ∷ [] else ns)
among_push b ns true below = below_push b ns below
among_push b ns false below = below_more b ns below

pub goes_on : (key : Key) (xs : List Entry) (e : Entry) (before after : Waiters) (ns ns' : List ℕ) (names : Bool)
    → GoWith key xs before ns → e.key ≡ key → AreInOrder after → FewEnded after.until.items after.ended
    → ((m : ℕ) → until_in m after.until.items ≡ until_by m (until_in m before.until.items) e.what)
    → (b : ℕ) → b ≡ length xs
    → ((m : ℕ) → value_in m after.notices.items ≡ option_or (value_in m before.notices.items) (if is_notice_of m e.what then Some b else None))
    → ns' ≡ (if names then ns ++ b ∷ [] else ns)
    → GoWith key (xs ++ e ∷ []) after ns'
goes_on key xs e before after ns ns' names go own order few until b len noticed naming =
    let notice : (m : ℕ) → value_in m after.notices.items ≡ option_or (value_in m before.notices.items) (if is_notice_of m e.what then Some (length xs) else None) =
    λ m. noticed m ∙ ap (λ n. option_or (value_in m before.notices.items) (if is_notice_of m e.what then Some n else None)) len in
    let named : ns' ≡ (if names then ns ++ length xs ∷ [] else ns) = naming ∙ ap (λ n. if names then ns ++ n ∷ [] else ns) len in
    record {
      own = own_push xs e key go.own own;
      order = order;
      few = few;
      say = say_push before after xs e go.say until notice;
      rise = subst (Rises 0) (sym named) (rise_push (length xs) ns names go.rise go.among);
      among = subst (λ b. AllByRecursion (λ n. n < b) ns') (sym (length_push xs e))
          (subst (AllByRecursion (λ n. n < length xs + 1)) (sym named) (among_push (length xs) ns names go.among));
    }
