-- The official notice of a filing, by how many entries stand before it.
use Rattle.std.proofs.Common.{◌≡◌, ℕ, zero, suc, [], ◌∷◌, get_or, ◌+◌, ◌<◌, Bool, true, false, cond, if◌then◌else◌, List, Option, Some, None, drop, find, is_some, length, option_map, position, slice_get, take, nat_lt, refl, sym, ap, ◌∙◌, arith}
use Rattle.std.specs.List.{position_or_len}
use Rattle.std.proofs.lemmas.Bool.Decides.{nat_tests}
use Rattle.folio_sections.specs.Waiting.{after_notice, before_notice, is_notice_of, is_pending, notice}
use Rattle.folio_sections.specs.declared.entries.Entry.{Entry}
use Rattle.folio_sections.proofs.Indexes.{find-none, find-position, is_some-find, is_some-position, position-at}

-- how many entries stand before the notice, where it stands
abbrev pub ahead_of : ℕ → List Entry → Option ℕ
ahead_of m xs = if is_pending m xs then position (λ e. is_notice_of m e.what) xs else None

-- it stands there
pub record StandsAt (m : ℕ) (xs : List Entry) (i : ℕ) : Type 0 where
  pub within : i < length xs
  pub day : notice m xs ≡ option_map (λ e. e.day) (slice_get xs i)
  pub some : is_some (notice m xs) ≡ true
  pub before : before_notice m xs ≡ take i xs
  pub after : after_notice m xs ≡ drop (i + 1) xs

is_some-day : (o : Option Entry) → is_some (option_map (λ e. e.day) o) ≡ is_some o
is_some-day (Some e) = refl
is_some-day None = refl

within_is : {X : Type 0} (p : X → Bool) (xs : List X) (i : ℕ) → position p xs ≡ Some i → i < length xs
within_is p xs i at =
    elim (nat_lt (position_or_len p xs) (length xs)) as (λ b. nat_lt (position_or_len p xs) (length xs) ≡ b → cond b (Some (position_or_len p xs)) None ≡ Some i → i < length xs) [
      | true ↦ λ less is. let same : position_or_len p xs ≡ i = cc in grind (arith, nat_tests, less, same)
      | false ↦ λ more is. cc
    ] refl at

pub stands : (m : ℕ) (xs : List Entry) (i : ℕ) → ahead_of m xs ≡ Some i → StandsAt m xs i
stands m xs i is =
    let here : Entry → Bool = λ e. is_notice_of m e.what in
    elim (is_pending m xs) as (λ b. is_pending m xs ≡ b → cond b (position here xs) None ≡ Some i → StandsAt m xs i) [
      | true ↦ λ waits at.
          let found : notice m xs ≡ option_map (λ e. e.day) (find here xs) = ap (λ b. cond b (option_map (λ e. e.day) (find here xs)) None) waits in
          record {
            within = within_is here xs i at;
            day = found ∙ ap (option_map (λ e. e.day)) (find-position here xs i at);
            some = ap is_some found ∙ is_some-day (find here xs) ∙ is_some-find here xs ∙ sym (is_some-position here xs) ∙ ap is_some at;
            before = ap (λ n. take n xs) (position-at here xs i at);
            after = ap (λ n. drop (n + 1) xs) (position-at here xs i at);
          }
      | false ↦ λ ended none. cc
    ] refl is

there : (xs : List Entry) (i : ℕ) (d : Entry) → i < length xs → slice_get xs i ≡ Some (get_or xs i d)
there [] i d within = absurd (omega arith)
there (x ∷ xs) zero d within = refl
there (x ∷ xs) (suc i) d within = there xs i d (omega arith)

-- its day is that of the entry there
pub day_there : (m : ℕ) (xs : List Entry) (i : ℕ) (e : Entry) → ahead_of m xs ≡ Some i → e ≡ get_or xs i e → Some e.day ≡ notice m xs
day_there m xs i e at is =
    let stand = stands m xs i at in
    ap (λ d. Some d.day) is ∙ sym (ap (option_map (λ d. d.day)) (there xs i e stand.within)) ∙ sym stand.day

pub stands_not : (m : ℕ) (xs : List Entry) → ahead_of m xs ≡ None → notice m xs ≡ None
stands_not m xs is =
    let here : Entry → Bool = λ e. is_notice_of m e.what in
    elim (is_pending m xs) as (λ b. cond b (position here xs) None ≡ None → cond b (option_map (λ e. e.day) (find here xs)) None ≡ None) [
      | true ↦ λ none. ap (option_map (λ e. e.day)) (find-none here xs none)
      | false ↦ λ none. refl
    ] is
