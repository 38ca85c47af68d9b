-- What a word of a known form is to the grammar and to `clap`.
use Rattle.std.proofs.Common.{◌≡◌, ◌⊎◌, ◌==◌, refl, Bool, true, false, [], ◌∷◌, Option, Some, None, inl, inr}
use Rattle.std.specs.List.{list_any, before_first, after_first}
use Rattle.std.specs.Str.{bytes_eq}
use Rattle.clap.specs.Lexer.{long_of, short_of}
use Rattle.clap.specs.Walk.{Text}
use Rattle.command_words.specs.Words.{form_of, bare, is_equals, option_form}
use Rattle.command_words.specs.inner.Parsing.{is_formed}

-- no hyphen begins the word
pub record IsBare (word : Text) : Type 0 where
  pub form : form_of word ≡ bare word
  pub long : long_of word ≡ None
  pub short : short_of word ≡ None
  pub no_end : bytes_eq word (45 ∷ 45 ∷ []) ≡ false

-- the word has a long name
pub record IsLong (word : Text) : Type 0 where
  pub name : Text
  pub value : Option Text
  pub form : form_of word ≡ option_form name value
  pub long : long_of word ≡ Some (name, value)
  pub no_end : bytes_eq word (45 ∷ 45 ∷ []) ≡ false

pub by_form : (word : Text) → is_formed word ≡ true → IsBare word ⊎ IsLong word
by_form [] h = inl (record { form = refl; long = refl; short = refl; no_end = refl })
by_form (b ∷ []) h = go (b == 45) refl
  where
    go : (t : Bool) → (b == 45) ≡ t → IsBare (b ∷ []) ⊎ IsLong (b ∷ [])
    go true e = let bad : false ≡ true = rw e at h in absurd (cc)
    go false e = inl (record { form = rw e refl; long = rw e refl; short = rw e refl; no_end = rw e refl })
by_form (b ∷ c ∷ []) h = go (b == 45) refl
  where
    go : (t : Bool) → (b == 45) ≡ t → IsBare (b ∷ c ∷ []) ⊎ IsLong (b ∷ c ∷ [])
    go true e = let bad : false ≡ true = rw e at h in absurd (cc)
    go false e = inl (record { form = rw e refl; long = rw e refl; short = rw e refl; no_end = rw e refl })
by_form (b ∷ c ∷ x ∷ xs) h = go (b == 45) (c == 45) refl refl
  where
    long_here : (t : Bool) → list_any is_equals (x ∷ xs) ≡ t → (b == 45) ≡ true → (c == 45) ≡ true → IsLong (b ∷ c ∷ x ∷ xs)
    long_here true t e d = record {
      name = before_first is_equals (x ∷ xs);
      value = Some (after_first is_equals (x ∷ xs));
      form = rw (e, d, t) refl;
      long = rw (e, d, t) refl;
      no_end = rw (e, d) refl;
    }
    long_here false t e d = record {
      name = before_first is_equals (x ∷ xs);
      value = None;
      form = rw (e, d, t) refl;
      long = rw (e, d, t) refl;
      no_end = rw (e, d) refl;
    }

    go : (t u : Bool) → (b == 45) ≡ t → (c == 45) ≡ u → IsBare (b ∷ c ∷ x ∷ xs) ⊎ IsLong (b ∷ c ∷ x ∷ xs)
    go true true e d = inr (long_here (list_any is_equals (x ∷ xs)) refl e d)
    go true false e d = let bad : false ≡ true = rw (e, d) at h in absurd (cc)
    go false u e d = inl (record { form = rw e refl; long = rw e refl; short = rw e refl; no_end = rw e refl })
