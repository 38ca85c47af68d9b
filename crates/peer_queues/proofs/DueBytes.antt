-- How many bytes of a peer the office is to be given.
use Rattle.std.proofs.Common.{◌≡◌, ℕ, ◌+◌, inl, inr, Bool, true, false, List, [], ◌∷◌, length, drop, arith, refl, sym, drop-drop}
use Rattle.registry_http.specs.Framing.{IsRefusal, IsWhole}
use Rattle.registry_http.specs.Requests.{WantsMore}
use Rattle.peer_queues.specs.Inboxes.{IsDue}

no_bytes : (kept : List ℕ) → length kept ≡ 0 → kept ≡ []
no_bytes [] none = refl
no_bytes (b ∷ kept) none = absurd (omega (arith, none))

-- one whole request
pub due_whole : (kept : List ℕ) (ended : Bool) (size : ℕ) → IsWhole kept size → IsDue kept ended size
due_whole kept ended size whole = record {
  within = whole.within;
  none = λ none. absurd (omega (arith, none, whole.some));
  some = λ some. inl whole;
}

-- all bytes, which are refused
pub due_refused : (kept : List ℕ) (ended : Bool) (size : ℕ) → size ≡ length kept → IsRefusal kept → IsDue kept ended size
due_refused kept ended size all refusal = record {
  within = omega (arith, all);
  none = λ none. inl (no_bytes kept (omega (arith, all, none)));
  some = λ some. inr (all, inl refusal);
}

-- all bytes, behind which no more come
pub due_ended : (kept : List ℕ) (ended : Bool) (size : ℕ) → size ≡ length kept → ended ≡ true → WantsMore kept → IsDue kept ended size
due_ended kept ended size all end wants = record {
  within = omega (arith, all);
  none = λ none. inl (no_bytes kept (omega (arith, all, none)));
  some = λ some. inr (all, inr (wants, end));
}

-- none yet
pub due_later : (kept : List ℕ) (ended : Bool) → ended ≡ false → WantsMore kept → IsDue kept ended 0
due_later kept ended more wants = record {
  within = omega arith;
  none = λ none. inr (wants, more);
  some = λ some. absurd (omega (arith, some));
}

-- what is left behind the bytes that were given, once more are
pub given_more : (given count : ℕ) (bytes : List ℕ) → drop (given + count) bytes ≡ drop count (drop given bytes)
given_more given count bytes = sym (drop-drop count given bytes)
