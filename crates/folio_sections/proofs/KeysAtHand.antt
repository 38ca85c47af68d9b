-- What is at hand stays so when a further key gets its place.
use Rattle.std.proofs.Common.{◌≡◌, ◌<◌, ℕ, ◌⊎◌, inl, inr, true, false, cond, All, IfSome, IsNone, List, Option, Some, None, is_some, length, slice_index_or, refl, sym, ap, subst, ◌∙◌}
use Rattle.std.specs.BTreeMap.{BTreeMap, Updates, get, is_at}
use Rattle.std.proofs.lemmas.Bool.{false≢true}
use Rattle.gb_base.specs.Keys.{key_cmp}
use Rattle.gb_base.specs.declared.keys.Key.{Key}
use Rattle.act_model.proofs.KeyOrder.{same_is, ties}
use Rattle.folio_sections.specs.declared.map_parts.key_index.KeyPlace.{KeyPlace}
use Rattle.folio_sections.specs.inner.KeysAtHand.{AreAtHand}

-- a key that has a place keeps it when one that has none gets its own
still_placed : (before after : BTreeMap Key ℕ) (key : Key) (place : ℕ) → get key_cmp before key ≡ None → Updates key_cmp before after key (Some place)
    → (k : Key) (n : ℕ) → get key_cmp before k ≡ Some n → get key_cmp after k ≡ Some n
still_placed before after key place absent updates k n has =
    elim (is_at (key_cmp key) k) as (λ b. is_at (key_cmp key) k ≡ b → get key_cmp after k ≡ cond b (Some place) (get key_cmp before k) → get key_cmp after k ≡ Some n) [
      | true ↦ λ here _.
          let same : key ≡ k = same_is key k (ties key k ∙ here) in
          absurd (false≢true (sym (ap is_some absent) ∙ ap is_some (ap (λ q. get key_cmp before q) same ∙ has)))
      | false ↦ λ _ is. is ∙ has
    ] refl (updates.0 k)

kept : (before after : BTreeMap Key ℕ) (key : Key) (place : ℕ) → get key_cmp before key ≡ None → Updates key_cmp before after key (Some place)
    → (slot : Option KeyPlace) → IfSome slot (λ p. get key_cmp before p.key ≡ Some p.place) → IfSome slot (λ p. get key_cmp after p.key ≡ Some p.place)
kept before after key place absent updates None is = tt
kept before after key place absent updates (Some p) is = still_placed before after key place absent updates p.key p.place is

empty : (places : BTreeMap Key ℕ) (slot : Option KeyPlace) → IsNone slot → IfSome slot (λ p. get key_cmp places p.key ≡ Some p.place)
empty places None is = tt
empty places (Some p) is = absurd (false≢true (sym is))

pub still_at_hand : (before after : BTreeMap Key ℕ) (key : Key) (place : ℕ) (old new : List (Option KeyPlace)) → get key_cmp before key ≡ None → Updates key_cmp before after key (Some place)
    → AreAtHand before old → (new ≡ old) ⊎ All IsNone new → AreAtHand after new
still_at_hand before after key place old new absent updates at_hand (inl same) = λ k d below.
    kept before after key place absent updates (slice_index_or new k d)
    (subst (λ slots. IfSome (slice_index_or slots k d) (λ (p : KeyPlace). get key_cmp before p.key ≡ Some p.place)) (sym same) (at_hand k d (subst (λ slots. k < length slots) same below)))
still_at_hand before after key place old new absent updates at_hand (inr none) = λ k d below. empty after (slice_index_or new k d) (none k d below)
