-- The keys that are held become more, by some at most.
use Rattle.std.proofs.Common.{◌≡◌, Bool, true, false, ◌||◌, List, refl, ◌∙◌}
use Rattle.std.proofs.lemmas.Bool.{or_left}
use Rattle.gb_base.specs.declared.keys.Key.{Key}
use Rattle.folio_sections.specs.Held.{WidensBy, is_held}
use Rattle.folio_sections.specs.PartState.{PartState}

-- the same keys are held
pub held_same : (these : Key → Bool) (before after : List PartState) → ((k : Key) → is_held after k ≡ is_held before k) → WidensBy these before after
held_same these before after same = record { kept = λ k there. same k ∙ there; others = λ k other. same k }

or_no : (a b : Bool) → b ≡ false → (a || b) ≡ a
or_no true b none = refl
or_no false b none = none

-- just these are held besides
pub held_too : (these : Key → Bool) (before after : List PartState) → ((k : Key) → is_held after k ≡ (is_held before k || these k)) → WidensBy these before after
held_too these before after is = record {
  kept = λ k there. is k ∙ or_left (is_held before k) (these k) there;
  others = λ k other. is k ∙ or_no (is_held before k) (these k) other;
}

-- some of these keys are added first, and some then
pub held_then : (these first then : Key → Bool) (before between after : List PartState)
    → ((k : Key) → these k ≡ false → first k ≡ false) → ((k : Key) → these k ≡ false → then k ≡ false)
    → WidensBy first before between → WidensBy then between after → WidensBy these before after
held_then these first then before between after at_first behind wide wider = record {
  kept = λ k there. wider.kept k (wide.kept k there);
  others = λ k other. wider.others k (behind k other) ∙ wide.others k (at_first k other);
}
