-- A made file stays made, whatever is written behind its heading.
use Rattle.std.proofs.Common.{◌≡◌, ℕ, ◌<◌, ◌≤◌, List, [], ◌∷◌, ◌++◌, length, take, drop, refl, sym, ◌∙◌, ap, subst, arith, length-append, length-drop, take-append-drop, take-take, take_at}
use Rattle.gb_outside.specs.Images.{Torn}
use Rattle.journal_disk.specs.Layout.{the_heading, end_of, first_gate, IsJournal, IsMade, IsUnmade}
use Rattle.journal_disk.specs.Opening.{IsKept}

made_not_unmade : (file : List ℕ) → IsMade the_heading file → IsUnmade file → ⊥
made_not_unmade [] is unmade = let whole = is.whole in absurd cc
made_not_unmade (mark ∷ []) is unmade = let whole = is.whole in absurd cc
made_not_unmade (mark ∷ next ∷ rest) is unmade = let whole = is.whole in let same : mark ≡ is.mark = cc in is.made (sym same ∙ unmade)

-- a file that stands for frames is made
pub journal_not_unmade : (bodies : List (List ℕ)) (file : List ℕ) → IsJournal the_heading file bodies → IsUnmade file → ⊥
journal_not_unmade bodies [] is unmade = let whole = is.whole in absurd cc
journal_not_unmade bodies (mark ∷ []) is unmade = let whole = is.whole in absurd cc
journal_not_unmade bodies (mark ∷ next ∷ rest) is unmade = let whole = is.whole in let same : mark ≡ is.mark = cc in is.made (sym same ∙ unmade)

-- an opening keeps it
pub made_kept : (file new : List ℕ) → IsKept file new → IsMade the_heading file → IsMade the_heading new
made_kept file new kept is = subst (λ (l : List ℕ). IsMade the_heading l) (sym (kept.same (λ unmade. made_not_unmade file is unmade))) is

-- each gate is there or behind it
pub behind_first : (bodies : List (List ℕ)) (gate : ℕ) → gate ≡ end_of the_heading bodies → first_gate the_heading ≤ gate
behind_first bodies gate ends = omega (arith, ends)

-- so do writes behind the heading
pub made_torn : (file new : List ℕ) (at n : ℕ) → first_gate the_heading ≤ at → Torn at n file new → IsMade the_heading file → IsMade the_heading new
made_torn file new at n behind torn is = by (drop 9 new) refl
  where
    named : take 9 new ≡ is.mark ∷ the_heading
    named = sym (take-take 9 at new behind) ∙ ap (λ (l : List ℕ). take 9 l) torn.before ∙ take-take 9 at file behind ∙ ap (λ (l : List ℕ). take 9 l) is.whole ∙ take_at (is.mark ∷ the_heading) (is.gate ∷ is.rest) 9 refl

    long : 9 < length new
    long = omega (arith, torn.no_shorter, ap length is.whole, length-append the_heading (is.gate ∷ is.rest))

    by : (rest : List ℕ) → drop 9 new ≡ rest → IsMade the_heading new
    by [] none = absurd (omega (arith, long, ap length none, length-drop 9 new))
    by (gate ∷ rest) here = record {
      mark = is.mark;
      gate = gate;
      rest = rest;
      made = is.made;
      whole = sym (take-append-drop 9 new) ∙ ap (λ (l : List ℕ). l ++ drop 9 new) named ∙ ap (λ (l : List ℕ). (is.mark ∷ the_heading) ++ l) here;
    }
