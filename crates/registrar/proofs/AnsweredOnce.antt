-- The verdicts of the one registrar are numbered as the receipts.
use Rattle.std.proofs.Common.{◌≡◌, ℕ, zero, suc, ◌+◌, ◌&&◌, nat_le, List, [], ◌∷◌, ◌++◌, length, is_some, slice_get, refl, sym, ap, ◌∙◌, length-append, arith}
use Rattle.std.specs.List.{enumerate_from, range_with_len}
use Rattle.std.proofs.lemmas.Bool.Decides.{nat_tests}
use Rattle.std.proofs.lemmas.List.FromFn.{length-enumerate_from}
use Rattle.act_model.specs.declared.receipts.Receipt.{Receipt}
use Rattle.folio_sections.specs.Entries.{at}
use Rattle.registrar.proofs.Numbered.{none_below, numbered_from}
use Rattle.registrar.proofs.Registering.{numbered_more, registrar_is, settled_more}
use Rattle.registrar.specs.Brings.{brings}
use Rattle.registrar.specs.RegisterState.{verdict_among}
use Rattle.registrar.specs.Settling.{Settlement, registrar, settled_in_order}
use Rattle.registrar.specs.declared.verdicts.Verdict.{Verdict}

-- the verdicts on the first n items are a list of as many, numbered
record Answered (journal : List Receipt) (n : ℕ) : Type 0 where
  verdicts : List Verdict
  same : enumerate_from 1 verdicts ≡ (settled_in_order journal (range_with_len 1 n)).verdicts
  count : length verdicts ≡ n

answered : (journal : List Receipt) (n : ℕ) → Answered journal n
answered journal zero = record { verdicts = []; same = refl; count = refl }
answered journal (suc n) =
    let before = answered journal n in
    let settled = settled_in_order journal (range_with_len 1 n) in
    let verdict = (brings journal (n + 1) (at settled.entries)).verdict in
    let number : 1 + length before.verdicts ≡ n + 1 = let count = before.count in omega arith in
    let end : n + 1 ≡ suc n = omega arith in
    record {
      verdicts = before.verdicts ++ verdict ∷ [];
      same = numbered_more 1 before.verdicts verdict ∙ ap (λ m. enumerate_from 1 before.verdicts ++ (m, verdict) ∷ []) number ∙ ap (λ ps. ps ++ (n + 1, verdict) ∷ []) before.same
          ∙ ap (λ (s : Settlement). s.verdicts) (sym (settled_more journal n)) ∙ ap (λ m. (settled_in_order journal (range_with_len 1 m)).verdicts) end;
      count = length-append before.verdicts (verdict ∷ []) ∙ ap (λ m. m + 1) before.count ∙ end;
    }

all_answered : (journal : List Receipt) → Answered journal (length journal)
all_answered journal = answered journal (length journal)

are_those : (journal : List Receipt) → enumerate_from 1 (all_answered journal).verdicts ≡ (registrar journal).verdicts
are_those journal = (all_answered journal).same ∙ ap (λ (s : Settlement). s.verdicts) (registrar_is journal)

pub as_many : (journal : List Receipt) → length (registrar journal).verdicts ≡ length journal
as_many journal =
    let all = all_answered journal in
    ap length (sym (are_those journal)) ∙ length-enumerate_from 1 all.verdicts ∙ all.count

-- ---- which numbers there are

got : (vs : List Verdict) (k : ℕ) → is_some (slice_get vs k) ≡ nat_le (k + 1) (length vs)
got [] k = grind (arith, nat_tests)
got (v ∷ vs) zero = grind (arith, nat_tests)
got (v ∷ vs) (suc k) = got vs k ∙ (grind (arith, nat_tests))

numbers : (vs : List Verdict) (n : ℕ) → is_some (verdict_among (enumerate_from 1 vs) n) ≡ (nat_le 1 n && nat_le n (length vs))
numbers vs zero = ap is_some (none_below vs 1 0 (omega arith))
numbers vs (suc n) =
    let next : suc n ≡ 1 + n = omega arith in
    ap (λ m. is_some (verdict_among (enumerate_from 1 vs) m)) next ∙ ap is_some (numbered_from vs 1 n) ∙ got vs n ∙ grind (arith, nat_tests)

pub just_the_numbers : (journal : List Receipt) (n : ℕ) → is_some (verdict_among (registrar journal).verdicts n) ≡ (nat_le 1 n && nat_le n (length journal))
just_the_numbers journal n =
    let all = all_answered journal in
    ap (λ vs. is_some (verdict_among vs n)) (sym (are_those journal)) ∙ numbers all.verdicts n ∙ ap (λ count. nat_le 1 n && nat_le n count) all.count
