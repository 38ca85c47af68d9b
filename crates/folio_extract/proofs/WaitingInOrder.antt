-- The filings that wait, made from two maps over their numbers.
use Rattle.std.proofs.Common.{◌≡◌, ℕ, ◌<◌, true, false, cond, List, [], ◌∷◌, map, Option, Some, None, filter_map, find, fold, is_some, option_map, refl, sym, ap, ◌∙◌, arith}
use Rattle.std.specs.BTreeMap.{BTreeMap, get, IsOrdered}
use Rattle.std.specs.List.{range_with_len}
use Rattle.std.specs.Ordering.{nat_cmp}
use Rattle.folio_sections.specs.HeldRights.{last_number, receipt_numbers}
use Rattle.folio_sections.specs.Waiting.{is_notice_of, notice, pending}
use Rattle.folio_sections.specs.declared.entries.Entry.{Entry}
use Rattle.folio_sections.proofs.ReceiptNumbers.{numbers_are}
use Rattle.folio_extract.specs.WaitingFilings.{waiting_at, waiting_filings}
use Rattle.folio_extract.specs.inner.Waits.{AreReceipts, first_notice, notice_by, with_notice}
use Rattle.folio_extract.proofs.MapInOrder.{in_order, rises_from_one}

-- ---- the first notice

first_stays : (n day : ℕ) (es : List Entry) → fold (notice_by n) (Some day) es ≡ Some day
first_stays n day [] = refl
first_stays n day (e ∷ es) = first_stays n day es

first_is_found : (n : ℕ) (es : List Entry) → first_notice n es ≡ option_map (λ e. e.day) (find (λ e. is_notice_of n e.what) es)
first_is_found n [] = refl
first_is_found n (e ∷ es) =
    elim (is_notice_of n e.what) as (λ b. fold (notice_by n) (cond b (Some e.day) None) es ≡ option_map (λ (x : Entry). x.day) (cond b (Some e) (find (λ x. is_notice_of n x.what) es))) [
      | true ↦ first_stays n e.day es
      | false ↦ first_is_found n es
    ]

-- a filing that waits is told with its first notice
made : (entries : List Entry) (n : ℕ) (waiting notices : ℕ → Option ℕ) → waiting n ≡ pending n entries → notices n ≡ first_notice n entries
    → waiting_at entries n ≡ option_map (λ until. with_notice notices (n, until)) (waiting n)
made entries n waiting notices waits first =
    elim (pending n entries) as (λ p.
    option_map (λ until. record { filing = n; until = until; notice = cond (is_some p) (option_map (λ (e : Entry). e.day) (find (λ e. is_notice_of n e.what) entries)) None }) p
    ≡ option_map (λ until. with_notice notices (n, until)) p) [
      | None ↦ refl
      | Some until ↦ ap (λ o. Some (record { filing = n; until = until; notice = o })) (sym (first ∙ first_is_found n entries))
    ]
    ∙ ap (option_map (λ until. with_notice notices (n, until))) (sym waits)

-- ---- together

in_row : (entries : List Entry) (waiting notices : BTreeMap ℕ ℕ) (n : ℕ) (ms : List ℕ) → ms ≡ range_with_len 1 n → IsOrdered nat_cmp waiting
    → ((m : ℕ) → get nat_cmp waiting m ≡ pending m entries) → ((m : ℕ) → get nat_cmp notices m ≡ first_notice m entries) → get nat_cmp waiting 0 ≡ None
    → ((m : ℕ) → n < m → get nat_cmp waiting m ≡ None) → map (with_notice (get nat_cmp notices)) waiting.entries ≡ filter_map (waiting_at entries) ms
in_row entries waiting notices n ms is ordered waits first none beyond =
    in_order (waiting_at entries) (with_notice (get nat_cmp notices)) 1 n waiting.entries (rises_from_one waiting.entries none ordered)
    (λ m _. made entries m (get nat_cmp waiting) (get nat_cmp notices) (waits m) (first m))
    (λ m above. ap (option_map (λ until. record { filing = m; until = until; notice = notice m entries })) (sym (waits m) ∙ beyond m (omega (arith, above))))
    ∙ ap (filter_map (waiting_at entries)) (sym is)

pub waiting_in_order : (entries : List Entry) (waiting notices : BTreeMap ℕ ℕ) → IsOrdered nat_cmp waiting
    → ((n : ℕ) → get nat_cmp waiting n ≡ pending n entries) → ((n : ℕ) → get nat_cmp notices n ≡ first_notice n entries) → AreReceipts (get nat_cmp waiting)
    → map (with_notice (get nat_cmp notices)) waiting.entries ≡ waiting_filings entries
waiting_in_order entries waiting notices ordered waits first receipts =
    in_row entries waiting notices last_number receipt_numbers numbers_are ordered waits first receipts.from_one receipts.to_last
