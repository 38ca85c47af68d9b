-- The text of a rank table, put together from its parts.
use Rattle.std.proofs.Common.{◌≡◌, ℕ, None, List, ◌++◌, OnOk, Result, codes, flat_map, append_assoc, ap, ◌∙◌}
use Rattle.std.specs.Fmt.{decimal}
use Rattle.std.proofs.lemmas.Result.{on_ok_weaker}
use Rattle.gb_base.specs.declared.keys.Key.{Key}
use Rattle.act_model.specs.Receiving.{IsJournal}
use Rattle.act_model.specs.declared.receipts.Receipt.{Receipt}
use Rattle.kept_registers.specs.Kept.{Kept}
use Rattle.folio_sections.specs.Places.{places}
use Rattle.folio_sections.specs.declared.entries.Entry.{Entry}
use Rattle.folio_extract.specs.CentTexts.{line_text}
use Rattle.folio_line.specs.Exchanges.{counted_exchanges, counted_exercises}
use Rattle.folio_line.specs.FolioSlots.{folio_filled}
use Rattle.folio_line.specs.FolioRights.{live_rights}
use Rattle.folio_extract.specs.RankTables.{exchange_line, exercise_line, rank_lines, rank_table_text}
use Rattle.folio_line.specs.declared.exchanges.Exchange.{Exchange}
use Rattle.folio_line.specs.declared.folio_rights.CreatedRight.{CreatedRight}
use Rattle.folio_extract.specs.inner.RankWalk.{ranked_lines}
use Rattle.folio_extract.proofs.KeptRanks.{kept_ranks}

-- the heading of a rank table, and the ranks of these rights
abbrev ranks_of : ℕ → List CreatedRight → List ℕ
ranks_of folio rights = codes "ranks " ++ (decimal folio ++ (codes "\n" ++ ranked_lines 0 None rights))

-- four texts that are added one after the other are added as one
four : (old a b c d : List ℕ) (one two three new : List ℕ) → one ≡ old ++ a → two ≡ one ++ b → three ≡ two ++ c → new ≡ three ++ d → new ≡ old ++ (a ++ (b ++ (c ++ d)))
four old a b c d one two three new first second third last =
    last ∙ ap (λ t. t ++ d) (third ∙ ap (λ t. t ++ c) (second ∙ ap (λ t. t ++ b) first))
    ∙ append_assoc (old ++ a ++ b) c d ∙ append_assoc (old ++ a) b (c ++ d) ∙ append_assoc old a (b ++ (c ++ d))

-- what is added to the first lines is added after their last one
moved : (a b c : List ℕ) → (codes "ranks " ++ (a ++ (codes "\n" ++ b))) ++ c ≡ codes "ranks " ++ (a ++ (codes "\n" ++ (b ++ c)))
moved a b c = ap (λ t. codes "ranks " ++ t) (append_assoc a (codes "\n" ++ b) c)

-- the parts together are the table
whole : (journal : List Receipt) (at : Key → List Entry) (folio : ℕ) (rights : List CreatedRight) (exchanges : List Exchange) → IsJournal journal → Kept journal at
    → rights ≡ live_rights at folio → exchanges ≡ counted_exchanges at folio
    → ranks_of folio rights ++ (flat_map exchange_line exchanges ++ (flat_map exercise_line (counted_exercises at folio) ++ line_text (folio_filled at folio)))
    ≡ rank_table_text journal at folio
unfolding rank_table_text
whole journal at folio rights exchanges stands kept live counted =
    let ranks : ranked_lines 0 None rights ≡ rank_lines (places journal at folio) (live_rights at folio) = ap (ranked_lines 0 None) live ∙ kept_ranks journal at folio stands kept in
    let behind : List Exchange → List ℕ = λ xs. flat_map exchange_line xs ++ (flat_map exercise_line (counted_exercises at folio) ++ line_text (folio_filled at folio)) in
    (λ i. (codes "ranks " ++ (decimal folio ++ (codes "\n" ++ ranks i))) ++ behind (counted i))
    ∙ moved (decimal folio) (rank_lines (places journal at folio) (live_rights at folio)) (behind (counted_exchanges at folio))

-- a text to which the parts were added has the table at its end
pub table_added : (journal : List Receipt) (at : Key → List Entry) (folio : ℕ) (rights : List CreatedRight) (exchanges : List Exchange) → IsJournal journal → Kept journal at
    → rights ≡ live_rights at folio → exchanges ≡ counted_exchanges at folio
    → {E : Type 0} (old one two three new : List ℕ) (r : Result (Unit {0}) E)
    → one ≡ old ++ ranks_of folio rights → two ≡ one ++ flat_map exchange_line exchanges → three ≡ two ++ flat_map exercise_line (counted_exercises at folio)
    → OnOk r (new ≡ three ++ line_text (folio_filled at folio)) → OnOk r (new ≡ old ++ rank_table_text journal at folio)
table_added journal at folio rights exchanges stands kept live counted old one two three new r first second third last =
    on_ok_weaker r (λ is. four old _ _ _ _ one two three new first second third is ∙ ap (λ t. old ++ t) (whole journal at folio rights exchanges stands kept live counted)) last
