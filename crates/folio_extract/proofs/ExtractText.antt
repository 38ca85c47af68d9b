-- The extract of a folio, in three pieces one after the other.
use Rattle.std.proofs.Common.{◌≡◌, ℕ, List, ◌++◌, codes, flat_map, append_assoc, ap, ◌∙◌}
use Rattle.gb_base.specs.declared.keys.Key.{Key}
use Rattle.gb_base.specs.declared.keys.Key.TheVariants.{Case, Right, Title}
use Rattle.folio_sections.specs.Titles.{inventory, owners}
use Rattle.folio_sections.specs.declared.entries.Entry.{Entry}
use Rattle.folio_extract.specs.Extracts.{extract_text, heading_line, inventory_line, owners_line, right_lines, sale_line, waiting_lines}
use Rattle.folio_line.specs.FolioRights.{live_rights}
use Rattle.folio_line.specs.declared.folio_rights.CreatedRight.{CreatedRight}

in_a_row : (t a b c d e f : List ℕ) → ((t ++ (a ++ (b ++ (c ++ d)))) ++ e) ++ f ≡ t ++ (a ++ (b ++ (c ++ (d ++ (e ++ f)))))
in_a_row t a b c d e f =
    append_assoc (t ++ (a ++ (b ++ (c ++ d)))) e f
    ∙ append_assoc t (a ++ (b ++ (c ++ d))) (e ++ f)
    ∙ ap (λ xs. t ++ xs) (append_assoc a (b ++ (c ++ d)) (e ++ f))
    ∙ ap (λ xs. t ++ (a ++ xs)) (append_assoc b (c ++ d) (e ++ f))
    ∙ ap (λ xs. t ++ (a ++ (b ++ xs))) (append_assoc c d (e ++ f))

pub extract_is : (at : Key → List Entry) (folio : ℕ) (t0 t1 t2 t3 : List ℕ) (rights : List CreatedRight) → rights ≡ live_rights at folio
    → t1 ≡ t0 ++ (heading_line folio ++ (inventory_line (inventory (at (Title folio))) ++ (owners_line (owners (at (Title folio))) ++ sale_line (at (Case folio)))))
    → t2 ≡ t1 ++ waiting_lines (codes "title") (at (Title folio))
    → t3 ≡ t2 ++ flat_map (λ x. right_lines (at (Right folio x.id)) x) rights
    → t3 ≡ t0 ++ extract_text at folio
unfolding extract_text
extract_is at folio t0 t1 t2 t3 rights live first second third =
    third
    ∙ ap (λ xs. t2 ++ flat_map (λ (x : CreatedRight). right_lines (at (Right folio x.id)) x) xs) live
    ∙ ap (λ xs. xs ++ flat_map (λ (x : CreatedRight). right_lines (at (Right folio x.id)) x) (live_rights at folio))
    (second ∙ ap (λ xs. xs ++ waiting_lines (codes "title") (at (Title folio))) first)
    ∙ in_a_row t0 (heading_line folio) (inventory_line (inventory (at (Title folio)))) (owners_line (owners (at (Title folio)))) (sale_line (at (Case folio)))
    (waiting_lines (codes "title") (at (Title folio))) (flat_map (λ (x : CreatedRight). right_lines (at (Right folio x.id)) x) (live_rights at folio))
