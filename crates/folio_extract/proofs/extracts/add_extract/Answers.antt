use Rattle.std.proofs.Common.{All, IsTrue, List, sym, subst}
use Rattle.std.proofs.lemmas.Result.{on_ok_weaker}
use Rattle.std.specs.String.{string_bytes}
use Rattle.gb_base.specs.declared.keys.Key.TheVariants.{Right}
use Rattle.folio_sections.specs.Held.{entries_at, is_held}
use Rattle.folio_line.specs.declared.folio_rights.CreatedRight.{CreatedRight}
use Rattle.folio_extract.proofs.ExtractText.{extract_is}
use Rattle.folio_line.proofs.LiveAreHeld.{live_are_held}
use Rattle.folio_line.specs.inner.NotHeld.{not_held}
use Rattle.folio_extract.proofs.extracts.add_extract.Goals as goal

pub add_rights-requires : goal.add_rights-requires
add_rights-requires c =
    subst (λ (rights : List CreatedRight). All (λ x. IsTrue (is_held c.args.register.now.parts (Right c.args.folio x.id))) rights)
    (sym c.requires) (live_are_held (is_held c.args.register.now.parts) (entries_at c.args.register.now.parts) c.args.folio (not_held c.args.register.now.parts))

pub returns : goal.returns
returns c =
    on_ok_weaker c.add_rights.result
    (extract_is (entries_at c.args.register.now.parts) c.args.folio
    (string_bytes c.args.text.now) (string_bytes c.add_folio.new.text) (string_bytes c.add_title_filings.new.text) (string_bytes c.add_rights.new.text) c.args.rights.now
    c.requires c.in_ok-add_folio.ensures c.in_ok-add_title_filings.ensures) c.add_rights.ensures
