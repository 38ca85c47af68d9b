-- Values are equal where `==` says so.
use Rattle.std.proofs.Common.{◌≡◌, ℕ, true, Option, None, Some, refl, ap}
use Rattle.act_model.specs.contracts.sales.Basis as basis
use Rattle.act_model.specs.contracts.sales.BasisPartialEq.TheImpl as bases
use Rattle.act_model.specs.contracts.sales.Registration as registration
use Rattle.act_model.specs.contracts.sales.RegistrationPartialEq.TheImpl as registrations
use Rattle.act_model.specs.contracts.items.Item as item
use Rattle.act_model.specs.contracts.items.ItemPartialEq.TheImpl as items
use Rattle.act_model.specs.contracts.items.FilingPartialEq.TheImpl as filings
use Rattle.act_model.specs.contracts.documents.Doc as doc
use Rattle.act_model.specs.contracts.documents.DocPartialEq.TheImpl as docs
use Rattle.act_model.specs.contracts.documents.FormPartialEq.TheImpl as forms
use Rattle.act_model.specs.contracts.land.InventoryPartialEq.TheImpl as inventories
use Rattle.act_model.specs.contracts.rights.RightSpecPartialEq.TheImpl as right_specs
use Rattle.act_model.specs.contracts.rights.RightKind as kind
use Rattle.act_model.specs.contracts.rights.RightKindPartialEq.TheImpl as kinds
use Rattle.act_model.specs.contracts.filing_acts.Act as act
use Rattle.act_model.specs.contracts.filing_acts.ActPartialEq.TheImpl as acts
use Rattle.std.proofs.lemmas.Bool.{eqb-true, eq-eqb, false≢true}
use Rattle.act_model.specs.declared.documents.Form.{Form}
use Rattle.act_model.specs.declared.documents.Form.TheVariants.{Certified, Plain}
use Rattle.std.specs.contracts.prelude.OptionPartialEq.TheImpl as options
use Rattle.gb_base.specs.contracts.amounts.Cents as cents
use Rattle.gb_base.specs.contracts.amounts.CentsPartialEq.TheImpl as amounts
use Rattle.gb_base.specs.contracts.ids.RightIdPartialEq.TheImpl as rights
use Rattle.act_model.proofs.DerivedEquality.{Exact, numbers, booleans, lists, parts, none, one, pair, enum_exact}

rights_exact : Exact rights.ghosts.eq
rights_exact = parts (λ r. (r.receipt, r.act)) (λ a b e i. record { receipt = (e i).0; act = (e i).1 }) (pair numbers numbers)

bases_exact : Exact bases.ghosts.eq
bases_exact = enum_exact basis.enum _ (pair numbers (one numbers), (one rights_exact, tt))

registrations_exact : Exact registrations.ghosts.eq
registrations_exact = enum_exact registration.enum _ (pair numbers (one numbers), (pair numbers (pair numbers (one numbers)), (pair rights_exact (pair numbers (one numbers)), tt)))

forms_exact : Exact forms.ghosts.eq
forms_exact = record { same = same_form; itself = form_itself }
  where
    same_form : (a b : Form) → forms.ghosts.eq a b ≡ true → a ≡ b
    same_form Certified Certified h = refl
    same_form Certified Plain h = absurd (false≢true h)
    same_form Plain Certified h = absurd (false≢true h)
    same_form Plain Plain h = refl

    form_itself : (a : Form) → forms.ghosts.eq a a ≡ true
    form_itself Certified = refl
    form_itself Plain = refl

docs_exact : Exact docs.ghosts.eq
docs_exact = enum_exact doc.enum _ (pair numbers (pair numbers (one forms_exact)), (one numbers, (one numbers, (one numbers, tt))))

kinds_exact : Exact kinds.ghosts.eq
kinds_exact = enum_exact kind.enum _ (none, (none, (one numbers, (one numbers, tt))))

inventories_exact : Exact inventories.ghosts.eq
inventories_exact = parts (λ r. (r.district, (r.parcel, (r.sub, r.area)))) (λ a b e i. record { district = (e i).0; parcel = (e i).1.0; sub = (e i).1.1.0; area = (e i).1.1.1 }) (pair numbers (pair numbers (pair numbers numbers)))

specs_exact : Exact right_specs.ghosts.eq
specs_exact = parts (λ r. (r.kind, (r.capital, (r.holder, r.group)))) (λ a b e i. record { kind = (e i).0; capital = (e i).1.0; holder = (e i).1.1.0; group = (e i).1.1.1 }) (pair kinds_exact (pair numbers (pair numbers numbers)))

reserves_exact : Exact (options.ghosts cents.the_row amounts.ghosts amounts.dict).eq
reserves_exact = record { same = same_reserve; itself = reserve_itself }
  where
    same_reserve : (a b : Option ℕ) → (options.ghosts cents.the_row amounts.ghosts amounts.dict).eq a b ≡ true → a ≡ b
    same_reserve None None h = refl
    same_reserve None (Some d) h = absurd (false≢true h)
    same_reserve (Some c) None h = absurd (false≢true h)
    same_reserve (Some c) (Some d) h = ap (λ n. Some n) (eqb-true c d h)

    reserve_itself : (a : Option ℕ) → (options.ghosts cents.the_row amounts.ghosts amounts.dict).eq a a ≡ true
    reserve_itself None = refl
    reserve_itself (Some c) = eq-eqb c c refl

acts_exact : Exact acts.ghosts.eq
acts_exact = enum_exact act.enum _ (pair numbers (pair inventories_exact (one (lists numbers))), (pair numbers (one (lists numbers)), (pair numbers (pair specs_exact (one reserves_exact)), (pair numbers (one specs_exact), (pair numbers (one rights_exact), (pair numbers (pair rights_exact (one numbers)), (pair numbers (one rights_exact), (pair numbers (pair rights_exact (one rights_exact)), (pair numbers (pair rights_exact (one specs_exact)), tt)))))))))

filings_exact : Exact filings.ghosts.eq
filings_exact = parts (λ r. (r.applicant, (r.conditional, (r.acts, r.docs)))) (λ a b e i. record { applicant = (e i).0; conditional = (e i).1.0; acts = (e i).1.1.0; docs = (e i).1.1.1 }) (pair numbers (pair booleans (pair (lists acts_exact) ((lists docs_exact)))))

pub items_exact : Exact items.ghosts.eq
items_exact = enum_exact item.enum _ (one filings_exact, (pair numbers (one (lists docs_exact)), (one numbers, (pair numbers (pair bases_exact (one numbers)), (pair numbers (one registrations_exact), (pair numbers (one numbers), (pair numbers (pair numbers (one numbers)), (one numbers, (pair numbers (one numbers), tt)))))))))
