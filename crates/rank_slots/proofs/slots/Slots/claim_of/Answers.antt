use Rattle.std.proofs.Common.{rules, tests, Bor, ◌∙◌, sym, ap}
use Rattle.std.specs.Option.{option_map, option_map_or}
use Rattle.std.proofs.lemmas.Iterator.{YieldsList-from_slice}
use Rattle.std.proofs.lemmas.Iterator.Search.{find_from_yields_List}
use Rattle.rank_slots.specs.Filled.{SlotsState}
use Rattle.rank_slots.specs.Groups.{is_of}
use Rattle.rank_slots.specs.Payments.{claim_of}
use Rattle.rank_slots.specs.declared.places.Place.{Place}
use Rattle.rank_slots.proofs.slots.Slots.claim_of.Goals as goal

pub returns-in-Some-clause-value : goal.returns-in-Some-clause-value
returns-in-Some-clause-value c =
    let found = find_from_yields_List (is_of c.args.right) _ _ c.find.result c.find.ensures.ran (YieldsList-from_slice c.deref.result.now cc) (λ x b q k. search (rules, tests)) in
    let places = c.deref.ensures.value ∙ ap (λ (s : SlotsState). s.filled.places) c.self.view_is in
    ap (λ r. option_map_or (λ (p : Place). p.claim) (option_map (λ (x : Bor Place). x.now) r) 0) (sym c.in-Some.is)
    ∙ (ap (λ o. option_map_or (λ (p : Place). p.claim) o 0) found ∙ ap (λ ps. claim_of ps c.args.right) places)

pub returns-in-None-clause-value : goal.returns-in-None-clause-value
returns-in-None-clause-value c =
    let found = find_from_yields_List (is_of c.args.right) _ _ c.find.result c.find.ensures.ran (YieldsList-from_slice c.deref.result.now cc) (λ x b q k. search (rules, tests)) in
    let places = c.deref.ensures.value ∙ ap (λ (s : SlotsState). s.filled.places) c.self.view_is in
    ap (λ r. option_map_or (λ (p : Place). p.claim) (option_map (λ (x : Bor Place). x.now) r) 0) (sym c.in-None.is)
    ∙ (ap (λ o. option_map_or (λ (p : Place). p.claim) o 0) found ∙ ap (λ ps. claim_of ps c.args.right) places)
