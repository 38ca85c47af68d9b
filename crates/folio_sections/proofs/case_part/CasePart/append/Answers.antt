use Rattle.std.proofs.Common.{◌∙◌, [], ◌∷◌, ◌++◌, ap, length, refl, subst, sym}
use Rattle.folio_sections.specs.Cases.{is_registration, is_seizure}
use Rattle.folio_sections.specs.Limits.{most_registrations, most_seizures}
use Rattle.folio_sections.specs.inner.States.{IsCase, IsRunning, running_behind}
use Rattle.folio_sections.proofs.Cases.{running_push}
use Rattle.folio_sections.proofs.NumbersBehind.{numbers_on}
use Rattle.folio_sections.proofs.case_part.CasePart.append.Goals as goal

pub invariant_of-self : goal.invariant_of-self
invariant_of-self c =
    let xs = c.self.inside.list.entries in
    let e = c.args.entry in
    let was = c.self.invariant in
    let is = c.running_behind-self-inside.ensures ∙ ap (λ ys. running_behind (length ys) c.self.inside.running e.receipt e.what) c.entries-ahead.ensures.value in
    subst (IsCase c.running_behind-self-inside.result _ _) (sym c.append.ensures.entries) (record {
      running = subst (λ r. IsRunning r (xs ++ e ∷ [])) (sym is) (running_push c.self.inside.running xs e e.what refl was.running);
      seized = c.note_seizure.ensures ∙ numbers_on most_seizures is_seizure xs e _ was.seized;
      registered = c.note_registration.ensures ∙ numbers_on most_registrations is_registration xs e _ was.registered;
    })
