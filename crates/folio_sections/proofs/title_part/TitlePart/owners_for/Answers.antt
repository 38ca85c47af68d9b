use Rattle.std.proofs.Common.{◌≡◌, ◌∙◌, ◌&&◌, false, not, if◌then◌else◌, ap, sym}
use Rattle.std.specs.List.{list_any}
use Rattle.folio_sections.specs.Titles.{is_award_owner, owners}
use Rattle.folio_sections.specs.Waiting.{after_notice, before_notice}
use Rattle.folio_sections.proofs.Notices.{ahead_of, stands}
use Rattle.folio_sections.proofs.title_part.TitlePart.owners_for.Goals as goal

pub returns-in-Some : goal.returns-in-Some
returns-in-Some c =
    let xs = c.args.self.now.entries in
    let m = c.args.filing in
    let stand = stands m xs c.in-Some.ahead (sym (c.ahead_of_notice.ensures ∙ ap (λ v. ahead_of m v.entries) c.self.view_is) ∙ c.in-Some.is) in
    let follows : list_any (λ e. is_award_owner e.what) (after_notice m xs) ≡ false = ap (list_any (λ e. is_award_owner e.what)) stand.after ∙ sym c.award_follows.ensures ∙ c.if-not-award_follows.true in
    c.owners_ahead.ensures
    ∙ sym (ap (λ b. if b && not (list_any (λ e. is_award_owner e.what) (after_notice m xs)) then owners (before_notice m xs) else owners xs) stand.some
    ∙ ap (λ b. if not b then owners (before_notice m xs) else owners xs) follows ∙ ap owners stand.before)
