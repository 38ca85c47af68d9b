use Rattle.std.proofs.Common.{◌∙◌, if◌then◌else◌, ap, is_some, sym}
use Rattle.folio_sections.specs.Rights.{holder}
use Rattle.folio_sections.specs.Waiting.{before_notice}
use Rattle.folio_sections.proofs.Notices.{ahead_of, stands, stands_not}
use Rattle.folio_sections.proofs.right_part.RightPart.holder_for.Goals as goal

pub returns-in-Some : goal.returns-in-Some
returns-in-Some c =
    let xs = c.args.self.now.entries in
    let m = c.args.filing in
    let stand = stands m xs c.in-Some.ahead (sym (c.ahead_of_notice.ensures ∙ ap (λ v. ahead_of m v.entries) c.self.view_is) ∙ c.in-Some.is) in
    c.holder_ahead.ensures ∙ sym (ap (λ b. if b then holder (before_notice m xs) else holder xs) stand.some ∙ ap holder stand.before)

pub returns-in-None : goal.returns-in-None
returns-in-None c =
    let xs = c.args.self.now.entries in
    let m = c.args.filing in
    let none = stands_not m xs (sym (c.ahead_of_notice.ensures ∙ ap (λ v. ahead_of m v.entries) c.self.view_is) ∙ c.in-None.is) in
    c.holder.ensures ∙ sym (ap (λ o. if is_some o then holder (before_notice m xs) else holder xs) none)
