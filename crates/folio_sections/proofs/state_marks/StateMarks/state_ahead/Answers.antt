use Rattle.std.proofs.Common.{◌∙◌, ap, min, ◌/◌}
use Rattle.folio_sections.proofs.Marks.{walked_from}
use Rattle.folio_sections.proofs.state_marks.StateMarks.state_ahead.Goals as goal

pub returns : goal.returns
returns c =
    let states = c.args.self.now.states in
    walked_from states.items c.args.entries.now c.args.ahead c.min-mark.result _ _ c.requires.marks
    (c.min-mark.ensures ∙ ap (min (c.args.ahead / 16)) (c.len.ensures ∙ states.ok.0)) c.at.ensures c.state_on.ensures
