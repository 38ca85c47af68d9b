use Rattle.std.proofs.Common.{sym, subst, ◌∙◌}
use Rattle.registry_http.specs.Framing.{IsFramed}
use Rattle.registry_http.proofs.FramedBytes.{wants_end, wants_head, refused_now, long_now}
use Rattle.registry_http.proofs.framing.Framer.frame.Goals.{in-Head, in-Cut, in-Refused, in-TooLong}
use Rattle.registry_http.proofs.framing.Framer.frame.Goals as goal

pub returns-then-lacks_end : goal.returns-then-lacks_end
returns-then-lacks_end c = wants_end c.args.bytes.now (sym c.lacks_end.ensures ∙ c.if-lacks_end.true)

pub returns : goal.returns
returns c =
    let bytes = c.args.bytes.now in
    let ended = sym c.lacks_end.ensures ∙ c.if-lacks_end.false in
    elim c.match-read_front.branch [
      | in-Head w ↦ subst (IsFramed bytes) (sym w.result-is) w.framed_by.ensures
      | in-Cut w ↦ subst (IsFramed bytes) (sym w.result-is) (wants_head bytes w.in-Cut.ensures)
      | in-Refused w ↦ subst (IsFramed bytes) (sym w.result-is) (refused_now bytes ended w.in-Refused.ensures)
      | in-TooLong w ↦ subst (IsFramed bytes) (sym w.result-is) (long_now bytes w.in-TooLong.ensures)
    ]
