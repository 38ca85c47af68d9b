use Rattle.std.proofs.Common.{◌≡◌, ◌+◌, ◌-◌, ℕ, List, [], ◌∷◌, ◌++◌, length, take, drop, sym, ◌∙◌, ap, subst, arith, length-drop}
use Rattle.std.proofs.lemmas.List.{take_all}
use Rattle.journal_disk.proofs.FrameBytes.{SoFar, one_more, cut_behind, cut_body}
use Rattle.journal_disk.proofs.scan.scan.Goals as goal

pub loop-size-preserved : goal.loop-size-preserved
loop-size-preserved c =
    let begun = c.in-Ok.ensures in
    let frame = c.split_at.result.0.now in
    let all : take (length frame - 5) (drop 5 frame) ≡ drop 5 frame = take_all (length frame - 5) (drop 5 frame) (omega (arith, length-drop 5 frame)) in
    let body : c.in_ok-body.body.items ≡ begun.body =
    c.in_ok-body.ensures.items ∙ all ∙ ap (λ (l : List ℕ). drop 5 l) c.split_at.ensures.front ∙ cut_body c.loop-size.rest.now c.in-Ok.size begun in
    let pushed : c.push.new.self.items ≡ c.loop-size.frames.items ++ record { at = c.loop-size.gate; body = begun.body } ∷ [] =
    c.in_ok-push.ensures.items ∙ ap (λ (b : List ℕ). c.loop-size.frames.items ++ record { at = c.loop-size.gate; body = b } ∷ []) body in
    let behind = c.split_at.ensures.back ∙ cut_behind c.loop-size.rest.now c.in-Ok.size begun in
    let more = one_more c.args.at c.args.bytes.now c.args.frames.now.items c.loop-size.frames.items c.push.new.self.items c.loop-size.gate c.loop-size.rest.now c.split_at.result.1.now c.in-Ok.size c.loop-size.invariant begun pushed behind in
    subst (λ n. SoFar c.args.at c.args.bytes.now c.args.frames.now.items c.push.new.self.items (c.loop-size.gate + n) c.split_at.result.1.now) (sym c.split_at.ensures.front_len) more
