-- Which bytes of a journal's file are written while it grows.
use Rattle.std.proofs.Common.{◌≡◌, ℕ, ◌+◌, ◌-◌, ◌≤◌, Bool, true, false, cond, List, [], ◌∷◌, ◌++◌, refl, sym, subst, arith}
use Rattle.gb_outside.specs.Images.{Torn}
use Rattle.act_model.specs.declared.receipts.Receipt.{Receipt}
use Rattle.journal_disk.proofs.Torn.{torn_nothing, torn_within, torn_then}
use Rattle.receipt_journal.specs.Standing.{gate_after}
use Rattle.receipt_journal.proofs.Answering.{gate_further}
use Rattle.intake.specs.Grown.{IsFront, WritesFrames}

-- the gate of a journal that has grown stands no earlier in the file
pub gate_later : (from to : List Receipt) → IsFront from to → gate_after from ≤ gate_after to
gate_later from to front = subst (λ (j : List Receipt). gate_after from ≤ gate_after j) (sym front.1) (gate_further from front.0)

-- where nothing is written, only frames are
pub frames_none : (from to : List Receipt) (file : List ℕ) → WritesFrames from to file file
frames_none from to file = torn_nothing (gate_after from) (gate_after to + 1 - gate_after from) file

-- the frames between two journals are among those between two others
pub frames_wider : (a b from to : List Receipt) (old new : List ℕ) → IsFront a from → IsFront from b → IsFront to b → WritesFrames from to old new → WritesFrames a b old new
frames_wider a b from to old new begins within ends writes =
    let low = gate_later a from begins in
    let high = gate_later to b ends in
    let most = gate_later from b within in
    torn_within (gate_after from) (gate_after to + 1 - gate_after from) (gate_after a) (gate_after b + 1 - gate_after a) old new low (omega (arith, low, high, most)) writes

-- where only frames between two journals are written twice, only these are written in all
pub frames_then : (from to : List Receipt) (old mid new : List ℕ) → WritesFrames from to old mid → WritesFrames from to mid new → WritesFrames from to old new
frames_then from to old mid new first second = torn_then (gate_after from) (gate_after to + 1 - gate_after from) old mid new first second

-- only the frame of one receipt more is written, where it is received
pub frame_of_receipt : (journal : List Receipt) (r : Receipt) (accepted : Bool) (gate size : ℕ) (old new : List ℕ) → gate ≡ gate_after journal → gate_after journal + size ≡ gate_after (journal ++ r ∷ []) + 1
    → Torn gate size old new → (accepted ≡ false → new ≡ old) → WritesFrames journal (cond accepted (journal ++ r ∷ []) journal) old new
frame_of_receipt journal r true gate size old new ends long torn kept =
    torn_within gate size (gate_after journal) (gate_after (journal ++ r ∷ []) + 1 - gate_after journal) old new (omega (arith, ends)) (omega (arith, ends, long)) torn
frame_of_receipt journal r false gate size old new ends long torn kept = subst (WritesFrames journal journal old) (sym (kept refl)) (frames_none journal journal old)
