-- Which bytes of a journal's file are written in requests.
use Rattle.std.proofs.Common.{◌≡◌, inl, ℕ, Bool, true, false, cond, List, [], ◌∷◌, ◌++◌, length, refl, sym, ◌∙◌, subst, ap, arith, length-append}
use Rattle.act_model.specs.declared.receipts.Receipt.{Receipt}
use Rattle.journal_disk.specs.Layout.{IsUnmade}
use Rattle.intake.specs.Grown.{WritesFrames}
use Rattle.intake.specs.Requests.{Held}
use Rattle.intake.proofs.WrittenFrames.{frames_none}
use Rattle.connections.specs.Answering.{IsOpened, WritesBy, WritesGrown}
use Rattle.connections.specs.Fates.{Failure, DiskFailed, NoJournal, OutOfMemory, Failed, NotBegun}
use Rattle.connections.specs.Serving.{WritesTurns}
use Rattle.connections.specs.Turns.{Taken, answer_in, held_after}

-- nothing is written of a made file
pub opened_made : (file : List ℕ) → (IsUnmade file → ⊥) → IsOpened file file
opened_made file made = record { made = λ unmade. absurd (made unmade); same = λ again. refl }

-- nothing is written after the opening
pub writes_opened : (from to : List Receipt) (file new : List ℕ) → IsOpened file new → WritesGrown from to file new
writes_opened from to file new opens = record { opened = new; opens = opens; frames = frames_none from to new; same = λ none. refl }

-- where nothing was received, nothing else was written
pub opened_by : (journal : List Receipt) (file new : List ℕ) → WritesGrown journal journal file new → IsOpened file new
opened_by journal file new writes = subst (IsOpened file) (sym (writes.same refl)) writes.opens

-- after that, the frames of what was received
pub writes_then : (from to : List Receipt) (file mid new : List ℕ) → WritesGrown from from file mid → WritesFrames from to mid new → (to ≡ from → new ≡ mid) → WritesGrown from to file new
writes_then from to file mid new first writes still = record {
  opened = first.opened;
  opens = first.opens;
  frames = subst (λ (f : List ℕ). WritesFrames from to f new) (first.same refl) writes;
  same = λ none. still none ∙ first.same refl;
}

-- ---- where something failed before a receipt was begun

-- no call of the disk was made
pub writes_nothing : (calls : Bool) (from to : List Receipt) (file : List ℕ) → WritesBy calls (Failed OutOfMemory NotBegun) from to file file
writes_nothing true from to file = inl refl
writes_nothing false from to file = refl

-- what would have been received is not asked
pub writes_unbegun : (failure : Failure) (from to : List Receipt) (file new : List ℕ) → WritesBy true (Failed failure NotBegun) from from file new → WritesBy true (Failed failure NotBegun) from to file new
writes_unbegun DiskFailed from to file new writes = writes
writes_unbegun NoJournal from to file new writes = writes
writes_unbegun OutOfMemory from to file new writes = writes

-- a receipt more makes another journal
pub no_receipt_more : (journal : List Receipt) (r : Receipt) (accepted : Bool) → cond accepted (journal ++ r ∷ []) journal ≡ journal → accepted ≡ false
no_receipt_more journal r false same = refl
no_receipt_more journal r true same = let lengths : length (journal ++ r ∷ []) ≡ length journal = ap length same in absurd (omega (arith, lengths, length-append journal (r ∷ [])))

-- one list of turns after another
pub writes_more : (held : Held) (xs ys : List Taken) (file mid new : List ℕ) → WritesTurns held xs file mid → WritesTurns (held_after held xs) ys mid new → WritesTurns held (xs ++ ys) file new
writes_more held [] ys file mid new first second = subst (λ (f : List ℕ). WritesTurns held ys f new) first second
writes_more held (x ∷ xs) ys file mid new first second = (first.0, first.1, writes_more (answer_in held x).held xs ys first.0 mid new first.2 second)
