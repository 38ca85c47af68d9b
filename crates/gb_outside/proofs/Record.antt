-- One more call in the record of a disk in memory.
use Rattle.std.proofs.Common.{◌≡◌, inl, inr, ⊎_elim, ℕ, ◌+◌, ◌-◌, ◌≤◌, List, [], ◌∷◌, ◌++◌, length, take, drop, refl, sym, ◌∙◌, ap, subst, arith, length-append, length-drop, append_assoc, length-take-le, take_at, drop_at, drop-drop}
use Rattle.std.proofs.lemmas.List.{take-append-le, drop-append-le, take_all}
use Rattle.gb_outside.specs.Images.{Torn, Follows, Elapses}
use Rattle.gb_outside.specs.Recorded.{Event, idle, wrote, synced, overwritten, file_after, IsImageAfter, IsImageSince}
use Rattle.gb_outside.specs.MemDisks.{bytes_written}
use Rattle.gb_outside.specs.inner.Calls.{events_from, events, kept_by}
use Rattle.gb_outside.specs.declared.mem_disk.Call.{Call}
use Rattle.gb_outside.specs.declared.mem_disk.Call.TheVariants.{Idle, Write, Sync}

events_from_idle : (calls : List Call) (written : List ℕ) (before : List Event) → events_from (calls ++ Idle ∷ []) written before ≡ idle ∷ events_from calls written before
events_from_idle [] written before = refl
events_from_idle (Idle ∷ calls) written before = events_from_idle calls written (idle ∷ before)
events_from_idle (Write at size kept ∷ calls) written before = events_from_idle calls (drop kept written) (wrote at size (take kept written) ∷ before)
events_from_idle (Sync ∷ calls) written before = events_from_idle calls written (synced ∷ before)

pub events_idle : (calls : List Call) (written : List ℕ) → events (calls ++ Idle ∷ []) written ≡ idle ∷ events calls written
events_idle calls written = events_from_idle calls written []

events_from_sync : (calls : List Call) (written : List ℕ) (before : List Event) → events_from (calls ++ Sync ∷ []) written before ≡ synced ∷ events_from calls written before
events_from_sync [] written before = refl
events_from_sync (Idle ∷ calls) written before = events_from_sync calls written (idle ∷ before)
events_from_sync (Write at size kept ∷ calls) written before = events_from_sync calls (drop kept written) (wrote at size (take kept written) ∷ before)
events_from_sync (Sync ∷ calls) written before = events_from_sync calls written (synced ∷ before)

pub events_sync : (calls : List Call) (written : List ℕ) → events (calls ++ Sync ∷ []) written ≡ synced ∷ events calls written
events_sync calls written = events_from_sync calls written []

events_from_write : (calls : List Call) (written : List ℕ) (before : List Event) (at size : ℕ) (piece : List ℕ) → kept_by calls ≡ length written
    → events_from (calls ++ Write at size (length piece) ∷ []) (written ++ piece) before ≡ wrote at size piece ∷ events_from calls written before
events_from_write [] [] before at size piece all = ap (λ (l : List ℕ). wrote at size l ∷ before) (take_all (length piece) piece (omega arith))
events_from_write [] (b ∷ written) before at size piece all = absurd (omega arith)
events_from_write (Idle ∷ calls) written before at size piece all = events_from_write calls written (idle ∷ before) at size piece all
events_from_write (Write a s k ∷ calls) written before at size piece all =
    let within : k ≤ length written = omega (arith, all) in
    let rest : kept_by calls ≡ length (drop k written) = omega (arith, all, length-drop k written) in
    ap (λ (l : List ℕ). events_from (calls ++ Write at size (length piece) ∷ []) l (wrote a s (take k (written ++ piece)) ∷ before)) (drop-append-le k written piece within)
    ∙ ap (λ (l : List ℕ). events_from (calls ++ Write at size (length piece) ∷ []) (drop k written ++ piece) (wrote a s l ∷ before)) (take-append-le k written piece within)
    ∙ events_from_write calls (drop k written) (wrote a s (take k written) ∷ before) at size piece rest
events_from_write (Sync ∷ calls) written before at size piece all = events_from_write calls written (synced ∷ before) at size piece all

pub events_write : (calls : List Call) (written : List ℕ) (at size : ℕ) (piece : List ℕ) → kept_by calls ≡ length written
    → events (calls ++ Write at size (length piece) ∷ []) (written ++ piece) ≡ wrote at size piece ∷ events calls written
events_write calls written at size piece all = events_from_write calls written [] at size piece all

pub kept_by-append : (calls more : List Call) → kept_by (calls ++ more) ≡ kept_by calls + kept_by more
kept_by-append [] more = omega arith
kept_by-append (Idle ∷ calls) more = kept_by-append calls more
kept_by-append (Write at size kept ∷ calls) more = omega (arith, kept_by-append calls more)
kept_by-append (Sync ∷ calls) more = kept_by-append calls more

length_events_from : (calls : List Call) (written : List ℕ) (before : List Event) → length (events_from calls written before) ≡ length calls + length before
length_events_from [] written before = omega arith
length_events_from (Idle ∷ calls) written before = omega (arith, length_events_from calls written (idle ∷ before))
length_events_from (Write at size kept ∷ calls) written before = omega (arith, length_events_from calls (drop kept written) (wrote at size (take kept written) ∷ before))
length_events_from (Sync ∷ calls) written before = omega (arith, length_events_from calls written (synced ∷ before))

-- each call is an event
pub length_events : (calls : List Call) (written : List ℕ) → length (events calls written) ≡ length calls
length_events calls written = omega (arith, length_events_from calls written [])

bytes_written_from : (calls : List Call) (written : List ℕ) (before : List Event) → kept_by calls ≤ length written
    → bytes_written (events_from calls written before) ≡ kept_by calls + bytes_written before
bytes_written_from [] written before all = omega arith
bytes_written_from (Idle ∷ calls) written before all = bytes_written_from calls written (idle ∷ before) all
bytes_written_from (Write at size kept ∷ calls) written before all =
    omega (arith, all, length-drop kept written, length-take-le kept written (omega (arith, all)), bytes_written_from calls (drop kept written) (wrote at size (take kept written) ∷ before) (omega (arith, all, length-drop kept written)))
bytes_written_from (Sync ∷ calls) written before all = bytes_written_from calls written (synced ∷ before) all

-- the bytes written are those that the events brought
pub bytes_written_all : (calls : List Call) (written : List ℕ) → kept_by calls ≡ length written → bytes_written (events calls written) ≡ length written
bytes_written_all calls written all = omega (arith, all, bytes_written_from calls written [] (omega (arith, all)))

-- the record after one more call
module _ (calls more : List Call) (written : List ℕ) where
  pub idle_more : more ≡ calls ++ Idle ∷ [] → events more written ≡ idle ∷ events calls written
  idle_more is = ap (λ (l : List Call). events l written) is ∙ events_idle calls written

  pub sync_more : more ≡ calls ++ Sync ∷ [] → events more written ≡ synced ∷ events calls written
  sync_more is = ap (λ (l : List Call). events l written) is ∙ events_sync calls written

  pub kept_more : (call : Call) → more ≡ calls ++ call ∷ [] → kept_by more ≡ kept_by calls + kept_by (call ∷ [])
  kept_more call is = ap kept_by is ∙ kept_by-append calls (call ∷ [])

pub write_more : (calls more : List Call) (written longer piece : List ℕ) (at size : ℕ) → more ≡ calls ++ Write at size (length piece) ∷ [] → longer ≡ written ++ piece
    → kept_by calls ≡ length written → events more longer ≡ wrote at size piece ∷ events calls written
write_more calls more written longer piece at size is longer_is all =
    ap (λ (l : List Call). events l longer) is ∙ ap (λ (l : List ℕ). events (calls ++ Write at size (length piece) ∷ []) l) longer_is ∙ events_write calls written at size piece all

-- a write that brings a front of its bytes into the file has torn its range
pub overwritten_torn : (file kept : List ℕ) (at size : ℕ) → at ≤ length file → length kept ≤ size → Torn at size file (overwritten at kept file)
overwritten_torn file kept at size place fits =
    let front : length (take at file) ≡ at = length-take-le at file place in
    let back = drop (at + length kept) file in
    let both : length (take at file ++ kept) ≡ at + length kept = omega (arith, front, length-append (take at file) kept) in
    let rest : length back ≡ length file - (at + length kept) = length-drop (at + length kept) file in
    let len : length (overwritten at kept file) ≡ at + length kept + length back = omega (arith, both, length-append (take at file ++ kept) back) in
    record {
      before = ap (λ (l : List ℕ). take at l) (append_assoc (take at file) kept back) ∙ take_at (take at file) (kept ++ back) at front;
      after =
          let split : at + size ≡ at + length kept + (size - length kept) = omega arith in
          ap (λ n. drop n (overwritten at kept file)) split
          ∙ sym (drop-drop (size - length kept) (at + length kept) (overwritten at kept file))
          ∙ ap (λ (l : List ℕ). drop (size - length kept) l) (drop_at (take at file ++ kept) back (at + length kept) both)
          ∙ drop-drop (size - length kept) (at + length kept) file
          ∙ ap (λ n. drop n file) (sym split);
      no_shorter = omega (arith, len, rest);
      no_longer = omega (arith, len, rest);
    }

module _ (first : List ℕ) (done now : List Event) where
  -- a call makes time go on by one
  pub elapses : (event : Event) → now ≡ event ∷ done
      → Elapses (length done) (length now) (IsImageSince first done) (IsImageSince first now) (IsImageAfter first now)
  elapses event is =
      subst (λ (l : List Event). Elapses (length done) (length l) (IsImageSince first done) (IsImageSince first l) (IsImageAfter first l)) (sym is) (record {
        later = omega arith;
        nothing_else = λ t c le left. ⊎_elim inr (λ earlier. inl earlier.1) left;
        keeps = λ t c le left. inr (le, left);
      })

  pub synced_only : now ≡ synced ∷ done → (c : List ℕ) → IsImageAfter first now c → c ≡ file_after first now
  synced_only is = subst (λ (l : List Event). (c : List ℕ) → IsImageAfter first l c → c ≡ file_after first l) (sym is) (λ c. ⊎_elim (λ same. same) absurd)

  pub synced_old : now ≡ synced ∷ done → (c : List ℕ) → IsImageAfter first now c → IsImageAfter first done c
  synced_old is = subst (λ (l : List Event). (c : List ℕ) → IsImageAfter first l c → IsImageAfter first done c) (sym is) (λ c. ⊎_elim inl absurd)

  pub wrote_torn : (origin : List ℕ) (at size : ℕ) (kept : List ℕ) → origin ≡ first → now ≡ wrote at size kept ∷ done → at ≤ length (file_after first done)
      → length kept ≤ size → Follows (Torn at size) (IsImageAfter first done) (IsImageAfter origin now)
  wrote_torn origin at size kept same is place fits =
      let file = file_after first done in
      let torn : Torn at size file (overwritten at kept file) = overwritten_torn file kept at size place fits in
      subst (λ (l : List ℕ). Follows (Torn at size) (IsImageAfter first done) (IsImageAfter l now)) (sym same)
      (subst (λ (l : List Event). Follows (Torn at size) (IsImageAfter first done) (IsImageAfter first l)) (sym is) (λ c. ⊎_elim
      (λ reads. (file, inl refl, subst (Torn at size file) (sym reads) torn))
      (λ left. (left.1.0, left.1.1, left.1.2))))
