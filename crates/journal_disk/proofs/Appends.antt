-- What a stop leaves of a file to which a frame is being appended.
use Rattle.std.proofs.Common.{◌≡◌, ◌≢◌, inl, inr, ⊎_elim, ℕ, suc, ◌+◌, ◌<◌, List, [], ◌∷◌, ◌++◌, length, get_or, take, drop, All, sym, ◌∙◌, ap, subst, arith, append_assoc, length-append, take-append-drop}
use Rattle.std.proofs.lemmas.Bool.{cases_eq}
use Rattle.std.proofs.lemmas.List.{take_at, drop_at, drop_more}
use Rattle.std.proofs.lemmas.List.Elements.{All-push}
use Rattle.gb_outside.specs.Images.{Holds, Torn, Only}
use Rattle.journal_disk.specs.Layout.{the_heading, IsBody, measured, frames, end_of, IsUnmade, IsJournal, StandsFor}
use Rattle.journal_disk.specs.inner.Writing.{TornFrom}
use Rattle.journal_disk.specs.Appending.{StandsOn, FramesWithOrWithout}
use Rattle.journal_disk.proofs.FrameBytes.{frames-push, length-frames-push}

-- a mark, the heading and the frames of these bodies
abbrev front : ℕ → List (List ℕ) → List ℕ
front mark bodies = mark ∷ (the_heading ++ frames bodies)

length-front : (mark : ℕ) (bodies : List (List ℕ)) → length (front mark bodies) ≡ end_of the_heading bodies
length-front mark bodies = omega (arith, length-append the_heading (frames bodies))

-- a made file with these frames and a gate that is not open is a journal
journal : (file : List ℕ) (bodies : List (List ℕ)) (mark gate : ℕ) (rest : List ℕ) → mark ≢ 0 → gate ≢ 1 → All IsBody bodies → file ≡ front mark bodies ++ gate ∷ rest → IsJournal the_heading file bodies
journal file bodies mark gate rest made closed sizes whole = record { mark = mark; gate = gate; rest = rest; made = made; closed = closed; sizes = sizes; whole = whole }

-- an open gate, a length and a body are one frame more
one_more : (mark : ℕ) (bodies : List (List ℕ)) (body rest : List ℕ) → front mark bodies ++ 1 ∷ (measured body ++ rest) ≡ front mark (bodies ++ body ∷ []) ++ rest
one_more mark bodies body rest =
    sym (append_assoc (front mark bodies) (1 ∷ measured body) rest)
    ∙ ap (λ (l : List ℕ). mark ∷ (l ++ rest)) (append_assoc the_heading (frames bodies) (1 ∷ measured body) ∙ ap (λ (l : List ℕ). the_heading ++ l) (sym (frames-push bodies body)))

-- a file whose first two bytes stay is still unmade
unmade_torn : (at n : ℕ) (d c : List ℕ) → IsUnmade d → Torn (suc (suc at)) n d c → IsUnmade c
unmade_torn at n d [] unmade torn = tt
unmade_torn at n d (mark ∷ []) unmade torn = tt
unmade_torn at n [] (mark ∷ next ∷ rest) unmade torn = let same : mark ∷ next ∷ take at rest ≡ [] = torn.before in cc
unmade_torn at n (first ∷ []) (mark ∷ next ∷ rest) unmade torn = let same : mark ∷ next ∷ take at rest ≡ first ∷ [] = torn.before in cc
unmade_torn at n (first ∷ second ∷ others) (mark ∷ next ∷ rest) unmade torn =
    let same : mark ∷ next ∷ take at rest ≡ first ∷ second ∷ take at others = torn.before in cc

-- a file keeps its frames while the bytes after its gate are written
behind_torn : (bodies : List (List ℕ)) (n : ℕ) (d c : List ℕ) → IsJournal the_heading d bodies → Torn (end_of the_heading bodies + 1) n d c → IsJournal the_heading c bodies
behind_torn bodies n d c is torn =
    let at = end_of the_heading bodies + 1 in
    let ahead = front is.mark bodies ++ is.gate ∷ [] in
    let long : length ahead ≡ at = omega (arith, length-append (front is.mark bodies) (is.gate ∷ []), length-front is.mark bodies) in
    let kept : take at c ≡ ahead =
    torn.before ∙ ap (λ (l : List ℕ). take at l) (is.whole ∙ sym (append_assoc (front is.mark bodies) (is.gate ∷ []) is.rest)) ∙ take_at ahead is.rest at long in
    journal c bodies is.mark is.gate (drop at c) is.made is.closed is.sizes
    (sym (take-append-drop at c) ∙ ap (λ (l : List ℕ). l ++ drop at c) kept ∙ append_assoc (front is.mark bodies) (is.gate ∷ []) (drop at c))

module _ (gate : ℕ) (bodies : List (List ℕ)) (body file : List ℕ) (images : List ℕ → Type 0) (stands : StandsOn the_heading gate bodies file images) where
  abbrev was : IsJournal the_heading file bodies
  was = stands.journal

  -- while the record is written the file keeps its frames
  pub record_put : (n : ℕ) (c : List ℕ) → TornFrom images (gate + 1) n c → StandsFor the_heading c bodies
  record_put n c from =
      let two : gate + 1 ≡ suc (suc (length (frames bodies) + 8)) = omega (arith, stands.ends) in
      let same : gate + 1 ≡ end_of the_heading bodies + 1 = ap (λ g. g + 1) stands.ends in
      ⊎_elim
      (λ unmade. inl (unmade_torn (length (frames bodies) + 8) n from.0 c unmade.0 (subst (λ at. Torn at n from.0 c) two from.2), unmade.1))
      (λ is. inr (behind_torn bodies n from.0 c is (subst (λ at. Torn at n from.0 c) same from.2)))
      (stands.durable from.0 from.1)

  -- the file once the record is written after the closed gate
  pub record_written : (piece new : List ℕ) → piece ≡ measured body ++ 0 ∷ [] → Holds file (gate + 1) piece new
      → new ≡ front was.mark bodies ++ was.gate ∷ (measured body ++ 0 ∷ drop (gate + 1 + length (measured body ++ 0 ∷ [])) file)
  record_written piece new is holds =
      let at = gate + 1 in
      let ahead = front was.mark bodies ++ was.gate ∷ [] in
      let rest = drop (at + length (measured body ++ 0 ∷ [])) file in
      let long : length ahead ≡ at = omega (arith, length-append (front was.mark bodies) (was.gate ∷ []), length-front was.mark bodies, stands.ends) in
      let kept : take at file ≡ ahead =
      ap (λ (l : List ℕ). take at l) (was.whole ∙ sym (append_assoc (front was.mark bodies) (was.gate ∷ []) was.rest)) ∙ take_at ahead was.rest at long in
      holds
      ∙ ap (λ (l : List ℕ). take at file ++ l ++ drop (at + length l) file) is
      ∙ ap (λ (l : List ℕ). l ++ (measured body ++ 0 ∷ []) ++ rest) kept
      ∙ append_assoc ahead (measured body ++ 0 ∷ []) rest
      ∙ ap (λ (l : List ℕ). ahead ++ l) (append_assoc (measured body) (0 ∷ []) rest)
      ∙ append_assoc (front was.mark bodies) (was.gate ∷ []) (measured body ++ 0 ∷ rest)

  module _ (is_body : IsBody body) (rest staged : List ℕ) (later : List ℕ → Type 0) (staged_is : staged ≡ front was.mark bodies ++ was.gate ∷ (measured body ++ 0 ∷ rest)) (only : Only staged later) where
    long : length (front was.mark bodies) ≡ gate
    long = omega (arith, length-front was.mark bodies, stands.ends)

    back : drop (gate + 1) staged ≡ measured body ++ 0 ∷ rest
    back =
        let ahead = front was.mark bodies ++ was.gate ∷ [] in
        ap (λ (l : List ℕ). drop (gate + 1) l) (staged_is ∙ sym (append_assoc (front was.mark bodies) (was.gate ∷ []) (measured body ++ 0 ∷ rest)))
        ∙ drop_at ahead (measured body ++ 0 ∷ rest) (gate + 1) (omega (arith, length-append (front was.mark bodies) (was.gate ∷ []), long))

    ahead_of : take gate staged ≡ front was.mark bodies
    ahead_of = ap (λ (l : List ℕ). take gate l) staged_is ∙ take_at (front was.mark bodies) (was.gate ∷ (measured body ++ 0 ∷ rest)) gate long

    -- whatever value the gate gets, the file has its frames with the new one or without it
    any_gate : (c : List ℕ) (x : ℕ) → c ≡ front was.mark bodies ++ x ∷ (measured body ++ 0 ∷ rest) → FramesWithOrWithout the_heading bodies body c
    any_gate c x whole = elim (cases_eq x 1) [
      | inl opened ↦
          let shape : c ≡ front was.mark (bodies ++ body ∷ []) ++ 0 ∷ rest =
          whole ∙ ap (λ n. front was.mark bodies ++ n ∷ (measured body ++ 0 ∷ rest)) opened ∙ one_more was.mark bodies body (0 ∷ rest) in
          inr (inr (journal c (bodies ++ body ∷ []) was.mark 0 rest was.made (omega arith) (All-push IsBody bodies body was.sizes is_body) shape))
      | inr closed ↦ inl (inr (journal c bodies was.mark x (measured body ++ 0 ∷ rest) was.made closed was.sizes whole))
    ]

    -- while the gate is written a stop leaves the frames with the new one or without it
    pub gate_put : (c : List ℕ) → TornFrom later gate 1 c → FramesWithOrWithout the_heading bodies body c
    gate_put c from =
        let torn : Torn gate 1 staged c = subst (λ (l : List ℕ). Torn gate 1 l c) (only from.0 from.1) from.2 in
        let longer : gate < length c = omega (arith, torn.no_shorter, ap length staged_is, length-append (front was.mark bodies) (was.gate ∷ (measured body ++ 0 ∷ rest)), long) in
        let x = get_or c gate 0 in
        let behind : drop gate c ≡ x ∷ (measured body ++ 0 ∷ rest) = drop_more c gate 0 longer ∙ ap (λ (l : List ℕ). x ∷ l) (torn.after ∙ back) in
        any_gate c x (sym (take-append-drop gate c) ∙ ap (λ (l : List ℕ). l ++ drop gate c) (torn.before ∙ ahead_of) ∙ ap (λ (l : List ℕ). front was.mark bodies ++ l) behind)

    -- once the gate is written and synced, the new frame is on the disk
    pub gate_written : (new : List ℕ) (now : List ℕ → Type 0) → Holds staged gate (1 ∷ []) new → Only new now → StandsOn the_heading (gate + 5 + length body) (bodies ++ body ∷ []) new now
    gate_written new now holds only_new =
        let whole : new ≡ front was.mark (bodies ++ body ∷ []) ++ 0 ∷ rest =
        holds
        ∙ ap (λ (l : List ℕ). l ++ (1 ∷ []) ++ drop (gate + 1) staged) ahead_of
        ∙ ap (λ (l : List ℕ). front was.mark bodies ++ (1 ∷ []) ++ l) back
        ∙ append_assoc (front was.mark bodies) (1 ∷ []) (measured body ++ 0 ∷ rest)
        ∙ one_more was.mark bodies body (0 ∷ rest) in
        let is = journal new (bodies ++ body ∷ []) was.mark 0 rest was.made (omega arith) (All-push IsBody bodies body was.sizes is_body) whole in
        record {
          journal = is;
          ends = omega (arith, stands.ends, length-frames-push bodies body);
          durable = λ c image. inr (subst (λ (l : List ℕ). IsJournal the_heading l (bodies ++ body ∷ [])) (sym (only_new c image)) is);
        }
