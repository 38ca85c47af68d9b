-- Each file of bytes has a standing.
use Rattle.std.proofs.Common.{◌≡◌, ◌≢◌, inl, inr, ℕ, zero, suc, ◌+◌, ◌-◌, ◌<◌, ◌≤◌, List, [], ◌∷◌, ◌++◌, length, get_or, take, drop, All, refl, sym, ◌∙◌, ap, subst, arith, append_assoc, length-append, length-drop, take-append-drop}
use Rattle.std.proofs.lemmas.Bool.{cases_eq, cases_lt, cases_Bool}
use Rattle.std.proofs.lemmas.List.{get_or-drop}
use Rattle.std.proofs.lemmas.List.Elements.{All-nil, All-cons}
use Rattle.std.proofs.lemmas.Slice.Eq.{bytes_eq-Decides}
use Rattle.std.specs.Str.{bytes_eq}
use Rattle.std.specs.Int.{w32, from_be_bytes}
use Rattle.journal_disk.specs.Standing.{Standing}
use Rattle.journal_disk.specs.Standing as standing
use Rattle.journal_disk.specs.Layout.{the_heading, IsBody, measured, frames, end_of, IsMade, IsNoFrame, HasStanding}
use Rattle.journal_disk.specs.inner.Scan.{Begins}
use Rattle.journal_disk.proofs.FrameBytes.{begins, cut_behind}
use Rattle.journal_disk.proofs.Standings.{IsEnd}

-- each number is a byte
abbrev AreBytes : List ℕ → Type 0
AreBytes bytes = (i : ℕ) → get_or bytes i 0 < 256

bytes_behind : (n : ℕ) (bytes behind : List ℕ) → drop n bytes ≡ behind → AreBytes bytes → AreBytes behind
bytes_behind n bytes behind is small i = subst (λ (l : List ℕ). get_or l i 0 < 256) is (subst (λ k. k < 256) (sym (get_or-drop n bytes i 0)) (small (n + i)))

fewer_behind : (n : ℕ) (bytes behind : List ℕ) → drop n bytes ≡ behind → length behind ≡ length bytes - n
fewer_behind n bytes behind is = ap length (sym is) ∙ length-drop n bytes

-- the bytes are frames, and what ends them
record ReadAs (bytes : List ℕ) : Type 0 where
  pub bodies : List (List ℕ)
  pub tail : List ℕ
  pub sizes : All IsBody bodies
  pub ends : IsEnd tail
  pub whole : bytes ≡ frames bodies ++ tail

none_open : (rest : List ℕ) → IsNoFrame rest → ReadAs (1 ∷ rest)
unfolding IsEnd
none_open rest none = record { bodies = []; tail = 1 ∷ rest; sizes = All-nil IsBody; ends = (1, rest, refl, inr (refl, none)); whole = refl }

none_closed : (gate : ℕ) (rest : List ℕ) → gate ≢ 1 → ReadAs (gate ∷ rest)
unfolding IsEnd
none_closed gate rest closed = record { bodies = []; tail = gate ∷ rest; sizes = All-nil IsBody; ends = (gate, rest, refl, inl closed); whole = refl }

one_more : (bytes : List ℕ) (size : ℕ) (begun : Begins bytes size) → ReadAs begun.rest → ReadAs bytes
one_more bytes size begun read = record {
  bodies = begun.body ∷ read.bodies;
  tail = read.tail;
  sizes = All-cons IsBody begun.body read.bodies begun.is_body read.sizes;
  ends = read.ends;
  whole =
      begun.whole
      ∙ ap (λ (l : List ℕ). 1 ∷ (measured begun.body ++ l)) read.whole
      ∙ ap (λ (l : List ℕ). 1 ∷ l) (sym (append_assoc (measured begun.body) (frames read.bodies) read.tail));
}

-- bytes that begin with an open gate can be read, where what follows the gate can be, being no longer than n
read_open : (n : ℕ) (rest : List ℕ) → ((bytes : List ℕ) → length bytes ≤ n → 1 ≤ length bytes → AreBytes bytes → ReadAs bytes) → length rest ≤ n → AreBytes (1 ∷ rest) → ReadAs (1 ∷ rest)
read_open n [] read few small = none_open [] tt
read_open n (a ∷ []) read few small = none_open (a ∷ []) tt
read_open n (a ∷ b ∷ []) read few small = none_open (a ∷ b ∷ []) tt
read_open n (a ∷ b ∷ c ∷ []) read few small = none_open (a ∷ b ∷ c ∷ []) tt
read_open n (a ∷ b ∷ c ∷ d ∷ rest) read few small = elim (cases_eq size 0) [
  | inl none ↦ none_open (a ∷ b ∷ c ∷ d ∷ rest) (inl none)
  | inr some ↦ elim (cases_lt 1024 size) [
    | inl long ↦ none_open (a ∷ b ∷ c ∷ d ∷ rest) (inr (inl long))
    | inr fits ↦ elim (cases_lt size (length rest)) [
      | inl within ↦ whole_frame some fits within
      | inr cut ↦ none_open (a ∷ b ∷ c ∷ d ∷ rest) (inr (inr cut))
    ]
  ]
]
  where
    size : ℕ
    size = from_be_bytes w32 (a ∷ b ∷ c ∷ d ∷ [])

    whole_frame : size ≢ 0 → size ≤ 1024 → size < length rest → ReadAs (1 ∷ a ∷ b ∷ c ∷ d ∷ rest)
    whole_frame some fits within =
        let bytes : List ℕ = 1 ∷ a ∷ b ∷ c ∷ d ∷ rest in
        let begun : Begins bytes size = begins bytes size (omega arith) refl small (omega arith) (omega arith) fits within in
        let behind : drop (5 + size) bytes ≡ begun.rest = cut_behind bytes size begun in
        let fewer : length begun.rest ≤ n = omega (arith, fewer_behind (5 + size) bytes begun.rest behind, few) in
        let smaller : AreBytes begun.rest = bytes_behind (5 + size) bytes begun.rest behind small in
        one_more bytes size begun (read begun.rest fewer begun.gate_behind smaller)

-- bytes that begin with a gate can be read, where they are no longer than n
read_from : (n : ℕ) (bytes : List ℕ) → length bytes ≤ n → 1 ≤ length bytes → AreBytes bytes → ReadAs bytes
read_from n [] few some small = absurd (omega arith)
read_from zero (gate ∷ rest) few some small = absurd (omega arith)
read_from (suc n) (gate ∷ rest) few some small = elim (cases_eq gate 1) [
  | inl opened ↦ subst (λ g. ReadAs (g ∷ rest)) (sym opened) (read_open n rest (read_from n) (omega arith) (subst (λ g. AreBytes (g ∷ rest)) opened small))
  | inr closed ↦ none_closed gate rest closed
]

-- a made file is a journal, or bad
made_standing : (file : List ℕ) → AreBytes file → IsMade the_heading file → (s : Standing (List (List ℕ))) × HasStanding the_heading file s
unfolding IsEnd
made_standing file small is =
    let from : drop 9 file ≡ is.gate ∷ is.rest = ap (λ (l : List ℕ). drop 9 l) is.whole in
    let smaller : AreBytes (is.gate ∷ is.rest) = bytes_behind 9 file (is.gate ∷ is.rest) from small in
    let read = read_from (length (is.gate ∷ is.rest)) (is.gate ∷ is.rest) (omega arith) (omega arith) smaller in
    let whole : file ≡ is.mark ∷ (the_heading ++ frames read.bodies ++ read.ends.0 ∷ read.ends.1) =
    is.whole
    ∙ ap (λ (l : List ℕ). is.mark ∷ (the_heading ++ l)) (read.whole ∙ ap (λ (l : List ℕ). frames read.bodies ++ l) read.ends.2) in
    elim read.ends.3 [
      | inl closed ↦ (standing.Journal read.bodies, record { mark = is.mark; gate = read.ends.0; rest = read.ends.1; made = is.made; closed = closed; sizes = read.sizes; whole = whole })
      | inr opened ↦ (
        standing.Bad (end_of the_heading read.bodies),
        (
          read.bodies,
          record { mark = is.mark; rest = read.ends.1; made = is.made; sizes = read.sizes; none = opened.1; whole = whole ∙ ap (λ g. is.mark ∷ (the_heading ++ frames read.bodies ++ g ∷ read.ends.1)) opened.0 },
          refl,
        ),
      )
    ]

-- a file whose mark is not 0 has a standing, by the bytes that follow the mark
with_mark : (mark next : ℕ) (rest : List ℕ) → mark ≢ 0 → AreBytes (mark ∷ next ∷ rest) → (s : Standing (List (List ℕ))) × HasStanding the_heading (mark ∷ next ∷ rest) s
with_mark mark next rest made small = elim (cases_Bool (bytes_eq (take 8 (next ∷ rest)) the_heading)) [
  | inl same ↦ headed ((bytes_eq-Decides (take 8 (next ∷ rest)) the_heading).0 same) (drop 8 (next ∷ rest)) refl
  | inr other ↦ (
    standing.Foreign,
    record {
      not_unmade = made;
      not_made = λ is.
          let headed : take 8 (next ∷ rest) ≡ the_heading = ap (λ (l : List ℕ). take 8 (drop 1 l)) is.whole in
          let yes = (bytes_eq-Decides (take 8 (next ∷ rest)) the_heading).1 headed in
          cc;
    },
  )
]
  where
    headed : take 8 (next ∷ rest) ≡ the_heading → (behind : List ℕ) → behind ≡ drop 8 (next ∷ rest) → (s : Standing (List (List ℕ))) × HasStanding the_heading (mark ∷ next ∷ rest) s
    headed heading [] nothing = (
      standing.Foreign,
      record { not_unmade = made; not_made = λ is. omega (arith, ap length nothing, length-drop 8 (next ∷ rest), ap length is.whole, length-append the_heading (is.gate ∷ is.rest)) },
    )
    headed heading (gate ∷ others) behind =
        made_standing (mark ∷ next ∷ rest) small (record {
          mark = mark;
          gate = gate;
          rest = others;
          made = made;
          whole =
              ap (λ (l : List ℕ). mark ∷ l) (sym (take-append-drop 8 (next ∷ rest)))
              ∙ ap (λ (l : List ℕ). mark ∷ (l ++ drop 8 (next ∷ rest))) heading
              ∙ ap (λ (l : List ℕ). mark ∷ (the_heading ++ l)) (sym behind);
        })

of_bytes : (file : List ℕ) → AreBytes file → (s : Standing (List (List ℕ))) × HasStanding the_heading file s
of_bytes [] small = (standing.Unmade, tt)
of_bytes (mark ∷ []) small = (standing.Unmade, tt)
of_bytes (mark ∷ next ∷ rest) small = elim (cases_eq mark 0) [
  | inl unmade ↦ (standing.Unmade, unmade)
  | inr made ↦ with_mark mark next rest made small
]

are_bytes : (file : List ℕ) → All (λ byte. byte < 256) file → AreBytes file
are_bytes file all i = elim (cases_lt i (length file)) [
  | inl within ↦ all i 0 within
  | inr beyond ↦ omega (arith, get_or_past file i beyond)
]
  where
    get_or_past : (l : List ℕ) (i : ℕ) → length l ≤ i → get_or l i 0 ≡ 0
    get_or_past [] i past = refl
    get_or_past (x ∷ xs) zero past = absurd (omega arith)
    get_or_past (x ∷ xs) (suc i) past = get_or_past xs i (omega arith)

pub has_standing : (file : List ℕ) → All (λ byte. byte < 256) file → (s : Standing (List (List ℕ))) × HasStanding the_heading file s
has_standing file all = of_bytes file (are_bytes file all)
