-- Bytes that end inside a target: line ends, a method, a space, and bytes of a target.
use Rattle.std.proofs.Common.{◌≡◌, ℕ, ◌<◌, ◌≤◌, Bool, true, false, ◌==◌, ◌&&◌, ⊎_elim, List, [], ◌∷◌, ◌++◌, length, refl, sym, ap, subst, ◌∙◌, arith, append_assoc, length-append}
use Rattle.std.specs.List.{list_all}
use Rattle.std.proofs.lemmas.Bool.{cases_eq, cases_Bool, ne_eqb, and_parts, and_left, and_right, eqb-true, false≢true}
use Rattle.std.proofs.lemmas.List.Elements.{All-nil, All-cons, All-head, All-tail}
use Rattle.std.proofs.lemmas.List.Sums.{AllPass-from_list_all, list_all-from_AllPass}
use Rattle.httparse.specs.Grammar.{LineEnd, crlf, lf, print_blank, is_token_byte, is_uri_byte, IsToken, AllPass, EndsInTarget}
use Rattle.httparse.proofs.PieceLemmas.{space_ends_token}
use Rattle.registry_http.specs.inner.Reading.{without_blank, without_token, is_space_and_target}

-- ---- line ends

without_blank-lf : (bytes : List ℕ) → without_blank (10 ∷ bytes) ≡ without_blank bytes
without_blank-lf [] = refl
without_blank-lf (b ∷ bytes) = refl

-- the line ends at the front of bytes, and what stands behind them
record Blank (bytes : List ℕ) : Type 0 where
  ends : List LineEnd
  whole : bytes ≡ print_blank ends ++ without_blank bytes

none_blank : (bytes : List ℕ) → without_blank bytes ≡ bytes → Blank bytes
none_blank bytes same = record { ends = []; whole = sym same }

lf_blank : (bytes : List ℕ) → Blank bytes → Blank (10 ∷ bytes)
lf_blank bytes b = record { ends = lf ∷ b.ends; whole = ap (λ l. 10 ∷ l) (rw without_blank-lf b.whole) }

crlf_blank : (bytes : List ℕ) → Blank bytes → Blank (13 ∷ 10 ∷ bytes)
crlf_blank bytes b = record { ends = crlf ∷ b.ends; whole = ap (λ l. 13 ∷ 10 ∷ l) b.whole }

one_stays : (a : ℕ) → (a ≡ 10 → ⊥) → without_blank (a ∷ []) ≡ a ∷ []
one_stays a differs = rw (ne_eqb a 10 differs) refl

two_stay : (a b : ℕ) (bytes : List ℕ) → (a ≡ 10 → ⊥) → (a == 13 && b == 10) ≡ false → without_blank (a ∷ b ∷ bytes) ≡ a ∷ b ∷ bytes
two_stay a b bytes differs none = rw (ne_eqb a 10 differs, none) refl

blank_of : (bytes : List ℕ) → Blank bytes
blank_of [] = none_blank [] refl
blank_of (a ∷ []) =
    ⊎_elim (λ (same : a ≡ 10). subst (λ v. Blank (v ∷ [])) (sym same) (lf_blank [] (none_blank [] refl)))
    (λ (differs : a ≡ 10 → ⊥). none_blank (a ∷ []) (one_stays a differs)) (cases_eq a 10)
blank_of (a ∷ b ∷ bytes) =
    ⊎_elim (λ (same : a ≡ 10). subst (λ v. Blank (v ∷ b ∷ bytes)) (sym same) (lf_blank (b ∷ bytes) (blank_of (b ∷ bytes))))
    (λ (differs : a ≡ 10 → ⊥).
    ⊎_elim (λ (cr : a ≡ 13).
    ⊎_elim (λ (same : b ≡ 10). subst (λ v. Blank (v ∷ b ∷ bytes)) (sym cr) (subst (λ v. Blank (13 ∷ v ∷ bytes)) (sym same) (crlf_blank bytes (blank_of bytes))))
    (λ (other : b ≡ 10 → ⊥). none_blank (a ∷ b ∷ bytes) (two_stay a b bytes differs (and_right _ _ (ne_eqb b 10 other)))) (cases_eq b 10))
    (λ (other : a ≡ 13 → ⊥). none_blank (a ∷ b ∷ bytes) (two_stay a b bytes differs (and_left _ _ (ne_eqb a 13 other)))) (cases_eq a 13))
    (cases_eq a 10)

without_blank-blank : (ends : List LineEnd) (rest : List ℕ) → without_blank (print_blank ends ++ rest) ≡ without_blank rest
without_blank-blank [] rest = refl
without_blank-blank (crlf ∷ ends) rest = without_blank-blank ends rest
without_blank-blank (lf ∷ ends) rest = without_blank-lf (print_blank ends ++ rest) ∙ without_blank-blank ends rest

no_blank : (b : ℕ) (bytes : List ℕ) → (b ≡ 10 → ⊥) → (b ≡ 13 → ⊥) → without_blank (b ∷ bytes) ≡ b ∷ bytes
no_blank b [] not_lf not_cr = one_stays b not_lf
no_blank b (c ∷ bytes) not_lf not_cr = two_stay b c bytes not_lf (and_left _ _ (ne_eqb b 13 not_cr))

pub token_differs : (b c : ℕ) → is_token_byte b ≡ true → is_token_byte c ≡ false → b ≡ c → ⊥
token_differs b c token other same = false≢true (sym other ∙ subst (λ (v : ℕ). is_token_byte v ≡ true) same token)

pub lf_ends_token : is_token_byte 10 ≡ false
unfolding is_token_byte
lf_ends_token = refl

pub cr_ends_token : is_token_byte 13 ≡ false
unfolding is_token_byte
cr_ends_token = refl

-- a token is no line end
without_blank-token : (token rest : List ℕ) → IsToken token → without_blank (token ++ rest) ≡ token ++ rest
without_blank-token [] rest t = absurd (omega (arith, t.0))
without_blank-token (b ∷ token) rest t =
    let first : is_token_byte b ≡ true = All-head (λ v. is_token_byte v ≡ true) b token t.1 in
    no_blank b (token ++ rest) (token_differs b 10 first lf_ends_token) (token_differs b 13 first cr_ends_token)

-- ---- methods

-- the bytes of a token at the front of bytes, and what stands behind them
record Token (bytes : List ℕ) : Type 0 where
  token : List ℕ
  pass : AllPass is_token_byte token
  whole : bytes ≡ token ++ without_token bytes

token_of : (bytes : List ℕ) → Token bytes
token_of [] = record { token = []; pass = All-nil (λ v. is_token_byte v ≡ true); whole = refl }
token_of (b ∷ bytes) =
    let t = token_of bytes in
    ⊎_elim (λ (good : is_token_byte b ≡ true).
    record {
      token = b ∷ t.token;
      pass = All-cons (λ v. is_token_byte v ≡ true) b t.token good t.pass;
      whole = rw good (ap (λ l. b ∷ l) t.whole);
    })
    (λ (bad : is_token_byte b ≡ false). record { token = []; pass = All-nil (λ v. is_token_byte v ≡ true); whole = rw bad refl })
    (cases_Bool (is_token_byte b))

without_token-token : (token rest : List ℕ) → AllPass is_token_byte token → without_token (token ++ rest) ≡ without_token rest
without_token-token [] rest pass = refl
without_token-token (b ∷ token) rest pass =
    rw (All-head (λ v. is_token_byte v ≡ true) b token pass)
    (without_token-token token rest (All-tail (λ v. is_token_byte v ≡ true) b token pass))

without_token-space : (rest : List ℕ) → without_token (32 ∷ rest) ≡ 32 ∷ rest
without_token-space rest = rw space_ends_token refl

-- ---- the target

-- what the parts of bytes show
pub record ShowsTarget (bytes : List ℕ) : Type 0 where
  pub method : length (without_token (without_blank bytes)) < length (without_blank bytes)
  pub target : is_space_and_target (without_token (without_blank bytes)) ≡ true

some_token : (token line behind : List ℕ) → line ≡ token ++ behind → length behind < length line → 0 < length token
some_token [] line behind whole shorter = absurd (omega (arith, ap length whole))
some_token (b ∷ token) line behind whole shorter = omega arith

space_first : (behind : List ℕ) → is_space_and_target behind ≡ true → (target : List ℕ) × (behind ≡ 32 ∷ target) × (list_all is_uri_byte target ≡ true)
space_first [] h = absurd (false≢true h)
space_first (b ∷ target) h =
    let parts = and_parts (b == 32) (list_all is_uri_byte target) h in
    (target, ap (λ (v : ℕ). v ∷ target) (eqb-true b 32 parts.0), parts.1)

pub ends_in_target : (bytes : List ℕ) → ShowsTarget bytes → EndsInTarget bytes
ends_in_target bytes shown =
    let line = without_blank bytes in
    let b = blank_of bytes in
    let t = token_of line in
    let space = space_first (without_token line) shown.target in
    let whole : line ≡ t.token ++ 32 ∷ space.0 = t.whole ∙ ap (λ l. t.token ++ l) space.1 in (
      b.ends,
      t.token,
      space.0,
      (some_token t.token line (without_token line) t.whole shown.method, t.pass),
      AllPass-from_list_all is_uri_byte space.0 space.2,
      b.whole ∙ ap (λ l. print_blank b.ends ++ l) whole ∙ sym (append_assoc (print_blank b.ends) t.token (32 ∷ space.0)),
    )

pub shows_target : (bytes : List ℕ) → EndsInTarget bytes → ShowsTarget bytes
shows_target bytes ends =
    let line : without_blank bytes ≡ ends.1 ++ 32 ∷ ends.2 =
    ap without_blank (ends.5 ∙ append_assoc (print_blank ends.0) ends.1 (32 ∷ ends.2))
    ∙ without_blank-blank ends.0 (ends.1 ++ 32 ∷ ends.2) ∙ without_blank-token ends.1 (32 ∷ ends.2) ends.3 in
    let behind : without_token (without_blank bytes) ≡ 32 ∷ ends.2 =
    ap without_token line ∙ without_token-token ends.1 (32 ∷ ends.2) ends.3.1 ∙ without_token-space ends.2 in
    record {
      method = omega (arith, ap length line, ap length behind, length-append ends.1 (32 ∷ ends.2), ends.3.0);
      target = rw behind (list_all-from_AllPass is_uri_byte ends.2 ends.4);
    }

-- where a method's bytes were skipped, what follows decides
pub ends_by : (bytes line behind : List ℕ) (r : Bool) → line ≡ without_blank bytes → behind ≡ without_token line → length behind < length line
    → r ≡ is_space_and_target behind → (r ≡ true → EndsInTarget bytes) × (EndsInTarget bytes → r ≡ true)
ends_by bytes line behind r line_is behind_is shorter r_is =
    let rest : behind ≡ without_token (without_blank bytes) = behind_is ∙ ap without_token line_is in (
      λ yes. ends_in_target bytes (record {
        method = omega (arith, ap length rest, ap length line_is);
        target = sym (ap is_space_and_target rest) ∙ sym r_is ∙ yes;
      }),
      λ ends. r_is ∙ ap is_space_and_target rest ∙ (shows_target bytes ends).target,
    )

-- where no byte of a method was skipped, the bytes do not end in a target
pub ends_nowhere : (bytes line behind : List ℕ) (r : Bool) → line ≡ without_blank bytes → behind ≡ without_token line → length line ≤ length behind
    → (r ≡ true → length behind < length line) → (r ≡ true → EndsInTarget bytes) × (EndsInTarget bytes → r ≡ true)
ends_nowhere bytes line behind r line_is behind_is longer shorter =
    let rest : behind ≡ without_token (without_blank bytes) = behind_is ∙ ap without_token line_is in (
      λ yes. let h : length behind < length line = shorter yes in absurd (omega arith),
      λ ends. let h = (shows_target bytes ends).method in absurd (omega (arith, h, ap length rest, ap length line_is)),
    )
