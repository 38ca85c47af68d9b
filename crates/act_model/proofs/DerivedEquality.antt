-- A derived `==` holds of equal values alone, where that of each field does.
use Rattle.std.proofs.Common.{◌≡◌, Bool, true, false, ◌&&◌, eqb, List, [], ◌∷◌, Decides, refl, ap, subst}
use Rattle.std.proofs.lemmas.Bool.{and_parts, and_from, false≢true}
use Rattle.std.proofs.lemmas.Bool.Decides.{Decides-eqb}
use Rattle.std.proofs.lemmas.Slice.Eq.{slice_eq-Decides}
use Rattle.std.specs.Bool.{beq}
use Rattle.std.specs.Cmp.{booleans_Decides}
use Rattle.std.specs.Cmp.Lexicographic.{pointwise}
use Rattle.std.specs.Cmp.Derive.{of_values}
use mathlib.Core.Logic.{inl, inr}
use denote.Struct.Field.{Field}
use denote.Enum.Declared.{Record, Choice, values_one}
use denote.Enum.Compared.{Each, by}

-- the test holds of equal values, and of no others
pub record Exact {X : Type 0} (E : X → X → Bool) : Type 0 where
  pub same : (x y : X) → E x y ≡ true → x ≡ y
  pub itself : (x : X) → E x x ≡ true

pub exact_decides : {X : Type 0} {E : X → X → Bool} → Exact E → (x y : X) → Decides (E x y) (x ≡ y)
exact_decides {X} {E} e x y = (e.same x y, λ p. subst (λ z. E x z ≡ true) p (e.itself x))

pub decided : {X : Type 0} {E : X → X → Bool} → ((x y : X) → Decides (E x y) (x ≡ y)) → Exact E
decided d = record { same = λ x y. (d x y).0; itself = λ x. (d x x).1 refl }

pub numbers : Exact eqb
numbers = decided Decides-eqb

pub booleans : Exact beq
booleans = decided booleans_Decides

pub lists : {X : Type 0} {E : X → X → Bool} → Exact E → Exact (pointwise E)
lists {E = E} e = decided (λ xs ys. slice_eq-Decides (exact_decides e) xs ys (pointwise E xs ys) refl)

-- a test of parts, where different values have different parts
pub parts : {X Y : Type 0} {E : Y → Y → Bool} (f : X → Y) → ((x y : X) → f x ≡ f y → x ≡ y) → Exact E → Exact (λ x y. E (f x) (f y))
parts f apart e = record { same = λ x y h. apart x y (e.same (f x) (f y) h); itself = λ x. e.itself (f x) }

-- each variant's fields are compared exactly
abbrev pub Exacts : (Fss : List (List Field)) → Each Bool Fss → Type 0
Exacts [] es = Unit {0}
Exacts (Fs ∷ Fss) es = Exact es.0 × Exacts Fss es.1

same_choice : (Fss : List (List Field)) (es : Each Bool Fss) → Exacts Fss es → (c d : Choice Fss) → by false false Fss es c d ≡ true → c ≡ d
same_choice [] es all c d h = absurd c
same_choice (Fs ∷ Fss) es all (inl x) (inl y) h = ap inl (all.0.same x y h)
same_choice (Fs ∷ Fss) es all (inl x) (inr y) h = absurd (false≢true h)
same_choice (Fs ∷ Fss) es all (inr x) (inl y) h = absurd (false≢true h)
same_choice (Fs ∷ Fss) es all (inr x) (inr y) h = ap inr (same_choice Fss es.1 all.1 x y h)

choice_itself : (Fss : List (List Field)) (es : Each Bool Fss) → Exacts Fss es → (c : Choice Fss) → by false false Fss es c c ≡ true
choice_itself [] es all c = absurd c
choice_itself (Fs ∷ Fss) es all (inl x) = all.0.itself x
choice_itself (Fs ∷ Fss) es all (inr x) = choice_itself Fss es.1 all.1 x

pub enum_exact : (N : Record) (es : Each Bool N.parts) → Exacts N.parts es → Exact (of_values N false false es)
enum_exact N es all = record {
  same = λ x y h. values_one N x y (same_choice N.parts es all (N.as_values x) (N.as_values y) h);
  itself = λ x. choice_itself N.parts es all (N.as_values x);
}

-- no field, a last field, and one before others
pub none : Exact {X = Unit {0}} (λ x y. true)
none = record { same = λ x y h. refl; itself = λ x. refl }

pub one : {A : Type 0} {E : A → A → Bool} → Exact E → Exact {X = A × Unit {0}} (λ x y. E x.0 y.0)
one a = record { same = λ x y h. ap (λ v. (v, tt)) (a.same x.0 y.0 h); itself = λ x. a.itself x.0 }

pub pair : {A B : Type 0} {E : A → A → Bool} {F : B → B → Bool} → Exact E → Exact F → Exact {X = A × B} (λ x y. E x.0 y.0 && F x.1 y.1)
pair {E = E} {F} a b = record {
  same = λ x y h. let p = and_parts (E x.0 y.0) (F x.1 y.1) h in λ i. (a.same x.0 y.0 p.0 i, b.same x.1 y.1 p.1 i);
  itself = λ x. and_from (E x.0 x.0) (F x.1 x.1) (a.itself x.0) (b.itself x.1);
}
