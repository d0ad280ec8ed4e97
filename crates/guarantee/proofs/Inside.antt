-- Step lines and steps inside groups: what a verdict means.
use mathlib.Core.Path.{◌≡◌, refl, sym, ap, subst, ◌∙◌}
use mathlib.Core.Bool.{Bool, true, false, ◌&&◌}
use mathlib.Core.Logic.{◌⊎◌, inl, inr}
use mathlib.Core.List.{List, [], ◌∷◌}
use mathlib.Core.Option.{Option, none, some}
use Prim.Native.Nat.{ℕ}
use lib.Dec.{T, eqb_refl}
use Rattle.definition.specs.declared.paths.PathKind.{PathKind}
use Rattle.definition.specs.declared.paths.PathKind.TheVariants.{Inductive, Coinductive}
use Rattle.definition.specs.Paths.{kind_number, same_kind}
use Rattle.definition.specs.Part.{Book}
use Rattle.definition.proofs.Tests.{and_left, and_right}
use Rattle.soundness.specs.Groups.{StepLine, has_step, linked, Inside, Fits, Least, Greatest, OneKindEach}
use Rattle.soundness.proofs.Calls.{BookOk, same_kind_lem}
use Rattle.soundness.proofs.Logic.{both, clash, of_true}
use Rattle.soundness.proofs.Reach.{linked_self, linked_sym, linked_trans}
use Rattle.guarantee.specs.declared.Conflict.{Conflict}
use Rattle.guarantee.specs.declared.Verdict.{Verdict}
use Rattle.guarantee.specs.declared.Verdict.TheVariants.{Given, Broken}
use Rattle.guarantee.specs.Guarantee.{step_within, first_step, conflict, conflict_with, first_conflict}
use Rattle.guarantee.specs.Meaning.{IsOneOf}

-- ---- the first step that is wanted
module _ (wanted : StepLine → Bool) where
  first_is : (ss : List StepLine) (t : StepLine) → first_step wanted ss ≡ some t → IsOneOf t ss × T (wanted t)
  first_is [] t e = clash (cc)
  first_is (x ∷ ss) t e = go (λ f. first_is ss t f) (wanted x) refl e
    where
      go : (first_step wanted ss ≡ some t → IsOneOf t ss × T (wanted t)) → (y : Bool) → wanted x ≡ y
          → ◌≡◌ {A = Option StepLine} (elim y [ true ↦ some x | false ↦ first_step wanted ss ]) (some t)
          → ((t ≡ x) ⊎ IsOneOf t ss) × T (wanted t)
      go ih true f e =
          let z : x ≡ t = cc in (inl (sym z), subst (λ (s : StepLine). T (wanted s)) z (of_true (wanted x) f))
      go ih false f e = let r = ih e in (inr r.0, r.1)

  is_first : (ss : List StepLine) (s : StepLine) → IsOneOf s ss → T (wanted s) → first_step wanted ss ≡ none → ⊥
  is_first [] s i t e = i
  is_first (x ∷ ss) s i t e = go (λ j f. is_first ss s j t f) (wanted x) refl e i
    where
      go : (IsOneOf s ss → first_step wanted ss ≡ none → ⊥) → (y : Bool) → wanted x ≡ y
          → ◌≡◌ {A = Option StepLine} (elim y [ true ↦ some x | false ↦ first_step wanted ss ]) none
          → (s ≡ x) ⊎ IsOneOf s ss → ⊥
      go ih true f e i = clash (cc)
      go ih false f e (inl z) = let w : wanted s ≡ false = ap wanted z ∙ f in subst T w t
      go ih false f e (inr i) = ih i e

-- ---- conflicts
module _ (b : Book) (all : List StepLine) where
  abbrev chosen : Option Conflict → Verdict → Verdict
  chosen x v = elim x [ some c ↦ Broken c | none ↦ v ]

  pub broken_by : (ss : List StepLine) (c : Conflict) → first_conflict b all ss ≡ Broken c
      → (s : StepLine) × IsOneOf s ss × (conflict_with b all s ≡ some c)
  broken_by [] c e = clash (cc)
  broken_by (x ∷ ss) c e = go (λ f. broken_by ss c f) (conflict_with b all x) refl e
    where
      go : (first_conflict b all ss ≡ Broken c → (s : StepLine) × IsOneOf s ss × (conflict_with b all s ≡ some c))
          → (y : Option Conflict) → conflict_with b all x ≡ y
          → chosen y (first_conflict b all ss) ≡ Broken c
          → (s : StepLine) × ((s ≡ x) ⊎ IsOneOf s ss) × (conflict_with b all s ≡ some c)
      go ih none f e = let r = ih e in (r.0, inr r.1, r.2)
      go ih (some d) f e = let z : d ≡ c = cc in (x, inl refl, f ∙ ap some z)

  pub given_none : (ss : List StepLine) → first_conflict b all ss ≡ Given → (s : StepLine) → IsOneOf s ss
      → conflict_with b all s ≡ none
  given_none [] e s i = absurd i
  given_none (x ∷ ss) e s i = go (λ f j. given_none ss f s j) (conflict_with b all x) refl e i
    where
      go : (first_conflict b all ss ≡ Given → IsOneOf s ss → conflict_with b all s ≡ none) → (y : Option Conflict)
          → conflict_with b all x ≡ y
          → chosen y (first_conflict b all ss) ≡ Given → (s ≡ x) ⊎ IsOneOf s ss → conflict_with b all s ≡ none
      go ih none f e (inl z) = ap (conflict_with b all) z ∙ f
      go ih none f e (inr i) = ih e i
      go ih (some d) f e i = clash (cc)

  pub none_given : (ss : List StepLine) → ((s : StepLine) → IsOneOf s ss → conflict_with b all s ≡ none)
      → first_conflict b all ss ≡ Given
  none_given [] h = refl
  none_given (x ∷ ss) h =
      ap (λ (y : Option Conflict). chosen y (first_conflict b all ss)) (h x (inl refl))
      ∙ none_given ss (λ s i. h s (inr i))

  -- what a step's conflict is made of
  pub conflict_of : (s : StepLine) (c : Conflict) → conflict_with b all s ≡ some c
      → T (step_within (linked b s.caller) Inductive s) × ((t : StepLine) × IsOneOf t all × T
      (step_within (linked b s.caller) Coinductive t) × (conflict b s t ≡ c))
  conflict_of s c e =
      go (step_within (linked b s.caller) Inductive s)
      (first_step (step_within (linked b s.caller) Coinductive) all) refl refl e
    where
      go : (x : Bool) (y : Option StepLine) → step_within (linked b s.caller) Inductive s ≡ x
          → first_step (step_within (linked b s.caller) Coinductive) all ≡ y
          → ◌≡◌ {A = Option Conflict} (elim x [
            | false ↦ none
            | true ↦ elim y
                [ none ↦ none | some t ↦ some (conflict b s t) ]
          ]) (some c)
          → T (step_within (linked b s.caller) Inductive s) × ((t : StepLine) × IsOneOf t all × T
          (step_within (linked b s.caller) Coinductive t) × (conflict b s t ≡ c))
      go false y f g e = clash (cc)
      go true none f g e = clash (cc)
      go true (some t) f g e =
          let r = first_is (step_within (linked b s.caller) Coinductive) all t g in
          let z : conflict b s t ≡ c = cc in
          (of_true _ f, (t, r.0, r.1, z))

  pub has_conflict : (s t : StepLine) → T (step_within (linked b s.caller) Inductive s) → IsOneOf t all
      → T (step_within (linked b s.caller) Coinductive t)
      → conflict_with b all s ≡ none → ⊥
  has_conflict s t w i u e =
      go (step_within (linked b s.caller) Inductive s)
      (first_step (step_within (linked b s.caller) Coinductive) all) w refl e
    where
      go : (x : Bool) (y : Option StepLine) → T x → first_step (step_within (linked b s.caller) Coinductive) all ≡ y
          → ◌≡◌ {A = Option Conflict} (elim x [
            | false ↦ none
            | true ↦ elim y
                [ none ↦ none | some t ↦ some (conflict b s t) ]
          ]) none → ⊥
      go false y w g e = w
      go true none w g e = is_first (step_within (linked b s.caller) Coinductive) all t i u g
      go true (some t) w g e = clash (cc)

-- ---- the lines' steps are the book's
module _ (b : Book) (ok : BookOk b) (ss : List StepLine)
    (line_step : (s : StepLine) → IsOneOf s ss → T (has_step b s.caller s.goal s.kind))
    (step_line : (c y : ℕ) (k : PathKind) → T (has_step b c y k) → (s : StepLine) × IsOneOf s
    ss × ((s.caller ≡ c) × (s.goal ≡ y) × (s.kind ≡ k))) where
  -- a step line with both ends in a group
  pub within_inside : (g : ℕ) (kind : PathKind) (s : StepLine) → IsOneOf s ss → T (step_within (linked b g) kind s)
      → (s.kind ≡ kind) × Inside b g s.caller s.goal kind
  within_inside g kind s i t =
      let k = same_kind_lem s.kind kind (and_left (same_kind s.kind kind)
      (linked b g s.caller && linked b g s.goal) t) in
      let ends = and_right (same_kind s.kind kind) (linked b g s.caller && linked b g s.goal) t in (
        k,
        record {
          step = subst (λ (x : PathKind). T (has_step b s.caller s.goal x)) k (line_step s i);
          from = and_left (linked b g s.caller) (linked b g s.goal) ends;
          to = and_right (linked b g s.caller) (linked b g s.goal) ends;
        },
      )

  -- and a step inside a group is a line
  inside_within : (g c y : ℕ) (kind : PathKind) → Inside b g c y kind
      → (s : StepLine) × IsOneOf s ss × (s.caller ≡ c) × ((h : ℕ) → T (linked b h g) → T
      (step_within (linked b h) kind s))
  inside_within g c y kind i =
      let r = step_line c y kind i.step in (
        r.0,
        r.1,
        r.2.0,
        λ h l.
            both (same_kind r.0.kind kind) (linked b h r.0.caller && linked b h r.0.goal)
            (subst (λ (k : PathKind). T (same_kind k kind)) (sym r.2.2) (eqb_refl (kind_number kind)))
            (both (linked b h r.0.caller) (linked b h r.0.goal)
            (subst (λ (x : ℕ). T (linked b h x)) (sym r.2.0) (linked_trans b ok h g c l i.from))
            (subst (λ (x : ℕ). T (linked b h x)) (sym r.2.1) (linked_trans b ok h g y l i.to))),
      )

  pub mixed_given : OneKindEach b → first_conflict b ss ss ≡ Given
  mixed_given mixed = none_given b ss ss (λ s i. go s i (conflict_with b ss s) refl)
    where
      apart : (s : StepLine) (c y : ℕ) → Inside b s.caller s.caller s.goal Inductive
          → Inside b s.caller c y Coinductive
          → Fits b Least s.caller ⊎ Fits b Greatest s.caller → ⊥
      apart s c y i j (inl f) = f c y j
      apart s c y i j (inr f) = f s.caller s.goal i

      go : (s : StepLine) → IsOneOf s ss → (x : Option Conflict) → conflict_with b ss s ≡ x → conflict_with b ss s ≡ none
      go s i none e = e
      go s i (some c) e =
          let r = conflict_of b ss s c e in
          let t = r.1.0 in
          absurd (apart s t.caller t.goal (within_inside s.caller Inductive s i r.0).1
          (within_inside s.caller Coinductive t r.1.1 r.1.2).1 (mixed s.caller))

  pub given_mixed : first_conflict b ss ss ≡ Given → OneKindEach b
  given_mixed e g = go (first_step (step_within (linked b g) Coinductive) ss) refl
    where
      go : (x : Option StepLine) → first_step (step_within (linked b g) Coinductive) ss ≡ x
          → Fits b Least g ⊎ Fits b Greatest g
      go none f = inl (λ c y i.
          let r = inside_within g c y Coinductive i in
          is_first (step_within (linked b g) Coinductive) ss r.0 r.1 (r.3 g (linked_self b ok g)) f)
      go (some t) f = inr (λ c y i.
          let found = first_is (step_within (linked b g) Coinductive) ss t f in
          let r = inside_within g c y Inductive i in
          let s = r.0 in
          let l : T (linked b s.caller g) = subst (λ (x : ℕ). T (linked b x g)) (sym r.2)
          (linked_sym b ok g c i.from) in
          let j = within_inside g Coinductive t found.0 found.1 in
          let q = inside_within g t.caller t.goal Coinductive j.1 in
          has_conflict b ss s q.0 (r.3 s.caller l) q.1 (q.3 s.caller l) (given_none b ss ss e s r.1))
