-- A bound decides whether paths keep their kind.
use mathlib.Core.Path.{◌≡◌, refl, sym, ap, ap₂, ◌∙◌}
use mathlib.Core.Bool.{Bool, true, false, ◌&&◌}
use mathlib.Core.List.{List, [], ◌∷◌}
use Prim.Native.Nat.{ℕ, ◌≤◌, min, max}
use native.Mathlib.Omega.{arith}
use borrow.Author.Tests.{leb-true, leb-false, le-leb, lt-leb, eq-eqb, ne_eqb}
use lib.Dec.{eqb, leb, lit≤}
use Rattle.definition.specs.declared.paths.PathKind.{PathKind}
use Rattle.definition.specs.declared.paths.PathKind.TheVariants.{Inductive, Unknown, Coinductive, ForcedAmbiguity}
use Rattle.definition.specs.Paths.{kind_number, extend, same_kind}
use Rattle.definition.specs.ProvisionalCache.{every_ep_keeps, every_ph_keeps}
use Rattle.pop.specs.Popped.{bound_keeps, lowest_of}

-- ---- kinds by their numbers
kind_most : (k : PathKind) → kind_number k ≤ 3
kind_most Inductive = lit≤ tt
kind_most Unknown = lit≤ tt
kind_most Coinductive = lit≤ tt
kind_most ForcedAmbiguity = lit≤ tt

later : (a b : PathKind) → kind_number (extend a b) ≡ max (kind_number a) (kind_number b)
later a b = by (leb (kind_number a) (kind_number b)) refl
  where
    by : (t : Bool) → leb (kind_number a) (kind_number b) ≡ t
        → kind_number (elim t [ true ↦ b | false ↦ a ]) ≡ max (kind_number a) (kind_number b)
    by true e = let le = leb-true (kind_number a) (kind_number b) e in omega arith
    by false e = let lt = leb-false (kind_number a) (kind_number b) e in omega arith

same_as_under : (a b c d : ℕ) → (c ≤ d → a ≡ b) → (a ≡ b → c ≤ d) → eqb a b ≡ leb c d
same_as_under a b c d to from = by (leb c d) refl
  where
    by : (t : Bool) → leb c d ≡ t → eqb a b ≡ t
    by true e = eq-eqb a b (to (leb-true c d e))
    by false e = let lt = leb-false c d e in ne_eqb a b (λ q. let le = from q in omega arith)

under_both : (n b c : ℕ) → leb n (min b c) ≡ (leb n b && leb n c)
under_both n b c = by (leb n b) (leb n c) refl refl
  where
    by : (t u : Bool) → leb n b ≡ t → leb n c ≡ u → leb n (min b c) ≡ (t && u)
    by true true p q =
        let x = leb-true n b p in let y = leb-true n c q in le-leb n (min b c) (omega arith)
    by true false p q = let y = leb-false n c q in lt-leb n (min b c) (omega arith)
    by false u p q = let x = leb-false n b p in lt-leb n (min b c) (omega arith)

-- ---- what a bound lets through
module _ (path : PathKind) where
  pub bound_highest : (b : ℕ) → 3 ≤ b → (eps : List PathKind) → bound_keeps b path eps ≡ true
  bound_highest b h [] = refl
  bound_highest b h (ep ∷ eps) =
      let most = kind_most (extend ep path) in
      ap₂ (λ (x y : Bool). x && y) (le-leb (kind_number (extend ep path)) b (omega arith)) (bound_highest b h eps)

  pub bound_both : (b c : ℕ) (eps : List PathKind)
      → bound_keeps (min b c) path eps ≡ (bound_keeps b path eps && bound_keeps c path eps)
  bound_both b c [] = refl
  bound_both b c (ep ∷ eps) =
      ap₂ (λ (x y : Bool). x && y) (under_both (kind_number (extend ep path)) b c) (bound_both b c eps)
      ∙ swap (leb (kind_number (extend ep path)) b) (leb (kind_number (extend ep path)) c) (bound_keeps b path eps)
      (bound_keeps c path eps)
    where
      swap : (x y z w : Bool) → ((x && y) && (z && w)) ≡ ((x && z) && (y && w))
      swap true true z w = refl
      swap true false true w = refl
      swap true false false w = refl
      swap false y z w = refl

  -- of one ph, the kind of hph is the bound
  module _ (hp : PathKind) where
    ep_bound : (ph : PathKind) (eps : List PathKind)
        → every_ep_keeps (extend hp ph) (extend hp path) ph eps
        ≡ bound_keeps (max (kind_number ph) (kind_number hp)) path eps
    ep_bound ph [] = refl
    ep_bound ph (ep ∷ eps) = ap₂ (λ (x y : Bool). x && y) one (ep_bound ph eps)
      where
        one : same_kind (extend hp ph) (extend (extend ep (extend hp path)) ph)
            ≡ leb (kind_number (extend ep path)) (max (kind_number ph) (kind_number hp))
        one =
            let hph = later hp ph in
            let he = later hp path in
            let hep = later ep (extend hp path) in
            let heph = later (extend ep (extend hp path)) ph in
            let ee = later ep path in
            same_as_under (kind_number (extend hp ph)) (kind_number (extend (extend ep (extend hp path)) ph))
            (kind_number (extend ep path)) (max (kind_number ph) (kind_number hp)) (λ le. omega arith) (λ e. omega arith)

    -- of all ph, the lowest of these
    pub ph_bound : (eps phs : List PathKind)
        → every_ph_keeps hp (extend hp path) eps phs ≡ bound_keeps (max (lowest_of phs) (kind_number hp)) path eps
    ph_bound eps [] = sym (bound_highest (max 3 (kind_number hp)) (omega arith) eps)
    ph_bound eps (ph ∷ phs) =
        let least : min (max (kind_number ph) (kind_number hp)) (max (lowest_of phs) (kind_number hp))
        ≡ max (min (kind_number ph) (lowest_of phs)) (kind_number hp) = omega arith in
        ap₂ (λ (x y : Bool). x && y) (ep_bound ph eps) (ph_bound eps phs)
        ∙ sym (bound_both (max (kind_number ph) (kind_number hp)) (max (lowest_of phs) (kind_number hp)) eps)
        ∙ ap (λ (b : ℕ). bound_keeps b path eps) least
