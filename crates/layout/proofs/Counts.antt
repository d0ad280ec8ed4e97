-- Counts of steps in one number: written and read, one more, a part of them, the latest kind.
use mathlib.Core.Path.{◌≡◌, refl, ap, ◌∙◌}
use mathlib.Core.List.{List, [], ◌∷◌, ◌++◌}
use Prim.Native.Nat.{ℕ, zero, suc, ◌+◌, ◌*◌, ◌-◌, ◌/◌, ◌%◌, ◌^◌, ◌≤◌, ◌<◌}
use native.Mathlib.Nat.{zero-add, mod-lt, mod-eq_of_lt, div-eq_of_lt, mod-add-div, add-mul-div_left, add-mul-mod_self_left}
use native.Mathlib.Omega.{arith}
use lib.Dec.{lit<}
use lib.ListN.{length}
use Rattle.definition.specs.declared.paths.PathKind.{PathKind}
use Rattle.definition.specs.declared.paths.PathKind.TheVariants.{Inductive, Unknown, Coinductive, ForcedAmbiguity}
use Rattle.definition.specs.Paths.{extend, extend_all}
use Rattle.definition.specs.Steps.{StepCounts, no_steps, count_step, count_steps}
use Rattle.layout.specs.Steps.{packed, weight_of, unpacked, total, Few, latest_of, latest_kind}

-- ---- a number and the counts in it
pub packed_unpacked : (n : ℕ) → packed (unpacked n) ≡ n
unfolding packed unpacked
packed_unpacked n =
    ap (λ (x : ℕ). n % 65536 + 65536 * (n / 65536 % 65536 + 65536 * x)) (mod-add-div (n / 65536 / 65536) 65536)
    ∙ ap (λ (x : ℕ). n % 65536 + 65536 * x) (mod-add-div (n / 65536) 65536)
    ∙ mod-add-div n 65536

-- a lowest digit, and what stands above it
low_digit : (a b : ℕ) → a < 65536 → (a + 65536 * b) % 65536 ≡ a
low_digit a b h = add-mul-mod_self_left a 65536 b ∙ mod-eq_of_lt h

above_digit : (a b : ℕ) → a < 65536 → (a + 65536 * b) / 65536 ≡ b
above_digit a b h = add-mul-div_left a b (lit< tt) ∙ ap (λ (x : ℕ). x + b) (div-eq_of_lt h) ∙ zero-add b

-- counts that fit their 16 bits; the highest has all bits that are left
record Fits (c : StepCounts) : Type 0 where
  inductive : c.inductive < 65536
  unknown : c.unknown < 65536
  coinductive : c.coinductive < 65536

unpacked_packed : (c : StepCounts) → Fits c → unpacked (packed c) ≡ c
unfolding packed unpacked
unpacked_packed c f =
    let two = c.coinductive + 65536 * c.forced in
    let three = c.unknown + 65536 * two in
    let up = above_digit c.inductive three f.inductive in
    let up2 = ap (λ (x : ℕ). x / 65536) up ∙ above_digit c.unknown two f.unknown in
    let up3 = ap (λ (x : ℕ). x / 65536) up2 ∙ above_digit c.coinductive c.forced f.coinductive in
    let i = low_digit c.inductive three f.inductive in
    let u = ap (λ (x : ℕ). x % 65536) up ∙ low_digit c.unknown two f.unknown in
    let co = ap (λ (x : ℕ). x % 65536) up2 ∙ low_digit c.coinductive c.forced f.coinductive in
    λ t. record { inductive = i t; unknown = u t; coinductive = co t; forced = up3 t }

-- ---- one step more
packed_step : (k : PathKind) (c : StepCounts) → packed (count_step k c) ≡ weight_of k + packed c
unfolding packed
packed_step Inductive c = omega arith
packed_step Unknown c = omega arith
packed_step Coinductive c = omega arith
packed_step ForcedAmbiguity c = omega arith

total_step : (k : PathKind) (c : StepCounts) → total (count_step k c) ≡ suc (total c)
total_step Inductive c = omega arith
total_step Unknown c = omega arith
total_step Coinductive c = omega arith
total_step ForcedAmbiguity c = omega arith

few_fits : (c : StepCounts) → total c < 65536 → Fits c
few_fits c h = record { inductive = omega arith; unknown = omega arith; coinductive = omega arith }

weight_bound : (k : PathKind) → weight_of k ≤ 281474976710656
weight_bound Inductive = omega arith
weight_bound Unknown = omega arith
weight_bound Coinductive = omega arith
weight_bound ForcedAmbiguity = omega arith

few_bound : (c : StepCounts) → Few c → packed c + 281474976710656 < 2 ^ 64
unfolding packed
few_bound c few = omega arith

-- `with`: the sum is a number of 64 bits, and holds one more
module _ (n : ℕ) (few : Few (unpacked n)) (k : PathKind) (one : ℕ) (is : one ≡ weight_of k) where
  pub with_room : n + one < 2 ^ 64
  with_room = omega (arith, few_bound (unpacked n) few, weight_bound k, packed_unpacked n)

  pub with_step : unpacked (n + one) ≡ count_step k (unpacked n)
  with_step =
      let e : n + one ≡ packed (count_step k (unpacked n)) =
      omega (arith, packed_unpacked n, packed_step k (unpacked n)) in
      ap unpacked e
      ∙ unpacked_packed (count_step k (unpacked n))
      (few_fits (count_step k (unpacked n)) (omega (arith, total_step k (unpacked n))))

-- ---- the steps above some of them
packed_append : (ks rest : List PathKind)
    → packed (count_steps (ks ++ rest)) ≡ packed (count_steps ks) + packed (count_steps rest)
unfolding packed
packed_append [] rest = omega arith
packed_append (k ∷ ks) rest =
    omega (arith, packed_append ks rest, packed_step k (count_steps (ks ++ rest)), packed_step k (count_steps ks))

total_steps : (ks : List PathKind) → total (count_steps ks) ≡ length ks
total_steps [] = refl
total_steps (k ∷ ks) = total_step k (count_steps ks) ∙ ap suc (total_steps ks)

pub few_steps : (ks : List PathKind) → length ks < 65535 → Few (count_steps ks)
few_steps ks h = omega (arith, total_steps ks)

pub unpacked_steps : (ks : List PathKind) → length ks < 65535 → unpacked (packed (count_steps ks)) ≡ count_steps ks
unpacked_steps ks h = unpacked_packed (count_steps ks) (few_fits (count_steps ks) (omega (arith, total_steps ks)))

module _ (ks rest : List PathKind) (high low : ℕ) (is-high : high ≡ packed (count_steps (ks ++ rest)))
    (is-low : low ≡ packed (count_steps rest)) where
  pub above_room : low ≤ high
  above_room = omega (arith, packed_append ks rest)

  pub above_steps : length ks < 65535 → unpacked (high - low) ≡ count_steps ks
  above_steps h =
      let e : high - low ≡ packed (count_steps ks) = omega (arith, packed_append ks rest) in
      ap unpacked e ∙ unpacked_steps ks h

-- ---- the latest kind

of_forced : (f c u : ℕ) → 0 < f → ForcedAmbiguity ≡ latest_of f c u
of_forced zero c u h = absurd (omega arith)
of_forced (suc f) c u h = refl

of_coinductive : (f c u : ℕ) → f ≡ 0 → 0 < c → Coinductive ≡ latest_of f c u
of_coinductive (suc f) c u z h = absurd (omega arith)
of_coinductive zero zero u z h = absurd (omega arith)
of_coinductive zero (suc c) u z h = refl

of_unknown : (f c u : ℕ) → f ≡ 0 → c ≡ 0 → 0 < u → Unknown ≡ latest_of f c u
of_unknown (suc f) c u z y h = absurd (omega arith)
of_unknown zero (suc c) u z y h = absurd (omega arith)
of_unknown zero zero zero z y h = absurd (omega arith)
of_unknown zero zero (suc u) z y h = refl

of_none : (f c u : ℕ) → f ≡ 0 → c ≡ 0 → u ≡ 0 → Inductive ≡ latest_of f c u
of_none (suc f) c u z y x = absurd (omega arith)
of_none zero (suc c) u z y x = absurd (omega arith)
of_none zero zero (suc u) z y x = absurd (omega arith)
of_none zero zero zero z y x = refl

-- of a number
unpacked_fits : (n : ℕ) → Fits (unpacked n)
unfolding unpacked
unpacked_fits n =
    record {
      inductive = mod-lt n (lit< tt);
      unknown = mod-lt (n / 65536) (lit< tt);
      coinductive = mod-lt (n / 65536 / 65536) (lit< tt);
    }

module _ (c : StepCounts) (f : Fits c) where
  i : c.inductive < 65536
  i = f.inductive

  u : c.unknown < 65536
  u = f.unknown

  co : c.coinductive < 65536
  co = f.coinductive

  latest_forced : 281474976710656 ≤ packed c → ForcedAmbiguity ≡ latest_kind c
  unfolding packed
  latest_forced h = of_forced c.forced c.coinductive c.unknown (omega (arith, i, u, co))

  latest_coinductive : packed c < 281474976710656 → 4294967296 ≤ packed c → Coinductive ≡ latest_kind c
  unfolding packed
  latest_coinductive l h = of_coinductive c.forced c.coinductive c.unknown (omega (arith, i, u, co))
      (omega (arith, i, u, co))

  latest_unknown : packed c < 4294967296 → 65536 ≤ packed c → Unknown ≡ latest_kind c
  unfolding packed
  latest_unknown l h =
      of_unknown c.forced c.coinductive c.unknown (omega (arith, i, u, co)) (omega (arith, i, u, co))
      (omega (arith, i, u, co))

  latest_none : packed c < 65536 → Inductive ≡ latest_kind c
  unfolding packed
  latest_none l =
      of_none c.forced c.coinductive c.unknown (omega (arith, i, u, co)) (omega (arith, i, u, co))
      (omega (arith, i, u, co))

module _ (n : ℕ) where
  pub number_forced : 281474976710656 ≤ n → ForcedAmbiguity ≡ latest_kind (unpacked n)
  number_forced h = latest_forced (unpacked n) (unpacked_fits n) (omega (arith, packed_unpacked n))

  pub number_coinductive : n < 281474976710656 → 4294967296 ≤ n → Coinductive ≡ latest_kind (unpacked n)
  number_coinductive l h =
      latest_coinductive (unpacked n) (unpacked_fits n) (omega (arith, packed_unpacked n))
      (omega (arith, packed_unpacked n))

  pub number_unknown : n < 4294967296 → 65536 ≤ n → Unknown ≡ latest_kind (unpacked n)
  number_unknown l h =
      latest_unknown (unpacked n) (unpacked_fits n) (omega (arith, packed_unpacked n))
      (omega (arith, packed_unpacked n))

  pub number_none : n < 65536 → Inductive ≡ latest_kind (unpacked n)
  number_none l = latest_none (unpacked n) (unpacked_fits n) (omega (arith, packed_unpacked n))

-- of steps
coinductive_hides : (f c c1 u u1 : ℕ) → latest_of f (suc c) u ≡ latest_of f (suc c1) u1
coinductive_hides zero c c1 u u1 = refl
coinductive_hides (suc f) c c1 u u1 = refl

unknown_hides : (f c u u1 : ℕ) → latest_of f c (suc u) ≡ latest_of f c (suc u1)
unknown_hides zero zero u u1 = refl
unknown_hides zero (suc c) u u1 = refl
unknown_hides (suc f) c u u1 = refl

-- two steps count as the one that they extend to
two_steps : (k s : PathKind) (c : StepCounts) → latest_kind (count_step k (count_step s c))
    ≡ latest_kind (count_step (extend k s) c)
two_steps Inductive Inductive c = refl
two_steps Inductive Unknown c = refl
two_steps Inductive Coinductive c = refl
two_steps Inductive ForcedAmbiguity c = refl
two_steps Unknown Inductive c = refl
two_steps Unknown Unknown c = unknown_hides c.forced c.coinductive (suc c.unknown) c.unknown
two_steps Unknown Coinductive c = coinductive_hides c.forced c.coinductive c.coinductive
    (suc c.unknown) c.unknown
two_steps Unknown ForcedAmbiguity c = refl
two_steps Coinductive Inductive c = refl
two_steps Coinductive Unknown c = coinductive_hides c.forced c.coinductive c.coinductive
    (suc c.unknown) c.unknown
two_steps Coinductive Coinductive c = coinductive_hides c.forced (suc c.coinductive) c.coinductive
    c.unknown c.unknown
two_steps Coinductive ForcedAmbiguity c = refl
two_steps ForcedAmbiguity Inductive c = refl
two_steps ForcedAmbiguity Unknown c = refl
two_steps ForcedAmbiguity Coinductive c = refl
two_steps ForcedAmbiguity ForcedAmbiguity c = refl

one_step_lem : (k : PathKind) → latest_kind (count_step k no_steps) ≡ k
one_step_lem Inductive = refl
one_step_lem Unknown = refl
one_step_lem Coinductive = refl
one_step_lem ForcedAmbiguity = refl

-- the latest kind of a path's steps is the kind of the path
pub latest_extends : (k : PathKind) (ks : List PathKind) → latest_kind (count_steps (k ∷ ks)) ≡ extend_all k ks
latest_extends k [] = one_step_lem k
latest_extends k (s ∷ ss) = two_steps k s (count_steps ss) ∙ latest_extends (extend k s) ss
