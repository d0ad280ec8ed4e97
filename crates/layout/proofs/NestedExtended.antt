-- The loops of `extend_from_child` and `extend_within`.
use mathlib.Core.Path.{◌≡◌, refl, sym, ap, ap₂, ◌∙◌}
use mathlib.Core.List.{List, [], ◌∷◌, ◌++◌, append-nil}
use Prim.Native.Nat.{ℕ, zero, suc, ◌+◌, ◌-◌, ◌≤◌, ◌<◌, min}
use native.Mathlib.Nat.{zero-add}
use native.Mathlib.Numerals.{add-one}
use native.Mathlib.Omega.{arith}
use native.Mathlib.Decide.{dec_lt}
use lib.Bits.{bit_or, or_zero_r}
use lib.Dec.{eqb, leb}
use lib.ListN.{length, get_or, set, take, drop, drop_of_length-le, take-append-drop}
use lib.Seq.{take_all, length-take-le}
use Rattle.definition.specs.declared.paths.PathKind.{PathKind}
use Rattle.definition.specs.declared.paths.PathKind.TheVariants.{Inductive, Unknown, Coinductive, ForcedAmbiguity}
use Rattle.definition.specs.Paths.{extend_with}
use Rattle.definition.specs.Nested.{NestedGoals, extend_from_child}
use Rattle.buffer.specs.Regions.{region, overwrite}
use Rattle.std.specs.Prelude.{fold}
use Rattle.buffer.proofs.Regions.{length_region, region_region, length_overwrite, overwrite_inside, overwrite_part}
use Rattle.layout.specs.Copied.{Extended}
use Rattle.layout.proofs.NestedPaths.{joined_low, leb_zero, empty_flags}

-- what is extended from place i on
abbrev pub extended_from : ℕ → NestedGoals → PathKind → NestedGoals → NestedGoals
extended_from i ns k cs = take i ns ++ extend_from_child (drop i ns) k (drop i cs)

pub length_extended : (ns : NestedGoals) (k : PathKind) (cs : NestedGoals) → length (extend_from_child ns k cs) ≡ length ns
length_extended [] k cs = refl
length_extended (p ∷ ps) k [] = refl
length_extended (p ∷ ps) k (c ∷ cs) = ap suc (length_extended ps k cs)

-- no child
extend_none : (ns : NestedGoals) (k : PathKind) → extend_from_child ns k [] ≡ ns
extend_none [] k = refl
extend_none (p ∷ ps) k = refl

no_paths : (k : PathKind) → extend_with 0 k ≡ 0
no_paths Inductive = refl
no_paths Unknown = refl
no_paths Coinductive = refl
no_paths ForcedAmbiguity = refl

same_paths : (p : ℕ) (k : PathKind) → bit_or p (extend_with 0 k) ≡ p
same_paths p k = ap (bit_or p) (no_paths k) ∙ or_zero_r p

-- one place more
extend_step : (ns : NestedGoals) (k : PathKind) (cs : NestedGoals) (i : ℕ) → i < length ns
    → extended_from (suc i) (set ns i (bit_or (get_or ns i 0) (extend_with (get_or cs i 0) k))) k cs ≡ extended_from i ns k cs
extend_step [] k cs i h = absurd (omega arith)
extend_step (p ∷ ps) k [] zero h = ap₂ (λ (x : ℕ) (l : NestedGoals). x ∷ l) (same_paths p k) (extend_none ps k)
extend_step (p ∷ ps) k (c ∷ cs) zero h = refl
extend_step (p ∷ ps) k [] (suc i) h =
    let e : drop i [] ≡ [] = drop_of_length-le {A = ℕ} [] {i = i} (omega arith) in
    ap (λ (l : NestedGoals). p ∷ l) (extend_step ps k [] i (omega arith) ∙ ap (λ (l : NestedGoals). take i ps ++ extend_from_child (drop i ps) k l) e)
extend_step (p ∷ ps) k (c ∷ cs) (suc i) h = ap (λ (l : NestedGoals). p ∷ l) (extend_step ps k cs i (omega arith))

pub extend_more : (ns : NestedGoals) (k : PathKind) (cs whole : NestedGoals) (i v b : ℕ) → extended_from i ns k cs ≡ whole → i < length ns
    → b ≡ get_or cs i 0 → v ≡ bit_or (get_or ns i 0) (extend_with b k) → extended_from (i + 1) (set ns i v) k cs ≡ whole
extend_more ns k cs whole i v b rest h eb ev =
    ap₂ (λ (n x : ℕ). extended_from n (set ns i x) k cs) (add-one i) (ev ∙ ap (λ (x : ℕ). bit_or (get_or ns i 0) (extend_with x k)) eb)
    ∙ extend_step ns k cs i h ∙ rest

-- the loop ends where one of the two ends
pub extend_all_lem : (ns : NestedGoals) (k : PathKind) (cs whole : NestedGoals) (n i : ℕ) → extended_from i ns k cs ≡ whole → n ≡ min (length ns) (length cs) → n ≤ i → ns ≡ whole
extend_all_lem ns k cs whole n i rest least h =
    elim (dec_lt i (length ns)) [
      | yes lt ↦
          let short : length cs ≤ i = omega arith in
          sym (ap (λ (l : NestedGoals). take i ns ++ extend_from_child (drop i ns) k l) (drop_of_length-le cs {i = i} short) ∙ ap (λ (l : NestedGoals). take i ns ++ l) (extend_none (drop i ns) k) ∙ take-append-drop i ns) ∙ rest
      | no ge ↦
          let all : length ns ≤ i = omega arith in
          sym (ap₂ (λ (l m : NestedGoals). l ++ extend_from_child m k (drop i cs)) (take_all i ns all) (drop_of_length-le ns {i = i} all) ∙ append-nil ns) ∙ rest
    ]

-- as far as both go
pub take_min : (n : ℕ) (cs : List ℕ) → take (min n (length cs)) cs ≡ take n cs
take_min n cs =
    elim (dec_lt (length cs) n) [
      | yes h ↦ let e : min n (length cs) ≡ length cs = omega arith in ap (λ (m : ℕ). take m cs) e ∙ take_all (length cs) cs (omega arith) ∙ sym (take_all n cs (omega arith))
      | no h ↦ let e : min n (length cs) ≡ n = omega arith in ap (λ (m : ℕ). take m cs) e
    ]

-- ---- the same inside a buffer: the first m bytes are lent apart from the others
module _ (bs : List ℕ) (m k : ℕ) (zs : List ℕ) (inner : k + length zs ≤ m) (outer : m ≤ length bs) where
  long : length (overwrite (take m bs) k zs) ≡ m
  long = let l = length-take-le m bs outer in length_overwrite (take m bs) k zs (omega (arith, l)) ∙ l

  overwrite_low : overwrite (take m bs) k zs ++ drop m bs ≡ overwrite bs k zs
  overwrite_low =
      sym
      (ap (λ (n : ℕ). overwrite bs n zs) (sym (zero-add k))
      ∙ overwrite_inside bs 0 m k zs inner (omega arith)
      ∙ ap (λ (n : ℕ). overwrite (take m bs) k zs ++ drop n bs) long)

module _ (bs : List ℕ) (to from n : ℕ) (below : to + n ≤ from) (room : from + n ≤ length bs) where
  low_part : region to n (take from bs) ≡ region to n bs
  low_part = region_region 0 from to n bs below ∙ ap (λ (a : ℕ). region a n bs) (zero-add to)

  whole : length (region to n bs) ≡ n
  whole = length_region to n bs (omega arith)

  within : (step : PathKind) (ys : List ℕ) (new : List ℕ) (all : ℕ)
      → ys ≡ extend_from_child (region to (to + n - to) (take from bs)) step (region from n bs)
      → new ≡ (take to (take from bs) ++ (ys ++ drop (to + n - to) (drop to (take from bs)))) ++ drop from bs
      → all ≡ fold bit_or 0 (take (length (region to (to + n - to) (take from bs))) (region from n bs))
      → Extended to from n step bs new (eqb all 0)
  within step ys new all is e joined =
      let wide : to + n - to ≡ n = omega arith in
      let part : region to (to + n - to) (take from bs) ≡ region to n bs = ap (λ (m : ℕ). region to m (take from bs)) wide ∙ low_part in
      let is' : ys ≡ extend_from_child (region to n bs) step (region from n bs) = is ∙ ap (λ (l : List ℕ). extend_from_child l step (region from n bs)) part in
      let size : length ys ≡ n = ap length is' ∙ length_extended (region to n bs) step (region from n bs) ∙ whole in
      let child : length (region from n bs) ≡ n = length_region from n bs room in
      record {
        goals =
            e
            ∙ ap (λ (l : List ℕ). l ++ drop from bs) (overwrite_part (take from bs) to (to + n) ys (size ∙ sym wide))
            ∙ overwrite_low bs from to ys (omega (arith, size)) (omega arith)
            ∙ ap (overwrite bs to) is';
        empty =
            sym (leb_zero all)
            ∙ ap (λ (x : ℕ). leb x 0) (joined ∙ ap (λ (m : ℕ). fold bit_or 0 (take m (region from n bs))) (ap length part ∙ whole)
            ∙ ap (fold bit_or 0) (take_all n (region from n bs) (omega (arith, child))))
            ∙ joined_low 0 (region from n bs)
            ∙ empty_flags (region from n bs);
      }

  -- by the two parts that are lent
  pub extended_within : (step : PathKind) (ys : List ℕ) (all : ℕ) (low high : List ℕ) → low ≡ take from bs → high ≡ drop from bs
      → ys ≡ extend_from_child (region to (to + n - to) low) step (take n high)
      → all ≡ fold bit_or 0 (take (length (region to (to + n - to) low)) (take n high))
      → Extended to from n step bs ((take to low ++ (ys ++ drop (to + n - to) (drop to low))) ++ high) (eqb all 0)
  extended_within step ys all low high front back is joined =
      let w : ℕ = to + n - to in
      within step ys ((take to low ++ (ys ++ drop w (drop to low))) ++ high) all
      (is ∙ ap₂ (λ (l h : List ℕ). extend_from_child (region to w l) step (take n h)) front back)
      (ap₂ (λ (l h : List ℕ). (take to l ++ (ys ++ drop w (drop to l))) ++ h) front back)
      (joined ∙ ap₂ (λ (l h : List ℕ). fold bit_or 0 (take (length (region to w l)) (take n h))) front back)
