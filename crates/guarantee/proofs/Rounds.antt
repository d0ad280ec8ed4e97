-- The masks of what reaches a goal, and of a group: rounds and loops.
use mathlib.Core.Path.{◌≡◌, sym, ap, ap₂, ◌∙◌}
use mathlib.Core.Bool.{Bool, false, ◌&&◌, ◌||◌}
use mathlib.Core.List.{List}
use Prim.Native.Nat.{ℕ, suc, ◌+◌, ◌-◌, ◌≤◌, ◌<◌}
use native.Mathlib.Decide.{dec_lt}
use native.Mathlib.Omega.{arith}
use lib.Dec.{eqb, ltb}
use lib.ListN.{length, get_or, get_or-eq_default}
use borrow.Author.Tests.{ne_eqb, lt-ltb, le-ltb}
use Rattle.definition.specs.Part.{Book}
use Rattle.soundness.specs.Sets.{Goals, iter}
use Rattle.soundness.specs.Groups.{calls_some, towards, reaches, linked}
use Rattle.guarantee.specs.Engine.{in_mask, IsMask, meets, CallMasks, ReachMasks, IsGroup}
use Rattle.guarantee.proofs.Masks.{meets_none, mask_past, Upto, upto_all}

-- ---- one round
abbrev pub at_goal : ℕ → Goals
at_goal goal k = eqb k goal

abbrev pub callers : List ℕ → ℕ → Goals
callers calls m k = meets (get_or calls k 0) m

pub round_ends : (calls : List ℕ) (goal m r i : ℕ) → length calls ≡ 64 → goal < 64 → 64 ≤ i
    → Upto (at_goal goal) (callers calls m) i r
    → (b : Book) → CallMasks b calls → IsMask (towards b goal (in_mask m)) r
round_ends calls goal m r i long small last inv b masks k = go (dec_lt k 64)
  where
    go : Dec (k < 64) → in_mask r k ≡ (eqb k goal || calls_some b (λ g kind. in_mask m g) k)
    go (yes l) =
        upto_all (at_goal goal) (callers calls m) r i last inv k l ∙ ap (λ (x : Bool). eqb k goal || x) (masks k m)
    go (no n) =
        let past : get_or calls k 0 ≡ 0 = get_or-eq_default calls 0 (omega arith) in
        let calm : calls_some b (λ g kind. in_mask m g) k ≡ false = sym (masks k m) ∙ ap (λ (a : ℕ). meets a m) past
        ∙ meets_none m in
        mask_past r k (omega arith) ∙ sym (ap₂ (λ (x y : Bool). x || y) (ne_eqb k goal (λ z. omega arith)) calm)

-- ---- all rounds
module _ (b : Book) (goal : ℕ) where
  -- what is left of the rounds makes the whole
  abbrev pub Rounds : ℕ → ℕ → Type 0
  Rounds left m = iter left (towards b goal) (in_mask m) ≡ (λ from. reaches b from goal)

  pub rounds_start : (m : ℕ) → ((k : ℕ) → in_mask m k ≡ eqb k goal) → Rounds b.header.goals m
  unfolding reaches
  rounds_start m h = ap (iter b.header.goals (towards b goal)) (λ i k. h k i)

  pub rounds_more : (goals i m r : ℕ) → i < goals → Rounds (goals - i) m → IsMask (towards b goal (in_mask m)) r
      → Rounds (goals - (i + 1)) r
  rounds_more goals i m r l inv is =
      let e : goals - i ≡ suc (goals - (i + 1)) = omega arith in
      ap (iter (goals - (i + 1)) (towards b goal)) (λ j k. is k j)
      ∙ ap (λ (n : ℕ). iter n (towards b goal) (in_mask m)) (sym e) ∙ inv

  pub rounds_end : (goals i m : ℕ) → goals ≤ i → Rounds (goals - i) m → IsMask (λ from. reaches b from goal) m
  rounds_end goals i m l inv k =
      let e : goals - i ≡ 0 = omega arith in
      ap (λ (s : Goals). s k) (ap (λ (n : ℕ). iter n (towards b goal) (in_mask m)) (sym e) ∙ inv)

-- ---- the masks of the goals below i
abbrev pub ReachBelow : Book → ℕ → List ℕ → Type 0
ReachBelow b i masks = (goal : ℕ) → goal < i → IsMask (λ from. reaches b from goal) (get_or masks goal 0)

-- ---- a group
abbrev pub nobody : Goals
nobody k = false

abbrev pub together : List ℕ → ℕ → Goals
together reach g k = in_mask (get_or reach k 0) g && in_mask (get_or reach g 0) k

pub group_ends : (reach : List ℕ) (g m i : ℕ) → 64 ≤ i → Upto nobody (together reach g) i m → (b : Book)
    → ReachMasks b reach → g < 64 → IsGroup b g m
group_ends reach g m i last inv b masks small k = go (dec_lt k 64)
  where
    go : Dec (k < 64) → in_mask m k ≡ (ltb k 64 && linked b g k)
    go (yes l) =
        upto_all nobody (together reach g) m i last inv k l
        ∙ ap₂ ◌&&◌ (masks k l g) (masks g small k)
        ∙ sym (ap (λ (x : Bool). x && linked b g k) (lt-ltb k 64 l))
    go (no n) = mask_past m k (omega arith) ∙ sym (ap (λ (x : Bool). x && linked b g k) (le-ltb k 64 (omega arith)))
