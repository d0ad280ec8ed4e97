-- Heads that a mask marks, as in a loop over the mask's bits from the lowest on.
use mathlib.Core.Path.{◌≡◌, refl, sym, ap, ◌∙◌, subst}
use mathlib.Core.Bool.{Bool, true, false, false≢true}
use mathlib.Core.Option.{Option, none, some, some-injective, none-ne-some, some-ne-none}
use mathlib.Core.List.{List, [], ◌∷◌, ◌++◌}
use Prim.Native.Nat.{ℕ, zero, suc, ◌^◌, ◌≤◌, ◌<◌}
use native.Mathlib.Omega.{arith}
use lib.ListN.{length, get_or, set, replicate}
use Rattle.definition.specs.declared.heads.CycleHead.{CycleHead}
use Rattle.definition.specs.Heads.{CycleHeads, for_each_head}
use Rattle.bits.specs.Masks.{flags, first_place, place_or}
use Rattle.bits.proofs.Marks.{only, keep_nil, turn_set, turn_still}
use Rattle.bits.proofs.Marks as marks
use Rattle.layout.specs.Blocks.{present}

-- ---- the heads whose flag is set
abbrev pub keep : List Bool → CycleHeads → CycleHeads
keep = marks.keep none

keep_all : (cs : CycleHeads) (n : ℕ) → keep (present cs ++ replicate n false) cs ≡ cs
keep_all [] n = keep_nil none (replicate n false)
keep_all (none ∷ cs) n = ap (λ (l : CycleHeads). none ∷ l) (keep_all cs n)
keep_all (some c ∷ cs) n = ap (λ (l : CycleHeads). some c ∷ l) (keep_all cs n)

in_present : (cs : CycleHeads) (n j : ℕ) → get_or (present cs ++ replicate n false) j false ≡ true → get_or (present cs) j false ≡ true
in_present [] n j e = sym (only false n j) ∙ e
in_present (none ∷ cs) n zero e = e
in_present (some c ∷ cs) n zero e = e
in_present (none ∷ cs) n (suc j) e = in_present cs n j e
in_present (some c ∷ cs) n (suc j) e = in_present cs n j e

-- an index that has a head
present_small : (cs : CycleHeads) (j : ℕ) → get_or (present cs) j false ≡ true → j < length cs
present_small [] j e = absurd (false≢true e)
present_small (none ∷ cs) zero e = absurd (false≢true e)
present_small (some c ∷ cs) zero e = omega arith
present_small (none ∷ cs) (suc j) e = omega (arith, present_small cs j e)
present_small (some c ∷ cs) (suc j) e = omega (arith, present_small cs j e)

present_head : (cs : CycleHeads) (j : ℕ) → get_or (present cs) j false ≡ true → (c : CycleHead) × (get_or cs j none ≡ some c)
present_head [] j e = absurd (false≢true e)
present_head (none ∷ cs) zero e = absurd (false≢true e)
present_head (some c ∷ cs) zero e = (c, refl)
present_head (none ∷ cs) (suc j) e = present_head cs j e
present_head (some c ∷ cs) (suc j) e = present_head cs j e

-- ---- the loop over the bits of `left`
abbrev pub Within : ℕ → CycleHeads → Type 0
Within left cs = (j : ℕ) → get_or (flags 64 left) j false ≡ true → get_or (present cs) j false ≡ true

-- before the first turn
module _ (cs : CycleHeads) (left n : ℕ) (is : flags 64 left ≡ present cs ++ replicate n false) where
  pub start_all : keep (flags 64 left) cs ≡ cs
  start_all = ap (λ (xs : List Bool). keep xs cs) is ∙ keep_all cs n

  pub start_within : Within left cs
  start_within j e = in_present cs n j (ap (λ (xs : List Bool). get_or xs j false) (sym is) ∙ e)

-- a turn, at index i
module _ (cs : CycleHeads) (left i : ℕ) (pos : 0 < left) (small : left < 2 ^ 64) (within : Within left cs) (is : i ≡ place_or 64 (first_place (flags 64 left))) where
  pub turn_present : get_or (present cs) i false ≡ true
  turn_present = within i (turn_set left i pos small is)

  pub turn_small : (goals : ℕ) → length cs ≡ goals → i < goals
  turn_small goals e = subst (λ (n : ℕ). i < n) e (present_small cs i turn_present)

  pub turn_head : (c : CycleHead) × (get_or cs i none ≡ some c)
  turn_head = present_head cs i turn_present

  pub turn_kept : get_or (keep (flags 64 left) cs) i none ≡ get_or cs i none
  turn_kept = marks.turn_at left i pos small is none cs

  module _ (left' : ℕ) (is-left : flags 64 left' ≡ set (flags 64 left) (place_or 64 (first_place (flags 64 left))) false) where
    pub turn_rest : keep (flags 64 left') cs ≡ set (keep (flags 64 left) cs) i none
    turn_rest = marks.turn_rest left i pos small is left' is-left none cs

    pub turn_within : Within left' cs
    turn_within j h = within j (turn_still left i pos small is left' is-left j h)

-- after the last turn
pub end_none : (cs : CycleHeads) (left : ℕ) → left ≤ 0 → (i : ℕ) → get_or (keep (flags 64 left) cs) i none ≡ none
end_none cs left h i = marks.none_left none left h cs i

-- ---- `forEachHead`, head by head
module _ (f : CycleHead → Option CycleHead → CycleHead) where
  -- one head c of the heads ms
  pub each_one : (hs ms : CycleHeads) (i : ℕ) (c : CycleHead) → get_or ms i none ≡ some c → for_each_head f (set hs i (some (f c (get_or hs i none)))) (set ms i none) ≡ for_each_head f hs ms
  each_one [] ms i c e = refl
  each_one (h ∷ hs) [] i c e = absurd (none-ne-some c e)
  each_one (h ∷ hs) (none ∷ ms) zero c e = absurd (none-ne-some c e)
  each_one (h ∷ hs) (some d ∷ ms) zero c e = ap (λ (x : CycleHead). some (f x h) ∷ for_each_head f hs ms) (sym (some-injective d c e))
  each_one (h ∷ hs) (none ∷ ms) (suc i) c e = ap (λ (l : CycleHeads). h ∷ l) (each_one hs ms i c e)
  each_one (h ∷ hs) (some d ∷ ms) (suc i) c e = ap (λ (l : CycleHeads). some (f d h) ∷ l) (each_one hs ms i c e)

  pub each_clear : (hs ms : CycleHeads) → ((i : ℕ) → get_or ms i none ≡ none) → for_each_head f hs ms ≡ hs
  each_clear [] ms h = refl
  each_clear (x ∷ hs) [] h = refl
  each_clear (x ∷ hs) (none ∷ ms) h = ap (λ (l : CycleHeads). x ∷ l) (each_clear hs ms (λ i. h (suc i)))
  each_clear (x ∷ hs) (some c ∷ ms) h = absurd (some-ne-none c (h 0))
