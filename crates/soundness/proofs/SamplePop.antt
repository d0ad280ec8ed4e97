-- What specs/Pop.antt says, on examples: a wrong version makes a fact of this file false.
-- The frame of goal 1, which is popped, stands on that of goal 0.
use mathlib.Core.List.{List, [], ◌∷◌}
use mathlib.Core.Logic.{inl, inr}
use mathlib.Core.Option.{none}
use mathlib.Core.Path.{◌≡◌, refl, subst, sym}
use Prim.Native.Nat.{suc, zero, ℕ}
use native.Mathlib.Omega.{arith}
use lib.ListN.{length}
use Rattle.definition.specs.Endings.{pop}
use Rattle.definition.specs.Graph.{Entry, Graph}
use Rattle.definition.specs.Stack.{Frame, Stack}
use Rattle.definition.specs.declared.endings.Ending.{Ending}
use Rattle.definition.specs.declared.endings.Ending.TheVariants as ending
use Rattle.definition.specs.declared.endings.Fixpoint.TheVariants.{Later}
use Rattle.soundness.specs.Always.{Every, HasHead, HeadsBelow}
use Rattle.soundness.specs.Pop.{HeadsAfter, HeadsBefore, PopKeepsHeads}
use Rattle.soundness.proofs.SampleAlways.{entry, head1, not_there, some_head}

abbrev IsRerun : Ending → Type 0
IsRerun ending.Nothing = ⊥
IsRerun (ending.Fixpoint fixpoint) = ⊥
IsRerun ending.NoUsages = ⊥
IsRerun (ending.Ambiguity kind) = ⊥
IsRerun ending.Overflow = ⊥
IsRerun ending.Rerun = Unit {0}

abbrev IsFixpoint : Ending → Type 0
IsFixpoint ending.Nothing = ⊥
IsFixpoint (ending.Fixpoint fixpoint) = Unit {0}
IsFixpoint ending.NoUsages = ⊥
IsFixpoint (ending.Ambiguity kind) = ⊥
IsFixpoint ending.Overflow = ⊥
IsFixpoint ending.Rerun = ⊥

-- the popped frame is a head
at_one : (i : ℕ) → HasHead head1 i → i ≡ 1
at_one zero h = absurd (not_there none h.0 h.1 tt)
at_one (suc zero) h = refl
at_one (suc (suc i)) h = absurd (not_there none h.0 h.1 tt)

below_two : HeadsBelow 2 head1
below_two i h = omega (arith, at_one i h)

-- a head lies below only what is above it
not_below : HeadsBelow 1 head1 → ⊥
not_below h = omega (arith, h 1 (some_head, refl))

-- ---- before
named : (end : Ending) → (end ≡ ending.Nothing → ⊥) → HeadsBefore end 1 (entry head1)
named end h = (below_two, λ z p. h z)

not_with_nothing : HeadsBefore ending.Nothing 1 (entry head1) → ⊥
not_with_nothing v = v.1 refl (some_head, refl)

not_on_the_stack : (end : Ending) → HeadsBefore end 0 (entry head1) → ⊥
not_on_the_stack end v = omega (arith, v.0 1 (some_head, refl))

-- ---- after
rerun_may : HeadsAfter ending.Rerun 1 (entry head1)
rerun_may = inr (refl, below_two, refl)

others_may_not : (end : Ending) → (IsRerun end → ⊥) → HeadsAfter end 1 (entry head1) → ⊥
others_may_not end h (inl b) = not_below b
others_may_not end h (inr (z, b, t)) = h (subst IsRerun (sym z) tt)

-- ---- the pop: at a fixpoint the heads are on the stack that remains
module _ (keeps : PopKeepsHeads) (g : Graph) (p : Frame) (s : Stack) (is : g.stack ≡ p ∷ s)
    (lower : HeadsBelow (length s) p.heads) where
  abbrev Below : ℕ → Entry → Type 0
  Below n e = HeadsBelow n e.heads

  named_all : (es : List Entry) → Every (Below (suc (length s))) es
      → Every (HeadsBefore (ending.Fixpoint Later) (length s)) es
  named_all [] v = tt
  named_all (e ∷ es) v = ((v.0, λ z q. subst IsFixpoint z tt), named_all es v.1)

  lower_all : (es : List Entry) → Every (HeadsAfter (ending.Fixpoint Later) (length s)) es
      → Every (Below (length s)) es
  lower_all [] v = tt
  lower_all (e ∷ es) v = (one v.0, lower_all es v.1)
    where
      one : HeadsAfter (ending.Fixpoint Later) (length s) e → Below (length s) e
      one (inl h) = h
      one (inr (z, b, t)) = absurd (subst IsFixpoint z tt)

  at_a_fixpoint : Every (Below (suc (length s))) g.provisional_cache
      → Every (Below (length s)) (pop (ending.Fixpoint Later) g).provisional_cache
  at_a_fixpoint v =
      lower_all (pop (ending.Fixpoint Later) g).provisional_cache
      (keeps (ending.Fixpoint Later) g p s is lower (named_all g.provisional_cache v)).1

  stack_remains : Every (HeadsBefore ending.Rerun (length s)) g.provisional_cache → (pop ending.Rerun g).stack ≡ s
  stack_remains v = (keeps ending.Rerun g p s is lower v).0
