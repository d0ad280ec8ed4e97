-- A rerun follows only where one is left.
use mathlib.Core.Path.{◌≡◌}
use mathlib.Core.Bool.{Bool, true, false}
use mathlib.Core.Option.{Option, none, some}
use Prim.Native.Nat.{ℕ, zero, suc, ◌<◌}
use native.Mathlib.Omega.{arith}
use Rattle.definition.specs.declared.usages.HeadUsages.{HeadUsages}
use Rattle.definition.specs.declared.answers.Answer.{Answer}
use Rattle.definition.specs.declared.endings.Fixpoint.{Fixpoint}
use Rattle.definition.specs.declared.endings.Ending.{Ending}
use Rattle.definition.specs.declared.endings.Ending.TheVariants as ending
use Rattle.definition.specs.Usages.{is_empty}
use Rattle.definition.specs.Answers.{is_ambiguous}
use Rattle.definition.specs.Stack.{Frame}
use Rattle.definition.specs.Endings.{reached_fixpoint, run_again, without_fixpoint, ending_of_head, ending_of}

abbrev Reruns : Ending → Type 0
Reruns ending.Nothing = ⊥
Reruns (ending.Fixpoint fixpoint) = ⊥
Reruns ending.NoUsages = ⊥
Reruns (ending.Ambiguity kind) = ⊥
Reruns ending.Overflow = ⊥
Reruns ending.Rerun = Unit {0}

again : (left : ℕ) → Reruns (run_again left) → 0 < left
again zero r = absurd r
again (suc left) r = omega arith

without : (left : ℕ) (a : Answer) (s t : Bool)
    → Reruns (elim s [ true ↦ ending.NoUsages | false ↦ elim t [ true ↦ ending.Ambiguity a | false ↦ run_again left ] ])
    → 0 < left
without left a true t r = absurd r
without left a false true r = absurd r
without left a false false r = again left r

head : (left : ℕ) (u : HeadUsages) (a : Answer) (o : Option Fixpoint)
    → Reruns (elim o [ some fixpoint ↦ ending.Fixpoint fixpoint | none ↦ without_fixpoint left u a ]) → 0 < left
head left u a none r = without left a (is_empty u) (is_ambiguous a) r
head left u a (some fixpoint) r = absurd r

frame : (left : ℕ) (p : Option Answer) (a : Answer) (o : Option HeadUsages)
    → Reruns (elim o [ none ↦ ending.Nothing | some u ↦ ending_of_head left p u a ]) → 0 < left
frame left p a none r = absurd r
frame left p a (some u) r = head left u a (reached_fixpoint p u a) r

pub rerun_left : (left : ℕ) (f : Frame) (a : Answer) → ending_of left f a ≡ ending.Rerun → 0 < left
rerun_left left f a e = frame left f.provisional_result a f.usages (rw e tt)
