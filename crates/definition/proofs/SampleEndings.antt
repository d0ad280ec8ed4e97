-- Document 02, item 11, on an example: which ending applies to a frame, and what is left of the entries when it is popped.
use mathlib.Core.Path.{◌≡◌, refl}
use mathlib.Core.Bool.{false}
use mathlib.Core.Option.{Option, none, some}
use mathlib.Core.List.{List, [], ◌∷◌}
use Prim.Native.Nat.{ℕ}
use Rattle.definition.specs.declared.paths.PathKind.TheVariants.{Inductive, Coinductive}
use Rattle.definition.specs.declared.usages.HeadUsages.{HeadUsages}
use Rattle.definition.specs.declared.heads.CycleHead.{CycleHead}
use Rattle.definition.specs.declared.answers.Answer.{Answer}
use Rattle.definition.specs.declared.answers.Answer.TheVariants.{No, Yes, Undecided, Overflow}
use Rattle.definition.specs.declared.endings.Fixpoint.TheVariants.{First, Later}
use Rattle.definition.specs.declared.endings.Ending.{Ending}
use Rattle.definition.specs.declared.endings.Ending.TheVariants as ending
use Rattle.definition.specs.Paths.{empty_path}
use Rattle.definition.specs.Usages.{no_usages, one_usage}
use Rattle.definition.specs.Heads.{CycleHeads}
use Rattle.definition.specs.Steps.{no_steps}
use Rattle.definition.specs.Stack.{Frame}
use Rattle.definition.specs.Graph.{Entry, Graph}
use Rattle.definition.specs.Endings.{ending_of, pop}

-- ---- the frame of goal 1 on that of goal 0, which is its head; all steps are inductive
abbrev inductively : ℕ → HeadUsages → CycleHead
inductively paths usages = record { paths = paths; usages = usages }

abbrev once : HeadUsages
once = one_usage Inductive

abbrev frame : ℕ → Option Answer → CycleHeads → Option HeadUsages → Frame
frame goal provisional heads usages =
    record {
      input = goal;
      step_kind_from_parent = Inductive;
      available_depth = 0;
      min_reached_available_depth = 0;
      provisional_result = provisional;
      heads = heads;
      encountered_overflow = false;
      usages = usages;
      candidate_usages = none;
      nested_goals = 0 ∷ 0 ∷ [];
      step_counts = no_steps;
    }

abbrev own : CycleHeads
own = some (inductively 2 once) ∷ none ∷ []

-- ---- which ending applies: `left` reruns are allowed
abbrev ends : ℕ → Option Answer → Option HeadUsages → Answer → Ending
ends left provisional usages answer = ending_of left (frame 1 provisional own usages) answer

heads_no_ring : ends 3 none none Yes ≡ ending.Nothing
heads_no_ring = refl

as_it_began : ends 3 none (some once) No ≡ ending.Fixpoint (First Inductive)
as_it_began = refl

as_before : ends 3 (some Yes) (some once) Yes ≡ ending.Fixpoint Later
as_before = refl

not_used : ends 3 (some Yes) (some no_usages) No ≡ ending.NoUsages
not_used = refl

ambiguous : ends 3 (some Yes) (some once) Undecided ≡ ending.Ambiguity Undecided
ambiguous = refl

changed : ends 3 (some Yes) (some once) No ≡ ending.Rerun
changed = refl

none_left : ends 0 (some Yes) (some once) No ≡ ending.Overflow
none_left = refl

-- ---- what is left of the entries: those of goals 2 to 4 used goal 1, that of goal 5 only came by it, that of goal 6 did not
abbrev entry : ℕ → Answer → CycleHeads → Entry
entry goal result heads =
    record { input = goal; encountered_overflow = false; heads = heads; path_from_head = Inductive; result = result }

abbrev under1 : HeadUsages → CycleHeads
under1 usages = none ∷ some (inductively 2 usages) ∷ []

abbrev graph : Graph
graph =
    record {
      root_depth = 0;
      stack = frame 1 (some Yes) own (some once) ∷ frame 0 none (none ∷ none ∷ []) (some once) ∷ [];
      provisional_cache =
          entry 2 Yes (under1 once)
          ∷ entry 3 Undecided (under1 once)
          ∷ entry 4 Overflow (under1 (one_usage Coinductive))
          ∷ entry 5 No (under1 no_usages)
          ∷ entry 6 No (some (inductively 2 once) ∷ none ∷ [])
          ∷ [];
      global_cache = [];
    }

abbrev goals : List Entry → List ℕ
goals [] = []
goals (e ∷ es) = e.input ∷ goals es

abbrev left : Ending → List ℕ
left e = goals (pop e graph).provisional_cache

nothing_follows : left ending.Nothing ≡ 2 ∷ 3 ∷ 4 ∷ 5 ∷ 6 ∷ []
nothing_follows = refl

later_fixpoint : left (ending.Fixpoint Later) ≡ 2 ∷ 3 ∷ 4 ∷ 5 ∷ 6 ∷ []
later_fixpoint = refl

first_fixpoint : left (ending.Fixpoint (First Inductive)) ≡ 2 ∷ 3 ∷ 5 ∷ 6 ∷ []
first_fixpoint = refl

no_usages_lem : left ending.NoUsages ≡ 5 ∷ 6 ∷ []
no_usages_lem = refl

ambiguity : left (ending.Ambiguity Undecided) ≡ 3 ∷ 5 ∷ 6 ∷ []
ambiguity = refl

overflow : left ending.Overflow ≡ 4 ∷ 5 ∷ 6 ∷ []
overflow = refl

rerun : left ending.Rerun ≡ 5 ∷ 6 ∷ []
rerun = refl

-- whoever only came by goal 1 depends on goal 0 then, without having used it; before a rerun it stays as it is
abbrev heads : List Entry → List CycleHeads
heads [] = []
heads (e ∷ es) = e.heads ∷ heads es

moved : heads (pop ending.NoUsages graph).provisional_cache
    ≡ (some (inductively empty_path no_usages) ∷ none ∷ []) ∷ (some (inductively 2 once) ∷ none ∷ []) ∷ []
moved = refl

stayed : heads (pop ending.Rerun graph).provisional_cache
    ≡ under1 no_usages ∷ (some (inductively 2 once) ∷ none ∷ []) ∷ []
stayed = refl
