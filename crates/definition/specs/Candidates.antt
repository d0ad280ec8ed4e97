-- `enter_single_candidate`, `finish_single_candidate` and `ignore_candidate_head_usages` of mod.rs, on the top frame.
use Rattle.std.specs.Prelude.{ℕ, zero, suc, Bool, true, ◌&&◌, List, [], ◌∷◌, length, get_or, replicate}
use Rattle.std.proofs.Math.Option.{Option, none, some}
use Rattle.definition.specs.declared.usages.HeadUsages.{HeadUsages}
use Rattle.definition.specs.Usages.{no_usages, ignore_usages, usages_cover}
use Rattle.definition.specs.Heads.{CycleHeads, ignore_at_heads, usages_at}
use Rattle.definition.specs.Stack.{with_heads, with_usages, with_candidate_usages, Stack}
use Rattle.definition.specs.Parent.{or_no_usages}
use Rattle.definition.specs.Graph.{Graph, with_stack}

-- CandidateHeadUsages::default
abbrev pub no_candidate_usages : ℕ → List HeadUsages
no_candidate_usages goals = replicate goals no_usages

abbrev pub set_candidate_usages : Option (List HeadUsages) → Stack → Stack
set_candidate_usages c [] = []
set_candidate_usages c (f ∷ fs) = with_candidate_usages f c ∷ fs

abbrev pub enter_single_candidate : ℕ → Graph → Graph
enter_single_candidate goals g = with_stack g (set_candidate_usages (some (no_candidate_usages goals)) g.stack)

abbrev pub candidate_usages_of : ℕ → Stack → List HeadUsages
candidate_usages_of goals [] = no_candidate_usages goals
candidate_usages_of goals (f ∷ fs) = elim f.candidate_usages [ none ↦ no_candidate_usages goals | some us ↦ us ]

-- finish_single_candidate takes the usages from the frame and hands them back
abbrev pub finished_usages : ℕ → Graph → List HeadUsages
finished_usages goals g = candidate_usages_of goals g.stack

abbrev pub finish_single_candidate : Graph → Graph
finish_single_candidate g = with_stack g (set_candidate_usages none g.stack)

-- ---- ignore_candidate_head_usages
abbrev pub ignore_own_usages : Option HeadUsages → HeadUsages → Option HeadUsages
ignore_own_usages none u = none
ignore_own_usages (some own) u = some (ignore_usages own u)

-- a frame has no head at its own index, so that `ignoreAtHeads` goes over every index
abbrev pub ignore_on_top : List HeadUsages → Stack → Stack
ignore_on_top us [] = []
ignore_on_top us (f ∷ fs) =
    with_usages (with_heads f (ignore_at_heads f.heads us)) (ignore_own_usages f.usages (get_or us (length fs) no_usages)) ∷ fs

abbrev pub ignore_candidate_head_usages : Graph → List HeadUsages → Graph
ignore_candidate_head_usages g us = with_stack g (ignore_on_top us g.stack)

-- no subtraction fails: at the heads below an index, and at the frame's own usages
abbrev pub heads_cover : ℕ → CycleHeads → List HeadUsages → Bool
heads_cover zero hs us = true
heads_cover (suc i) hs us = usages_cover (usages_at hs i) (get_or us i no_usages) && heads_cover i hs us

abbrev pub can_ignore : List HeadUsages → Stack → Bool
can_ignore us [] = true
can_ignore us (f ∷ fs) =
    heads_cover (length fs) f.heads us && usages_cover (or_no_usages f.usages) (get_or us (length fs) no_usages)
