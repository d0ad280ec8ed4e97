-- Document 02's pop, which takes the top frame off the stack and tidies up: what it keeps of the entries' heads.
use Rattle.std.specs.Prelude.{◌≡◌, ◌⊎◌, ◌∷◌, ℕ, suc, length}
use Rattle.definition.specs.declared.endings.Ending.{Ending}
use Rattle.definition.specs.declared.endings.Ending.TheVariants as ending
use Rattle.definition.specs.Heads.{highest_index}
use Rattle.definition.specs.Stack.{Frame, Stack}
use Rattle.definition.specs.Graph.{Entry, Graph}
use Rattle.definition.specs.Endings.{pop}
use Rattle.soundness.specs.Always.{Every, HasHead, HeadsBelow}

-- The popped frame stood on n frames.
-- Before: each head is on the stack, and with the ending `nothing` none of them is the popped frame
abbrev pub HeadsBefore : Ending → ℕ → Entry → Type 0
HeadsBefore end n e = HeadsBelow (suc n) e.heads × (end ≡ ending.Nothing → HasHead e.heads n → ⊥)

-- After: each head is on the stack that remains; or the highest is the popped frame, which a rerun pushes again
abbrev pub HeadsAfter : Ending → ℕ → Entry → Type 0
HeadsAfter end n e =
    HeadsBelow n e.heads
    ⊎ ((end ≡ ending.Rerun) × HeadsBelow (suc n) e.heads × (highest_index e.heads ≡ n))

abbrev pub PopKeepsHeads : Type 0
PopKeepsHeads =
    (end : Ending) (g : Graph) (p : Frame) (s : Stack) → g.stack ≡ p ∷ s
    → HeadsBelow (length s) p.heads
    → Every (HeadsBefore end (length s)) g.provisional_cache
    → ((pop end g).stack ≡ s) × Every (HeadsAfter end (length s)) (pop end g).provisional_cache
