-- Laws of traces.
use mathlib.Core.List.{[], ◌∷◌, ◌++◌}
use Rattle.soundness.specs.Trace.{EndsWith, Event, MeetsOnly, Trace}

pub only_append : (P : Event → Type 0) (s t : Trace) → MeetsOnly P s → MeetsOnly P t → MeetsOnly P (s ++ t)
only_append P [] t v w = w
only_append P (e ∷ s) t v w = (v.0, only_append P s t v.1 w)

ends_after : (P : Event → Type 0) (e : Event) (t : Trace) → EndsWith P t → EndsWith P (e ∷ t)
ends_after P e [] v = absurd v
ends_after P e (x ∷ t) v = v

pub ends_append : (P : Event → Type 0) (s t : Trace) → EndsWith P t → EndsWith P (s ++ t)
ends_append P [] t v = v
ends_append P (e ∷ s) t v = ends_after P e (s ++ t) (ends_append P s t v)

-- what holds of every event holds of the last
pub ends_only : (P Q R : Event → Type 0) → ((e : Event) → P e → Q e → R e) → (t : Trace) → EndsWith P t
    → MeetsOnly Q t → EndsWith R t
ends_only P Q R h [] v w = v
ends_only P Q R h (e ∷ []) v w = h e v w.0
ends_only P Q R h (e ∷ x ∷ t) v w = ends_only P Q R h (x ∷ t) v w.1
