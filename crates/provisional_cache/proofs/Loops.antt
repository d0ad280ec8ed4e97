-- The turns of the loops over the entries, from the first on.
use mathlib.Core.Path.{◌≡◌, refl, sym, ap, ap₂, ◌∙◌}
use mathlib.Core.Bool.{Bool, true, false, ◌||◌}
use mathlib.Core.Option.{Option, some}
use mathlib.Core.List.{List, [], ◌∷◌}
use Prim.Native.Nat.{ℕ, ◌+◌, ◌≤◌, ◌<◌}
use native.Mathlib.Numerals.{add-one}
use Rattle.std.specs.Prelude.{Some, None}
use lib.ListN.{length, drop, drop_of_length-le}
use lib.Seq.{drop-cons}
use Rattle.definition.specs.declared.paths.PathKind.{PathKind}
use Rattle.definition.specs.Nested.{NestedGoals}
use Rattle.definition.specs.Stack.{Stack}
use Rattle.definition.specs.Graph.{Entry}
use Rattle.definition.specs.Lookup.{entry_matches, first_match, entry_applies, any_entry_applies}
use Rattle.layout.specs.Entry.{entry_of}
use Rattle.layout.specs.Work.{entries_start, entries_from, entry_from, entries_of}
use Rattle.layout.proofs.Graphs.{length_entries, entries_at}
use Rattle.stack.specs.Bytes.{GraphBytes}
use Rattle.provisional_cache.specs.Entries.{EntriesBytes, entry_bytes, entry_at, entry_found, FramesKept}

-- what is read of entry i's bytes
pub read_at : {A : Type 0} (read : Entry → A) (goals : ℕ) (bs : List ℕ) (i : ℕ) (r : List ℕ) → r ≡ entry_bytes goals i bs → read (entry_of goals r) ≡ read (entry_at goals i bs)
read_at read goals bs i r e = ap (λ (l : List ℕ). read (entry_of goals l)) e

-- the entries from i on
module _ (goals base : ℕ) (bs : List ℕ) (n i : ℕ) where
  pub rest_open : i < n → drop i (entries_from goals base n bs) ≡ entry_from goals base i bs ∷ drop (i + 1) (entries_from goals base n bs)
  rest_open lt =
      drop-cons (entries_from goals base n bs) i (entry_from goals base i bs) (rw length_entries lt)
      ∙ ap₂ (λ (e : Entry) (k : ℕ). e ∷ drop k (entries_from goals base n bs)) (entries_at goals base (entry_from goals base i bs) n i bs lt) (sym (add-one i))

  pub rest_none : n ≤ i → drop i (entries_from goals base n bs) ≡ []
  rest_none h = drop_of_length-le (entries_from goals base n bs) {i = i} (rw length_entries h)

-- in a graph
module _ (goals : ℕ) (bs : List ℕ) (n i : ℕ) where
  open_at : i < n → drop i (entries_of goals n bs) ≡ entry_at goals i bs ∷ drop (i + 1) (entries_of goals n bs)
  open_at = rest_open goals (entries_start goals) bs n i

  none_at : n ≤ i → drop i (entries_of goals n bs) ≡ []
  none_at = rest_none goals (entries_start goals) bs n i

  -- ---- `first_match`
  module _ (s : Stack) (goal : ℕ) (step : PathKind) (whole : Option Entry) (rest : first_match s goal step (drop i (entries_of goals n bs)) ≡ whole) where
    abbrev choice : Bool → Option Entry
    choice t = elim t [ true ↦ some (entry_at goals i bs) | false ↦ first_match s goal step (drop (i + 1) (entries_of goals n bs)) ]

    match_open : i < n → choice (entry_matches s goal step (entry_at goals i bs)) ≡ whole
    match_open lt = sym (ap (first_match s goal step) (open_at lt)) ∙ rest

    pub match_here : i < n → entry_matches s goal step (entry_at goals i bs) ≡ true → entry_found goals (Some i) bs ≡ whole
    match_here lt t = sym (ap choice t) ∙ match_open lt

    pub match_next : i < n → entry_matches s goal step (entry_at goals i bs) ≡ false → first_match s goal step (drop (i + 1) (entries_of goals n bs)) ≡ whole
    match_next lt t = sym (ap choice t) ∙ match_open lt

    pub match_none : n ≤ i → entry_found goals None bs ≡ whole
    match_none h = sym (ap (first_match s goal step) (none_at h)) ∙ rest

  -- ---- `any_applies`
  module _ (s : Stack) (step : PathKind) (nested : NestedGoals) (whole : Bool) (rest : any_entry_applies s step nested (drop i (entries_of goals n bs)) ≡ whole) where
    any_open : i < n → (entry_applies s step nested (entry_at goals i bs) || any_entry_applies s step nested (drop (i + 1) (entries_of goals n bs))) ≡ whole
    any_open lt = sym (ap (any_entry_applies s step nested) (open_at lt)) ∙ rest

    pub any_here : i < n → entry_applies s step nested (entry_at goals i bs) ≡ true → true ≡ whole
    any_here lt t = sym (ap (λ (b : Bool). b || any_entry_applies s step nested (drop (i + 1) (entries_of goals n bs))) t) ∙ any_open lt

    pub any_next : i < n → entry_applies s step nested (entry_at goals i bs) ≡ false → any_entry_applies s step nested (drop (i + 1) (entries_of goals n bs)) ≡ whole
    any_next lt t = sym (ap (λ (b : Bool). b || any_entry_applies s step nested (drop (i + 1) (entries_of goals n bs))) t) ∙ any_open lt

    pub any_none : n ≤ i → false ≡ whole
    any_none h = sym (ap (any_entry_applies s step nested) (none_at h)) ∙ rest

pub frames_same : (goals : ℕ) (bs : List ℕ) → FramesKept goals bs bs
frames_same goals bs = record { bytes = refl; stacks = λ h le. refl }

pub frames_then : (goals : ℕ) (a b c : List ℕ) → FramesKept goals a b → FramesKept goals b c → FramesKept goals a c
frames_then goals a b c p q = record { bytes = q.bytes ∙ p.bytes; stacks = λ h le. q.stacks h le ∙ p.stacks h le }

pub entries_bytes : (goals base : ℕ) (old new : List ℕ) → EntriesBytes goals base old → length new ≡ length old → EntriesBytes goals base new
entries_bytes goals base old new g e = record { few = g.few; low = g.low; long = e ∙ g.long }

pub graph_bytes : (goals : ℕ) (old new : List ℕ) → GraphBytes goals old → length new ≡ length old → GraphBytes goals new
graph_bytes goals old new g e = record { some = g.some; few = g.few; long = e ∙ g.long }
