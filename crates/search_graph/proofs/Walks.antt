-- A part is read by its first line; the parts of a group, and the candidates of a pick, one by one.
use mathlib.Core.Path.{◌≡◌, refl, sym, ap, ◌∙◌, subst}
use mathlib.Core.Bool.{Bool, true, false}
use mathlib.Core.List.{List, [], ◌∷◌}
use Prim.Native.Nat.{ℕ, ◌*◌, ◌-◌, ◌≤◌, ◌<◌}
use native.Mathlib.Omega.{arith}
use lib.ListN.{length, take, drop, length-drop}
use types.Run.{OneOf, miss}
use denote.Enum.Declared.{tag_of}
use mathlib.Core.Option.{none, some}
use Rattle.search_graph.proofs.Cycle.{part_skeleton}
use Rattle.definition.specs.Stack.{Stack}
use Rattle.definition.proofs.Skeleton.{skeleton, candidate_same}
use Rattle.definition.specs.declared.format.Header.{Header}
use Rattle.definition.specs.declared.answers.Answer.TheVariants as answers
use Rattle.definition.specs.Part.{Part, Parts, Node, UndecidedLine, Then}
use Rattle.definition.specs.Part as part
use Rattle.definition.specs.Graph.{and_then}
use Rattle.definition.specs.Graph as graph
use Rattle.definition.specs.Candidates.{enter_single_candidate, no_candidate_usages}
use Rattle.definition.specs.Evaluate.{eval_part}
use Rattle.definition.proofs.Lists.{part_from_lem}
use Rattle.layout.specs.Work.{stack_of, merged_of}
use Rattle.stack.specs.Places.{PlacesHeld}
use Rattle.stack.proofs.Places.{same_places}
use Rattle.book.specs.declared.code.Op.{Op}
use Rattle.book.specs.declared.code.Code.{Code}
use Rattle.book.specs.declared.code.Code.TheVariants as codes
use Rattle.book.specs.declared.part.Call.{Call}
use Rattle.book.specs.Lines.{line_in}
use Rattle.book.specs.Codes.{op_of, code_of}
use Rattle.book.specs.Calls.{call_of}
use Rattle.book.specs.Parts.{Reads, part_in, PassedOver, ReadsParts, parts_in}
use Rattle.book.specs.contracts.code.Code.{the_type}
use Rattle.book.proofs.Walk.{a_line, no_goal_line, known_code, is_call, is_group_lem, is_pick, is_undecided}
use Rattle.book.proofs.Walk.{no_parts, others_of, first_and_lem, none_read, none_then, others_read, first_then}
use Rattle.std.specs.Prelude.{Result, Ok, Err}
use Rattle.std.specs.declared.ops.ControlFlow.TheVariants.{Continue, Break}
use Rattle.definition.specs.declared.replies.Refusal.{Refusal}
use Rattle.evaluation.specs.declared.Done.{Done}
use Rattle.evaluation.specs.Workspace.{graph_in, stack_in}
use Rattle.evaluation.specs.Outcomes.{Outcome, done, outcome_of, FewEntries}
use Rattle.delegate.specs.declared.group.Group.{Group}
use Rattle.delegate.specs.Groups.{GroupStarted, GroupWeighed, GroupClosed}
use Rattle.delegate.specs.Groups as groups
use Rattle.delegate.specs.declared.pick.Pick.{Pick}
use Rattle.delegate.specs.Picks.{graph_at, PickBegun, CandidateEntered, CandidateFinished, PickEnded}
use Rattle.delegate.specs.Picks as picks
use Rattle.delegate.proofs.Groups.{rest_then}
use Rattle.search_graph.specs.Calls.{Running, evaluator, goal_from, part_from, Comes, kept_below}

-- ---- by the first line
module _ (goals : ℕ) (in_pick : Bool) (p : List ℕ) (reads : Reads goals in_pick p) where
  -- a call's goal is one of the book's
  pub call_known : code_of (line_in p).code ≡ codes.Call → (call_of (line_in p)).goal < goals
  call_known k = (is_call goals in_pick p (line_in p) refl reads k).1

  -- what is no call, no group and no pick is an undecided line: no part starts with another code
  undecided : (code : Code) → code ≡ code_of (line_in p).code → OneOf (0 ∷ 4 ∷ 5 ∷ []) (tag_of the_type code)
      → part_in goals in_pick p ≡ UndecidedLine
  undecided codes.Goal e k = absurd (no_goal_line goals in_pick p (line_in p) refl reads (sym e))
  undecided codes.Call e k = absurd (miss (0 ∷ 4 ∷ 5 ∷ []) 1 tt k)
  undecided (codes.Group op) e k = absurd (miss (0 ∷ 4 ∷ 5 ∷ []) 2 tt k)
  undecided codes.Pick e k = absurd (miss (0 ∷ 4 ∷ 5 ∷ []) 3 tt k)
  undecided codes.Undecided e k = is_undecided goals in_pick p (line_in p) refl reads (sym e)
  undecided codes.Unknown e k = absurd (known_code goals in_pick p (line_in p) refl reads (sym e))

below_height : (in_pick : Bool) (height i : ℕ) → i < kept_below in_pick height → i < height
below_height true height i lt = lt
below_height false height i lt = omega arith

-- what a part comes to that is no group and no pick
module _ {book starts places cache work : List ℕ} {h : Header} {root height n : ℕ}
    (run : Running book starts places cache work h root height n)
    (in_pick : Bool) (p : List ℕ) (reads : Reads h.goals in_pick p) where
  pub call_comes : code_of (line_in p).code ≡ codes.Call → {call : Call} → call ≡ call_of (line_in p)
      → {new cache1 places1 : List ℕ} {r : Outcome}
      → Comes h.goals root height height
      (goal_from book h root height n work cache call.goal call.step call.lower) work new cache1 places1 r
      → Comes h.goals root height (kept_below in_pick height) (part_from book p in_pick h root height n work cache)
      work new cache1 places1 r
  call_comes k made c =
      record {
        is = c.is
            ∙ ap (λ (x : Call). goal_from book h root height n work cache x.goal x.step x.lower) made
            ∙ ap (λ (x : Part). eval_part (evaluator book h height) h.goals x
            (graph_at h.goals root height n work cache))
            (sym (is_call h.goals in_pick p (line_in p) refl reads k).0);
        few = c.few;
        merged = λ i lt. c.merged i (below_height in_pick height i lt);
        placed = c.placed;
      }

  pub undecided_comes : (code : Code) → code ≡ code_of (line_in p).code → OneOf (0 ∷ 4 ∷ 5 ∷ []) (tag_of the_type code)
      → Comes h.goals root height (kept_below in_pick height) (part_from book p in_pick h root height n work cache)
      work work cache places
      (done answers.Undecided n)
  unfolding outcome_of
  undecided_comes code e k =
      record {
        is = ap (λ (x : Part). eval_part (evaluator book h height) h.goals x
            (graph_at h.goals root height n work cache))
            (sym (undecided h.goals in_pick p reads code e k));
        few = run.entries;
        merged = λ i lt. refl;
        placed = run.placed;
      }

-- an outcome by other names
pub comes_as : {goals root height low : ℕ} {whole : graph.Outcome}
    {old new new1 cache cache1 places places1 : List ℕ} {r r1 : Outcome}
    → new1 ≡ new → cache1 ≡ cache → places1 ≡ places → r1 ≡ r
    → Comes goals root height low whole old new cache places r
    → Comes goals root height low whole old new1 cache1 places1 r1
comes_as {goals} {root} {height} {old = old} ew ec ep er c =
    record {
      is = (λ i. outcome_of goals root height (graph_in goals (ew i)) (ec i) (er i)) ∙ c.is;
      few = subst (FewEntries goals) (sym er) c.few;
      merged = λ i lt. ap (merged_of goals i) ew ∙ c.merged i lt;
      placed = subst (PlacesHeld (stack_in goals height old)) (sym ep) c.placed;
    }

-- ---- the parts below a first line: k are left at t, and after the first of them the others at u
pub record LeftAt (goals : ℕ) (inside : Bool) (k : ℕ) (t u : List ℕ) : Type 0 where
  pub parts : ReadsParts goals inside (k - 1) u
  pub first : parts_in goals inside k t ≡ Then (part_in goals inside t) (parts_in goals inside (k - 1) u)
  pub shorter : length u ≤ length t

module _ (goals : ℕ) (inside : Bool) (k : ℕ) (t : List ℕ) (parts : ReadsParts goals inside k t) (pos : 0 < k) where
  pub passed : (u : List ℕ) → PassedOver goals inside t u → LeftAt goals inside k t u
  passed u over =
      let s = over.shorter in
      record {
        parts = others_read goals inside k t parts pos u over.lines;
        first = first_then goals inside k t parts pos u over.lines;
        shorter = omega arith;
      }

  -- none is left, and t stays
  pub none_left : k - 1 ≤ 0 → LeftAt goals inside k t t
  none_left z =
      record {
        parts = none_read goals inside k t parts pos z t;
        first = none_then goals inside k t parts pos z t;
        shorter = omega arith;
      }

pub part_shorter : (n : ℕ) (bs : List ℕ) → 0 < n → n ≤ length bs
    → length (take (length bs - n) (drop n bs)) < length bs
part_shorter n bs pos fits = let e : length (take (length bs - n) (drop n bs)) ≡ length bs - n = ap length
    (part_from_lem n bs) ∙ length-drop n bs in omega arith

-- ---- a turn of the loop over a group's parts: those that are left make the whole. `first` is the workspace before the loop
pub record GroupWalk (book : List ℕ) (h : Header) (root height : ℕ) (in_pick : Bool) (whole : graph.Outcome) (room : ℕ)
    (first work cache places : List ℕ) (group : Group) (t : List ℕ) (k : ℕ) : Type 0 where
  pub few : group.entries ≤ 2 * h.goals
  pub parts : ReadsParts h.goals in_pick k t
  pub shorter : length t < room
  pub value : groups.rest (evaluator book h height) h.goals group (parts_in h.goals in_pick k t)
      (graph_at h.goals root height group.entries work cache)
      ≡ whole
  pub merged : (i : ℕ) → i < kept_below in_pick height → merged_of h.goals i work ≡ merged_of h.goals i first
  pub bones : skeleton (stack_in h.goals height work) ≡ skeleton (stack_in h.goals height first)
  pub placed : PlacesHeld (stack_in h.goals height first) places

-- before the first part, with the bytes after the first line as the code takes them
pub group_starts : {book starts places cache work : List ℕ} {h : Header} {root height n : ℕ}
    (run : Running book starts places cache work h root height n)
    (in_pick : Bool) (p : List ℕ) (reads : Reads h.goals in_pick p) (op : Op)
    → code_of (line_in p).code ≡ codes.Group op
    → {group : Group} → GroupStarted op n group → (k : ℕ) → k ≡ (line_in p).first
    → GroupWalk book h root height in_pick (part_from book p in_pick h root height n work cache) (length p) work work
    cache places group
    (take (length p - 16) (drop 16 p)) k
group_starts {book} {starts} {places} {cache} {work} {h} {root} {height} run in_pick p reads op c started k count =
    let t = take (length p - 16) (drop 16 p) in
    let below : (part_in h.goals in_pick p ≡ Node (op_of op) (parts_in h.goals in_pick k t))
    × ReadsParts h.goals in_pick k t =
    rw (count, part_from_lem) (is_group_lem h.goals in_pick p (line_in p) refl reads op c) in
    record {
      few = rw started.count run.entries;
      parts = below.1;
      shorter = part_shorter 16 p (omega arith) (a_line h.goals in_pick p (line_in p) refl reads);
      value = started.whole (evaluator book h height) h.goals (parts_in h.goals in_pick k t) _
          ∙ (λ i. eval_part (evaluator book h height) h.goals (sym below.0 i)
          (graph_at h.goals root height (started.count i) work cache));
      merged = λ i lt. refl;
      bones = refl;
      placed = run.placed;
    }

module _ {book : List ℕ} {h : Header} {root height : ℕ} {in_pick : Bool} {whole : graph.Outcome} {room : ℕ}
    {first work cache places : List ℕ}
    {group : Group} {t : List ℕ} {k : ℕ}
    (walk : GroupWalk book h root height in_pick whole room first work cache places group t k) where
  -- after the last part
  pub group_ends : k ≤ 0 → {d : Done} → GroupClosed group d
      → Comes h.goals root height (kept_below in_pick height) whole first work cache places (Ok d)
  unfolding outcome_of
  group_ends z {d} closed =
      record {
        is = (λ i. graph.Done (graph_at h.goals root height (closed.count i) work cache) d.answer)
            ∙ closed.whole (evaluator book h height) h.goals (graph_at h.goals root height group.entries work cache)
            ∙ ap (λ (ps : Parts).
            groups.rest (evaluator book h height) h.goals group ps
            (graph_at h.goals root height group.entries work cache))
            (sym (no_parts h.goals in_pick k t walk.parts z))
            ∙ walk.value;
        few = rw closed.count walk.few;
        merged = walk.merged;
        placed = walk.placed;
      }

  -- after a part
  module _ {work1 cache1 places1 : List ℕ} {o : Outcome}
      (read : Comes h.goals root height (kept_below in_pick height)
      (part_from book t in_pick h root height group.entries work cache) work work1 cache1 places1 o) where
    part_then : (ps : Parts) → parts_in h.goals in_pick k t ≡ Then (part_in h.goals in_pick t) ps
        → and_then (outcome_of h.goals root height (graph_in h.goals work1) cache1 o)
        (groups.next (evaluator book h height) h.goals group ps)
        ≡ whole
    part_then ps e =
        ap (λ (x : graph.Outcome). and_then x (groups.next (evaluator book h height) h.goals group ps)) read.is
        ∙ sym (rest_then (evaluator book h height) h.goals group (part_in h.goals in_pick t) ps _)
        ∙ ap (λ (qs : Parts).
        groups.rest (evaluator book h height) h.goals group qs
        (graph_at h.goals root height group.entries work cache))
        (sym e)
        ∙ walk.value

    group_merged : (i : ℕ) → i < kept_below in_pick height → merged_of h.goals i work1 ≡ merged_of h.goals i first
    group_merged i lt = read.merged i lt ∙ walk.merged i lt

    group_placed : PlacesHeld (stack_in h.goals height first) places1
    group_placed = same_places (stack_in h.goals height work) (stack_in h.goals height first) places1
        (sym walk.bones) read.placed

    module _ {r : groups.Weighed} (weigh : GroupWeighed o group r) where
      group_goes_on : (ps : Parts) → parts_in h.goals in_pick k t ≡ Then (part_in h.goals in_pick t) ps
          → groups.left_of (evaluator book h height) h.goals root height ps (graph_in h.goals work1) cache1
          r ≡ whole
      group_goes_on ps e =
          weigh.whole (evaluator book h height) h.goals root height ps (graph_in h.goals work1) cache1
          ∙ part_then ps e

      few_left : groups.FewLeft h.goals r
      few_left = weigh.few h.goals read.few

      pub group_stops : 0 < k → (x : Outcome) → r ≡ Break x
          → Comes h.goals root height (kept_below in_pick height) whole first work1 cache1 places1 x
      unfolding groups.left_of outcome_of
      group_stops pos x is =
          let ps = others_of h.goals in_pick k t walk.parts pos in
          record {
            is = sym (ap (groups.left_of (evaluator book h height) h.goals root height ps (graph_in h.goals work1)
                cache1) is)
                ∙ group_goes_on ps (first_and_lem h.goals in_pick k t walk.parts pos);
            few = subst (groups.FewLeft h.goals) is few_left;
            merged = group_merged;
            placed = group_placed;
          }

      pub group_next : (x : Group) → r ≡ Continue x → {u : List ℕ} → LeftAt h.goals in_pick k t u
          → GroupWalk book h root height in_pick whole room first work1 cache1 places1 x u (k - 1)
      unfolding groups.left_of
      group_next x is {u} left =
          let ps = parts_in h.goals in_pick (k - 1) u in
          let s = walk.shorter in
          let s1 = left.shorter in
          record {
            few = subst (groups.FewLeft h.goals) is few_left;
            parts = left.parts;
            shorter = omega arith;
            value = sym (ap (groups.left_of (evaluator book h height) h.goals root height ps
                (graph_in h.goals work1) cache1) is)
                ∙ group_goes_on ps left.first;
            merged = group_merged;
            bones = part_skeleton book h root height group.entries work cache in_pick t read (weigh.answered x is)
                ∙ walk.bones;
            placed = group_placed;
          }

-- ---- likewise of the loop over a pick's candidates, which stand inside a pick: the merged usages of the top frame are part of the pick
abbrev pub pick_from : List ℕ → Header → ℕ → ℕ → List ℕ → List ℕ → Pick → List ℕ → ℕ → graph.Outcome
pick_from book h root height work cache pick t k =
    picks.rest (evaluator book h height) h.goals pick (parts_in h.goals true k t)
    (merged_of h.goals (height - 1) work)
    (graph_at h.goals root height pick.entries work cache)

pub begun_same : {goals height entries : ℕ} {old new : List ℕ} {pick : Pick}
    → PickBegun goals height entries old new pick → stack_in goals height new ≡ stack_in goals height old
begun_same {goals} {height} begun = ap (stack_of goals height) begun.graph

pub entered_skeleton : {goals height : ℕ} {old new : List ℕ} → CandidateEntered goals height old new
    → skeleton (stack_in goals height new) ≡ skeleton (stack_in goals height old)
entered_skeleton {goals} {height} {old} enter =
    ap (λ (g : graph.Graph). skeleton g.stack) (enter.whole 0 0 [])
    ∙ candidate_same (some (no_candidate_usages goals)) (stack_in goals height old)

pub record PickWalk (book : List ℕ) (h : Header) (root height : ℕ) (whole : graph.Outcome) (room : ℕ)
    (first work cache places : List ℕ) (pick : Pick) (t : List ℕ) (k : ℕ) : Type 0 where
  pub few : pick.entries ≤ 2 * h.goals
  pub parts : ReadsParts h.goals true k t
  pub shorter : length t < room
  pub value : pick_from book h root height work cache pick t k ≡ whole
  pub merged : (i : ℕ) → i < height - 1 → merged_of h.goals i work ≡ merged_of h.goals i first
  pub bones : skeleton (stack_in h.goals height work) ≡ skeleton (stack_in h.goals height first)
  pub placed : PlacesHeld (stack_in h.goals height first) places

-- before the first candidate
module _ {book starts places cache work : List ℕ} {h : Header} {root height n : ℕ}
    (run : Running book starts places cache work h root height n)
    (in_pick : Bool) (p : List ℕ) (reads : Reads h.goals in_pick p) (c : code_of (line_in p).code ≡ codes.Pick)
    {work1 : List ℕ} {pick : Pick} (begun : PickBegun h.goals height n work work1 pick) (k : ℕ)
    (count : k ≡ (line_in p).first) where
  candidates : (part_in h.goals in_pick p ≡ Node part.Pick
      (parts_in h.goals true k (take (length p - 16) (drop 16 p))))
      × ReadsParts h.goals true k (take (length p - 16) (drop 16 p))
  candidates = rw (count, part_from_lem) (is_pick h.goals in_pick p (line_in p) refl reads c).1

  pub pick_starts : PickWalk book h root height
      (pick_from book h root height work1 cache pick (take (length p - 16) (drop 16 p)) k) (length p)
      work1 work1 cache places pick (take (length p - 16) (drop 16 p)) k
  pick_starts =
      record {
        few = rw begun.count run.entries;
        parts = candidates.1;
        shorter = part_shorter 16 p (omega arith) (a_line h.goals in_pick p (line_in p) refl reads);
        value = refl;
        merged = λ i lt. refl;
        bones = refl;
        placed = subst (λ (l : Stack). PlacesHeld l places) (sym (begun_same begun)) run.placed;
      }

  -- what the candidates make is what the part makes
  pub pick_whole : {new cache1 places1 : List ℕ} {r : Outcome}
      → Comes h.goals root height (height - 1)
      (pick_from book h root height work1 cache pick (take (length p - 16) (drop 16 p)) k) work1 new cache1 places1 r
      → Comes h.goals root height (kept_below in_pick height) (part_from book p in_pick h root height n work cache)
      work new cache1 places1 r
  pick_whole {places1 = places1} came =
      record {
        is = came.is
            ∙ begun.whole (evaluator book h height) (parts_in h.goals true k (take (length p - 16) (drop 16 p)))
            root pick.entries cache
            ∙ (λ i. eval_part (evaluator book h height) h.goals (sym candidates.0 i)
            (graph_at h.goals root height (begun.count i) work cache));
        few = came.few;
        merged = λ i lt. let low = alone i lt in came.merged i low ∙ begun.kept i low;
        placed = subst (λ (l : Stack). PlacesHeld l places1) (begun_same begun) came.placed;
      }
    where
      -- no pick stands in a pick
      alone : (i : ℕ) → i < kept_below in_pick height → i < height - 1
      alone i lt = subst (λ (b : Bool). i < kept_below b height)
          (is_pick h.goals in_pick p (line_in p) refl reads c).0 lt

module _ {book : List ℕ} {h : Header} {root height : ℕ} {whole : graph.Outcome} {room : ℕ}
    {first work cache places : List ℕ}
    {pick : Pick} {t : List ℕ} {k : ℕ} (some-frame : 1 ≤ height) (few-frames : height ≤ h.goals)
    (walk : PickWalk book h root height whole room first work cache places pick t k) where
  -- after the last candidate
  pub pick_ends : k ≤ 0 → {work1 : List ℕ} {r : Outcome} → PickEnded h.goals height pick work work1 r
      → Comes h.goals root height (height - 1) whole first work1 cache places r
  pick_ends z ended =
      record {
        is = ended.whole root cache
            ∙ ap (λ (ps : Parts).
            picks.rest (evaluator book h height) h.goals pick ps (merged_of h.goals (height - 1) work)
            (graph_at h.goals root height pick.entries work cache))
            (sym (no_parts h.goals true k t walk.parts z))
            ∙ walk.value;
        few = ended.few;
        merged = λ i lt. ended.kept i (omega arith) ∙ walk.merged i lt;
        placed = walk.placed;
      }

  -- after a candidate
  module _ {work1 : List ℕ} (enter : CandidateEntered h.goals height work work1) {work2 cache2 places2 : List ℕ}
      {o : Outcome}
      (read : Comes h.goals root height height (part_from book t true h root height pick.entries work1 cache)
      work1 work2 cache2 places2 o) where
    own_kept : merged_of h.goals (height - 1) work2 ≡ merged_of h.goals (height - 1) work
    own_kept = read.merged (height - 1) (omega arith) ∙ enter.kept (height - 1) (omega arith)

    entered : eval_part (evaluator book h height) h.goals (part_in h.goals true t)
        (graph_at h.goals root height pick.entries work1 cache)
        ≡ eval_part (evaluator book h height) h.goals (part_in h.goals true t)
        (enter_single_candidate h.goals (graph_at h.goals root height pick.entries work cache))
    entered = ap (eval_part (evaluator book h height) h.goals (part_in h.goals true t))
        (enter.whole root pick.entries cache)

    candidate_then : (ps : Parts) → parts_in h.goals true k t ≡ Then (part_in h.goals true t) ps
        → and_then (outcome_of h.goals root height (graph_in h.goals work2) cache2 o)
        (picks.next (evaluator book h height) h.goals pick ps (merged_of h.goals (height - 1) work2))
        ≡ whole
    candidate_then ps e =
        (λ i. and_then ((read.is ∙ entered) i)
        (picks.next (evaluator book h height) h.goals pick ps (own_kept i)))
        ∙ ap (λ (qs : Parts).
        picks.rest (evaluator book h height) h.goals pick qs (merged_of h.goals (height - 1) work)
        (graph_at h.goals root height pick.entries work cache))
        (sym e)
        ∙ walk.value

    read_merged : (i : ℕ) → i < height - 1 → merged_of h.goals i work2 ≡ merged_of h.goals i first
    read_merged i lt = read.merged i (omega arith) ∙ enter.kept i (omega arith) ∙ walk.merged i lt

    pick_bones : skeleton (stack_in h.goals height work1) ≡ skeleton (stack_in h.goals height first)
    pick_bones = entered_skeleton enter ∙ walk.bones

    pick_places : PlacesHeld (stack_in h.goals height first) places2
    pick_places = same_places (stack_in h.goals height work1) (stack_in h.goals height first) places2
        (sym pick_bones) read.placed

    module _ {work3 : List ℕ} {r : Result Pick Refusal}
        (finished : CandidateFinished h.goals height o pick work2 work3 r) where
      pick_goes_on : (ps : Parts) → parts_in h.goals true k t ≡ Then (part_in h.goals true t) ps
          → picks.left_of (evaluator book h height) h.goals root height ps work3 cache2 r ≡ whole
      pick_goes_on ps e = finished.whole (evaluator book h height) ps root cache2 ∙ candidate_then ps e

      pick_merged : (i : ℕ) → i < height - 1 → merged_of h.goals i work3 ≡ merged_of h.goals i first
      pick_merged i lt = finished.kept i lt ∙ read_merged i lt

      -- a refusal is the pick's
      pub pick_refused : 0 < k → (x : Refusal) → r ≡ Err x
          → Comes h.goals root height (height - 1) whole first work3 cache2 places2 (Err x)
      unfolding picks.left_of outcome_of
      pick_refused pos x e =
          let ps = others_of h.goals true k t walk.parts pos in
          record {
            is = sym (ap (picks.left_of (evaluator book h height) h.goals root height ps work3 cache2) e)
                ∙ pick_goes_on ps (first_and_lem h.goals true k t walk.parts pos);
            few = tt;
            merged = pick_merged;
            placed = pick_places;
          }

      pub pick_next : (x : Pick) → r ≡ Ok x → {u : List ℕ} → LeftAt h.goals true k t u
          → PickWalk book h root height whole room first work3 cache2 places2 x u (k - 1)
      unfolding picks.left_of
      pick_next x e {u} left =
          let ps = parts_in h.goals true (k - 1) u in
          let s = walk.shorter in
          let s1 = left.shorter in
          record {
            few = subst (picks.FewLeft h.goals) e finished.few;
            parts = left.parts;
            shorter = omega arith;
            value = sym (ap (picks.left_of (evaluator book h height) h.goals root height ps work3 cache2) e)
                ∙ pick_goes_on ps left.first;
            merged = pick_merged;
            bones =
                ap skeleton (finished.stack x e) ∙ candidate_same none (stack_in h.goals height work2)
                ∙ part_skeleton book h root height pick.entries work1 cache true t read (finished.answered x e)
                ∙ pick_bones;
            placed = pick_places;
          }
