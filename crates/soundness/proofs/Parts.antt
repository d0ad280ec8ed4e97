-- The delegate: an evaluator that is right of goals makes answers that are right of parts.
use mathlib.Core.Bool.{Bool, ◌&&◌, ◌||◌, false, not, true}
use mathlib.Core.List.{List}
use mathlib.Core.Logic.{◌≢◌}
use mathlib.Core.Path.{◌≡◌, refl}
use Prim.Native.Nat.{◌+◌, ◌<◌, ◌≤◌, ℕ}
use native.Mathlib.Omega.{arith}
use lib.Dec.{T}
use lib.ListN.{get_or, length}
use Rattle.definition.specs.Answers.{combine, same_answer}
use Rattle.definition.specs.Candidates.{can_ignore, enter_single_candidate, finish_single_candidate, finished_usages, ignore_candidate_head_usages, no_candidate_usages}
use Rattle.definition.specs.Evaluate.{Evaluator, eval_all, eval_any, eval_part, eval_pick, merge_unless}
use Rattle.definition.specs.Graph.{Done, Graph, Outcome, Stopped, and_then}
use Rattle.definition.specs.Part.{All, Any, Call, End, Node, Part, Parts, Pick, Then, UndecidedLine}
use Rattle.definition.specs.Usages.{merge_usages, no_usages}
use Rattle.definition.specs.declared.answers.Answer.{Answer}
use Rattle.definition.specs.declared.answers.Answer.TheVariants.{No, Undecided, Yes}
use Rattle.definition.specs.declared.paths.PathKind.{PathKind}
use Rattle.definition.specs.declared.replies.Refusal.TheVariants.{Unreachable}
use Rattle.definition.specs.declared.usages.HeadUsages.{HeadUsages}
use Rattle.soundness.specs.Sets.{Goals, ◌⊆◌, every_holds, holds, some_holds}
use Rattle.soundness.proofs.Logic.{both, not_and_left, not_and_right, not_or, or_left, or_right, outside, twice}
use Rattle.soundness.proofs.Certain.{no_holds_mono, no_holds, yes_holds_mono, yes_holds}
use Rattle.soundness.proofs.Calls.{AllCalls, Calls}
use Rattle.soundness.proofs.World.{Right, RightOf, World}
use Rattle.soundness.proofs.Counters.{Reads, counter, nothing, plus}
use Rattle.soundness.proofs.Assumed.{A, A-mono, Base, Within}
use Rattle.soundness.proofs.Inv.{After, CalledBy, State, Change}
use Rattle.soundness.proofs.Changes.{after_from, after_map, after_then, change_nothing, change_trans}
use Rattle.soundness.proofs.Candidates.{Untracked, can_be_ignored, enter_change, finish_change, finish_untracked, ignore_change, merged, no_candidate, tracked_since}
use Rattle.soundness.proofs.Answers.{both_no, both_yes, differ, neither_no, neither_yes, same_is}

-- an answer may be given of a goal, on what reads assume
abbrev pub Claims : World → List Base → ℕ → Reads → Answer → Type 0
Claims W xs goal d a = T (W.claim a (A W xs d) goal)

-- an answer is right of a part, on what reads assume
abbrev pub RightAt : World → List Base → Part → Reads → Answer → Type 0
RightAt W xs p d = Right (W.claim Yes (A W xs d)) (W.claim No (A W xs d)) p

-- and of a goal's own part
abbrev pub RightGoal : World → List Base → ℕ → Reads → Answer → Type 0
RightGoal W xs goal d = RightOf W.book (W.claim Yes (A W xs d)) (W.claim No (A W xs d)) goal

-- a call from the frame on top, of a goal of the book
abbrev pub Callable : World → List Base → ℕ → PathKind → Type 0
Callable W xs goal kind = (goal < W.book.header.goals) × CalledBy W xs goal kind

abbrev pub EvalOk : World → List Base → Evaluator → Type 0
EvalOk W xs evaluate =
    (g : Graph) (goal : ℕ) (step : PathKind) (lower : Bool) → State W xs g → goal < W.book.header.goals
    → CalledBy W xs goal step
    → After W xs g (Claims W xs goal) (evaluate g goal step lower)

module _ (W : World) (xs : List Base) where
  abbrev Y : Reads → Goals
  Y d = W.claim Yes (A W xs d)

  abbrev N : Reads → Goals
  N d = W.claim No (A W xs d)

  claim_mono : (a : Answer) (d e : Reads) → Within (length xs) d e → W.claim a (A W xs d) ⊆ W.claim a (A W xs e)
  claim_mono a d e h = W.mono a (A W xs d) (A W xs e) (A-mono W xs d e h)

  yes_mono : (p : Part) (d e : Reads) → Within (length xs) d e → T (yes_holds (Y d) p) → T (yes_holds (Y e) p)
  yes_mono p d e h = yes_holds_mono (Y d) (Y e) (claim_mono Yes d e h) p

  no_mono : (p : Part) (d e : Reads) → Within (length xs) d e → T (no_holds (N d) p) → T (no_holds (N e) p)
  no_mono p d e h = no_holds_mono (N d) (N e) (claim_mono No d e h) p

  first : (d e : Reads) → Within (length xs) d (plus d e)
  first d e i k l h = omega arith

  second : (d e : Reads) → Within (length xs) e (plus d e)
  second d e i k l h = omega arith

  -- ---- what the parts still to come make of what was met
  record ForAll (combined : Answer) (ps : Parts) (d : Reads) (a : Answer) : Type 0 where
    when_yes : a ≡ Yes → combined ≢ No → (combined ≡ Yes) × T (yes_holds (Y d) (Node All ps))
    when_no : a ≡ No → combined ≢ No → T (no_holds (N d) (Node All ps))

  record ForAny (combined : Answer) (ps : Parts) (d : Reads) (a : Answer) : Type 0 where
    when_yes : a ≡ Yes → combined ≢ Yes → T (yes_holds (Y d) (Node Any ps))
    when_no : a ≡ No → (combined ≡ No) × T (no_holds (N d) (Node Any ps))

  -- D: what was read since the pick began
  record ForPick (D : Reads) (combined : Answer) (ps : Parts) (d : Reads) (a : Answer) : Type 0 where
    when_yes : a ≡ Yes → combined ≢ Yes → T (yes_holds (Y d) (Node Pick ps))
    when_no : a ≡ No → (combined ≡ No) × Within (length xs) D d × T (no_holds (N d) (Node Pick ps))

  right_call : (goal : ℕ) (kind : PathKind) (lower : Bool) (d : Reads) (a : Answer) → Claims W xs goal d a → RightAt W xs (Call goal kind lower) d a
  right_call goal kind lower d a t = record { when_yes = λ e. rw e at t; when_no = λ e. twice (N d) goal (rw e at t) }

  right_undecided : (d : Reads) → RightAt W xs UndecidedLine d Undecided
  right_undecided d = record { when_yes = λ e. absurd (differ Undecided Yes refl e); when_no = λ e. absurd (differ Undecided No refl e) }

  right_all : (ps : Parts) (d : Reads) (a : Answer) → ForAll Yes ps d a → RightAt W xs (Node All ps) d a
  right_all ps d a q = record { when_yes = λ e. (q.when_yes e (differ Yes No refl)).1; when_no = λ e. q.when_no e (differ Yes No refl) }

  right_any : (ps : Parts) (d : Reads) (a : Answer) → ForAny No ps d a → RightAt W xs (Node Any ps) d a
  right_any ps d a q = record { when_yes = λ e. q.when_yes e (differ No Yes refl); when_no = λ e. (q.when_no e).1 }

  right_pick : (D : Reads) (ps : Parts) (d : Reads) (a : Answer) → ForPick D No ps d a → RightAt W xs (Node Pick ps) d a
  right_pick D ps d a q = record { when_yes = λ e. q.when_yes e (differ No Yes refl); when_no = λ e. (q.when_no e).2 }

  all_end : (combined : Answer) (d : Reads) → ForAll combined End d combined
  all_end combined d = record { when_yes = λ e h. (e, tt); when_no = λ e h. absurd (h e) }

  any_end : (combined : Answer) (d : Reads) → ForAny combined End d combined
  any_end combined d = record { when_yes = λ e h. absurd (h e); when_no = λ e. (e, tt) }

  pick_end : (D : Reads) (combined : Answer) → ForPick D combined End D combined
  pick_end D combined = record { when_yes = λ e h. absurd (h e); when_no = λ e. (e, λ i k l h. h, tt) }

  all_stop : (combined : Answer) (p : Part) (ps : Parts) (d : Reads) → T (no_holds (N d) p) → ForAll combined (Then p ps) d No
  all_stop combined p ps d t =
      record {
        when_yes = λ e. absurd (differ No Yes refl e);
        when_no = λ e h. not_and_left (holds true (outside (N d)) p)
            (every_holds true (outside (N d)) ps) t;
      }

  any_stop : (combined : Answer) (p : Part) (ps : Parts) (d : Reads) → T (yes_holds (Y d) p) → ForAny combined (Then p ps) d Yes
  any_stop combined p ps d t =
      record { when_yes = λ e h. or_left (yes_holds (Y d) p) (some_holds false (Y d) ps) t; when_no = λ e. absurd (differ Yes No refl e) }

  pick_stop : (D : Reads) (combined : Answer) (p : Part) (ps : Parts) (d : Reads) → T (yes_holds (Y d) p) → ForPick D combined (Then p ps) d Yes
  pick_stop D combined p ps d t =
      record { when_yes = λ e h. or_left (yes_holds (Y d) p) (some_holds false (Y d) ps) t; when_no = λ e. absurd (differ Yes No refl e) }

  all_more : (combined a : Answer) (p : Part) (ps : Parts) (d e : Reads) (r : Answer) → a ≢ No → RightAt W xs p d a
      → ForAll (combine combined a) ps e r → ForAll combined (Then p ps) (plus d e) r
  all_more combined a p ps d e r h t q =
      record {
        when_yes = λ z n.
            let w : (combine combined a ≡ Yes) × T (yes_holds (Y e) (Node All ps)) = q.when_yes z (neither_no combined a n) in
            let y : (combined ≡ Yes) × (a ≡ Yes) = both_yes combined a n h w.0 in (
              y.0,
              both (yes_holds (Y (plus d e)) p) (every_holds false (Y (plus d e)) ps)
                  (yes_mono p d (plus d e) (first d e) (t.when_yes y.1))
                  (yes_mono (Node All ps) e (plus d e) (second d e) w.1),
            );
        when_no = λ z n.
            not_and_right (holds true (outside (N (plus d e))) p) (every_holds true (outside (N (plus d e))) ps)
            (no_mono (Node All ps) e (plus d e) (second d e) (q.when_no z (neither_no combined a n)));
      }

  any_more : (combined a : Answer) (p : Part) (ps : Parts) (d e : Reads) (r : Answer) → a ≢ Yes → RightAt W xs p d a
      → ForAny (combine combined a) ps e r → ForAny combined (Then p ps) (plus d e) r
  any_more combined a p ps d e r h t q =
      record {
        when_yes = λ z n.
            or_right (yes_holds (Y (plus d e)) p) (some_holds false (Y (plus d e)) ps)
            (yes_mono (Node Any ps) e (plus d e) (second d e) (q.when_yes z (neither_yes combined a n h)));
        when_no = λ z.
            let w : (combined ≡ No) × (a ≡ No) = both_no combined a (q.when_no z).0 in (
              w.0,
              not_or (holds true (outside (N (plus d e))) p) (some_holds true (outside (N (plus d e))) ps)
                  (no_mono p d (plus d e) (first d e) (t.when_no w.1))
                  (no_mono (Node Any ps) e (plus d e) (second d e) (q.when_no z).1),
            );
      }

  pick_more : (D E : Reads) (combined a : Answer) (p : Part) (ps : Parts) (d e : Reads) (r : Answer) → a ≢ Yes → RightAt W xs p d a
      → Within (length xs) D E → Within (length xs) d E → ForPick E (combine combined a) ps e r → ForPick D combined (Then p ps) e r
  pick_more D E combined a p ps d e r h t DE dE q =
      record {
        when_yes = λ z n. or_right (yes_holds (Y e) p) (some_holds false (Y e) ps) (q.when_yes z (neither_yes combined a n h));
        when_no = λ z.
            let w : (combined ≡ No) × (a ≡ No) = both_no combined a (q.when_no z).0 in (
              w.0,
              λ i k l s. (q.when_no z).1 i k l (DE i k l s),
              not_or (holds true (outside (N e)) p) (some_holds true (outside (N e)) ps)
                  (no_mono p d e (λ i k l s. (q.when_no z).1 i k l (dE i k l s)) (t.when_no w.1))
                  (q.when_no z).2,
            );
      }

  -- ---- the recursion
  module _ (evaluate : Evaluator) (ok : EvalOk W xs evaluate) where
    abbrev G : ℕ
    G = W.book.header.goals

    all_then : (p : Part) (ps : Parts) (combined : Answer) (g : Graph) (o : Outcome) → After W xs g (RightAt W xs p) o
        → ((w : Answer) (g' : Graph) → State W xs g' → After W xs g' (ForAll w ps) (eval_all evaluate G ps w g'))
        → After W xs g (ForAll combined (Then p ps))
        (and_then o λ g1 a. elim (same_answer a No) [ true ↦ Done g1 No | false ↦ eval_all evaluate G ps (combine combined a) g1 ])
    all_then p ps combined g o r ih =
        after_then W xs g (RightAt W xs p) (ForAll combined (Then p ps)) o _ r λ g1 a d s t. go g1 a d s t (same_answer a No) refl
      where
        go : (g1 : Graph) (a : Answer) (d : Reads) → Change W xs g g1 d → RightAt W xs p d a → (t : Bool) → same_answer a No ≡ t
            → After W xs g (ForAll combined (Then p ps)) (elim t [ true ↦ Done g1 No | false ↦ eval_all evaluate G ps (combine combined a) g1 ])
        go g1 a d s t true e = (d, s, all_stop combined p ps d (t.when_no (same_is a No e)))
        go g1 a d s t false e =
            after_from W xs g g1 d (ForAll combined (Then p ps)) (ForAll (combine combined a) ps) s
            (λ e' r' q. all_more combined a p ps d e' r' (differ a No e) t q)
            (eval_all evaluate G ps (combine combined a) g1) (ih (combine combined a) g1 s.inv)

    any_then : (p : Part) (ps : Parts) (combined : Answer) (g : Graph) (o : Outcome) → After W xs g (RightAt W xs p) o
        → ((w : Answer) (g' : Graph) → State W xs g' → After W xs g' (ForAny w ps) (eval_any evaluate G ps w g'))
        → After W xs g (ForAny combined (Then p ps))
        (and_then o λ g1 a. elim (same_answer a Yes) [ true ↦ Done g1 Yes | false ↦ eval_any evaluate G ps (combine combined a) g1 ])
    any_then p ps combined g o r ih =
        after_then W xs g (RightAt W xs p) (ForAny combined (Then p ps)) o _ r λ g1 a d s t. go g1 a d s t (same_answer a Yes) refl
      where
        go : (g1 : Graph) (a : Answer) (d : Reads) → Change W xs g g1 d → RightAt W xs p d a → (t : Bool) → same_answer a Yes ≡ t
            → After W xs g (ForAny combined (Then p ps)) (elim t [ true ↦ Done g1 Yes | false ↦ eval_any evaluate G ps (combine combined a) g1 ])
        go g1 a d s t true e = (d, s, any_stop combined p ps d (t.when_yes (same_is a Yes e)))
        go g1 a d s t false e =
            after_from W xs g g1 d (ForAny combined (Then p ps)) (ForAny (combine combined a) ps) s
            (λ e' r' q. any_more combined a p ps d e' r' (differ a Yes e) t q)
            (eval_any evaluate G ps (combine combined a) g1) (ih (combine combined a) g1 s.inv)

    -- the usages in `us` are at most the reads O
    abbrev AtMost : List HeadUsages → Reads → Type 0
    AtMost us O = (i : ℕ) (k : PathKind) → counter (get_or us i no_usages) k ≤ O i k

    abbrev Fits : Reads → Reads → Reads → Type 0
    Fits O F D = (i : ℕ) (k : PathKind) → O i k + F i k ≤ D i k

    -- a candidate, entered at g and left after g1
    candidate_change : (g₀ g g1 : Graph) (D d : Reads) → State W xs g → Change W xs g₀ g D → Change W xs (enter_single_candidate G g) g1 d
        → Change W xs g₀ (finish_single_candidate g1) (plus (plus (plus D nothing) d) nothing)
    candidate_change g₀ g g1 D d v s t =
        change_trans W xs g₀ g1 _ (plus (plus D nothing) d) nothing
        (change_trans W xs g₀ (enter_single_candidate G g) g1 (plus D nothing) d
        (change_trans W xs g₀ g (enter_single_candidate G g) D nothing s (enter_change W xs g v)) t)
        (finish_change W xs g1 t.inv)

    finished_at_most : (g g1 : Graph) (d : Reads) → Change W xs (enter_single_candidate G g) g1 d → AtMost (finished_usages G g1) d
    finished_at_most g g1 d t = tracked_since G g.stack g1.stack d t.gain

    merged_at_most : (us vs : List HeadUsages) (O d : Reads) → AtMost us O → AtMost vs d → AtMost (merge_usages us vs) (plus O d)
    merged_at_most us vs O d a b i k = omega (arith, merged us vs i k, a i k, b i k)

    -- after a Yes was met: the answer is Yes, and the reads that are left are F, those of the first Yes
    abbrev Met : Reads → Reads → Answer → Type 0
    Met F d a = (a ≡ Yes) × (d ≡ F)

    abbrev MetOk : Parts → Type 0
    MetOk ps =
        (combined : Answer) (others : List HeadUsages) (g₀ g : Graph) (D O F : Reads) → Change W xs g₀ g D → AtMost others O → Fits O F D
        → Untracked g.stack
        → After W xs g₀ (Met F) (eval_pick evaluate G ps true combined others g)

    abbrev PickOk : Parts → Type 0
    PickOk ps =
        (combined : Answer) (others : List HeadUsages) (g₀ g : Graph) (D O : Reads) → Change W xs g₀ g D → AtMost others O
        → ((i : ℕ) (k : PathKind) → O i k ≤ D i k)
        → After W xs g₀ (ForPick D combined ps) (eval_pick evaluate G ps false combined others g)

    met_then : (p : Part) (ps : Parts) → ((g : Graph) → State W xs g → After W xs g (RightAt W xs p) (eval_part evaluate G p g)) → MetOk ps
        → MetOk (Then p ps)
    met_then p ps r ih combined others g₀ g D O F s a f u =
        go (eval_part evaluate G p (enter_single_candidate G g)) (r (enter_single_candidate G g) (enter_change W xs g s.inv).inv)
      where
        go : (o : Outcome) → After W xs (enter_single_candidate G g) (RightAt W xs p) o
            → After W xs g₀ (Met F) (and_then o λ g1 a. eval_pick evaluate G ps (true || same_answer a Yes) (combine combined a)
            (merge_unless (not true && same_answer a Yes) others (finished_usages G g1)) (finish_single_candidate g1))
        go (Stopped r) t = t
        go (Done g1 b) (d, t, q) =
            ih (combine combined b) (merge_usages others (finished_usages G g1)) g₀ (finish_single_candidate g1) _ (plus O d) F
            (candidate_change g₀ g g1 D d s.inv s t)
            (merged_at_most others (finished_usages G g1) O d a (finished_at_most g g1 d t))
            (λ i k. omega (arith, f i k))
            (finish_untracked g1.stack)

    pick_then : (p : Part) (ps : Parts) → ((g : Graph) → State W xs g → After W xs g (RightAt W xs p) (eval_part evaluate G p g)) → MetOk ps
        → PickOk ps
        → PickOk (Then p ps)
    pick_then p ps r met ih combined others g₀ g D O s a f =
        go (eval_part evaluate G p (enter_single_candidate G g)) (r (enter_single_candidate G g) (enter_change W xs g s.inv).inv)
      where
        next : (g1 : Graph) (b : Answer) (d : Reads) → Change W xs (enter_single_candidate G g) g1 d → RightAt W xs p d b → (t : Bool)
            → same_answer b Yes ≡ t
            → After W xs g₀ (ForPick D combined (Then p ps)) (eval_pick evaluate G ps (false || t) (combine combined b)
            (merge_unless (not false && t) others (finished_usages G g1)) (finish_single_candidate g1))
        next g1 b d t q true e =
            after_map W xs g₀ (Met d) (ForPick D combined (Then p ps))
            (λ d' a' m. rw (m.0, m.1) (pick_stop D combined p ps d (q.when_yes (same_is b Yes e))))
            (eval_pick evaluate G ps true (combine combined b) others (finish_single_candidate g1))
            (met (combine combined b) others g₀ (finish_single_candidate g1) _ O d (candidate_change g₀ g g1 D d s.inv s t) a
            (λ i k. omega (arith, f i k)) (finish_untracked g1.stack))
        next g1 b d t q false e =
            after_map W xs g₀ (ForPick (plus (plus (plus D nothing) d) nothing) (combine combined b) ps) (ForPick D combined (Then p ps))
            (λ d' a' m. pick_more D (plus (plus (plus D nothing) d) nothing) combined b p ps d d' a' (differ b Yes e) q (λ i k l h. omega arith)
            (λ i k l h. omega arith) m)
            (eval_pick evaluate G ps false (combine combined b) (merge_usages others (finished_usages G g1)) (finish_single_candidate g1))
            (ih (combine combined b) (merge_usages others (finished_usages G g1)) g₀ (finish_single_candidate g1) _ (plus O d)
            (candidate_change g₀ g g1 D d s.inv s t)
            (merged_at_most others (finished_usages G g1) O d a (finished_at_most g g1 d t))
            (λ i k. omega (arith, f i k)))

        go : (o : Outcome) → After W xs (enter_single_candidate G g) (RightAt W xs p) o
            → After W xs g₀ (ForPick D combined (Then p ps))
            (and_then o λ g1 a. eval_pick evaluate G ps (false || same_answer a Yes) (combine combined a)
            (merge_unless (not false && same_answer a Yes) others (finished_usages G g1)) (finish_single_candidate g1))
        go (Stopped r) t = t
        go (Done g1 b) (d, t, q) = next g1 b d t q (same_answer b Yes) refl

    met_end : (combined : Answer) (others : List HeadUsages) (g₀ g : Graph) (D O F : Reads) → Change W xs g₀ g D → AtMost others O → Fits O F D
        → Untracked g.stack
        → (t : Bool) → can_ignore others g.stack ≡ t
        → After W xs g₀ (Met F) (elim t [ true ↦ Done (ignore_candidate_head_usages g others) Yes | false ↦ Stopped Unreachable ])
    met_end combined others g₀ g D O F s a f u true e = (F, ignore_change W xs g₀ g others D O F s a f u, (refl, refl))
    met_end combined others g₀ g D O F s a f u false e = absurd (rw e at (can_be_ignored others O F s.gain a f))

    mutual
      pub part_ok : (p : Part) → Calls (Callable W xs) p → (g : Graph) → State W xs g
          → After W xs g (RightAt W xs p) (eval_part evaluate G p g)
      part_ok (Call goal kind lower) c g v =
          after_map W xs g (Claims W xs goal) (RightAt W xs (Call goal kind lower)) (right_call goal kind lower) (evaluate g goal kind lower)
          (ok g goal kind lower v c.0 c.1)
      part_ok (Node All ps) c g v =
          after_map W xs g (ForAll Yes ps) (RightAt W xs (Node All ps)) (right_all ps) (eval_all evaluate G ps Yes g) (all_ok ps c Yes g v)
      part_ok (Node Any ps) c g v =
          after_map W xs g (ForAny No ps) (RightAt W xs (Node Any ps)) (right_any ps) (eval_any evaluate G ps No g) (any_ok ps c No g v)
      part_ok (Node Pick ps) c g v =
          after_map W xs g (ForPick nothing No ps) (RightAt W xs (Node Pick ps)) (right_pick nothing ps)
          (eval_pick evaluate G ps false No (no_candidate_usages G) g)
          (pick_ok ps c No (no_candidate_usages G) g g nothing nothing (change_nothing W xs g v) (λ i k. omega (arith, no_candidate G i k))
          (λ i k. omega arith))
      part_ok UndecidedLine c g v = (nothing, change_nothing W xs g v, right_undecided nothing)

      all_ok : (ps : Parts) → AllCalls (Callable W xs) ps → (combined : Answer) (g : Graph) → State W xs g
          → After W xs g (ForAll combined ps) (eval_all evaluate G ps combined g)
      all_ok End c combined g v = (nothing, change_nothing W xs g v, all_end combined nothing)
      all_ok (Then p ps) c combined g v =
          all_then p ps combined g (eval_part evaluate G p g) (part_ok p c.0 g v) (λ w g' v'. all_ok ps c.1 w g' v')

      any_ok : (ps : Parts) → AllCalls (Callable W xs) ps → (combined : Answer) (g : Graph) → State W xs g
          → After W xs g (ForAny combined ps) (eval_any evaluate G ps combined g)
      any_ok End c combined g v = (nothing, change_nothing W xs g v, any_end combined nothing)
      any_ok (Then p ps) c combined g v =
          any_then p ps combined g (eval_part evaluate G p g) (part_ok p c.0 g v) (λ w g' v'. any_ok ps c.1 w g' v')

      met_ok : (ps : Parts) → AllCalls (Callable W xs) ps → MetOk ps
      met_ok End c combined others g₀ g D O F s a f u = met_end combined others g₀ g D O F s a f u (can_ignore others g.stack) refl
      met_ok (Then p ps) c combined others g₀ g D O F s a f u =
          met_then p ps (λ g' v'. part_ok p c.0 g' v')
          (λ w o h₀ h D' O' F' s' a' f' u'. met_ok ps c.1 w o h₀ h D' O' F' s' a' f' u') combined others g₀ g D O F s a f u

      pick_ok : (ps : Parts) → AllCalls (Callable W xs) ps → PickOk ps
      pick_ok End c combined others g₀ g D O s a f = (D, s, pick_end D combined)
      pick_ok (Then p ps) c combined others g₀ g D O s a f =
          pick_then p ps (λ g' v'. part_ok p c.0 g' v') (λ w o h₀ h D' O' F' s' a' f' u'. met_ok ps c.1 w o h₀ h D' O' F' s' a' f' u')
          (λ w o h₀ h D' O' s' a' f'. pick_ok ps c.1 w o h₀ h D' O' s' a' f') combined others g₀ g D O s a f
