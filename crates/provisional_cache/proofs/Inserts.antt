-- `insert`: full, or one entry more, which is the definition's.
use mathlib.Core.Path.{◌≡◌, refl, ap, ◌∙◌}
use mathlib.Core.Bool.{Bool}
use mathlib.Core.List.{List, [], ◌∷◌, ◌++◌}
use Prim.Native.Nat.{ℕ, ◌*◌, ◌≤◌, ◌<◌}
use native.Mathlib.Omega.{arith}
use Rattle.definition.specs.declared.paths.PathKind.{PathKind}
use Rattle.definition.specs.declared.answers.Answer.{Answer}
use Rattle.definition.specs.Heads.{highest_index}
use Rattle.definition.specs.Stack.{cycle_path_kind}
use Rattle.layout.specs.Blocks.{heads_size, heads_of}
use Rattle.layout.specs.Frame.{heads_start, frame_of}
use Rattle.layout.specs.Work.{stack_of, entries_of}
use Rattle.buffer.specs.Regions.{region}
use Rattle.stack.specs.Bytes.{frame_bytes, frame_at}
use Rattle.provisional_cache.specs.Entries.{entry_on}
use Rattle.provisional_cache.specs.Inserts.{path_from_highest, Appended, Inserted}
use Rattle.std.specs.Prelude.{Ok, Err}
use Rattle.provisional_cache.proofs.Loops.{frames_same}

-- the highest of the frame's heads
pub path_is : (goals height : ℕ) (step : PathKind) (bs f hs : List ℕ) (h : ℕ) (k : PathKind) → f ≡ frame_bytes goals height bs → hs ≡ region heads_start (heads_size goals) f → h ≡ highest_index (heads_of goals hs)
    → k ≡ cycle_path_kind (stack_of goals height bs) step h → k ≡ path_from_highest goals height step bs
unfolding frame_of
path_is goals height step bs f hs h k is_f is-hs is-h is-k =
    is-k ∙ ap (cycle_path_kind (stack_of goals height bs) step) (is-h ∙ ap (λ (l : List ℕ). highest_index (heads_of goals l)) (is-hs ∙ ap (region heads_start (heads_size goals)) is_f))

module _ (goals height n goal : ℕ) (step : PathKind) (overflow : Bool) (answer : Answer) (old : List ℕ) where
  pub insert_full : 2 * goals ≤ n → Inserted goals height n goal step overflow answer old old (Err (record {}))
  insert_full past =
      record {
        full = λ h. refl;
        untouched = λ h. refl;
        kept = λ h. absurd (omega arith);
        entries = λ h. absurd (omega arith);
        frames = frames_same goals old;
      }

  pub insert_kept : n < 2 * goals → (new : List ℕ) (path : PathKind) → path ≡ path_from_highest goals height step old
      → Appended goals n (entry_on goal overflow (frame_at goals height old).heads path answer) old new → Inserted goals height n goal step overflow answer old new (Ok tt)
  insert_kept under new path is-path made =
      record {
        full = λ h. absurd (omega arith);
        untouched = λ h. absurd (omega arith);
        kept = λ h. refl;
        entries = λ h. made.entries ∙ ap (λ (p : PathKind). entries_of goals n old ++ (entry_on goal overflow (frame_at goals height old).heads p answer ∷ [])) is-path;
        frames = made.frames;
      }
