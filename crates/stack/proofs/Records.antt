-- A frame's first eight bytes as a record: loaded, stored, marked.
use mathlib.Core.Path.{◌≡◌, refl, ap, ◌∙◌}
use mathlib.Core.Bool.{Bool, true, false, not}
use mir.Val.{bool_byte}
use mathlib.Core.List.{List, [], ◌∷◌, ◌++◌}
use Prim.Native.Nat.{ℕ, zero, suc, ◌<◌}
use native.Mathlib.Omega.{arith}
use lib.Dec.{eqb}
use lib.ListN.{length, get_or, set, take, drop, take-append-drop}
use Rattle.buffer.proofs.Sized.{sized}
use Rattle.stack.specs.declared.frame.fields.FrameRecord.{FrameRecord}
use Rattle.stack.specs.Records.{record_of, bytes_of, flag_byte, overflowed}
use Rattle.stack.proofs.Parts.{returned}
use Rattle.stack.proofs.Values.{test_truth}

-- ---- `load`
pub loaded : (bs : List ℕ)
    → record { input = get_or bs 0 0; step = get_or bs 1 0; available = get_or bs 2 0; reached = get_or bs 3 0; provisional = get_or bs 4 0; overflow = not (eqb (get_or bs 5 0) 0); head = get_or bs 6 0; tracks = get_or bs 7 0 } ≡ record_of bs
loaded bs = λ t. record {
  input = get_or bs 0 0;
  step = get_or bs 1 0;
  available = get_or bs 2 0;
  reached = get_or bs 3 0;
  provisional = get_or bs 4 0;
  overflow = test_truth (get_or bs 5 0) t;
  head = get_or bs 6 0;
  tracks = get_or bs 7 0;
}

-- ---- `store`
pub flag_bool : (b : Bool) → bool_byte b ≡ flag_byte b
flag_bool true = refl
flag_bool false = refl

pub stored : (bs : List ℕ) → length bs ≡ 8 → (f : FrameRecord) (v : ℕ) → v ≡ flag_byte f.overflow
    → set (set (set (set (set (set (set (set bs 0 f.input) 1 f.step) 2 f.available) 3 f.reached) 4 f.provisional) 5 v) 6 f.head) 7 f.tracks ≡ bytes_of f
stored bs len f v e =
    sized 8 (λ l. set (set (set (set (set (set (set (set l 0 f.input) 1 f.step) 2 f.available) 3 f.reached) 4 f.provisional) 5 v) 6 f.head) 7 f.tracks
    ≡ f.input ∷ f.step ∷ f.available ∷ f.reached ∷ f.provisional ∷ v ∷ f.head ∷ f.tracks ∷ []) (λ b0 b1 b2 b3 b4 b5 b6 b7. refl) bs len
    ∙ (λ t. f.input ∷ f.step ∷ f.available ∷ f.reached ∷ f.provisional ∷ e t ∷ f.head ∷ f.tracks ∷ [])

-- ---- `mark_bytes`
pub marked_bytes : (bs : List ℕ) → length bs ≡ 8 → bytes_of (overflowed (record_of bs)) ≡ set bs 5 1
marked_bytes = sized 8 (λ l. bytes_of (overflowed (record_of l)) ≡ set l 5 1) (λ b0 b1 b2 b3 b4 b5 b6 b7. refl)

pub mark_stored : (bs out : List ℕ) (f g : FrameRecord) → length bs ≡ 8 → f ≡ record_of bs → g ≡ overflowed f → out ≡ bytes_of g → out ≡ set bs 5 1
mark_stored bs out f g len is_f is-g is_out = is_out ∙ ap bytes_of (is-g ∙ ap overflowed is_f) ∙ marked_bytes bs len

-- a byte among the first n is written there
set_front : (bs : List ℕ) (n i v : ℕ) → i < n → set (take n bs) i v ++ drop n bs ≡ set bs i v
set_front bs zero i v lt = absurd (omega arith)
set_front [] (suc n) i v lt = refl
set_front (b ∷ bs) (suc n) zero v lt = ap (λ (l : List ℕ). v ∷ l) (take-append-drop n bs)
set_front (b ∷ bs) (suc n) (suc i) v lt = ap (λ (l : List ℕ). b ∷ l) (set_front bs n i v (omega arith))

pub mark_returned : (bs ys : List ℕ) → ys ≡ set (take 8 bs) 5 1 → returned bs 0 8 ys ≡ set bs 5 1
mark_returned bs ys is = ap (λ (l : List ℕ). returned bs 0 8 l) is ∙ set_front bs 8 5 1 (omega arith)
