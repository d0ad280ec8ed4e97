-- The loop of `heads::copy`: mask first, then the records that it names.
use mathlib.Core.Path.{◌≡◌, refl, sym, ap, ◌∙◌, subst}
use mathlib.Core.Bool.{Bool, true, false, false≢true}
use mathlib.Core.Logic.{⊎_elim}
use mathlib.Core.List.{List, ◌++◌}
use mathlib.Core.Option.{none, some}
use Prim.Native.Nat.{ℕ, ◌+◌, ◌*◌, ◌-◌, ◌^◌, ◌≤◌, ◌<◌}
use native.Mathlib.Omega.{arith}
use native.Mathlib.Decide.{dec_lt, ℕ_discrete}
use native.Mathlib.Nat.{add-zero}
use lib.ListN.{length, get_or, set, replicate, get_or-append}
use lib.Seq.{get_or-set_other, ext_get_or}
use Rattle.bits.specs.Masks.{flags, first_place, place_or}
use Rattle.bits.proofs.Flags.{flags_zero}
use Rattle.bits.proofs.Marks.{only}
use Rattle.buffer.specs.Numbers.{number_of, bytes_of}
use Rattle.buffer.specs.Regions.{region, overwrite}
use Rattle.buffer.proofs.Numbers.{length_bytes}
use Rattle.buffer.proofs.Regions.{region_region, region_same, region_before, region_after, length_overwrite}
use Rattle.buffer.proofs.Tables.{length_up}
use Rattle.layout.specs.Blocks.{head_of, head_at, heads_size, heads_of, flag_at, present}
use Rattle.layout.specs.Copied.{OutsideKept, RecordCopied, BlocksApart, HeadsCopied}
use Rattle.layout.proofs.Blocks.{kept_set, kept_clear}
use Rattle.layout.proofs.Written.{number_back, number_before}
use Rattle.layout.proofs.Frames.{length_heads}
use Rattle.layout.proofs.Marks.{Within, start_within, turn_small, turn_within}
use Rattle.layout.proofs.Present.{present_flags, present_at, heads_at}

-- a record that is written with another's head
pub record_copied : (bs : List ℕ) (from to : ℕ) (ys : List ℕ) → length ys ≡ 33 → to + 33 ≤ length bs → (b1 : List ℕ) → b1 ≡ overwrite bs to ys
    → head_of ys ≡ head_of (region from 33 bs) → RecordCopied from to bs b1
record_copied bs from to ys whole room b1 e is =
    let fits : to + length ys ≤ length bs = omega arith in
    record {
      head = ap head_of (ap (region to 33) e ∙ ap (λ (n : ℕ). region to n (overwrite bs to ys)) (sym whole) ∙ region_same bs to ys fits) ∙ is;
      others = record {
        before = λ b n h. ap (region b n) e ∙ region_before bs to ys fits b n h;
        behind = λ b n h. ap (region b n) e ∙ region_after bs to ys fits b n (omega arith);
      };
    }

-- the records that the mask m names are copied, but for those that `left` names
pub record Copying (goals from to : ℕ) (old : List ℕ) (m left : ℕ) (s : List ℕ) : Type 0 where
  pub long : length s ≡ length old
  pub others : OutsideKept to (heads_size goals) old s
  pub mask : number_of (region to 8 s) ≡ m
  pub small : left < 2 ^ 64
  pub within : Within left (heads_of goals (region from (heads_size goals) old))
  pub done : (i : ℕ) → i < goals → get_or (flags 64 m) i false ≡ true → get_or (flags 64 left) i false ≡ false
      → head_of (region (to + (8 + i * 33)) 33 s) ≡ head_of (region (from + (8 + i * 33)) 33 old)

module _ (goals from to : ℕ) (old : List ℕ) (blocks : BlocksApart goals from to old) (m : ℕ) where
  abbrev source : List ℕ
  source = region from (heads_size goals) old

  -- before the first turn
  pub copy_start : m < 2 ^ 64 → number_of (region to 8 old) ≡ m
      → flags 64 m ≡ present (heads_of goals source) ++ replicate (64 - goals) false → Copying goals from to old m m old
  copy_start small mask is =
      record {
        long = refl;
        others = record { before = λ b n h. refl; behind = λ b n h. refl };
        mask = mask;
        small = small;
        within = start_within (heads_of goals source) m (64 - goals) is;
        done = λ i lt t f. absurd (false≢true (sym f ∙ t));
      }

  -- a turn, at index i
  module _ (left : ℕ) (s : List ℕ) (so_far : Copying goals from to old m left s) (i : ℕ) (pos : 0 < left)
      (is : i ≡ place_or 64 (first_place (flags 64 left))) where
    pub copy_small : i < goals
    copy_small = turn_small (heads_of goals source) left i pos so_far.small so_far.within is goals (length_heads goals source)

    -- the source is as it was
    kept : (b n : ℕ) → from ≤ b → b + n ≤ from + heads_size goals → region b n s ≡ region b n old
    kept b n low high =
        ⊎_elim (λ h. so_far.others.before b n (omega arith)) (λ h. so_far.others.behind b n (omega arith)) blocks.apart

    module _ (s1 : List ℕ) (same : length s1 ≡ length s) (copied : RecordCopied (from + (8 + i * 33)) (to + (8 + i * 33)) s s1)
        (left1 : ℕ) (rest : flags 64 left1 ≡ set (flags 64 left) (place_or 64 (first_place (flags 64 left))) false) (less : left1 < left) where
      one : (j : ℕ) → j < goals → get_or (flags 64 m) j false ≡ true → get_or (flags 64 left1) j false ≡ false
          → head_of (region (to + (8 + j * 33)) 33 s1) ≡ head_of (region (from + (8 + j * 33)) 33 old)
      one j lt t f =
          let low = copy_small in
          elim (ℕ_discrete j i) [
            | yes e ↦
                subst (λ (x : ℕ). head_of (region (to + (8 + x * 33)) 33 s1) ≡ head_of (region (from + (8 + x * 33)) 33 old)) (sym e)
                (copied.head ∙ ap head_of (kept (from + (8 + i * 33)) 33 (omega arith) (omega arith)))
            | no ne ↦
                let still : get_or (flags 64 left) j false ≡ false =
                sym (get_or-set_other (flags 64 left) i j false false ne) ∙ ap (λ (x : ℕ). get_or (set (flags 64 left) x false) j false) is ∙ ap (λ (l : List Bool). get_or l j false) (sym rest) ∙ f in
                ap head_of (apart j ne) ∙ so_far.done j lt t still
          ]
        where
          above : (j : ℕ) → i < j → to + (8 + i * 33) + 33 ≤ to + (8 + j * 33)
          above j h = omega arith

          apart : (j : ℕ) → (j ≡ i → ⊥) → region (to + (8 + j * 33)) 33 s1 ≡ region (to + (8 + j * 33)) 33 s
          apart j ne =
              elim (dec_lt j i) [
                | yes h ↦ copied.others.before (to + (8 + j * 33)) 33 (omega arith)
                | no h ↦ copied.others.behind (to + (8 + j * 33)) 33 (above j (omega (arith, ne)))
              ]

      pub copy_turn : Copying goals from to old m left1 s1
      copy_turn =
          let low = copy_small in
          record {
            long = same ∙ so_far.long;
            others = record {
              before = λ b n h. copied.others.before b n (omega arith) ∙ so_far.others.before b n h;
              behind = λ b n h. copied.others.behind b n (omega arith) ∙ so_far.others.behind b n h;
            };
            mask = ap number_of (copied.others.before to 8 (omega arith)) ∙ so_far.mask;
            small = omega (arith, so_far.small);
            within = turn_within (heads_of goals source) left i pos so_far.small so_far.within is left1 rest;
            done = one;
          }

  -- after the last turn
  module _ (left : ℕ) (s : List ℕ) (so_far : Copying goals from to old m left s) (over : left ≡ 0)
      (is : flags 64 m ≡ present (heads_of goals source) ++ replicate (64 - goals) false) where
    abbrev target : List ℕ
    target = region to (heads_size goals) s

    named : (i : ℕ) → i < goals → get_or (flags 64 m) i false ≡ flag_at source i
    named i lt =
        ap (λ (l : List Bool). get_or l i false) is
        ∙ get_or-append (present (heads_of goals source)) (replicate (64 - goals) false) false i
        (subst (λ (n : ℕ). i < n) (sym (ap length (present_flags goals source) ∙ length_up (flag_at source) goals)) lt)
        ∙ present_at goals source i lt

    flag_same : (i : ℕ) → i < goals → flag_at target i ≡ get_or (flags 64 m) i false
    unfolding flag_at
    flag_same i lt =
        ap (λ (n : ℕ). get_or (flags 64 n) i false)
        (ap number_of (region_region to (heads_size goals) 0 8 s (omega arith) ∙ ap (λ (x : ℕ). region x 8 s) (add-zero to)) ∙ so_far.mask)

    none_left : (i : ℕ) → get_or (flags 64 left) i false ≡ false
    none_left i = ap (λ (n : ℕ). get_or (flags 64 n) i false) over ∙ ap (λ (l : List Bool). get_or l i false) (flags_zero 64) ∙ only false 64 i

    head_same : (i : ℕ) → i < goals → get_or (heads_of goals target) i none ≡ get_or (heads_of goals source) i none
    head_same i lt = heads_at goals target i lt ∙ go (flag_at source i) refl ∙ sym (heads_at goals source i lt)
      where
        go : (t : Bool) → flag_at source i ≡ t → head_at target i ≡ head_at source i
        go true e =
            kept_set (λ r. some (head_of r)) none 33 target i (flag_same i lt ∙ named i lt ∙ e)
            ∙ ap some (ap head_of (region_region to (heads_size goals) (8 + i * 33) 33 s (omega arith))
            ∙ so_far.done i lt (named i lt ∙ e) (none_left i)
            ∙ ap head_of (sym (region_region from (heads_size goals) (8 + i * 33) 33 old (omega arith))))
            ∙ sym (kept_set (λ r. some (head_of r)) none 33 source i e)
        go false e =
            kept_clear (λ r. some (head_of r)) none 33 target i (flag_same i lt ∙ named i lt ∙ e)
            ∙ sym (kept_clear (λ r. some (head_of r)) none 33 source i e)

    pub copy_done : HeadsCopied goals from to old s
    copy_done =
        record {
          heads =
              ext_get_or none (heads_of goals target) (heads_of goals source) (length_heads goals target ∙ sym (length_heads goals source))
              (λ i l. head_same i (subst (λ (n : ℕ). i < n) (length_heads goals target) l));
          others = so_far.others;
        }

-- ---- the mask m is written before the loop
module _ (goals from to : ℕ) (old : List ℕ) (blocks : BlocksApart goals from to old) (m : ℕ) (s : List ℕ) (e : s ≡ overwrite old to (bytes_of 8 m)) where
  fits : to + 8 ≤ length old
  fits = let room = blocks.target in omega arith

  inside : to + length (bytes_of 8 m) ≤ length old
  inside = rw length_bytes fits

  pub masked_long : length s ≡ length old
  masked_long = ap length e ∙ length_overwrite old to (bytes_of 8 m) inside

  pub masked_blocks : BlocksApart goals from to s
  masked_blocks =
      let long = masked_long in
      record {
        few = blocks.few;
        source = let room = blocks.source in omega arith;
        target = let room = blocks.target in omega arith;
        apart = blocks.apart;
      }

  masked_before : (b n : ℕ) → b + n ≤ to → region b n s ≡ region b n old
  masked_before b n h = ap (region b n) e ∙ number_before old to m fits b n h

  masked_behind : (b n : ℕ) → to + 8 ≤ b → region b n s ≡ region b n old
  masked_behind b n h = ap (region b n) e ∙ region_after old to (bytes_of 8 m) inside b n (rw length_bytes h)

  pub masked_mask : m < 2 ^ 64 → number_of (region to 8 s) ≡ m
  masked_mask small = ap (λ (l : List ℕ). number_of (region to 8 l)) e ∙ number_back old to m fits small

  pub masked_source : region from (heads_size goals) s ≡ region from (heads_size goals) old
  masked_source =
      ⊎_elim (λ h. masked_before from (heads_size goals) (omega arith)) (λ h. masked_behind from (heads_size goals) (omega arith)) blocks.apart

  pub masked_flags : flags 64 m ≡ present (heads_of goals (region from (heads_size goals) old)) ++ replicate (64 - goals) false
      → flags 64 m ≡ present (heads_of goals (region from (heads_size goals) s)) ++ replicate (64 - goals) false
  masked_flags is = is ∙ ap (λ (l : List ℕ). present (heads_of goals l) ++ replicate (64 - goals) false) (sym masked_source)

  pub masked_start : m < 2 ^ 64 → flags 64 m ≡ present (heads_of goals (region from (heads_size goals) old)) ++ replicate (64 - goals) false → Copying goals from to s m m s
  masked_start small is = copy_start goals from to s masked_blocks m small (masked_mask small) (masked_flags is)

  -- a turn's place is one of the block, and the buffer is as long as it was
  pub masked_turn : (left : ℕ) (now : List ℕ) → Copying goals from to s m left now → (i : ℕ) → 0 < left → i ≡ place_or 64 (first_place (flags 64 left))
      → (i < goals) × (length now ≡ length old)
  masked_turn left now so_far i pos is = (copy_small goals from to s masked_blocks m left now so_far i pos is, so_far.long ∙ masked_long)

  pub copied_from : (new : List ℕ) → HeadsCopied goals from to s new → HeadsCopied goals from to old new
  copied_from new copied =
      record {
        heads = copied.heads ∙ ap (heads_of goals) masked_source;
        others = record {
          before = λ b n h. copied.others.before b n h ∙ masked_before b n h;
          behind = λ b n h. copied.others.behind b n h ∙ masked_behind b n (omega arith);
        };
      }
