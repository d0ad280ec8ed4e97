-- What a write of bytes at an offset does to a region, once, over offset and size.
use mathlib.Core.Path.{◌≡◌, refl, sym, ap, ◌∙◌, subst}
use mathlib.Core.List.{List, [], ◌∷◌, ◌++◌, append-nil}
use Prim.Native.Nat.{ℕ, zero, suc, ◌+◌, ◌-◌, ◌≤◌, ◌<◌}
use native.Mathlib.Nat.{zero-add, suc-add}
use native.Mathlib.Numerals.{add-one}
use native.Mathlib.Decide.{dec_lt}
use native.Mathlib.Omega.{arith}
use lib.ListN.{length, get_or, take, drop, set, length-append, length-drop, get_or-append, drop_of_length-le}
use lib.Seq.{ext_get_or, get_or-take, get_or-drop, take-nil, drop_at, drop-drop, take-append-le, take-take, take-append_seam, take-append-add, length-take-le, set_split}
use Rattle.buffer.specs.Regions.{region, overwrite}

pub drop_take : (b n : ℕ) (l : List ℕ) → drop b (take (b + n) l) ≡ take n (drop b l)
drop_take zero n l = rw zero-add
drop_take (suc b) n [] = simp suc-add (sym (take-nil n))
drop_take (suc b) n (x ∷ l) = rw suc-add (drop_take b n l)

-- a region inside the buffer is as long as it says
pub length_region : (a n : ℕ) (bs : List ℕ) → a + n ≤ length bs → length (region a n bs) ≡ n
length_region a n bs h = length-take-le n (drop a bs) (rw length-drop (omega arith))

-- a region of a region
pub region_region : (a m b n : ℕ) (bs : List ℕ) → b + n ≤ m → region b n (region a m bs) ≡ region (a + b) n bs
region_region a m b n bs h =
    sym (drop_take b n (take m (drop a bs)))
    ∙ ap (drop b) (take-take (b + n) m (drop a bs) h)
    ∙ drop_take b n (drop a bs)
    ∙ ap (take n) (drop-drop b a bs)

-- a byte of a region
pub byte_at : (a n : ℕ) (bs : List ℕ) (i : ℕ) → i < n → get_or (region a n bs) i 0 ≡ get_or bs (a + i) 0
byte_at a n bs i lt = get_or-take n (drop a bs) i 0 lt ∙ get_or-drop a bs i 0

-- ---- a write of ys at a
module _ (bs : List ℕ) (a : ℕ) (ys : List ℕ) (fits : a + length ys ≤ length bs) where
  front : length (take a bs) ≡ a
  front = length-take-le a bs (omega arith)

  tail : drop a (overwrite bs a ys) ≡ ys ++ drop (length ys) (drop a bs)
  tail = drop_at (take a bs) (ys ++ drop (length ys) (drop a bs)) a front

  past : drop (a + length ys) (overwrite bs a ys) ≡ drop (a + length ys) bs
  past =
      sym (drop-drop (length ys) a (overwrite bs a ys))
      ∙ ap (drop (length ys)) tail
      ∙ drop_at ys (drop (length ys) (drop a bs)) (length ys) refl
      ∙ drop-drop (length ys) a bs

  -- the length stays
  pub length_overwrite : length (overwrite bs a ys) ≡ length bs
  length_overwrite = simp (length-append, length-drop, front) (omega arith)

  -- the region that was written
  pub region_same : region a (length ys) (overwrite bs a ys) ≡ ys
  region_same = ap (take (length ys)) tail ∙ take-append_seam ys (drop (length ys) (drop a bs))

  -- a region before it
  pub region_before : (b n : ℕ) → b + n ≤ a → region b n (overwrite bs a ys) ≡ region b n bs
  region_before b n h =
      sym (drop_take b n (overwrite bs a ys))
      ∙ ap (drop b) (take-append-le (b + n) (take a bs) (ys ++ drop (length ys) (drop a bs)) (rw front h) ∙ take-take (b + n) a bs h)
      ∙ drop_take b n bs

  -- a region past it
  pub region_after : (b n : ℕ) → a + length ys ≤ b → region b n (overwrite bs a ys) ≡ region b n bs
  region_after b n h =
      let k : ℕ = b - (a + length ys) in
      let e : a + length ys + k ≡ b = omega arith in
      ap (λ (m : ℕ). take n (drop m (overwrite bs a ys))) (sym e)
      ∙ ap (take n) (sym (drop-drop k (a + length ys) (overwrite bs a ys)) ∙ ap (drop k) past ∙ drop-drop k (a + length ys) bs)
      ∙ ap (λ (m : ℕ). take n (drop m bs)) e

  -- a byte before it, in it and past it
  pub byte_before : (i : ℕ) → i < a → get_or (overwrite bs a ys) i 0 ≡ get_or bs i 0
  byte_before i h = get_or-append (take a bs) (ys ++ drop (length ys) (drop a bs)) 0 i (rw front h) ∙ get_or-take a bs i 0 h

  pub byte_in : (i : ℕ) → i < length ys → get_or (overwrite bs a ys) (a + i) 0 ≡ get_or ys i 0
  byte_in i h = sym (get_or-drop a (overwrite bs a ys) i 0) ∙ ap (λ (l : List ℕ). get_or l i 0) tail ∙ get_or-append ys (drop (length ys) (drop a bs)) 0 i h

  pub byte_after : (i : ℕ) → a + length ys ≤ i → get_or (overwrite bs a ys) i 0 ≡ get_or bs i 0
  byte_after i h =
      let k : ℕ = i - (a + length ys) in
      let e : a + length ys + k ≡ i = omega arith in
      ap (λ (m : ℕ). get_or (overwrite bs a ys) m 0) (sym e)
      ∙ sym (get_or-drop (a + length ys) (overwrite bs a ys) k 0)
      ∙ ap (λ (l : List ℕ). get_or l k 0) past
      ∙ get_or-drop (a + length ys) bs k 0
      ∙ ap (λ (m : ℕ). get_or bs m 0) e

-- a write, seen from a place before it on, and up to a place past it
drop_overwrite : (a k : ℕ) (bs ys : List ℕ) → a ≤ length bs → drop a (overwrite bs (a + k) ys) ≡ overwrite (drop a bs) k ys
drop_overwrite zero k bs ys h = rw zero-add
drop_overwrite (suc a) k [] ys h = absurd (omega arith)
drop_overwrite (suc a) k (b ∷ bs) ys h = rw suc-add (drop_overwrite a k bs ys (omega arith))

take_overwrite : (k n : ℕ) (bs ys : List ℕ) → k + length ys ≤ n → k ≤ length bs → take n (overwrite bs k ys) ≡ overwrite (take n bs) k ys
take_overwrite zero n bs ys inner h =
    let m : ℕ = n - length ys in
    let e : length ys + m ≡ n = omega arith in
    ap (λ (i : ℕ). take i (ys ++ drop (length ys) bs)) (sym e)
    ∙ take-append-add ys (drop (length ys) bs) m
    ∙ ap (λ (l : List ℕ). ys ++ l) (sym (drop_take (length ys) m bs) ∙ ap (λ (i : ℕ). drop (length ys) (take i bs)) e)
take_overwrite (suc k) n [] ys inner h = absurd (omega arith)
take_overwrite (suc k) zero (b ∷ bs) ys inner h = absurd (omega arith)
take_overwrite (suc k) (suc n) (b ∷ bs) ys inner h = ap (λ (l : List ℕ). b ∷ l) (take_overwrite k n bs ys (omega arith) (omega arith))

-- a write inside a region is a write in the region
pub region_inside : (bs : List ℕ) (a n k : ℕ) (ys : List ℕ) → k + length ys ≤ n → a + n ≤ length bs → region a n (overwrite bs (a + k) ys) ≡ overwrite (region a n bs) k ys
region_inside bs a n k ys inner outer = ap (take n) (drop_overwrite a k bs ys (omega arith)) ∙ take_overwrite k n (drop a bs) ys inner (rw length-drop (omega arith))

-- a write inside a region is a write of the whole region
pub overwrite_inside : (bs : List ℕ) (a n k : ℕ) (zs : List ℕ) → k + length zs ≤ n → a + n ≤ length bs
    → overwrite bs (a + k) zs ≡ overwrite bs a (overwrite (region a n bs) k zs)
overwrite_inside bs a n k zs inner outer =
    ext_get_or 0 (overwrite bs (a + k) zs) (overwrite bs a ys) (length_overwrite bs (a + k) zs (omega arith) ∙ sym (length_overwrite bs a ys fits)) (λ i l. at i)
  where
    ys : List ℕ
    ys = overwrite (region a n bs) k zs

    here : length (region a n bs) ≡ n
    here = length_region a n bs outer

    whole : length ys ≡ n
    whole = length_overwrite (region a n bs) k zs (omega (arith, here)) ∙ here

    fits : a + length ys ≤ length bs
    fits = omega (arith, whole)

    within : (j : ℕ) → j < n → get_or (overwrite bs (a + k) zs) (a + j) 0 ≡ get_or (overwrite bs a ys) (a + j) 0
    within j lt =
        sym (byte_at a n (overwrite bs (a + k) zs) j lt)
        ∙ ap (λ (l : List ℕ). get_or l j 0) (region_inside bs a n k zs inner outer)
        ∙ sym (byte_in bs a ys fits j (omega (arith, whole)))

    at : (i : ℕ) → get_or (overwrite bs (a + k) zs) i 0 ≡ get_or (overwrite bs a ys) i 0
    at i =
        elim (dec_lt i a) [
          | yes below ↦ byte_before bs (a + k) zs (omega arith) i (omega arith) ∙ sym (byte_before bs a ys fits i below)
          | no above ↦
              elim (dec_lt i (a + n)) [
                | yes inside ↦
                    let e : a + (i - a) ≡ i = omega arith in
                    subst (λ (x : ℕ). get_or (overwrite bs (a + k) zs) x 0 ≡ get_or (overwrite bs a ys) x 0) e (within (i - a) (omega arith))
                | no past ↦ byte_after bs (a + k) zs (omega arith) i (omega arith) ∙ sym (byte_after bs a ys fits i (omega (arith, whole)))
              ]
        ]

-- a write of one byte
pub overwrite_one : (bs : List ℕ) (i v : ℕ) → i < length bs → overwrite bs i (v ∷ []) ≡ set bs i v
overwrite_one bs i v h = ap (λ (l : List ℕ). take i bs ++ (v ∷ l)) (drop-drop 1 i bs ∙ ap (λ (m : ℕ). drop m bs) (add-one i)) ∙ sym (set_split bs i v h)

-- a write of the whole buffer
pub overwrite_all : (bs ys : List ℕ) → length ys ≡ length bs → overwrite bs 0 ys ≡ ys
overwrite_all bs ys e = ap (λ (l : List ℕ). ys ++ l) (drop_of_length-le bs {i = length ys} (omega arith)) ∙ append-nil ys

-- the bytes that come back from a part `[a..e]` that was borrowed, with ys in it
pub overwrite_part : (bs : List ℕ) (a e : ℕ) (ys : List ℕ) → length ys ≡ e - a → take a bs ++ (ys ++ drop (e - a) (drop a bs)) ≡ overwrite bs a ys
overwrite_part bs a e ys h = ap (λ (n : ℕ). take a bs ++ (ys ++ drop n (drop a bs))) (sym h)
