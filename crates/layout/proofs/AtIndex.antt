-- What is read of one index of a block, and written there.
use mathlib.Core.Path.{◌≡◌, refl, sym, ap, ◌∙◌}
use mathlib.Core.Bool.{Bool, true, false}
use mathlib.Core.Option.{Option, none, some}
use mathlib.Core.List.{List, [], ◌∷◌}
use Prim.Native.Nat.{ℕ, zero, suc, ◌+◌, ◌*◌, ◌<◌}
use lib.ListN.{get_or, set}
use Rattle.definition.specs.declared.usages.HeadUsages.{HeadUsages}
use Rattle.definition.specs.declared.heads.CycleHead.{CycleHead}
use Rattle.definition.specs.Usages.{no_usages, add_usages, ignore_usages}
use Rattle.definition.specs.Heads.{CycleHeads, ignore_at_head}
use Rattle.buffer.specs.Regions.{region}
use Rattle.layout.specs.Blocks.{head_of, heads_of, present}
use Rattle.layout.specs.AtIndex.{add_at, ignore_at}
use Rattle.layout.proofs.Present.{head_known, head_unknown}

-- ---- a block of usages
pub add_block : (us vs : List HeadUsages) (i : ℕ) (u before x : HeadUsages) → before ≡ get_or us i no_usages → x ≡ add_usages before u → vs ≡ set us i x → vs ≡ add_at i u us
add_block us vs i u before x is_b is_x is-v = is-v ∙ ap (set us i) (is_x ∙ ap (λ (b : HeadUsages). add_usages b u) is_b)

-- ---- a block of heads
set_known : {A : Type 0} (l : List A) (i : ℕ) (d x : A) → get_or l i d ≡ x → l ≡ set l i x
set_known [] i d x e = refl
set_known (y ∷ l) zero d x e = ap (λ (z : _). z ∷ l) e
set_known (y ∷ l) (suc i) d x e = ap (λ (t : List _). y ∷ t) (set_known l i d x e)

module _ (goals : ℕ) (bs : List ℕ) (i : ℕ) (lt : i < goals) (u : HeadUsages) (t : Bool) (is-t : t ≡ get_or (present (heads_of goals bs)) i false) where
  pub ignore_absent : t ≡ false → heads_of goals bs ≡ ignore_at i u (heads_of goals bs)
  ignore_absent e =
      let hs : CycleHeads = heads_of goals bs in
      let known : get_or hs i none ≡ none = head_unknown goals bs i lt (sym is-t ∙ e) in
      set_known hs i none none known ∙ sym (ap (λ (o : Option CycleHead). set hs i (ignore_at_head o u)) known)

  pub ignore_present : t ≡ true → (h : CycleHead) (x : HeadUsages) (ys : List ℕ) → h ≡ head_of (region (8 + i * 33) 33 bs) → x ≡ ignore_usages h.usages u
      → heads_of goals ys ≡ set (heads_of goals bs) i (some (record { paths = h.paths; usages = x })) → heads_of goals ys ≡ ignore_at i u (heads_of goals bs)
  ignore_present e h x ys is-h is_x is_y =
      let hs : CycleHeads = heads_of goals bs in
      let known : get_or hs i none ≡ some h = head_known goals bs i lt (sym is-t ∙ e) ∙ sym (ap (λ (c : CycleHead). some c) is-h) in
      is_y
      ∙ ap (λ (v : HeadUsages). set hs i (some (record { paths = h.paths; usages = v }))) is_x
      ∙ sym (ap (λ (o : Option CycleHead). set hs i (ignore_at_head o u)) known)
