-- One usage more, in the counter of its kind; and the usages of a nested goal, kind by kind.
use mathlib.Core.Path.{◌≡◌, sym, ap, ◌∙◌}
use mathlib.Core.Bool.{true}
use mathlib.Core.List.{List}
use mathlib.Core.Option.{some}
use Prim.Native.Nat.{ℕ, zero, suc, ◌+◌, ◌*◌, ◌^◌, ◌≤◌, ◌<◌, min}
use native.Mathlib.Omega.{arith}
use native.Mathlib.Decide.{dec_lt}
use lib.Bits.{bit_or}
use lib.Dec.{lit<}
use lib.ListN.{length, get_or, set}
use Rattle.definition.specs.declared.paths.PathKind.{PathKind}
use Rattle.definition.specs.declared.paths.PathKind.TheVariants.{Inductive, Unknown, Coinductive, ForcedAmbiguity}
use Rattle.definition.specs.declared.usages.HeadUsages.{HeadUsages}
use Rattle.definition.specs.Paths.{kind_number}
use Rattle.definition.specs.Usages.{counter_limit, add_counter, at_most_one, no_usages, add_usage, add_usages_from_nested}
use Rattle.definition.specs.Heads.{join_head}
use Rattle.definition.proofs.Counters.{add_full, add_less}
use Rattle.buffer.specs.Numbers.{number_of, bytes_of}
use Rattle.buffer.specs.Regions.{region, overwrite}
use Rattle.buffer.proofs.Numbers.{length_bytes}
use Rattle.buffer.proofs.Regions.{region_after}
use Rattle.buffer.proofs.Tables.{up_at}
use Rattle.layout.specs.Blocks.{usages_of, head_of, flag_at, usages_in, candidate_of}
use Rattle.layout.specs.AtIndex.{used_if, add_from_nested_at}
use Rattle.layout.proofs.Blocks.{kept_set, block_record}
use Rattle.layout.proofs.Written.{number_back, number_before, head_back}

-- nothing more
pub add_none : (a : ℕ) → add_counter a 0 ≡ a
add_none a =
    elim (dec_lt a counter_limit) [
      | yes h ↦ sym (let e : a ≡ min (a + 0) counter_limit = omega arith in e ∙ add_less a 0 h)
      | no h ↦ sym (add_full a 0 (omega arith))
    ]

-- ---- the counter of a kind is written
module _ (bs : List ℕ) (long : length bs ≡ 32) (n : ℕ) (small : n < 2 ^ 64) where
  abbrev counted : ℕ → List ℕ
  counted a = overwrite bs a (bytes_of 8 n)

  back : (a : ℕ) → a + 8 ≤ 32 → number_of (region a 8 (counted a)) ≡ n
  back a h = number_back bs a n (omega arith) small

  below : (a b : ℕ) → a + 8 ≤ 32 → b + 8 ≤ a → number_of (region b 8 (counted a)) ≡ number_of (region b 8 bs)
  below a b h l = ap number_of (number_before bs a n (omega arith) b 8 l)

  above : (a b : ℕ) → a + 8 ≤ 32 → a + 8 ≤ b → number_of (region b 8 (counted a)) ≡ number_of (region b 8 bs)
  above a b h l = ap number_of (region_after bs a (bytes_of 8 n) (rw length_bytes (omega arith)) b 8 (rw length_bytes l))

  pub counter_written : (k : PathKind) → n ≡ add_counter (number_of (region (8 * kind_number k) 8 bs)) 1
      → usages_of (counted (8 * kind_number k)) ≡ add_usage (usages_of bs) k
  unfolding usages_of
  counter_written Inductive e =
      let p0 = back 0 (omega arith) ∙ e in
      let p1 = above 0 8 (omega arith) (omega arith) ∙ sym (add_none (number_of (region 8 8 bs))) in
      let p2 = above 0 16 (omega arith) (omega arith) ∙ sym (add_none (number_of (region 16 8 bs))) in
      let p3 = above 0 24 (omega arith) (omega arith) ∙ sym (add_none (number_of (region 24 8 bs))) in
      λ i. record { inductive = p0 i; unknown = p1 i; coinductive = p2 i; forced = p3 i }
  counter_written Unknown e =
      let p0 = below 8 0 (omega arith) (omega arith) ∙ sym (add_none (number_of (region 0 8 bs))) in
      let p1 = back 8 (omega arith) ∙ e in
      let p2 = above 8 16 (omega arith) (omega arith) ∙ sym (add_none (number_of (region 16 8 bs))) in
      let p3 = above 8 24 (omega arith) (omega arith) ∙ sym (add_none (number_of (region 24 8 bs))) in
      λ i. record { inductive = p0 i; unknown = p1 i; coinductive = p2 i; forced = p3 i }
  counter_written Coinductive e =
      let p0 = below 16 0 (omega arith) (omega arith) ∙ sym (add_none (number_of (region 0 8 bs))) in
      let p1 = below 16 8 (omega arith) (omega arith) ∙ sym (add_none (number_of (region 8 8 bs))) in
      let p2 = back 16 (omega arith) ∙ e in
      let p3 = above 16 24 (omega arith) (omega arith) ∙ sym (add_none (number_of (region 24 8 bs))) in
      λ i. record { inductive = p0 i; unknown = p1 i; coinductive = p2 i; forced = p3 i }
  counter_written ForcedAmbiguity e =
      let p0 = below 24 0 (omega arith) (omega arith) ∙ sym (add_none (number_of (region 0 8 bs))) in
      let p1 = below 24 8 (omega arith) (omega arith) ∙ sym (add_none (number_of (region 8 8 bs))) in
      let p2 = below 24 16 (omega arith) (omega arith) ∙ sym (add_none (number_of (region 16 8 bs))) in
      let p3 = back 24 (omega arith) ∙ e in
      λ i. record { inductive = p0 i; unknown = p1 i; coinductive = p2 i; forced = p3 i }

-- ---- kind by kind: u with a, b, c and d more
abbrev plus : HeadUsages → ℕ → ℕ → ℕ → ℕ → HeadUsages
plus u a b c d =
    record {
      inductive = add_counter u.inductive a;
      unknown = add_counter u.unknown b;
      coinductive = add_counter u.coinductive c;
      forced = add_counter u.forced d;
    }

plus_none : (u : HeadUsages) → plus u 0 0 0 0 ≡ u
plus_none u =
    λ i. record {
      inductive = add_none u.inductive i;
      unknown = add_none u.unknown i;
      coinductive = add_none u.coinductive i;
      forced = add_none u.forced i;
    }

-- one kind after another
after_inductive : (u : HeadUsages) (a b : ℕ) → plus (plus u a 0 0 0) 0 b 0 0 ≡ plus u a b 0 0
after_inductive u a b =
    let e0 = add_none (add_counter u.inductive a) in
    let e1 = ap (λ (x : ℕ). add_counter x b) (add_none u.unknown) in
    let e2 = add_none (add_counter u.coinductive 0) in
    let e3 = add_none (add_counter u.forced 0) in
    λ i. record { inductive = e0 i; unknown = e1 i; coinductive = e2 i; forced = e3 i }

after_unknown : (u : HeadUsages) (a b c : ℕ) → plus (plus u a b 0 0) 0 0 c 0 ≡ plus u a b c 0
after_unknown u a b c =
    let e0 = add_none (add_counter u.inductive a) in
    let e1 = add_none (add_counter u.unknown b) in
    let e2 = ap (λ (x : ℕ). add_counter x c) (add_none u.coinductive) in
    let e3 = add_none (add_counter u.forced 0) in
    λ i. record { inductive = e0 i; unknown = e1 i; coinductive = e2 i; forced = e3 i }

after_coinductive : (u : HeadUsages) (a b c d : ℕ) → plus (plus u a b c 0) 0 0 0 d ≡ plus u a b c d
after_coinductive u a b c d =
    let e0 = add_none (add_counter u.inductive a) in
    let e1 = add_none (add_counter u.unknown b) in
    let e2 = add_none (add_counter u.coinductive c) in
    let e3 = ap (λ (x : ℕ). add_counter x d) (add_none u.forced) in
    λ i. record { inductive = e0 i; unknown = e1 i; coinductive = e2 i; forced = e3 i }

-- a kind's counter, at most 1 of it
once : (n : ℕ) → at_most_one (suc n) ≡ 1
once n = omega arith

used_inductive : (n : ℕ) (u : HeadUsages) → used_if n u Inductive ≡ plus u (at_most_one n) 0 0 0
used_inductive zero u = sym (plus_none u)
used_inductive (suc n) u = ap (λ (x : ℕ). plus u x 0 0 0) (sym (once n))

used_unknown : (n : ℕ) (u : HeadUsages) → used_if n u Unknown ≡ plus u 0 (at_most_one n) 0 0
used_unknown zero u = sym (plus_none u)
used_unknown (suc n) u = ap (λ (x : ℕ). plus u 0 x 0 0) (sym (once n))

used_coinductive : (n : ℕ) (u : HeadUsages) → used_if n u Coinductive ≡ plus u 0 0 (at_most_one n) 0
used_coinductive zero u = sym (plus_none u)
used_coinductive (suc n) u = ap (λ (x : ℕ). plus u 0 0 x 0) (sym (once n))

used_forced : (n : ℕ) (u : HeadUsages) → used_if n u ForcedAmbiguity ≡ plus u 0 0 0 (at_most_one n)
used_forced zero u = sym (plus_none u)
used_forced (suc n) u = ap (λ (x : ℕ). plus u 0 0 0 x) (sym (once n))

-- by what the calls say
pub kinds_counted : (u v u1 u2 u3 u4 : HeadUsages) → u1 ≡ used_if v.inductive u Inductive → u2 ≡ used_if v.unknown u1 Unknown
    → u3 ≡ used_if v.coinductive u2 Coinductive → u4 ≡ used_if v.forced u3 ForcedAmbiguity → u4 ≡ add_usages_from_nested u v
kinds_counted u v u1 u2 u3 u4 e1 e2 e3 e4 =
    let i : ℕ = at_most_one v.inductive in
    let n : ℕ = at_most_one v.unknown in
    let c : ℕ = at_most_one v.coinductive in
    let f : ℕ = at_most_one v.forced in
    let p1 : u1 ≡ plus u i 0 0 0 = e1 ∙ used_inductive v.inductive u in
    let p2 : u2 ≡ plus u i n 0 0 = e2 ∙ used_unknown v.unknown u1 ∙ ap (λ (x : HeadUsages). plus x 0 n 0 0) p1 ∙ after_inductive u i n in
    let p3 : u3 ≡ plus u i n c 0 = e3 ∙ used_coinductive v.coinductive u2 ∙ ap (λ (x : HeadUsages). plus x 0 0 c 0) p2 ∙ after_unknown u i n c in
    e4 ∙ used_forced v.forced u3 ∙ ap (λ (x : HeadUsages). plus x 0 0 0 f) p3 ∙ after_coinductive u i n c f

-- ---- a head: its usages are counted, then its paths are joined
pub head_joined : (bs ys : List ℕ) (p v : ℕ) (u : HeadUsages) → length bs ≡ 33 → length ys ≡ 32
    → usages_of ys ≡ add_usages_from_nested (usages_of (region 1 32 bs)) u → v ≡ bit_or (get_or bs 0 0) p
    → head_of (set (overwrite bs 1 ys) 0 v) ≡ join_head (some (head_of bs)) p u
unfolding head_of
head_joined bs ys p v u long whole e ev =
    ap (λ (x : ℕ). head_of (set (overwrite bs 1 ys) 0 x)) ev
    ∙ head_back bs ys (join_head (some (head_of bs)) p u) long whole e

-- ---- the usages of index i, which have a record, are counted in it; us are those of the block before it had one
pub usages_added : (goals : ℕ) (first bs : List ℕ) (i : ℕ) (ys : List ℕ) (u : HeadUsages) → goals ≤ 64 → i < goals → 8 + i * 32 + 32 ≤ length bs → length ys ≡ 32
    → flag_at bs i ≡ true → candidate_of goals bs ≡ candidate_of goals first → (b1 : List ℕ) → b1 ≡ overwrite bs (8 + i * 32) ys
    → usages_of ys ≡ add_usages_from_nested (usages_of (region (8 + i * 32) 32 bs)) u
    → candidate_of goals b1 ≡ add_from_nested_at (candidate_of goals first) i u
unfolding candidate_of
usages_added goals first bs i ys u few lt room whole flag same b1 e1 e =
    let read : get_or (candidate_of goals bs) i no_usages ≡ usages_of (region (8 + i * 32) 32 bs) =
    up_at no_usages (usages_in bs) goals i lt ∙ kept_set usages_of no_usages 32 bs i flag in
    ap (candidate_of goals) e1
    ∙ block_record usages_of no_usages 32 bs goals i ys 0 few lt room whole (lit< tt) flag
    ∙ ap (set (candidate_of goals bs) i) (e ∙ ap (λ (x : HeadUsages). add_usages_from_nested x u) (sym read))
    ∙ ap (λ (us : List HeadUsages). add_from_nested_at us i u) same
