-- The laws of `PathsToNested`'s methods: extension by a kind, and by a set, which is read in the table.
use mathlib.Core.Path.{◌≡◌, refl, sym, ap, ap₂, ◌∙◌, subst}
use mathlib.Core.Bool.{Bool, true, false, ◌&&◌}
use mathlib.Core.List.{List, [], ◌∷◌}
use Prim.Native.Nat.{ℕ, zero, suc, ◌+◌, ◌-◌, ◌*◌, ◌/◌, ◌%◌, ◌≤◌, ◌<◌}
use native.Mathlib.Omega.{arith}
use borrow.Author.Tests.{eq-eqb, ne_eqb}
use lib.Dec.{T, eqb, ltb, eqb→eq, ltb→lt}
use lib.ListN.{length, get_or}
use lib.Bits.{bit_and, bit_or, or_lt, or_self, or_block, or_zero_r, or_shifted_r}
use Rattle.definition.specs.Paths.{flag_of, weaker_flags, contains_path, extend_with}
use Rattle.definition.specs.Paths.{path_kinds, contained_in, iter_paths, extend_with_each, extend_with_paths}
use Rattle.definition.specs.Table.{Extensions}
use Rattle.definition.specs.declared.paths.PathKind.{PathKind}
use Rattle.definition.specs.declared.paths.PathKind.TheVariants.{Inductive, Unknown}
use Rattle.definition.specs.declared.paths.PathKind.TheVariants.{Coinductive, ForcedAmbiguity}
use Rattle.definition.proofs.Tests.{and_left, and_right}
use Rattle.definition.proofs.Everywhere.{every, at, every_below, at_number}

-- `extend_with` of a set p, by whether p has one of the weaker flags
module _ (p : ℕ) (k : PathKind) (weaker : ℕ) (is : weaker ≡ weaker_flags k) where
  pub extend_keeps : bit_and p weaker ≡ 0 → p ≡ extend_with p k
  extend_keeps h = rw (eq-eqb (bit_and p (weaker_flags k)) 0 (ap (bit_and p) (sym is) ∙ h), extend_with)

  pub extend_replaces : (bit_and p weaker ≡ 0 → ⊥)
      → (flag : ℕ) → flag ≡ flag_of k → bit_or (bit_and p (255 - weaker)) flag ≡ extend_with p k
  extend_replaces h flag is-flag =
      rw (ne_eqb (bit_and p (weaker_flags k)) 0 (λ e. h (ap (bit_and p) is ∙ e)), extend_with)
      (ap₂ (λ (w f : ℕ). bit_or (bit_and p (255 - w)) f) is is-flag)

-- The table of extensions.

-- what is tested at entry k
abbrev pub entry_right : ℕ → ℕ → Bool
entry_right k x = eqb x (extend_with_paths (k / 32) (k % 32))

-- its rule at every entry, by one test of them all
pub table_rule : (table : List ℕ) → length table ≡ 1024 → T (every entry_right table) → Extensions table
table_rule table long right =
    record {
      entry = λ a b small-a small_b.
          eqb→eq (get_or table (32 * a + b) 0) (extend_with_paths ((32 * a + b) / 32) ((32 * a + b) % 32))
          (at entry_right table right (32 * a + b) (omega (arith, long, small-a, small_b)))
          ∙ ap₂ extend_with_paths (row a b small_b) (column a b small_b);
    }
  where
    row : (a b : ℕ) → b < 32 → (32 * a + b) / 32 ≡ a
    row a b small = omega (arith, small)

    column : (a b : ℕ) → b < 32 → (32 * a + b) % 32 ≡ b
    column a b small = omega (arith, small)

-- Sets without a kind, none and {empty}, extend every set to none; the others have a kind.
no_kind : (b : ℕ) → b < 2 → (p : ℕ) → extend_with_paths p b ≡ 0
no_kind zero h p = refl
no_kind (suc zero) h p = refl
no_kind (suc (suc b)) h p = absurd (omega (arith, h))

abbrev has_kind : List PathKind → Bool
has_kind [] = false
has_kind (k ∷ ks) = true

some_kind : (b : ℕ) → 2 ≤ b → b < 32 → T (has_kind (iter_paths b))
some_kind b least most =
    subst (λ (n : ℕ). T (has_kind (iter_paths n))) back
    (at_number (λ n. has_kind (iter_paths (2 + n))) 30 tt (b - 2) (omega (arith, least, most)))
  where
    back : 2 + (b - 2) ≡ b
    back = omega (arith, least)

-- Flags beyond the five, which no set of paths has: in a byte q they are no kinds, in a byte p every extension keeps
-- them. A byte's five flags are its remainder by 32.

-- tested at every byte, for each kind
abbrev same_flag : PathKind → ℕ → Bool
same_flag k q = eqb (bit_and q (flag_of k)) (bit_and (q % 32) (flag_of k))

abbrev same_beyond : PathKind → ℕ → Bool
same_beyond k p = eqb (extend_with p k) (p / 32 * 32 + extend_with (p % 32) k)

abbrev in_five : PathKind → ℕ → Bool
in_five k p = ltb (extend_with (p % 32) k) 32

abbrev kept_beyond : PathKind → ℕ → Bool
kept_beyond k p = same_beyond k p && in_five k p

abbrev at_byte : PathKind → ℕ → Bool
at_byte k n = same_flag k n && kept_beyond k n

at_every_byte : (k : PathKind) → T (every_below (at_byte k) 256)
at_every_byte Inductive = tt
at_every_byte Unknown = tt
at_every_byte Coinductive = tt
at_every_byte ForcedAmbiguity = tt

module _ (n : ℕ) (byte : n < 256) where
  at_byte_lem : (k : PathKind) → T (at_byte k n)
  at_byte_lem k = at_number (at_byte k) 256 (at_every_byte k) n byte

  kept_beyond_lem : (k : PathKind) → T (kept_beyond k n)
  kept_beyond_lem k = and_right (same_flag k n) (kept_beyond k n) (at_byte_lem k)

  same_flag_lem : (k : PathKind) → bit_and n (flag_of k) ≡ bit_and (n % 32) (flag_of k)
  same_flag_lem k =
      eqb→eq (bit_and n (flag_of k)) (bit_and (n % 32) (flag_of k)) (and_left (same_flag k n) (kept_beyond k n) (at_byte_lem k))

  same_beyond_lem : (k : PathKind) → extend_with n k ≡ n / 32 * 32 + extend_with (n % 32) k
  same_beyond_lem k =
      eqb→eq (extend_with n k) (n / 32 * 32 + extend_with (n % 32) k)
      (and_left (same_beyond k n) (in_five k n) (kept_beyond_lem k))

  in_five_lem : (k : PathKind) → extend_with (n % 32) k < 32
  in_five_lem k = ltb→lt (extend_with (n % 32) k) 32 (and_right (same_beyond k n) (in_five k n) (kept_beyond_lem k))

module _ (q : ℕ) (byte : q < 256) where
  contains_same : (k : PathKind) → contains_path q k ≡ contains_path (q % 32) k
  contains_same k = ap (λ (n : ℕ). eqb n (flag_of k)) (same_flag_lem q byte k)

  contained_same : (ks : List PathKind) → contained_in q ks ≡ contained_in (q % 32) ks
  contained_same [] = refl
  contained_same (k ∷ ks) =
      rw (contains_same k, contained_in)
      (ap (λ (l : List PathKind). elim (contains_path (q % 32) k) [ true ↦ k ∷ l | false ↦ l ]) (contained_same ks))

  rest_same : (p : ℕ) → extend_with_paths p q ≡ extend_with_paths p (q % 32)
  rest_same p = ap (extend_with_each p) (contained_same path_kinds)

module _ (p : ℕ) (byte : p < 256) where
  each_in_five : (ks : List PathKind) → extend_with_each (p % 32) ks < 32
  each_in_five [] = omega arith
  each_in_five (k ∷ ks) =
      or_lt 5 (extend_with (p % 32) k) (extend_with_each (p % 32) ks) (in_five_lem p byte k) (each_in_five ks)

  each_beyond : (k : PathKind) (ks : List PathKind)
      → extend_with_each p (k ∷ ks) ≡ p / 32 * 32 + extend_with_each (p % 32) (k ∷ ks)
  each_beyond k [] =
      or_zero_r (extend_with p k) ∙ same_beyond_lem p byte k
      ∙ ap (λ (n : ℕ). p / 32 * 32 + n) (sym (or_zero_r (extend_with (p % 32) k)))
  each_beyond k (k' ∷ ks) =
      ap₂ bit_or (same_beyond_lem p byte k) (each_beyond k' ks)
      ∙ or_block 5 (p / 32) (p / 32) (extend_with (p % 32) k) (extend_with_each (p % 32) (k' ∷ ks)) (in_five_lem p byte k)
      (each_in_five (k' ∷ ks))
      ∙ ap (λ (n : ℕ). n * 32 + extend_with_each (p % 32) (k ∷ k' ∷ ks)) (or_self (p / 32))

  some_beyond : (ks : List PathKind) → T (has_kind ks)
      → extend_with_each p ks ≡ p / 32 * 32 + extend_with_each (p % 32) ks
  some_beyond [] t = absurd t
  some_beyond (k ∷ ks) t = each_beyond k ks

-- `extend_with_paths` of bytes p and q, by the table's entry at their five flags
module _ (table : List ℕ) (right : Extensions table) (p q : ℕ) (byte-p : p < 256) (byte-q : q < 256) where
  entry_of : get_or table (32 * (p % 32) + q % 32) 0 ≡ extend_with_paths (p % 32) (q % 32)
  entry_of = right.entry (p % 32) (q % 32) (omega arith) (omega arith)

  pub of_sets : p < 32 → get_or table (32 * (p % 32) + q % 32) 0 ≡ extend_with_paths p q
  of_sets h = entry_of ∙ ap (λ (n : ℕ). extend_with_paths n (q % 32)) whole ∙ sym (rest_same q byte-q p)
    where
      whole : p % 32 ≡ p
      whole = omega (arith, h)

  pub of_no_kind : q % 32 < 2 → get_or table (32 * (p % 32) + q % 32) 0 ≡ extend_with_paths p q
  of_no_kind h = entry_of ∙ no_kind (q % 32) h (p % 32) ∙ sym (no_kind (q % 32) h p) ∙ sym (rest_same q byte-q p)

  pub of_beyond : 2 ≤ q % 32 → bit_or (get_or table (32 * (p % 32) + q % 32) 0) (bit_and p 224) ≡ extend_with_paths p q
  of_beyond h =
      ap₂ bit_or entry_of high
      ∙ or_shifted_r (p / 32) 5 (extend_with_paths (p % 32) (q % 32)) (each_in_five p byte-p (iter_paths (q % 32)))
      ∙ sym (some_beyond p byte-p (iter_paths (q % 32)) (some_kind (q % 32) h (omega arith)))
      ∙ sym (rest_same q byte-q p)
    where
      high : bit_and p 224 ≡ p / 32 * 32
      high =
          eqb→eq (bit_and p 224) (p / 32 * 32)
          (at_number (λ n. eqb (bit_and n 224) (n / 32 * 32)) 256 tt p byte-p)

pub ruleset by_table = (of_sets, of_no_kind, of_beyond)

pub ruleset by_flags = (extend_keeps, extend_replaces)
