-- `HeadUsages` and `CandidateHeadUsages` of mod.rs.
-- Where the 32-bit sum of the Rust would overflow, a counter becomes 2 ^ 32 and stays so, subtraction included.
use Rattle.std.specs.Prelude.{ℕ, ◌+◌, ◌-◌, min, Bool, true, false, ◌&&◌, ◌||◌, List, [], ◌∷◌, eqb, leb}
use Rattle.definition.specs.declared.paths.PathKind.{PathKind}
use Rattle.definition.specs.declared.paths.PathKind.TheVariants.{Inductive, Unknown, Coinductive, ForcedAmbiguity}
use Rattle.definition.specs.declared.usages.HeadUsages.{HeadUsages}

unfoldable pub counter_limit : ℕ
counter_limit = 4294967296

abbrev pub add_counter : ℕ → ℕ → ℕ
add_counter a b = elim (leb counter_limit a) [ true ↦ a | false ↦ min (a + b) counter_limit ]

abbrev pub subtract_counter : ℕ → ℕ → ℕ
subtract_counter a b = elim (leb counter_limit a) [ true ↦ a | false ↦ a - b ]

-- where this is false, checked_sub of the Rust fails
abbrev pub counter_covers : ℕ → ℕ → Bool
counter_covers a b = leb counter_limit a || leb b a

abbrev pub at_most_one : ℕ → ℕ
at_most_one n = min n 1

-- HeadUsages::default
abbrev pub no_usages : HeadUsages
no_usages = record { inductive = 0; unknown = 0; coinductive = 0; forced = 0 }

abbrev pub add_usages : HeadUsages → HeadUsages → HeadUsages
add_usages u v =
    record {
      inductive = add_counter u.inductive v.inductive;
      unknown = add_counter u.unknown v.unknown;
      coinductive = add_counter u.coinductive v.coinductive;
      forced = add_counter u.forced v.forced;
    }

abbrev pub one_usage : PathKind → HeadUsages
one_usage Inductive = record { inductive = 1; unknown = 0; coinductive = 0; forced = 0 }
one_usage Unknown = record { inductive = 0; unknown = 1; coinductive = 0; forced = 0 }
one_usage Coinductive = record { inductive = 0; unknown = 0; coinductive = 1; forced = 0 }
one_usage ForcedAmbiguity = record { inductive = 0; unknown = 0; coinductive = 0; forced = 1 }

abbrev pub add_usage : HeadUsages → PathKind → HeadUsages
add_usage u k = add_usages u (one_usage k)

abbrev pub add_usages_from_nested : HeadUsages → HeadUsages → HeadUsages
add_usages_from_nested u v =
    record {
      inductive = add_counter u.inductive (at_most_one v.inductive);
      unknown = add_counter u.unknown (at_most_one v.unknown);
      coinductive = add_counter u.coinductive (at_most_one v.coinductive);
      forced = add_counter u.forced (at_most_one v.forced);
    }

abbrev pub ignore_usages : HeadUsages → HeadUsages → HeadUsages
ignore_usages u v =
    record {
      inductive = subtract_counter u.inductive v.inductive;
      unknown = subtract_counter u.unknown v.unknown;
      coinductive = subtract_counter u.coinductive v.coinductive;
      forced = subtract_counter u.forced v.forced;
    }

-- no subtraction of `ignoreUsages u v` fails
abbrev pub usages_cover : HeadUsages → HeadUsages → Bool
usages_cover u v =
    counter_covers u.inductive v.inductive
    && (counter_covers u.unknown v.unknown
    && (counter_covers u.coinductive v.coinductive && counter_covers u.forced v.forced))

abbrev pub is_empty : HeadUsages → Bool
is_empty u = eqb u.inductive 0 && eqb u.unknown 0 && eqb u.coinductive 0 && eqb u.forced 0

-- true for every kind where all counters are 0
abbrev pub is_single : HeadUsages → PathKind → Bool
is_single u Inductive = eqb u.unknown 0 && eqb u.coinductive 0 && eqb u.forced 0
is_single u Unknown = eqb u.inductive 0 && eqb u.coinductive 0 && eqb u.forced 0
is_single u Coinductive = eqb u.inductive 0 && eqb u.unknown 0 && eqb u.forced 0
is_single u ForcedAmbiguity = eqb u.inductive 0 && eqb u.unknown 0 && eqb u.coinductive 0

-- CandidateHeadUsages: usages by stack index. A head that is absent in the Rust has no usages here
abbrev pub merge_usages : List HeadUsages → List HeadUsages → List HeadUsages
merge_usages [] vs = []
merge_usages (u ∷ us) [] = u ∷ us
merge_usages (u ∷ us) (v ∷ vs) = add_usages u v ∷ merge_usages us vs
