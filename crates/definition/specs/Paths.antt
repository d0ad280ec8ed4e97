-- `PathKind` and `PathsToNested` of mod.rs. A set of paths is a byte of flags.
use Rattle.std.specs.Prelude.{ℕ, zero, suc, ◌-◌, Bool, true, false, List, [], ◌∷◌, leb, eqb}
use Rattle.std.specs.Int.Bits.{bit_and, bit_or}
use Rattle.definition.specs.declared.paths.PathKind.{PathKind}
use Rattle.definition.specs.declared.paths.PathKind.TheVariants.{Inductive, Unknown, Coinductive, ForcedAmbiguity}

-- the number that a call line has for a kind
abbrev pub kind_number : PathKind → ℕ
kind_number Inductive = 0
kind_number Unknown = 1
kind_number Coinductive = 2
kind_number ForcedAmbiguity = 3

abbrev pub kind_of : ℕ → PathKind
kind_of zero = Inductive
kind_of (suc zero) = Unknown
kind_of (suc (suc zero)) = Coinductive
kind_of (suc (suc (suc n))) = ForcedAmbiguity

abbrev pub same_kind : PathKind → PathKind → Bool
same_kind a b = eqb (kind_number a) (kind_number b)

-- PathKind::extend: the later of the two in the order of the kinds
abbrev pub extend : PathKind → PathKind → PathKind
extend a b = elim (leb (kind_number a) (kind_number b)) [ true ↦ b | false ↦ a ]

abbrev pub extend_all : PathKind → List PathKind → PathKind
extend_all k [] = k
extend_all k (s ∷ ss) = extend_all (extend k s) ss

-- PathsToNested::EMPTY
abbrev pub empty_path : ℕ
empty_path = 1

-- From<PathKind> for PathsToNested
abbrev pub flag_of : PathKind → ℕ
flag_of Inductive = 2
flag_of Unknown = 4
flag_of Coinductive = 8
flag_of ForcedAmbiguity = 16

-- the flags of the weaker paths, which `extend_with` a kind replaces
abbrev pub weaker_flags : PathKind → ℕ
weaker_flags Inductive = 1
weaker_flags Unknown = 3
weaker_flags Coinductive = 7
weaker_flags ForcedAmbiguity = 15

abbrev pub contains_path : ℕ → PathKind → Bool
contains_path p k = eqb (bit_and p (flag_of k)) (flag_of k)

-- intersects, remove, insert
abbrev pub extend_with : ℕ → PathKind → ℕ
extend_with p k =
    elim (eqb (bit_and p (weaker_flags k)) 0) [
      | true ↦ p
      | false ↦ bit_or (bit_and p (255 - weaker_flags k)) (flag_of k)
    ]

abbrev pub path_kinds : List PathKind
path_kinds = Inductive ∷ Unknown ∷ Coinductive ∷ ForcedAmbiguity ∷ []

abbrev pub contained_in : ℕ → List PathKind → List PathKind
contained_in p [] = []
contained_in p (k ∷ ks) = elim (contains_path p k) [ true ↦ k ∷ contained_in p ks | false ↦ contained_in p ks ]

-- iter_paths skips the empty path
abbrev pub iter_paths : ℕ → List PathKind
iter_paths p = contained_in p path_kinds

abbrev pub extend_with_each : ℕ → List PathKind → ℕ
extend_with_each p [] = 0
extend_with_each p (k ∷ ks) = bit_or (extend_with p k) (extend_with_each p ks)

abbrev pub extend_with_paths : ℕ → ℕ → ℕ
extend_with_paths p q = extend_with_each p (iter_paths q)
