-- Records of one size, one after the other.
use Rattle.std.specs.Prelude.{List, [], ◌∷◌, ℕ, zero, suc, ◌+◌, ◌*◌}
use Rattle.buffer.specs.Regions.{region}

-- f 0 to f (n - 1)
unfoldable pub list_up : {A : Type 0} → (ℕ → A) → ℕ → List A
list_up f zero = []
list_up f (suc n) = f 0 ∷ list_up (λ i. f (suc i)) n

-- f (n - 1) to f 0: one more stands in front
abbrev pub list_down : {A : Type 0} → (ℕ → A) → ℕ → List A
list_down f zero = []
list_down f (suc n) = f n ∷ list_down f n

-- record i of those that start at base, read by dec
abbrev pub record_at : {A : Type 0} → (List ℕ → A) → ℕ → ℕ → List ℕ → ℕ → A
record_at dec size base bs i = dec (region (base + i * size) size bs)

-- n records, the first one first
abbrev pub table : {A : Type 0} → (List ℕ → A) → ℕ → ℕ → ℕ → List ℕ → List A
table dec size base n bs = list_up (record_at dec size base bs) n

-- n records, the last one first
abbrev pub table_down : {A : Type 0} → (List ℕ → A) → ℕ → ℕ → ℕ → List ℕ → List A
table_down dec size base n bs = list_down (record_at dec size base bs) n
