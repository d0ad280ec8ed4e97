-- Numbers of several bytes.
use mathlib.Core.Path.{◌≡◌, refl, ap, ◌∙◌}
use Prim.Native.Nat.{ℕ, zero, suc, ◌+◌, ◌*◌, ◌/◌, ◌%◌, ◌^◌, ◌<◌}
use native.Mathlib.Nat.{mod-add-div, div-lt_iff_lt-mul, pow-suc}
use native.Mathlib.Omega.{arith}
use lib.Dec.{lit<}
use lib.ListN.{length}
use Rattle.buffer.specs.Numbers.{number_of, bytes_of}

-- k bytes are k
pub length_bytes : (k n : ℕ) → length (bytes_of k n) ≡ k
length_bytes zero n = refl
length_bytes (suc k) n = ap suc (length_bytes k (n / 256))

-- a number of k bytes, written and read
pub number_bytes : (k n : ℕ) → n < 256 ^ k → number_of (bytes_of k n) ≡ n
number_bytes zero n h = omega arith
number_bytes (suc k) n h =
    ap (λ (m : ℕ). n % 256 + 256 * m) (number_bytes k (n / 256) ((div-lt_iff_lt-mul (lit< tt)).1 (rw pow-suc at h)))
    ∙ mod-add-div n 256
