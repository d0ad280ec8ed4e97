-- How long a buffer is that one byte fills.
use Rattle.std.proofs.Common.{◌≡◌, ℕ, length, replicate}
use Rattle.std.proofs.lemmas.List.{length-replicate}

pub long : (n x : ℕ) → length (replicate n x) ≡ n
long n x = length-replicate n x
