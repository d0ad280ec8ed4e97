-- A tidied book, as C has it.
use Rattle.std.specs.Prelude.{◌≡◌, List, ℕ, ◌*◌, ◌<◌, ◌≤◌, length}
use Rattle.tidy.specs.Promises.{TidyRefusal, Used}
use Rattle.tidy.specs.Reply.{Reply, response_code}

-- length used + 65536 * refusal, and the output as the reply has it
pub record Tidied (code : ℕ) (out : List ℕ) (reply : Reply) : Type 0 where
  pub code_is : code ≡ response_code reply.response
  pub out_is : out ≡ reply.out

-- the code is the length used, and the output holds the tidy book; or it tells a refusal, and the output is as found
pub record TidyPromises (bytes before : List ℕ) (code : ℕ) (after : List ℕ) : Type 0 where
  pub out_length : length after ≡ length before
  pub accepted : code < 65536 → Used bytes after code
  pub refused : 65536 ≤ code
      → (after ≡ before) × ((refusal : ℕ) × TidyRefusal refusal × (code ≡ 65536 * refusal))
