-- A reply of tidying and its code.
use mathlib.Core.List.{List}
use mathlib.Core.Logic.{◌≢◌}
use mathlib.Core.Path.{◌∙◌, ◌≡◌, ap, refl, subst}
use Prim.Native.Nat.{◌*◌, ◌+◌, ◌<◌, ◌≤◌, ℕ}
use native.Mathlib.Omega.{arith}
use Rattle.definition.proofs.Numbers.{refusal_some}
use Rattle.std.specs.Prelude.{Result}
use Rattle.tidy.specs.declared.Untidied.{Untidied}
use Rattle.std.specs.Prelude.{Ok, Err}
use Rattle.tidy.specs.declared.Untidied.TheVariants.{OutputLength, Unread}
use Rattle.tidy.specs.Promises.{Promises, TidyRefusal, Used}
use Rattle.tidy.specs.Reply.{Reply, refusal_of, replied, response_code}
use Rattle.tidy.proofs.Theorems.{used_few}
use Rattle.capi.specs.Tidied.{Tidied, TidyPromises}

pub tidied : (r : Result ℕ Untidied) (code : ℕ) (out : List ℕ) {y : Reply} → replied r out ≡ y → code ≡ response_code r → Tidied code out y
tidied r code out e k =
    record { code_is = k ∙ ap (λ (x : Reply). response_code x.response) e; out_is = ap (λ (x : Reply). x.out) e }

module _ (bytes before after : List ℕ) where
  told : (r : Result ℕ Untidied) → Promises bytes before (replied r after) → response_code r < 65536 → Used bytes after (response_code r)
  told (Ok n) p l = let e : n ≡ n + 65536 * 0 = omega arith in subst (Used bytes after) e (p.accepted n refl)
  told (Err (Unread r)) p l = absurd (omega (arith, refusal_some r))
  told (Err OutputLength) p l = absurd (omega arith)

  some_refusal : (r : Result ℕ Untidied) → Promises bytes before (replied r after) → 65536 ≤ response_code r → refusal_of r ≢ 0
  some_refusal (Ok n) p l = absurd (omega (arith, used_few (p.accepted n refl)))
  some_refusal (Err (Unread r)) p l = λ e. omega (arith, refusal_some r)
  some_refusal (Err OutputLength) p l = λ e. omega arith

  left : (r : Result ℕ Untidied) → Promises bytes before (replied r after) → 65536 ≤ response_code r
      → (after ≡ before) × ((refusal : ℕ) × TidyRefusal refusal × (response_code r ≡ 65536 * refusal))
  left r p l =
      let h = p.refused (some_refusal r p l) in
      (h.0, (refusal_of r, h.1.1, omega (arith, h.1.0)))

  pub promised : (r : Result ℕ Untidied) (code : ℕ) → code ≡ response_code r → Promises bytes before (replied r after)
      → TidyPromises bytes before code after
  promised r code k p =
      rw k (record { out_length = p.out_length; accepted = told r p; refused = left r p })
