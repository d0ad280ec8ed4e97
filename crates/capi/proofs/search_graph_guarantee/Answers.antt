use Rattle.std.proofs.Common.{List, ◌++◌, ℕ, sym, ap, ◌∙◌, drop, length, min}
use Rattle.guarantee.specs.declared.Verdict.{Verdict}
use Rattle.guarantee.specs.Codes.{verdict_code, verdict_numbers}
use Rattle.capi.specs.Verdicts.{over}
use Rattle.capi.proofs.Judging.{over_prefix, three}
use Rattle.capi.proofs.search_graph_guarantee.Goals as goal

pub returns : goal.returns
returns c =
    let out = c.args.out.now in
    let n = c.min-n.result in
    record {
      code_is = c.code.ensures ∙ ap verdict_code c.guarantee-v.ensures;
      out_is =
          ap (λ (l : List ℕ). l ++ drop n out) c.copy_from_slice.ensures.after
          ∙ over_prefix n c.numbers-numbers.result out
          (c.min-n.ensures ∙ ap (min (length out)) (sym (ap length c.numbers-numbers.ensures ∙ three c.guarantee-v.result)))
          ∙ ap (λ (ns : List ℕ). over ns out) c.numbers-numbers.ensures
          ∙ ap (λ (v : Verdict). over (verdict_numbers v) out) c.guarantee-v.ensures;
    }
