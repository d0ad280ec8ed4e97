use Rattle.std.proofs.Common.{length, [], sym, ◌∙◌}
use Rattle.ask.proofs.ask.Goals as goal

pub loop-init : goal.loop-init
loop-init g c =
    let l = c.requires in
    record {
      lent = record {
        book = l.book;
        accepted = l.accepted;
        few = l.few;
        cache_length_lem = c.fill.auto.self ∙ l.cache_length_lem;
        work_length_lem = l.work_length_lem;
      };
      carried = record { n = length c.args.cache.now; earlier = []; left = sym (c.fill.ensures.after (λ y e. e)) };
    }
