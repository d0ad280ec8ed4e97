use Rattle.search_graph.proofs.Lending.{lent_stack, lent_frames, looked_up}
use Rattle.definition.specs.Stack.{Stack}
use Rattle.stack.specs.Places.{Placed}
use Rattle.search_graph.proofs.between.look_up.Goals as goal

pub lookup-requires : goal.lookup-requires
lookup-requires c =
    record {
      asked = record {
        graph =
            record {
              stack =
                  lent_frames c.args.h.goals c.args.work.now c.graph_length-n.result c.requires.bytes c.graph_length-n.ensures.0
                  c.args.height c.requires.stack c.requires.counts;
              entries = c.requires.entries;
            };
        cache = c.requires.slots;
        goal = c.requires.known;
        divisor = c.requires.divides;
        root = c.requires.shallow;
      };
      placed = lent_stack c.args.h.goals c.args.work.now c.graph_length-n.result c.requires.bytes c.graph_length-n.ensures.0
          (λ (l : Stack). Placed l c.args.places.now) c.args.height c.requires.placed;
    }

pub returns : goal.returns
returns c =
    looked_up c.args.h c.args.work.now c.graph_length-n.result c.requires.bytes c.graph_length-n.ensures.0 c.lookup.new.graph
    c.lookup.auto.graph c.args.root c.args.height c.args.entries c.args.goal c.args.step c.args.lower
    c.args.cache.now c.lookup.result c.lookup.ensures
