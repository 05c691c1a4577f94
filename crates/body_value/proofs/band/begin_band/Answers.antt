-- Weights into the first slots, then the statistics behind them.
use Rattle.std.proofs.Common.{sym, ◌∙◌}
use Rattle.body_value.proofs.Bands.{prefix_in, prefix_long, weighing, keeping, started}
use Rattle.body_value.proofs.band.begin_band.Goals as goal

pub slice_bounds-initial_weights-end : goal.slice_bounds-initial_weights-end
slice_bounds-initial_weights-end c =
    prefix_in c.requires c.component_count-n.result c.component_count-n.ensures

pub slice_bounds-initial_weights-end-2 : goal.slice_bounds-initial_weights-end-2
slice_bounds-initial_weights-end-2 c =
    sym (prefix_long c.requires c.component_count-n.result c.component_count-n.ensures)

pub initial_weights-requires : goal.initial_weights-requires
initial_weights-requires c =
    weighing c.requires c.component_count-n.result c.component_count-n.ensures

pub keep-requires : goal.keep-requires
keep-requires c =
    keeping c.requires c.component_count-n.result c.component_count-n.ensures c.initial_weights.new.ws c.initial_weights.ensures c.initial_statistics-first.result c.initial_statistics-first.ensures

pub returns : goal.returns
returns c =
    started c.requires c.component_count-n.result c.component_count-n.ensures c.initial_weights.new.ws c.initial_weights.ensures c.initial_statistics-first.result c.initial_statistics-first.ensures c.keep.new.slots c.keep.ensures (c.keep.auto.slots ∙ (keeping c.requires c.component_count-n.result c.component_count-n.ensures c.initial_weights.new.ws c.initial_weights.ensures c.initial_statistics-first.result c.initial_statistics-first.ensures).long)
