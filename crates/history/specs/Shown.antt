-- How a store's refusal is written: NUMBER LAYER PLACE, as `7 B 2`.
use Rattle.std.specs.Prelude.{ℕ, List, decimal}
use Rattle.lease.specs.Shown.{layer_letter, spaced}
use Rattle.history.specs.declared.fault.StoreFault.{StoreFault}
use Rattle.history.specs.Card.{fault_number, fault_layer}

abbrev pub fault_text : StoreFault → List ℕ
fault_text f = spaced (decimal (fault_number f.cause)) (spaced (layer_letter (fault_layer f.cause)) (decimal f.place))
