-- How a refusal is written: NUMBER LAYER PLACE, as `4 R 2`.
--     layer_letter    the letter of a layer: R registry, B store, S script
--     spaced a b      two texts with a space between them
--     fault_text      a registry's refusal as text
use Rattle.std.specs.Prelude.{ℕ, List, ◌++◌, codes, decimal}
use Rattle.lease.specs.declared.fault.Layer.{Layer}
use Rattle.lease.specs.declared.fault.Layer.TheVariants.{Registry, Store, Script}
use Rattle.lease.specs.declared.fault.RegistryFault.{RegistryFault}
use Rattle.lease.specs.Card.{cause_number, cause_layer}

abbrev pub layer_letter : Layer → List ℕ
layer_letter Registry = codes "R"
layer_letter Store = codes "B"
layer_letter Script = codes "S"

abbrev pub spaced : List ℕ → List ℕ → List ℕ
spaced a b = a ++ (codes " " ++ b)

abbrev pub fault_text : RegistryFault → List ℕ
fault_text f = spaced (decimal (cause_number f.cause)) (spaced (layer_letter (cause_layer f.cause)) (decimal f.place))
