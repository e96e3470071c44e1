-- The two refusals of a registry: number, layer and place.
--     4  R  no lease open at that time    place: the time
--     8  R  capacity reached              place: the capacity
use Rattle.std.specs.Prelude.{ℕ}
use Rattle.lease.specs.declared.fault.Layer.{Layer}
use Rattle.lease.specs.declared.fault.Layer.TheVariants.{Registry}
use Rattle.lease.specs.declared.fault.RegistryCause.{RegistryCause}
use Rattle.lease.specs.declared.fault.RegistryCause.TheVariants.{NoneOpen, Full}
use Rattle.lease.specs.declared.fault.RegistryFault.{RegistryFault}

abbrev pub cause_number : RegistryCause → ℕ
cause_number NoneOpen = 4
cause_number Full = 8

abbrev pub cause_layer : RegistryCause → Layer
cause_layer NoneOpen = Registry
cause_layer Full = Registry

abbrev pub none_open : ℕ → RegistryFault
none_open t = record { cause = NoneOpen; place = t }

abbrev pub full : ℕ → RegistryFault
full capacity = record { cause = Full; place = capacity }
