-- How a refusal is written: refused NUMBER LAYER PLACE at LINE, as `refused 12 S 2 at 3`.
--     refused_text n l p k    any number, layer, place and line
--     fault_text f            a script's refusal
use Rattle.std.specs.Prelude.{ℕ, List, ◌++◌, codes, decimal}
use Rattle.lease.specs.declared.fault.Layer.{Layer}
use Rattle.lease.specs.Shown.{layer_letter}
use Rattle.script.specs.Card.{script_number, script_layer}
use Rattle.script.specs.declared.fault.ScriptFault.{ScriptFault}

abbrev pub refused_text : ℕ → Layer → ℕ → ℕ → List ℕ
refused_text n l p k = codes "refused " ++ (decimal n ++ (codes " " ++ (layer_letter l ++ (codes " " ++ (decimal p ++ (codes " at " ++ decimal k))))))

abbrev pub fault_text : ScriptFault → List ℕ
fault_text f = refused_text (script_number f.cause) (script_layer f.cause) f.place f.line
