-- The transcript of a script.
--     longest              the most bytes of a script
--     Opened o ls text     the first line asks for o, and ls are the lines behind it
--     Transcript bs text   the text is what the script bs prints
--     print_by             the same of the lines behind the first, by the model's steps
use Rattle.std.specs.Prelude.{◌≡◌, ℕ, Bool, true, false, List, [], ◌∷◌, length, Some, None, Ok, Err, Option, Result, nat_lt}
use Rattle.fields.specs.Fields.{fields_ops}
use Rattle.tallies.specs.Tallies.{tallies_ops}
use Rattle.sorted_list.specs.Entries.{list_capacity}
use Rattle.slot_table.specs.Slots.{slot_count}
use Rattle.history.specs.declared.fault.StoreFault.{StoreFault}
use Rattle.history.specs.Model.{new_model}
use Rattle.store.specs.Making.{refused_sizes}
use Rattle.script.specs.Card.{too_long, fault_from_store}
use Rattle.script.specs.Kinds.{fields_terms, tallies_terms}
use Rattle.script.specs.Lines.{lines}
use Rattle.script.specs.Openings.{opening}
use Rattle.script.specs.declared.fault.ScriptFault.{ScriptFault}
use Rattle.script.specs.declared.opening.KindLetter.{KindLetter}
use Rattle.script.specs.declared.opening.KindLetter.TheVariants.{F, T}
use Rattle.script.specs.declared.opening.RegistryLetter.{RegistryLetter}
use Rattle.script.specs.declared.opening.RegistryLetter.TheVariants.{S, L}
use Rattle.script.specs.declared.opening.Opening.{Opening}
use Rattle.transcript.specs.Printing.{print_lines}
use Rattle.transcript.specs.Runs.{Ran}
use Rattle.transcript.specs.Texts.{fault_line}

abbrev pub longest : ℕ
longest = 65536

abbrev pub capacity_of : RegistryLetter → ℕ
capacity_of S = list_capacity
capacity_of L = slot_count

abbrev pub RanBy : KindLetter → ℕ → ℕ → ℕ → ℕ → List (List ℕ) → List ℕ → Type 0
RanBy F = Ran fields_ops fields_terms
RanBy T = Ran tallies_ops tallies_terms

-- a store that may not be made ends the run
abbrev pub Made : Option StoreFault → Opening → List (List ℕ) → List ℕ → Type 0
Made (Some f) o ls text = text ≡ fault_line (fault_from_store 1 f)
Made None o ls text = RanBy o.kind (capacity_of o.registry) o.records o.versions o.start ls text

abbrev pub Begun : Result Opening ScriptFault → List (List ℕ) → List ℕ → Type 0
Begun (Err f) ls text = text ≡ fault_line f
Begun (Ok o) ls text = Made (refused_sizes o.records o.versions o.start) o ls text

abbrev pub AllLines : List (List ℕ) → List ℕ → Type 0
AllLines [] text = ⊥
AllLines (l ∷ ls) text = Begun (opening l) ls text

abbrev pub Short : Bool → List ℕ → List ℕ → Type 0
Short true bs text = text ≡ fault_line too_long
Short false bs text = AllLines (lines bs) text

abbrev pub Transcript : List ℕ → List ℕ → Type 0
Transcript bs text = Short (nat_lt longest (length bs)) bs text

-- what the lines from the k-th on print, by the kind's and the registry's letters
abbrev pub print_by : KindLetter → RegistryLetter → ℕ → ℕ → ℕ → ℕ → List (List ℕ) → List ℕ
print_by F r k n v start ls = print_lines fields_ops fields_terms (capacity_of r) k (new_model fields_ops n v start) [] ls
print_by T r k n v start ls = print_lines tallies_ops tallies_terms (capacity_of r) k (new_model tallies_ops n v start) [] ls
