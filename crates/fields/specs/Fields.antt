-- Eight attributes, set through masks: bit i of a mask stands for attribute i.
--     row xs, patch m xs    a row of these attributes; an edit or a change of the attributes in the mask m
--     fields_tells r        the eight attributes
--     fields_edited r e     the edit's values in its mask, the row's elsewhere
--     fields_before r e     the edit's mask, with what the row had in it, and zero elsewhere
--     fields_undo r c       the change's values in its mask, the row's elsewhere
--     fields_join n o       the union of both masks; the older value where both have one, and zero outside
use Rattle.std.specs.Prelude.{ℕ, List, [], bit_or, slice_index}
use Rattle.kind.specs.Kinds.{Ops}
use Rattle.kind.specs.Tables.{table}
use Rattle.fields.specs.Masks.{either_at}
use Rattle.fields.specs.declared.Attributes.{Attributes}
use Rattle.fields.specs.declared.Patch.{Patch}

abbrev pub row : List ℕ → Attributes
row xs = record { values = xs }

abbrev pub patch : ℕ → List ℕ → Patch
patch m xs = record { mask = m; values = xs }

abbrev pub fields_tells : Attributes → List ℕ
fields_tells r = table 8 (λ i. slice_index r.values i)

abbrev pub fields_edited : Attributes → Patch → Attributes
fields_edited r e = row (table 8 (either_at e.mask e.values r.values))

abbrev pub fields_before : Attributes → Patch → Patch
fields_before r e = patch e.mask (table 8 (either_at e.mask r.values []))

abbrev pub fields_undo : Attributes → Patch → Attributes
fields_undo r c = row (table 8 (either_at c.mask c.values r.values))

abbrev pub fields_join : Patch → Patch → Patch
fields_join n o = patch (bit_or n.mask o.mask) (table 8 (either_at o.mask o.values (table 8 (either_at n.mask n.values []))))

abbrev pub fields_ops : Ops Attributes Patch Patch
fields_ops = record {
  tells = fields_tells;
  blank = row (table 8 (λ _. 0));
  edited = fields_edited;
  before = fields_before;
  undo = fields_undo;
  join = fields_join;
  none = patch 0 (table 8 (λ _. 0));
}
