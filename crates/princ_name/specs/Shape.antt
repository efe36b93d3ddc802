-- A pattern, as contracts see it.
use Rattle.std.specs.Prelude.{List}
use Rattle.princ_name.specs.declared.parts.Part.{Part}
use Rattle.princ_name.specs.declared.patterns.Form.{Form}
use Rattle.princ_name.specs.declared.patterns.Form.TheVariants as form

-- every name, or the names whose components and realm these match
pub data PatternShape : Type 0 where
  Every : PatternShape
  Parts : List Part → Part → PatternShape

abbrev pub shape_of : Form → PatternShape
shape_of form.Any = Every
shape_of (form.Parts parts realm) = Parts parts.items realm
