-- UTF-16 (Unicode Standard, section 3.9, D91): the two bytes of each unit of a scalar.
use Rattle.std.specs.List.{flat_map}
use Rattle.cv_base.specs.Units.{units_of, unit_of}
use Rattle.cv_base.specs.declared.ascii_form.AsciiForm.TheVariants.{Two}
use Rattle.cv_utf16.specs.Orders.{OrderedForm}

-- the bytes of a scalar in UTF-16, in each byte order
abbrev pub utf16 : OrderedForm
utf16 endian c = flat_map (unit_of (Two endian)) (units_of c)
